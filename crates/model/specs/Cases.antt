-- Test cases of the definitions (document 01, "Test cuts", those marked *; and some further ones), as one table. That every row
-- holds is a theorem.
use Rattle.std.specs.Prelude.{◌≡◌, Bool, true, false, List, [], ◌∷◌, ◌++◌, map, ℕ, ℤ, pos, negsuc, take, replicate}
use Rattle.std.proofs.Math.Option.{none, some}
use Prim.Native.String.{String}
use Rattle.model.specs.Lists.{range, pad}
use Rattle.model.specs.Label.{dominates}
use Rattle.model.specs.Path.{Step}
use Rattle.model.specs.Value.{Content}
use Rattle.model.specs.Partition.{partition_size}
use Rattle.model.specs.Store.{partition, empty_store}
use Rattle.model.specs.Text.{ascii}
use Rattle.model.specs.Tree.{Forest, empty, element}
use Rattle.model.specs.Call.{view, insert, update, delete, view_xml, grade, insert_xml, Call, by, count, grade_told, Answer}
use Rattle.model.specs.Run.{answer_of, store_after, call, corrupted, run}
use Rattle.model.specs.Migration.{former_well_formed, migrated}
use Rattle.model.specs.Script.{lent_path, Prints}

-- ---- what a row says

-- a partition holds these bytes, and zeros behind them
pub data Expected : Type 0 where
  holds : (label : ℕ) (bytes : List ℕ) → Expected

pub data Case : Type 0 where
  -- l dominates m, or not
  dominance : (l m : ℕ) (yes : Bool) → Case
  -- a call on a store
  on_store : (store : List ℕ) (last : Call) (answer : Answer) → Case
  -- a call on the empty store after other calls: its answer, and partitions afterwards
  calls : (before : List Call) (last : Call) (answer : Answer) (partitions : List Expected) → Case
  -- a partition migrated, of bytes with zeros behind them: whether it was well formed in the order of before, and its bytes afterwards
  migrating : (label : ℕ) (before : List ℕ) (formed : Bool) (bytes : List ℕ) → Case
  -- what the runner prints for an input
  script : (input : String) (output : String) → Case

abbrev pub store_after_all : List Call → List ℕ
store_after_all cs = run (map call cs) empty_store

abbrev pub AllHeld : List Expected → List ℕ → Type 0
AllHeld [] s = Unit {0}
AllHeld (holds n x ∷ ls) s = (partition n s ≡ pad partition_size x) × AllHeld ls s

abbrev pub Holds : Case → Type 0
Holds (dominance l m b) = dominates l m ≡ b
Holds (on_store s c a) = answer_of c s ≡ a
Holds (calls cs c a ls) = (answer_of c (store_after_all cs) ≡ a) × AllHeld ls (store_after c (store_after_all cs))
Holds (migrating n x f y) =
    (former_well_formed n (pad partition_size x) ≡ f) × (migrated n (pad partition_size x) ≡ pad partition_size y)
Holds (script i o) = Prints (ascii i) (ascii o)

-- ---- names for the rows

abbrev step : ℕ → ℕ → Step
step n l = record { name = n; label = l }

abbrev path : List Step → List ℕ
path p = lent_path p

abbrev group : Content
group = record { kind = 0; value = [] }

-- a measure's four bytes
abbrev measure : ℕ → ℕ → ℕ → ℕ → Content
measure a b c d = record { kind = 1; value = a ∷ b ∷ c ∷ d ∷ [] }

abbrev text : String → Content
text t = record { kind = 2; value = ascii t }

-- done with a count and nothing written; refused; done with the bytes written, which are counted
abbrev counted : ℕ → Answer
counted n = record { told = record { number = 0; result = count n }; written = [] }

abbrev refused_by : ℕ → Answer
refused_by k = record { told = record { number = k; result = count 0 }; written = [] }

abbrev printed : ℕ → String → Answer
printed n t = record { told = record { number = 0; result = count n }; written = ascii t }

-- a grade that is done, and one that is refused
abbrev evenly : ℤ → ℕ → Answer
evenly z r = record { told = grade_told 0 z r; written = [] }

abbrev ungraded : ℕ → Answer
ungraded k = record { told = grade_told k (pos 0) 0; written = [] }

-- ---- calls of the rows

-- 10:0, and 20:16 under it
abbrev p10 : List ℕ
p10 = path (step 10 0 ∷ [])

abbrev p20 : List ℕ
p20 = path (step 10 0 ∷ step 20 16 ∷ [])

-- 10:0, and the version of label 16
abbrev insert10 : Call
insert10 = by 0 (insert p10 group)

abbrev higher10 : Call
higher10 = by 16 (insert (path (step 10 16 ∷ [])) group)

-- what stands before the views of document 01's listing; -150 is the measure
abbrev listing_calls : List Call
listing_calls = insert10 ∷ by 16 (insert p20 (measure 106 255 255 255)) ∷ by 0 (delete p10) ∷ []

abbrev update20 : Call
update20 = by 16 (update p20 (measure 7 0 0 0))

abbrev sleeve : Call
sleeve = by 0 (insert p10 (text "SLEEVE"))

-- an element of label 0 with two more below, and one of label 16 below one of these
abbrev nested : List Call
nested =
    by 0 (insert (path (step 1 0 ∷ [])) group)
    ∷ by 0 (insert (path (step 1 0 ∷ step 2 0 ∷ [])) group)
    ∷ by 0 (insert (path (step 1 0 ∷ step 3 0 ∷ [])) group)
    ∷ by 16 (insert (path (step 1 0 ∷ step 2 0 ∷ step 4 16 ∷ [])) group)
    ∷ []

abbrev update_top : Call
update_top = by 0 (update (path (step 1 0 ∷ [])) (text "A"))

abbrev delete_top : Call
delete_top = by 0 (delete (path (step 1 0 ∷ [])))

-- a text with characters that are escaped below what document 01's listing shows, another beside it, and a text that goes with its
-- parent
abbrev p5 : List ℕ
p5 = path (step 10 0 ∷ step 20 16 ∷ step 5 16 ∷ [])

abbrev xml_calls : List Call
xml_calls =
    insert10
    ∷ by 16 (insert p20 (measure 106 255 255 255))
    ∷ by 16 (insert p5 (text "a<b & \"c\">d"))
    ∷ by 16 (insert (path (step 11 16 ∷ [])) (text "&"))
    ∷ by 0 (insert (path (step 10 0 ∷ step 7 0 ∷ [])) (text "SLEEVE"))
    ∷ by 0 (delete p10)
    ∷ []

-- a path of one step
abbrev short : ℕ → ℕ → List ℕ
short n l = path (step n l ∷ [])

-- the version of 10 of a label
abbrev version : ℕ → Call
version l = by l (insert (short 10 l) group)

-- 7:16, under the group 6:0
abbrev p7 : List ℕ
p7 = path (step 6 0 ∷ step 7 16 ∷ [])

-- measures of 1000, 1025 and 990, the least, the greatest, and 5 and 6 of label 16, one under a group, the other under a removed element
abbrev size_calls : List Call
size_calls =
    by 0 (insert (short 1 0) (measure 232 3 0 0))
    ∷ by 0 (insert (short 2 0) (measure 1 4 0 0))
    ∷ by 0 (insert (short 3 0) (measure 222 3 0 0))
    ∷ by 0 (insert (short 4 0) (measure 0 0 0 128))
    ∷ by 0 (insert (short 5 0) (measure 255 255 255 127))
    ∷ by 0 (insert (short 6 0) group)
    ∷ by 16 (insert p7 (measure 5 0 0 0))
    ∷ by 0 (insert (short 8 0) group)
    ∷ by 16 (insert (path (step 8 0 ∷ step 9 16 ∷ [])) (measure 6 0 0 0))
    ∷ by 0 (delete (short 8 0))
    ∷ []

-- an element in XML with those inside it, behind it nothing; and one without elements inside, before others
abbrev alone : Step → Content → Forest → Forest
alone a c inside = element a (some c) inside empty

abbrev leaf : Step → Content → Forest → Forest
leaf a c behind = element a (some c) empty behind

-- a style of label 16 whose siblings are not in path order, sent to be put under 10:0
abbrev take_style : Call
take_style =
    by 16
    (insert_xml p10
    (alone (step 20 16) group (leaf (step 3 16) (measure 106 255 255 255) (leaf (step 2 16) (text "a < b") empty))))

-- an element n:0, and 32 of them
abbrev numbered : ℕ → Call
numbered n = by 0 (insert (path (step n 0 ∷ [])) group)

abbrev full : List Call
full = range numbered 1 32

-- 1:0 and 31 elements below it
abbrev full_below : List Call
full_below = numbered 1 ∷ range (λ n. by 0 (insert (path (step 1 0 ∷ step n 0 ∷ [])) group)) 1 31

-- a measure of label 0 whose two groups are missing, and one of label 16 under the first of them
abbrev p30 : List ℕ
p30 = path (step 10 0 ∷ step 20 0 ∷ step 30 0 ∷ [])

abbrev insert30 : Call
insert30 = by 0 (insert p30 (measure 1 0 0 0))

abbrev insert23 : Call
insert23 = by 16 (insert (path (step 10 0 ∷ step 21 16 ∷ step 22 16 ∷ step 23 16 ∷ [])) (measure 1 0 0 0))

-- five steps, and the calls that make them and two elements of label 31 below
abbrev five : List Step
five = step 258 0 ∷ step 2 1 ∷ step 3 3 ∷ step 4 7 ∷ step 5 15 ∷ []

abbrev sixth : ℕ → List ℕ
sixth n = path (five ++ (step n 31 ∷ []))

abbrev deep : List Call
deep =
    by 0 (insert (path (take 1 five)) group)
    ∷ by 1 (insert (path (take 2 five)) group)
    ∷ by 3 (insert (path (take 3 five)) group)
    ∷ by 7 (insert (path (take 4 five)) group)
    ∷ by 15 (insert (path five) group)
    ∷ by 31 (insert (sixth 6) group)
    ∷ by 31 (insert (sixth 7) (measure 106 255 255 255))
    ∷ []

-- ---- bytes of the rows

-- a slot in the fields that document 01 numbers: depth, 12 bytes of names, 6 labels, kind, length, value and zeros
abbrev slot : ℕ → List ℕ → List ℕ → ℕ → ℕ → List ℕ → List ℕ
slot d ns ls k n v = (d ∷ ns) ++ ls ++ (k ∷ n ∷ []) ++ v

-- the slots of the elements that deep and a text of name 8 make
abbrev deep_slot : ℕ → ℕ → ℕ → List ℕ → List ℕ
deep_slot n k c v =
    slot 6 (2 ∷ 1 ∷ 2 ∷ 0 ∷ 3 ∷ 0 ∷ 4 ∷ 0 ∷ 5 ∷ 0 ∷ n ∷ 0 ∷ []) (0 ∷ 1 ∷ 3 ∷ 7 ∷ 15 ∷ 31 ∷ []) k c v

abbrev zeros : ℕ → List ℕ
zeros n = replicate n 0

-- texts of label 9: 10:9, and 1:9 under a version of 10
abbrev top9 : List ℕ
top9 = slot 1 (10 ∷ zeros 11) (9 ∷ zeros 5) 2 1 (67 ∷ zeros 18)

abbrev below10 : ℕ → ℕ → List ℕ
below10 l c = slot 2 (10 ∷ 0 ∷ 1 ∷ zeros 9) (l ∷ 9 ∷ zeros 4) 2 1 (c ∷ zeros 18)

-- the partition of these in the order of before and in path order
abbrev former9 : List ℕ
former9 = (4 ∷ 0 ∷ 0 ∷ 0 ∷ []) ++ below10 0 65 ++ below10 8 66 ++ top9 ++ below10 9 68

abbrev ordered9 : List ℕ
ordered9 = (4 ∷ 0 ∷ 0 ∷ 0 ∷ []) ++ below10 8 66 ++ top9 ++ below10 9 68 ++ below10 0 65

-- ---- the rows

-- the cases that document 01 marks
unfoldable pub marked_cases : List Case
marked_cases =
    dominance 19 17 true
    ∷ dominance 16 9 false
    ∷ dominance 9 16 false
    ∷ calls [] (by 31 (view [] 16384)) (printed 10 "VIEW\t31\t0\n") []
    ∷ calls [] insert10 (counted 0)
    (holds 0 ((1 ∷ 0 ∷ 0 ∷ 0 ∷ []) ++ slot 1 (10 ∷ zeros 11) (zeros 6) 0 0 (zeros 19)) ∷ holds 16 [] ∷ [])
    ∷ calls (insert10 ∷ []) insert10 (refused_by 8) []
    ∷ calls (insert10 ∷ []) higher10 (counted 0) []
    ∷ calls (insert10 ∷ []) (by 16 (delete p10)) (refused_by 6) []
    ∷ calls (insert10 ∷ higher10 ∷ []) (by 0 (view (path (step 10 16 ∷ [])) 16384)) (refused_by 7) []
    ∷ calls [] (by 16 (insert (path (step 10 16 ∷ step 20 9 ∷ [])) group)) (refused_by 4) []
    ∷ on_store [] (by 40 (view [] 16384)) (refused_by 1)
    ∷ calls listing_calls sleeve (counted 0) []
    ∷ calls (listing_calls ++ (sleeve ∷ [])) (by 16 (view [] 16384))
    (printed 45 "VIEW\t16\t2\n1\t10\t0\tP\tT\tSLEEVE\n2\t20\t16\tP\tM\t-150\n") []
    ∷ []

-- further cases
unfoldable pub further_cases : List Case
further_cases =
    -- the listing: 40 bytes fit, 39 do not
    calls listing_calls (by 16 (view [] 40)) (printed 40 "VIEW\t16\t2\n1\t10\t0\tR\t-\t-\n2\t20\t16\tP\tM\t-150\n") []
    ∷ calls listing_calls (by 16 (view [] 39)) (refused_by 10) []
    -- a higher version does not hinder an insert
    ∷ calls (higher10 ∷ []) insert10 (counted 0) []
    -- an update under a removed parent
    ∷ calls listing_calls update20 (counted 1)
    (holds 16 ((1 ∷ 0 ∷ 0 ∷ 0 ∷ []) ++ slot 2 (10 ∷ 0 ∷ 20 ∷ zeros 9) (0 ∷ 16 ∷ zeros 4) 1 4 (7 ∷ zeros 18)) ∷ holds 0 [] ∷ [])
    -- the same with an element below, in the view after it
    ∷ calls (xml_calls ++ (update20 ∷ [])) (by 16 (view p20 16384))
    (printed 47 "VIEW\t16\t2\n2\t20\t16\tP\tM\t7\n3\t5\t16\tP\tT\ta<b & \"c\">d\n") []
    -- an update of an element with two more of its label and one of a higher label below: they stay, in the bytes and in the view; a
    -- delete takes it with the two
    ∷ calls nested update_top (counted 1)
    (holds 0
    ((3 ∷ 0 ∷ 0 ∷ 0 ∷ [])
    ++ slot 1 (1 ∷ zeros 11) (zeros 6) 2 1 (65 ∷ zeros 18)
    ++ slot 2 (1 ∷ 0 ∷ 2 ∷ zeros 9) (zeros 6) 0 0 (zeros 19)
    ++ slot 2 (1 ∷ 0 ∷ 3 ∷ zeros 9) (zeros 6) 0 0 (zeros 19)) ∷ [])
    ∷ calls (nested ++ (update_top ∷ [])) (by 16 (view [] 16384))
    (printed 59 "VIEW\t16\t4\n1\t1\t0\tP\tT\tA\n2\t2\t0\tP\tG\t-\n3\t4\t16\tP\tG\t-\n2\t3\t0\tP\tG\t-\n") []
    ∷ calls (nested ++ (update_top ∷ [])) delete_top (counted 3) (holds 0 [] ∷ [])
    -- the 32nd insert of a label is done, and makes a full partition: an insert is refused there; an update is done, and leaves it
    -- full, with what is below its element; another label's insert is done
    ∷ calls (range numbered 1 31) (numbered 32) (counted 0) []
    ∷ calls full (numbered 33) (refused_by 9) []
    ∷ calls full (by 0 (update (path (step 5 0 ∷ [])) (text "A"))) (counted 1) []
    ∷ calls (full_below ++ (update_top ∷ [])) (numbered 33) (refused_by 9) []
    ∷ calls full (by 16 (insert (path (step 33 16 ∷ [])) group)) (counted 0) []
    -- a delete with elements of its label and a higher one below, and the view after it
    ∷ calls nested delete_top (counted 3)
    (holds 0 [] ∷ holds 16 ((1 ∷ 0 ∷ 0 ∷ 0 ∷ []) ++ slot 3 (1 ∷ 0 ∷ 2 ∷ 0 ∷ 4 ∷ zeros 7) (0 ∷ 0 ∷ 16 ∷ zeros 3) 0 0 (zeros 19)) ∷ [])
    ∷ calls (nested ++ (delete_top ∷ [])) (by 16 (view [] 16384))
    (printed 47 "VIEW\t16\t3\n1\t1\t0\tR\t-\t-\n2\t2\t0\tR\t-\t-\n3\t4\t16\tP\tG\t-\n") []
    -- a view of a path below the root; its length is looked at after the path
    ∷ calls listing_calls (by 16 (view p20 16384)) (printed 27 "VIEW\t16\t1\n2\t20\t16\tP\tM\t-150\n") []
    ∷ calls listing_calls (by 16 (view p20 26)) (refused_by 10) []
    ∷ calls [] (by 16 (view p20 0)) (refused_by 7) []
    -- an insert makes the missing groups and counts them; its element is there then. Another label's are made under what is in view, be it
    -- removed; what was taken with a delete is missing again
    ∷ calls [] insert30 (counted 2)
    (holds 0
    ((3 ∷ 0 ∷ 0 ∷ 0 ∷ [])
    ++ slot 1 (10 ∷ zeros 11) (zeros 6) 0 0 (zeros 19)
    ++ slot 2 (10 ∷ 0 ∷ 20 ∷ zeros 9) (zeros 6) 0 0 (zeros 19)
    ++ slot 3 (10 ∷ 0 ∷ 20 ∷ 0 ∷ 30 ∷ zeros 7) (zeros 6) 1 4 (1 ∷ zeros 18)) ∷ [])
    ∷ calls (insert30 ∷ []) insert30 (refused_by 8) []
    ∷ calls (insert30 ∷ []) insert23 (counted 2) []
    ∷ calls (insert30 ∷ insert23 ∷ by 0 (delete p10) ∷ []) (by 16 (insert (path (step 10 0 ∷ step 21 16 ∷ step 40 16 ∷ [])) group)) (counted 0) []
    ∷ calls (insert30 ∷ insert23 ∷ by 0 (delete p10) ∷ []) (by 0 (insert (path (step 10 0 ∷ step 50 0 ∷ step 51 0 ∷ [])) group)) (counted 2) []
    ∷ calls [] (by 16 (insert (path (step 1 16 ∷ step 2 16 ∷ step 3 16 ∷ step 4 16 ∷ step 5 16 ∷ step 6 16 ∷ [])) group)) (counted 5) []
    -- a missing step of another label, also with own steps behind it
    ∷ calls (insert30 ∷ []) (by 16 (insert (path (step 10 0 ∷ step 24 0 ∷ step 25 16 ∷ [])) group)) (refused_by 7) []
    ∷ calls [] (by 16 (insert (path (step 11 8 ∷ step 12 16 ∷ step 13 16 ∷ [])) group)) (refused_by 7) []
    -- slots for the element and one group, not for two groups
    ∷ calls (range numbered 1 30) (by 0 (insert (path (step 40 0 ∷ step 1 0 ∷ step 2 0 ∷ [])) group)) (refused_by 9) []
    ∷ calls (range numbered 1 30) (by 0 (insert (path (step 40 0 ∷ step 1 0 ∷ [])) group)) (counted 1) []
    -- what is not live, or has no parent in view
    ∷ calls [] (by 0 (delete p10)) (refused_by 7) []
    ∷ calls [] (by 0 (update p10 group)) (refused_by 7) []
    ∷ calls [] (by 16 (insert p20 group)) (refused_by 7) []
    -- bytes that are no path: a byte too many, no name, no step, seven steps
    ∷ calls [] (by 0 (insert (10 ∷ 0 ∷ 0 ∷ 1 ∷ []) group)) (refused_by 4) []
    ∷ calls [] (by 0 (insert (0 ∷ 0 ∷ 0 ∷ []) group)) (refused_by 4) []
    ∷ calls [] (by 0 (insert [] group)) (refused_by 4) []
    ∷ calls deep (by 31 (insert (path (five ++ (step 6 31 ∷ step 7 31 ∷ []))) group)) (refused_by 4) []
    -- the smallest measure
    ∷ calls (by 0 (insert p10 (measure 0 0 0 128)) ∷ []) (by 0 (view [] 16384)) (printed 32 "VIEW\t0\t1\n1\t10\t0\tP\tM\t-2147483648\n") []
    -- a slot that a delete frees
    ∷ calls (full ++ (by 0 (delete (path (step 5 0 ∷ []))) ∷ [])) (numbered 33) (counted 0) []
    -- a partition that is not well formed: the subjects that dominate it are refused, no others
    ∷ on_store (corrupted 0 (33 ∷ []) empty_store) (by 16 (view [] 16384)) (refused_by 3)
    ∷ on_store (corrupted 16 (33 ∷ []) empty_store) (by 0 (view [] 16384)) (printed 9 "VIEW\t0\t0\n")
    -- the versions of a name stand together, the highest level first, and those of one level by their compartments
    ∷ calls (numbered 11 ∷ insert10 ∷ higher10 ∷ []) (by 16 (view [] 16384))
    (printed 50 "VIEW\t16\t3\n1\t10\t16\tP\tG\t-\n1\t10\t0\tP\tG\t-\n1\t11\t0\tP\tG\t-\n") []
    ∷ calls (map version (0 ∷ 8 ∷ 9 ∷ 16 ∷ 24 ∷ 1 ∷ []) ++ (by 31 (insert (short 9 31) group) ∷ [])) (by 31 (view [] 16384))
    (printed 103
    "VIEW\t31\t7\n1\t9\t31\tP\tG\t-\n1\t10\t24\tP\tG\t-\n1\t10\t16\tP\tG\t-\n1\t10\t8\tP\tG\t-\n1\t10\t9\tP\tG\t-\n1\t10\t0\tP\tG\t-\n1\t10\t1\tP\tG\t-\n")
    []
    -- the migration of a partition of before, of the one that it leaves, and of one that is well formed in no order; before it the subjects
    -- that dominate the first are refused
    ∷ migrating 9 former9 true ordered9
    ∷ migrating 9 ordered9 false ordered9
    ∷ migrating 5 (0 ∷ 0 ∷ 1 ∷ []) false (0 ∷ 0 ∷ 1 ∷ [])
    ∷ on_store (corrupted 9 former9 empty_store) (by 9 (view [] 16384)) (refused_by 3)
    -- names are compared as numbers
    ∷ calls (map numbered (257 ∷ 255 ∷ 256 ∷ [])) (by 0 (view [] 16384))
    (printed 51 "VIEW\t0\t3\n1\t255\t0\tP\tG\t-\n1\t256\t0\tP\tG\t-\n1\t257\t0\tP\tG\t-\n") []
    -- six steps, a name of two bytes, and an element of each kind, byte for byte
    ∷ calls deep (by 31 (insert (sixth 8) (text "AB"))) (counted 0)
    (holds 31
    ((3 ∷ 0 ∷ 0 ∷ 0 ∷ [])
    ++ deep_slot 6 0 0 (zeros 19)
    ++ deep_slot 7 1 4 (106 ∷ 255 ∷ 255 ∷ 255 ∷ zeros 15)
    ++ deep_slot 8 2 2 (65 ∷ 66 ∷ zeros 17)) ∷ [])
    -- views as XML: of all, in as many bytes and in one less; of a path; of nothing; of a path that is not in view
    ∷ calls xml_calls (by 16 (view_xml [] 259))
    (printed 259
    "<dossier subject=\"16\"><e10 label=\"0\" preserve=\"REMOVED\" kind=\"-\"><e20 label=\"16\" preserve=\"PRESENT\" kind=\"M\">-150<e5 label=\"16\" preserve=\"PRESENT\" kind=\"T\">a&lt;b &amp; \"c\"&gt;d</e5></e20></e10><e11 label=\"16\" preserve=\"PRESENT\" kind=\"T\">&amp;</e11></dossier>")
    []
    ∷ calls xml_calls (by 16 (view_xml [] 258)) (refused_by 10) []
    ∷ calls xml_calls (by 16 (view_xml p5 16384))
    (printed 101 "<dossier subject=\"16\"><e5 label=\"16\" preserve=\"PRESENT\" kind=\"T\">a&lt;b &amp; \"c\"&gt;d</e5></dossier>") []
    ∷ calls xml_calls (by 0 (view_xml [] 16384)) (printed 31 "<dossier subject=\"0\"></dossier>") []
    ∷ calls (insert10 ∷ []) (by 0 (view_xml p10 16384))
    (printed 80 "<dossier subject=\"0\"><e10 label=\"0\" preserve=\"PRESENT\" kind=\"G\"></e10></dossier>") []
    ∷ calls xml_calls (by 16 (view_xml (path (step 9 0 ∷ [])) 16384)) (refused_by 7) []
    -- even grades: up, down, by one path, over the whole range and back
    ∷ calls size_calls (by 0 (grade (short 1 0) (short 2 0) 4)) (evenly (pos 6) 1) []
    ∷ calls size_calls (by 0 (grade (short 1 0) (short 3 0) 3)) (evenly (negsuc 3) 2) []
    ∷ calls size_calls (by 0 (grade (short 1 0) (short 1 0) 64)) (evenly (pos 0) 0) []
    ∷ calls size_calls (by 0 (grade (short 4 0) (short 5 0) 1)) (evenly (pos 4294967295) 0) []
    ∷ calls size_calls (by 0 (grade (short 5 0) (short 4 0) 64)) (evenly (negsuc 67108863) 1) []
    -- a measure of a higher label, for a subject that sees it and for one that does not; a missing one
    ∷ calls size_calls (by 16 (grade (short 1 0) p7 2)) (evenly (negsuc 497) 1) []
    ∷ calls size_calls (by 0 (grade (short 1 0) p7 2)) (ungraded 7) []
    ∷ calls size_calls (by 0 (grade (short 1 0) (short 99 0) 2)) (ungraded 7) []
    -- a group, a removed element and the root are no measures; 7 is looked at before, for both paths
    ∷ calls size_calls (by 0 (grade (short 1 0) (short 6 0) 2)) (ungraded 12) []
    ∷ calls size_calls (by 16 (grade (short 8 0) (short 1 0) 2)) (ungraded 12) []
    ∷ calls size_calls (by 0 (grade [] (short 1 0) 2)) (ungraded 12) []
    ∷ calls size_calls (by 0 (grade (short 6 0) (short 99 0) 2)) (ungraded 7) []
    -- no sizes and 65; the sizes are looked at before 7 and after 4
    ∷ calls size_calls (by 0 (grade (short 1 0) (short 2 0) 65)) (ungraded 11) []
    ∷ calls size_calls (by 0 (grade (short 1 0) (short 99 0) 0)) (ungraded 11) []
    ∷ calls size_calls (by 0 (grade (short 1 0) (short 1 40) 0)) (ungraded 4) []
    -- an XML intake: its bytes, siblings in path order; the XML that its subject and a lower one then see; the same again
    ∷ calls (insert10 ∷ []) take_style (counted 3)
    (holds 16
    ((3 ∷ 0 ∷ 0 ∷ 0 ∷ [])
    ++ slot 2 (10 ∷ 0 ∷ 20 ∷ zeros 9) (0 ∷ 16 ∷ zeros 4) 0 0 (zeros 19)
    ++ slot 3 (10 ∷ 0 ∷ 20 ∷ 0 ∷ 2 ∷ zeros 7) (0 ∷ 16 ∷ 16 ∷ zeros 3) 2 5 (97 ∷ 32 ∷ 60 ∷ 32 ∷ 98 ∷ zeros 14)
    ++ slot 3 (10 ∷ 0 ∷ 20 ∷ 0 ∷ 3 ∷ zeros 7) (0 ∷ 16 ∷ 16 ∷ zeros 3) 1 4 (106 ∷ 255 ∷ 255 ∷ 255 ∷ zeros 15))
    ∷ holds 0 ((1 ∷ 0 ∷ 0 ∷ 0 ∷ []) ++ slot 1 (10 ∷ zeros 11) (zeros 6) 0 0 (zeros 19)) ∷ [])
    ∷ calls (insert10 ∷ take_style ∷ []) (by 16 (view_xml p20 16384))
    (printed 190
    "<dossier subject=\"16\"><e20 label=\"16\" preserve=\"PRESENT\" kind=\"G\"><e2 label=\"16\" preserve=\"PRESENT\" kind=\"T\">a &lt; b</e2><e3 label=\"16\" preserve=\"PRESENT\" kind=\"M\">-150</e3></e20></dossier>")
    []
    ∷ calls (insert10 ∷ take_style ∷ []) (by 0 (view_xml [] 16384))
    (printed 80 "<dossier subject=\"0\"><e10 label=\"0\" preserve=\"PRESENT\" kind=\"G\"></e10></dossier>") []
    ∷ calls (insert10 ∷ take_style ∷ []) take_style (refused_by 8) []
    -- a text that sends no tree, equal siblings, also of a wrong label, a seventh step; siblings equal in name only, a removed element
    ∷ calls [] (by 16 (insert_xml [] empty)) (refused_by 13) []
    ∷ calls [] (by 16 (insert_xml [] (alone (step 1 16) group (leaf (step 2 16) group (leaf (step 2 16) group empty))))) (refused_by 13) []
    ∷ calls [] (by 16 (insert_xml [] (alone (step 1 0) group (leaf (step 2 0) group (leaf (step 2 0) group empty))))) (refused_by 13) []
    ∷ calls deep (by 31 (insert_xml (path five) (alone (step 6 31) group (leaf (step 7 31) group empty)))) (refused_by 13) []
    ∷ calls [] (by 16 (insert_xml [] (alone (step 1 16) group (leaf (step 2 16) group (leaf (step 2 17) group empty))))) (refused_by 14) []
    ∷ calls [] (by 16 (insert_xml [] (alone (step 1 16) group (element (step 2 16) none empty empty)))) (refused_by 14) []
    -- 14 before 7; a parent that is not in view
    ∷ calls [] (by 16 (insert_xml p10 (leaf (step 20 0) group empty))) (refused_by 14) []
    ∷ calls [] take_style (refused_by 7) []
    -- two elements where there is one slot, and one element
    ∷ calls (range numbered 1 31) (by 0 (insert_xml [] (alone (step 40 0) group (leaf (step 1 0) group empty)))) (refused_by 9) []
    ∷ calls (range numbered 1 31) (by 0 (insert_xml (short 31 0) (leaf (step 1 0) group empty))) (counted 1) []
    -- document 01's script
    ∷ script
    "0\tI\t10:0\tG\t-\n16\tI\t10:0/20:16\tM\t-150\n0\tD\t10:0\n0\tV\t/\n16\tV\t/\n"
    "A\t0\t0\nA\t0\t0\nA\t0\t1\nVIEW\t0\t0\nA\t0\t9\nVIEW\t16\t2\n1\t10\t0\tR\t-\t-\n2\t20\t16\tP\tM\t-150\nA\t0\t40\n"
    -- lines that read and are refused, and others that do not read; the last has no end
    ∷ script
    "255\tV\t/\n256\tV\t/\n0\tI\t65535:0\tT\t\n0\tI\t65536:0\tT\tA\n0\tV\t0:255\n0\tV\t1:256\n\n0\tV\t/ \n00\tV\t/\n0\tD\t7:0"
    "A\t2\t0\nA\t?\t0\nA\t5\t0\nA\t?\t0\nA\t4\t0\nA\t?\t0\nA\t?\t0\nA\t?\t0\nA\t?\t0\nA\t7\t0\n"
    ∷ []

unfoldable pub cases : List Case
cases = marked_cases ++ further_cases
