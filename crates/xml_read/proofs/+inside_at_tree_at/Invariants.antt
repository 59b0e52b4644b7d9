-- `inside_at` and `tree_at`, which call each other. With n bytes of the text left a tree takes 2 n, the trees inside an element 2 n + 1: a tree
-- hands on fewer bytes, the trees inside an element no more.
use Rattle.std.proofs.Common.{◌+◌, ◌-◌, ◌*◌, length}
use Rattle.xml_read.specs.Records.{Marked}
use Rattle.xml_read.proofs.Reading.{Reading}
use Rattle.xml_read.proofs.+inside_at_tree_at.Given as goal

abbrev pub decreases-inside_at : goal.decreases-inside_at
decreases-inside_at l = 2 * (length l.text.now - l.at) + 1

abbrev pub decreases-tree_at : goal.decreases-tree_at
decreases-tree_at l = 2 * (length l.text.now - l.at)

abbrev pub invariant-inside_at-loop-keys : goal.invariant-inside_at-loop-keys
invariant-inside_at-loop-keys l = Reading l.text l.at l.depth l.subject (Marked l.initial.marks l.k l.marks) l.keys l.n l.p

abbrev pub decreases-inside_at-loop-keys : goal.decreases-inside_at-loop-keys
decreases-inside_at-loop-keys l = length l.text - l.p.next
