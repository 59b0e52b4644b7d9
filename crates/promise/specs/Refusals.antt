-- The refusals that the code answers: the number of each, and what a call's result tells.
use Rattle.std.specs.Prelude.{ℕ, Result, Ok, Err}
use Rattle.promise.specs.declared.Refusal.{Refusal}
use Rattle.promise.specs.declared.Refusal.TheVariants.{StoreLength, Subject, NotWellFormed, Path, Value, OtherLabel, Absent, Live, Full, OutputShort, Sizes, NoMeasure, Form, NotOwn}

-- the number of its row of the table
abbrev pub code : Refusal → ℕ
code StoreLength = 1
code Subject = 2
code NotWellFormed = 3
code Path = 4
code Value = 5
code OtherLabel = 6
code Absent = 7
code Live = 8
code Full = 9
code OutputShort = 10
code Sizes = 11
code NoMeasure = 12
code Form = 13
code NotOwn = 14

-- the number that a result tells: 0, or that of its refusal
abbrev pub number_of : {A : Type 0} → Result A Refusal → ℕ
number_of (Ok x) = 0
number_of (Err r) = code r

-- the count that it tells, 0 with a refusal
abbrev pub count_of : Result ℕ Refusal → ℕ
count_of (Ok n) = n
count_of (Err r) = 0
