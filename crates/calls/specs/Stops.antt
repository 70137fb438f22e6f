-- The number of an answer, and the values that are returned with it: 01, "What stops a call", and 02. Definitions only.
use Rattle.std.specs.Prelude.{ℕ, ◌^◌, ◌<◌, Result, Ok, Err}
use Rattle.calls.specs.declared.Stop.{Stop}
use Rattle.calls.specs.declared.Stop.TheVariants.{Depth, Length, Table, Mark, Number, Head, Hash, NoFault, Absent, Uncovered, Record, OtherTable, NotWhole}

-- what a call answers: done, or accepted; else why it stopped
abbrev pub Answer : Type 0
Answer = Result Unit Stop

abbrev pub Done : Answer
Done = Ok tt

abbrev pub Stopped : Stop → Answer
Stopped s = Err s

abbrev pub number_of : Answer → ℕ
number_of (Ok _) = 0
number_of (Err Depth) = 1
number_of (Err Length) = 2
number_of (Err (Table i)) = 3
number_of (Err (Mark p)) = 4
number_of (Err Number) = 5
number_of (Err Head) = 6
number_of (Err (Hash l p)) = 7
number_of (Err NoFault) = 8
number_of (Err (Absent x)) = 9
number_of (Err (Uncovered j i)) = 10
number_of (Err Record) = 11
number_of (Err OtherTable) = 12
number_of (Err NotWhole) = 14

-- the values that are returned with it, at most two; 0 where there is none
abbrev pub values_of : Answer → ℕ × ℕ
values_of (Ok _) = (0, 0)
values_of (Err Depth) = (0, 0)
values_of (Err Length) = (0, 0)
values_of (Err (Table i)) = (i, 0)
values_of (Err (Mark p)) = (p, 0)
values_of (Err Number) = (0, 0)
values_of (Err Head) = (0, 0)
values_of (Err (Hash l p)) = (l, p)
values_of (Err NoFault) = (0, 0)
values_of (Err (Absent x)) = (x, 0)
values_of (Err (Uncovered j i)) = (j, i)
values_of (Err Record) = (0, 0)
values_of (Err OtherTable) = (0, 0)
values_of (Err NotWhole) = (0, 0)

-- the values have room in the one number that C gets: 24 bits for the first, 32 for the second
pub record Small (a : Answer) : Type 0 where
  pub first : (values_of a).0 < 2 ^ 24
  pub second : (values_of a).1 < 2 ^ 32
