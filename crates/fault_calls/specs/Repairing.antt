-- What a call that repairs a tree answers and leaves, for every input. Definitions only.
use Rattle.std.specs.Prelude.{◌≡◌, Bool, ◌&&◌, List, ℕ, ◌+◌, ◌-◌, ◌*◌, ◌^◌, ◌<◌, length, eqb, Ok, Err}
use Rattle.std.specs.Prelude.{Result as Answered}
use Rattle.table_bytes.specs.Bytes.{words_of}
use Rattle.parity_table.specs.Parse.{table_of}
use Rattle.symbol_hash.specs.SymbolHash.{symbol_hash}
use Rattle.symbol_hash.specs.declared.Kind.{Kind}
use Rattle.symbol_hash.specs.declared.Kind.TheVariants.{Plain, Placed}
use Rattle.octets.specs.Choice.{pick}
use Rattle.root_record.specs.Records.{kind_in, size_in, root_in}
use Rattle.model.specs.Shape.{tree}
use Rattle.model.specs.Writer.{zero_filled}
use Rattle.model.specs.Repair.{End, working, whole, fault, unavailable, twins, St, repair}
use Rattle.repair.specs.Reports.{end_of}
use Rattle.calls.specs.declared.Stop.{Stop}
use Rattle.calls.specs.Stops.{Answer, Stopped, number_of, values_of, Small}
use Rattle.calls.specs.Lengths.{tree_sized, record_sized}
use Rattle.calls.specs.Tests.{◌then◌, admitted_by, test_marks}
use Rattle.fault_calls.specs.declared.Outcome.{Outcome}
use Rattle.fault_calls.specs.declared.Outcome.TheVariants as outcome

-- how a repair comes out: the end with the number of symbols stored; whole, but misfilled; or why it stopped
pub data Result : Type 0 where
  ended : (stored : ℕ) (end : End) → Result
  misfilled : (stored : ℕ) → Result
  stopped : Stop → Result

-- the answer, and the lent buffers as they are left
pub record RepairLeft (A : Type 0) : Type 0 where
  pub answer : A
  pub tree : List ℕ
  pub marks : List ℕ
  pub out : List ℕ

abbrev pub leaves : {A : Type 0} → A → List ℕ → List ℕ → List ℕ → RepairLeft A
leaves a t m o = record { answer = a; tree = t; marks = m; out = o }

-- record, tree, marks and output have the lengths of depth d: "The output buffer has 12+256·(8D−1) bytes"
abbrev pub repair_sized : ℕ → ℕ → ℕ → ℕ → ℕ → Bool
repair_sized d r t m o = tree_sized d t m && (record_sized r && eqb o (12 + 256 * (8 * d - 1)))

-- tests 1, 2, 11, 3, 10, 12, 4: "Input to a repair is well-formed when no numbered test turns it away before layer 0 is entered."
unfoldable pub repair_tested : ℕ → List ℕ → List ℕ → List ℕ → List ℕ → List ℕ → Answer
repair_tested d r table t m o = admitted_by d (repair_sized d (length r) (length t) (length m) (length o)) r table then test_marks m

-- 01's steps of repair, on the lent tree, marks and output, by the kind and the root in the record
unfoldable pub repair_of : List ℕ → List ℕ → List ℕ → List ℕ → List ℕ → St
repair_of r table t m o = repair tree (symbol_hash (kind_in r)) (root_in r) (table_of (words_of table)) t m o

-- "a tree repaired whole whose filling isn't zero ends with 13 in place of whole": the end of the steps, the filling being zero or not
abbrev pub ended_by : Bool → ℕ → End → Result
ended_by zero s working = ended s working
ended_by zero s whole = pick zero (ended s whole) (misfilled s)
ended_by zero s (fault j e x n) = ended s (fault j e x n)
ended_by zero s (unavailable j) = ended s (unavailable j)
ended_by zero s (twins j x) = ended s (twins j x)

-- by the tests' answer: what the steps come to, of a tree of depth d with a block of n bytes, or everything left
abbrev pub repaired_by : Answer → ℕ → ℕ → St → List ℕ → List ℕ → List ℕ → RepairLeft Result
repaired_by (Ok _) d n st t m o =
    leaves (ended_by (zero_filled tree d n st.tree) st.stored st.end) st.tree st.marks st.out
repaired_by (Err s) d n st t m o = leaves (stopped s) t m o

unfoldable pub repaired : ℕ → List ℕ → List ℕ → List ℕ → List ℕ → List ℕ → RepairLeft Result
repaired d r table t m o = repaired_by (repair_tested d r table t m o) d (size_in r) (repair_of r table t m o) t m o

-- the answer's own form
abbrev pub outcome_of : Answered Outcome Stop → Result
outcome_of (Ok (outcome.Ended r)) = ended r.stored (end_of r.end)
outcome_of (Ok (outcome.Misfilled s)) = misfilled s
outcome_of (Err s) = stopped s

-- ---- numbers

-- the ends by number; a repair that has ended is not working
abbrev pub end_number : End → ℕ
end_number whole = 0
end_number (fault j e x n) = 1
end_number (unavailable j) = 2
end_number (twins j x) = 3
end_number working = 4

-- "ends with 13 in place of whole"
abbrev pub misfilled_number : ℕ
misfilled_number = 13

-- "a fault [..] reports the proof's length", unavailable its layer, and of a volume of kind 00 "its twins also report their layer and number", here in
-- one number; 0 where there is nothing to report beside the symbols stored
abbrev pub end_value : Kind → End → ℕ
end_value kind whole = 0
end_value kind (fault j e x n) = n
end_value kind (unavailable j) = j
end_value Plain (twins j x) = 0
end_value Placed (twins j x) = j * 2 ^ 12 + x
end_value kind working = 0

-- the number of a result, 0 where the repair ended; its values are then the end, and above the symbols stored the end's value
abbrev pub result_number : Result → ℕ
result_number (ended s z) = 0
result_number (misfilled s) = 0
result_number (stopped w) = number_of (Stopped w)

abbrev pub result_values : Kind → Result → ℕ × ℕ
result_values kind (ended s z) = (end_number z, s + end_value kind z * 2 ^ 16)
result_values kind (misfilled s) = (misfilled_number, s)
result_values kind (stopped w) = values_of (Stopped w)

-- the numbers that are reported have room: symbols stored and value in 16 bits each, an end and a stop's values as those of any call
abbrev pub Fits : Kind → Result → Type 0
Fits kind (ended s z) = (s < 2 ^ 16) × (end_value kind z < 2 ^ 16) × (end_number z < 2 ^ 24)
Fits kind (misfilled s) = s < 2 ^ 16
Fits kind (stopped w) = Small (Stopped w)

-- a repair that ended was lent a record of 556 bytes, so that its kind can be read; this one has n
abbrev pub Recorded : ℕ → Result → Type 0
Recorded n (ended s z) = n ≡ 556
Recorded n (misfilled s) = Unit {0}
Recorded n (stopped w) = Unit {0}
