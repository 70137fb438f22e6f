-- The one number that a call returns to C. Definitions only.
use Rattle.std.specs.Prelude.{List, ℕ, ◌+◌, ◌*◌, ◌^◌, Ok, Err}
use Rattle.std.specs.Prelude.{Result as Answered}
use Rattle.sha256.specs.declared.WrongLength.{WrongLength}
use Rattle.symbol_hash.specs.declared.Kind.{Kind}
use Rattle.root_record.specs.Records.{kind_in}
use Rattle.calls.specs.declared.Stop.TheVariants.{Length}
use Rattle.calls.specs.Stops.{Answer}
use Rattle.calls.specs.Stops.{Done, Stopped}
use Rattle.calls.specs.Stops.{number_of, values_of}
use Rattle.volume_calls.specs.Writing.{TreeLeft}
use Rattle.volume_calls.specs.Writing as writing
use Rattle.volume_calls.specs.Reading.{BlockLeft}
use Rattle.volume_calls.specs.Reading as reading
use Rattle.sample_calls.specs.Taking.{SampleLeft}
use Rattle.sample_calls.specs.Taking as taking
use Rattle.fault_calls.specs.Repairing.{Result, RepairLeft, result_number, result_values, repaired}
use Rattle.fault_calls.specs.Repairing as repairing

-- 01's number in the lowest eight bits, the first value that goes with it in the 24 above them, the second in the upper 32
abbrev pub packed : ℕ → ℕ × ℕ → ℕ
packed number values = number + values.0 * 2 ^ 8 + values.1 * 2 ^ 32

abbrev pub call_result : Answer → ℕ
call_result a = packed (number_of a) (values_of a)

-- a repair, by a record of this kind, that ended has number 0
abbrev pub repair_result : Kind → Result → ℕ
repair_result kind r = packed (result_number r) (result_values kind r)

-- the hasher's answer as a call's
abbrev pub hash_answer : Answered Unit WrongLength → Answer
hash_answer (Ok tt) = Done
hash_answer (Err e) = Stopped Length

-- what a call leaves, its answer as that number
abbrev pub tree_in_c : TreeLeft Answer → TreeLeft ℕ
tree_in_c w = writing.leaves (call_result w.answer) w.tree w.marks w.root_record

abbrev pub block_in_c : BlockLeft Answer → BlockLeft ℕ
block_in_c w = reading.leaves (call_result w.answer) w.block

abbrev pub sample_in_c : SampleLeft Answer → SampleLeft ℕ
sample_in_c w = taking.leaves (call_result w.answer) w.sample

abbrev pub repair_in_c : Kind → RepairLeft Result → RepairLeft ℕ
repair_in_c kind w = repairing.leaves (repair_result kind w.answer) w.tree w.marks w.out

-- what a repair leaves, its answer by the kind that the record r says
abbrev pub repaired_in_c : (d : ℕ) (r table t m o : List ℕ) → RepairLeft ℕ
repaired_in_c d r table t m o = repair_in_c (kind_in r) (repaired d r table t m o)
