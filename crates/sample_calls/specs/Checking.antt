-- What a call that checks a sample of base symbol i answers, for every input. Definitions only.
use Rattle.std.specs.Prelude.{Bool, ◌&&◌, List, ℕ, length}
use Rattle.symbol_hash.specs.SymbolHash.{symbol_hash}
use Rattle.model.specs.Shape.{tree}
use Rattle.model.specs.Climb.{Climb, leads, breaks}
use Rattle.model.specs.SampleCheck.{sample_check}
use Rattle.calls.specs.declared.Stop.TheVariants.{Hash}
use Rattle.calls.specs.Stops.{Answer, Done, Stopped}
use Rattle.root_record.specs.Records.{kind_in, root_in}
use Rattle.calls.specs.Lengths.{record_sized, sample_sized}
use Rattle.calls.specs.Tests.{◌then◌, headed, test_number}

-- record and sample have the lengths of depth d
abbrev pub check_sized : ℕ → ℕ → ℕ → Bool
check_sized d r s = record_sized r && sample_sized d s

-- tests 1, 2, 11, 5, the sample having so many bytes
abbrev pub check_tested : ℕ → ℕ → List ℕ → ℕ → Answer
check_tested d i r s = headed d (check_sized d (length r) s) r then test_number d i

-- 7: "a hash doesn't lead to the root", with the layer where it breaks
abbrev pub led : Climb → Answer
led leads = Done
led (breaks l) = Stopped (Hash l 0)

-- tests 1, 2, 11, 5, 7: "A tree agrees with a record only by hashes of that record's kind."
unfoldable pub sample_checked : ℕ → ℕ → List ℕ → List ℕ → Answer
sample_checked d i r s = check_tested d i r (length s) then led (sample_check tree (symbol_hash (kind_in r)) (root_in r) d i s)
