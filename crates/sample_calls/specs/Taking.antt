-- What a call that takes a sample of base symbol i answers and leaves, for every input. Definitions only.
use Rattle.std.specs.Prelude.{Bool, ◌&&◌, List, ℕ, length, Option, Some, None}
use Rattle.model.specs.Shape.{tree}
use Rattle.model.specs.Symbols.{sym_at}
use Rattle.model.specs.Sampling.{sample_bytes}
use Rattle.sampling.specs.Absent.{first_absent}
use Rattle.calls.specs.declared.Stop.TheVariants.{Absent}
use Rattle.calls.specs.Stops.{Answer, Done, Stopped}
use Rattle.calls.specs.Lengths.{tree_sized, sample_sized}
use Rattle.calls.specs.Tests.{◌then◌, left, opened, test_marks, test_number}

-- the answer, and the lent sample as it is left
pub record SampleLeft (A : Type 0) : Type 0 where
  pub answer : A
  pub sample : List ℕ

abbrev pub leaves : {A : Type 0} → A → List ℕ → SampleLeft A
leaves a s = record { answer = a; sample = s }

-- tree, marks and sample have the lengths of depth d
abbrev pub take_sized : ℕ → ℕ → ℕ → ℕ → Bool
take_sized d t m s = tree_sized d t m && sample_sized d s

-- 9: "a needed symbol absent", with its "index in the sample"
abbrev pub needed : Option ℕ → Answer
needed (Some x) = Stopped (Absent x)
needed None = Done

-- tests 1, 2, 4, 5, 9, tree and sample having so many bytes
abbrev pub take_tested : ℕ → ℕ → ℕ → List ℕ → ℕ → Answer
take_tested d i t m s = opened d (take_sized d t (length m) s) then test_marks m then test_number d i then needed (first_absent d i m)

-- by the tests' answer a: the sample is taken, or left
abbrev pub taken_by : Answer → ℕ → ℕ → List ℕ → List ℕ → SampleLeft Answer
taken_by a d i t s = leaves a (left a (sample_bytes tree (sym_at tree t) d i) s)

unfoldable pub sample_taken : ℕ → ℕ → List ℕ → List ℕ → List ℕ → SampleLeft Answer
sample_taken d i t m s = taken_by (take_tested d i (length t) m (length s)) d i t s
