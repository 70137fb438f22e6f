-- What the sampler's search for an absent symbol finds: 01, "What stops a call", number 9: "index in the sample of the first".
-- Definitions only.
use Rattle.std.specs.Prelude.{Bool, List, Option, ℕ}
use Rattle.model.specs.Shape.{tree}
use Rattle.model.specs.Symbols.{found}
use Rattle.model.specs.Repair.{absent_at}
use Rattle.model.specs.Sampling.{sample_size, sample_layer, sample_number}

-- symbol x of the sample of base symbol i is absent
unfoldable pub absent : ℕ → ℕ → List ℕ → ℕ → Bool
absent d i marks x = absent_at tree marks (sample_layer d x) (sample_number tree d i x)

unfoldable pub first_absent : ℕ → ℕ → List ℕ → Option ℕ
first_absent d i marks = found (absent d i marks) (sample_size d)
