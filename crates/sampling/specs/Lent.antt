-- What the cores ask of the numbers that they are called with. Definitions only.
use Rattle.std.specs.Prelude.{ℕ, ◌-◌, ◌≤◌, ◌<◌}
use Rattle.parity_table.specs.Shape.{max_depth}
use Rattle.model.specs.Shape.{tree}
use Rattle.model.specs.Sampling.{sample_size}

-- a tree may have depth d, and i numbers a symbol of its base
abbrev pub BaseSymbol : ℕ → ℕ → Type 0
BaseSymbol d i = (1 ≤ d) × (d ≤ max_depth) × (i < tree.n (d - 1))

-- a tree may have depth d, and a sample of it has a symbol x
abbrev pub Inside : ℕ → ℕ → Type 0
Inside d x = (d ≤ max_depth) × (x < sample_size d)
