-- The lengths of buffers that several calls are lent. Definitions only.
use Rattle.std.specs.Prelude.{Bool, ◌&&◌, ℕ, ◌-◌, ◌*◌, leb, eqb}
use Rattle.parity_table.specs.Shape.{k_of}
use Rattle.model.specs.Shape.{tree, places}
use Rattle.model.specs.Sampling.{sample_size}

-- a tree and its marks, of so many bytes: "The tree buffer holds all layers"; "marks are one byte for each symbol"
abbrev pub tree_sized : ℕ → ℕ → ℕ → Bool
tree_sized d t m = eqb t (256 * places tree d) && eqb m (places tree d)

-- a block that is coded: "0 to 256·k of the base"
abbrev pub block_fits : ℕ → ℕ → Bool
block_fits d b = leb b (256 * k_of (d - 1))

-- a buffer that a block is read back into: "still lends 256·k bytes"
abbrev pub block_sized : ℕ → ℕ → Bool
block_sized d b = eqb b (256 * k_of (d - 1))

-- a root record: "556 in all"
abbrev pub record_sized : ℕ → Bool
record_sized r = eqb r 556

-- a sample: "Length 256·(2D−1)"
abbrev pub sample_sized : ℕ → ℕ → Bool
sample_sized d s = eqb s (256 * sample_size d)
