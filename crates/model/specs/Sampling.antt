-- Samples: 01, "Sample and fault proof". Definitions only.
use Rattle.std.specs.Prelude.{List, ℕ, zero, suc, ◌+◌, ◌-◌, ◌*◌, ◌/◌, ◌%◌, eqb}
use Rattle.octets.specs.Choice.{pick}
use Rattle.model.specs.Shape.{Shape}
use Rattle.model.specs.Symbols.{joined}

-- "Length 256·(2D−1)": how many symbols a sample has
abbrev pub sample_size : ℕ → ℕ
sample_size d = 2 * d - 1

-- Symbol 0 of a sample is the base symbol; then "for each layer upward from D−2 to 0" come two symbols. The layer of symbol x:
unfoldable pub sample_layer : ℕ → ℕ → ℕ
sample_layer d x = d - 1 - (x + 1) / 2

module _ (S : Shape) where
  -- "its data symbol (i mod k) and its parity symbol k + (i mod 3k), with that layer's k"
  unfoldable pub data_no : ℕ → ℕ → ℕ
  data_no j i = i % S.k j

  unfoldable pub parity_no : ℕ → ℕ → ℕ
  parity_no j i = S.k j + i % (3 * S.k j)

  -- the number, in its layer, of symbol x of a sample of base symbol i
  unfoldable pub sample_number : ℕ → ℕ → ℕ → ℕ
  sample_number d i zero = i
  sample_number d i (suc x) = pick (eqb (x % 2) 0) (data_no (sample_layer d (suc x)) i) (parity_no (sample_layer d (suc x)) i)

  -- the sample of base symbol i of a tree of depth d, whose symbols f gives
  unfoldable pub sample_bytes : (ℕ → ℕ → List ℕ) → ℕ → ℕ → List ℕ
  sample_bytes f d i = joined (λ x. f (sample_layer d x) (sample_number d i x)) 0 (sample_size d)
