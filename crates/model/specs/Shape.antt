-- The shape of a tree: 01, "Layers". Definitions only.
use Rattle.std.specs.Prelude.{◌≡◌, ℕ, zero, suc, ◌+◌, ◌*◌, ◌≤◌, ◌<◌}
use Rattle.parity_table.specs.Shape.{k_of, n_of}

-- how many symbols each layer has: k data symbols, "numbered first", and n in all
pub record Shape : Type 0 where
  pub k : ℕ → ℕ
  pub n : ℕ → ℕ

-- what the laws of repair and of its checkers ask of a shape
pub record ShapeOk (S : Shape) : Type 0 where
  pub some : (j : ℕ) → 0 < S.k j
  pub within : (j : ℕ) → S.k j ≤ S.n j

-- What the laws of the writer and of samples ask: "k data symbols [..] and 3k parity symbols; n = 4k", and "s = n/8, which is the k of the layer above".
pub record TreeOk (S : Shape) : Type 0 where
  pub shape : ShapeOk S
  pub rate : (j : ℕ) → S.n j ≡ 4 * S.k j
  pub batch : (j : ℕ) → S.n (suc j) ≡ 8 * S.k j

-- the shape of 01: k = 4·2^j
abbrev pub tree : Shape
tree = record { k = k_of; n = n_of }

-- layer j of S hangs under layers of the tree's numbers: nothing is asked of layer j itself or below
pub record Hangs (S : Shape) (j : ℕ) : Type 0 where
  pub k-above : (l : ℕ) → l < j → S.k l ≡ k_of l
  pub n-above : (l : ℕ) → l < j → S.n l ≡ n_of l

module _ (S : Shape) where
  -- "The tree buffer holds all layers, top first": the symbols of the d topmost layers, which are all those of a tree of depth d
  unfoldable pub places : ℕ → ℕ
  places zero = 0
  places (suc d) = places d + S.n d

  -- the place of symbol i of layer j
  unfoldable pub place : ℕ → ℕ → ℕ
  place j i = places j + i
