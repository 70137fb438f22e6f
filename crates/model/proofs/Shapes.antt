-- Laws of a tree's shape and places, and that the tree of 01 has such a shape.
use mathlib.Core.Path.{◌≡◌, refl, ap}
use mathlib.Core.Logic.{◌⊎◌, ◌≢◌, ⊎_elim}
use mathlib.Core.List.{List}
use Prim.Native.Nat.{ℕ, zero, suc, ◌-◌, ◌*◌, ◌/◌, ◌%◌, ◌^◌, ◌≤◌, ◌<◌}
use native.Mathlib.Nat.{mod-lt}
use native.Mathlib.Omega.{arith}
use native.Mathlib.Decide.{dec_lt}
use lib.Pow.{pow_pos}
use Rattle.parity_table.specs.Shape.{k_of, n_of, max_depth}
use Rattle.parity_table.proofs.Shape.{k_small}
use Rattle.model.specs.Shape.{Shape, ShapeOk, TreeOk, tree, places, place}
use Rattle.model.specs.Symbols.{slot, committed}

-- ---- places

module _ (S : Shape) where
  pub places_mono : (j d : ℕ) → j ≤ d → places S j ≤ places S d
  unfolding places
  places_mono j zero h = let e : j ≡ 0 = omega arith in omega (arith, ap (places S) e)
  places_mono j (suc d) h =
      elim (dec_lt d j) [
        | yes q ↦ let e : j ≡ suc d = omega arith in omega (arith, ap (places S) e)
        | no q ↦ omega (arith, places_mono j d (omega arith))
      ]

  -- the places of layer j end before those of the layers below
  pub place_lt : (d j i : ℕ) → j < d → i < S.n j → place S j i < places S d
  unfolding place places
  place_lt d j i h k = omega (arith, places_mono (suc j) d h)

  pub place-differs : (l y j x : ℕ) → y < S.n l → x < S.n j → (l ≢ j) ⊎ (y ≢ x) → place S l y ≢ place S j x
  unfolding place
  place-differs l y j x hy hx d q =
      elim (dec_lt l j) [
        | yes h ↦ omega (arith, place_lt j l y h hy)
        | no h ↦ elim (dec_lt j l) [
          | yes k ↦ omega (arith, place_lt l j x k hx)
          | no k ↦ let e : l ≡ j = omega arith in ⊎_elim (λ n. absurd (n e)) (λ n. absurd (n (omega (arith, ap (places S) e)))) d
        ]
      ]

  -- every place is that of a symbol
  pub place_of_lem : (d p : ℕ) → p < places S d → (j : ℕ) × (i : ℕ) × (j < d) × (i < S.n j) × (p ≡ place S j i)
  unfolding place places
  place_of_lem zero p h = absurd (omega arith)
  place_of_lem (suc d) p h =
      elim (dec_lt p (places S d)) [
        | yes q ↦ let (j, i, hj, hi, e) = place_of_lem d p q in (j, i, omega arith, hi, e)
        | no q ↦ (d, p - places S d, omega arith, omega arith, omega arith)
      ]

-- ---- layers

-- the symbol of the layer above that holds the hash of symbol i
pub up_lt : (S : Shape) → ShapeOk S → (j i : ℕ) → i % S.k j < S.n j
up_lt S ok j i = omega (arith, mod-lt i (ok.some j), ok.within j)

-- a committed hash is a matter of that symbol alone
pub committed-same : (S : Shape) (root : List ℕ) (f g : ℕ → ℕ → List ℕ) (j i : ℕ) → ((l : ℕ) → suc l ≡ j → f l (i % S.k l) ≡ g l (i % S.k l))
    → committed S root f j i ≡ committed S root g j i
unfolding committed
committed-same S root f g zero i above = refl
committed-same S root f g (suc j) i above = ap (λ (s : List ℕ). slot s (i / S.k j)) (above j refl)

pub k_double : (S : Shape) → TreeOk S → (j : ℕ) → S.k (suc j) ≡ 2 * S.k j
k_double S ok j = omega (arith, ok.rate (suc j), ok.batch j)

-- ---- the tree of 01

pub tree_ok : TreeOk tree
unfolding k_of n_of
tree_ok = record { shape = record { some = λ j. omega (arith, pow_pos j); within = λ j. omega arith }; rate = λ j. refl; batch = λ j. omega arith }

pub n_small : (j : ℕ) → j < max_depth → tree.n j ≤ 16 * 2 ^ max_depth
n_small j h = omega (arith, k_small j h, tree_ok.rate j)

-- "16·(2^D−1) symbols"
pub tree_places : (d : ℕ) → places tree d ≡ 16 * (2 ^ d - 1)
unfolding places k_of n_of
tree_places zero = refl
tree_places (suc d) = omega (arith, tree_places d, pow_pos d)

-- "The root is 512 bytes": 32 for each symbol of layer 0
pub tree_root : 32 * tree.n 0 ≡ 512
unfolding k_of n_of
tree_root = refl
