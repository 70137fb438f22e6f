-- Lengths of a tree's buffers.
use mathlib.Core.Path.{◌≡◌, refl, sym, ap, ◌∙◌}
use mathlib.Core.Bool.{Bool, true, false, ◌&&◌, false≢true}
use Prim.Native.Nat.{ℕ, ◌*◌, ◌^◌, ◌≤◌}
use native.Mathlib.Omega.{arith}
use lib.Pow.{pow_mono}
use lib.Dec.{eqb}
use borrow.Author.Tests.{eq-eqb, ne_eqb, eqb-true}
use Rattle.octets.proofs.Choice.{and_yes}
use Rattle.parity_table.specs.Shape.{max_depth, depth_fits}
use Rattle.parity_table.proofs.Shape.{depth_is}
use Rattle.model.specs.Shape.{tree, places}
use Rattle.model.proofs.Shapes.{tree_places}
use Rattle.calls.specs.Lengths.{tree_sized}

pub places_small : (d : ℕ) → d ≤ max_depth → places tree d ≤ 16 * 2 ^ max_depth
places_small d h = let p : 2 ^ d ≤ 2 ^ max_depth = pow_mono h in omega (arith, tree_places d)

-- the test of both lengths, n being the symbols of depth d
module _ (d t m n : ℕ) (f : depth_fits d ≡ true) (en : n ≡ places tree d) where
  pub tree-other : (t ≡ 256 * n → ⊥) → false ≡ (depth_fits d && tree_sized d t m)
  tree-other h = let e : eqb t (256 * places tree d) ≡ false = ap (λ q. eqb t (256 * q)) (sym en) ∙ ne_eqb t (256 * n) h in rw (f, e)

  pub tree-same-length : t ≡ 256 * n → eqb m n ≡ (depth_fits d && tree_sized d t m)
  tree-same-length h =
      let e : eqb t (256 * places tree d) ≡ true = ap (λ q. eqb t (256 * q)) (sym en) ∙ eq-eqb t (256 * n) h in
      rw (f, e) (ap (eqb m) en)

-- both lengths, where the test passes
pub tree-lengths : (d t m : ℕ) → tree_sized d t m ≡ true → (t ≡ 256 * places tree d) × (m ≡ places tree d)
tree-lengths d t m e =
    let (a, b) = and_yes (eqb t (256 * places tree d)) (eqb m (places tree d)) e in
    (eqb-true t (256 * places tree d) a, eqb-true m (places tree d) b)

-- ---- tests of a depth and of lengths one after the other

-- the first two fail, or the third decides
pub fit_no : (a b c : Bool) → (a && b) ≡ false → false ≡ (a && (b && c))
fit_no true b c e = sym (ap (λ (x : Bool). x && c) e)
fit_no false b c e = refl

pub fit_yes : (a b c : Bool) → (a && b) ≡ true → c ≡ (a && (b && c))
fit_yes true b c e = sym (ap (λ (x : Bool). x && c) e)
fit_yes false b c e = absurd (false≢true e)

-- a depth that fits
pub fit_depth : (d : ℕ) (b : Bool) → (depth_fits d && b) ≡ true → (1 ≤ d) × (d ≤ max_depth)
fit_depth d b e = depth_is d (and_yes (depth_fits d) b e).0
