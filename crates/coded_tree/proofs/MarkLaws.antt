-- The marks of a layer, where the code finds them.
use mathlib.Core.Bool.{false, not, true}
use mathlib.Core.List.{List}
use mathlib.Core.Path.{◌∙◌, ◌≡◌, ap, sym}
use Prim.Native.Nat.{◌+◌, ◌<◌, ◌≤◌, ℕ}
use native.Mathlib.Omega.{arith}
use lib.Dec.{eqb}
use lib.ListN.{get_or}
use borrow.Author.Tests.{eq-eqb, ne_eqb}
use Rattle.std.proofs.Common.{MatchOption, None, Option, Some}
use Rattle.model.proofs.Counts.{found_first}
use Rattle.model.specs.Repair.{absent_at}
use Rattle.model.specs.Shape.{place, places, tree}
use Rattle.model.specs.Symbols.{found}

module _ (m : List ℕ) (j base : ℕ) (eb : base ≡ places tree j) where
  pub absent_there : (y : ℕ) → absent_at tree m j y ≡ not (eqb (get_or m (base + y) 0) 1)
  unfolding absent_at place
  absent_there y = ap (λ (b : ℕ). not (eqb (get_or m (b + y) 0) 1)) (sym eb)

  pub held-is : (y : ℕ) → get_or m (base + y) 0 ≡ 1 → absent_at tree m j y ≡ false
  held-is y h = absent_there y ∙ ap not (eq-eqb (get_or m (base + y) 0) 1 h)

  pub absent-is : (y : ℕ) → (get_or m (base + y) 0 ≡ 1 → ⊥) → absent_at tree m j y ≡ true
  absent-is y h = absent_there y ∙ ap not (ne_eqb (get_or m (base + y) 0) 1 h)

  -- the first of n marks from there that is not 1 is the lowest symbol that is absent
  pub first_found : (n : ℕ) (r : Option ℕ)
      → MatchOption r ((k : ℕ) → 0 ≤ k → k < n → get_or m (base + k) 0 ≡ 1)
      (λ i. (0 ≤ i) × (i < n) × (get_or m (base + i) 0 ≡ 1 → ⊥) × ((k : ℕ) → 0 ≤ k → k < i → get_or m (base + k) 0 ≡ 1))
      → r ≡ found (absent_at tree m j) n
  first_found n None ones = found_first (absent_at tree m j) n None (λ k h. held-is k (ones k (omega arith) h))
  first_found n (Some i) (_, inside, here, ones) =
      found_first (absent_at tree m j) n (Some i) (inside, absent-is i here, λ k h. held-is k (ones k (omega arith) h))
