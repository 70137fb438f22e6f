-- Byte lists that are the same.
use mathlib.Core.Path.{◌≡◌, refl, ap₂, subst}
use mathlib.Core.Logic.{◌≢◌}
use mathlib.Core.Bool.{true, false, false≢true}
use mathlib.Core.List.{List, [], ◌∷◌}
use Prim.Native.Nat.{ℕ}
use lib.Dec.{eqb}
use borrow.Author.Tests.{eq-eqb, eqb-true}
use Rattle.octets.specs.ByteLists.{same}
use Rattle.octets.proofs.Choice.{by_test, and_yes, yes_and, both}

pub same_yes : (xs ys : List ℕ) → same xs ys ≡ true → xs ≡ ys
unfolding same
same_yes [] [] t = refl
same_yes [] (y ∷ ys) t = absurd (false≢true t)
same_yes (x ∷ xs) [] t = absurd (false≢true t)
same_yes (x ∷ xs) (y ∷ ys) t =
    let (p, q) = and_yes (eqb x y) (same xs ys) t in
    ap₂ (λ (a : ℕ) (l : List ℕ). a ∷ l) (eqb-true x y p) (same_yes xs ys q)

same_refl : (xs : List ℕ) → same xs xs ≡ true
unfolding same
same_refl [] = refl
same_refl (x ∷ xs) = yes_and (eq-eqb x x refl) (same_refl xs)

pub yes_same : {xs ys : List ℕ} → xs ≡ ys → same xs ys ≡ true
yes_same {xs} e = subst (λ (l : List ℕ). same xs l ≡ true) e (same_refl xs)

pub same_no : {xs ys : List ℕ} → same xs ys ≡ false → xs ≢ ys
same_no t e = both (yes_same e) t

pub no_same : {xs ys : List ℕ} → xs ≢ ys → same xs ys ≡ false
no_same {xs} {ys} ne = by_test (same xs ys) (λ t. absurd (ne (same_yes xs ys t))) (λ t. t)
