-- The absent members of an equation, as std finds them by their marks.
use mathlib.Core.Bool.{Bool, cond, not}
use mathlib.Core.List.{List, [], ◌∷◌}
use mathlib.Core.Path.{◌∙◌, ◌≡◌, ap, ap₂, refl, subst, sym}
use Prim.Native.Nat.{◌+◌, ◌<◌, ℕ}
use native.Mathlib.Omega.{arith}
use lib.Dec.{eqb}
use lib.ListN.{get_or, length}
use Rattle.std.proofs.Common.{None, Option, Some}
use Rattle.std.specs.List.{find}
use Rattle.std.proofs.lemmas.List.{get_or_default}
use Rattle.octets.proofs.Choice.{by_test, pick_no, pick_yes}
use Rattle.coded_tree.proofs.MarkLaws.{absent_there}
use Rattle.model.proofs.Members.{every-below}
use Rattle.model.specs.Repair.{absent_at}
use Rattle.model.specs.Shape.{places, tree}
use Rattle.model.specs.Symbols.{bit, count, first_of}
use Rattle.equation.specs.Rooms.{Marked}

-- the first of the numbers that passes, as std finds it
pub found-first : (p : ℕ → Bool) (xs : List ℕ) (x : ℕ) → find p xs ≡ Some x → (0 < count p xs) × (x ≡ first_of p xs)
unfolding count first_of
found-first p [] x e = cc
found-first p (y ∷ ys) x e =
    by_test (p y)
    (λ t.
    let here : Some y ≡ Some x = subst (λ (b : Bool). cond b (Some y) (find p ys) ≡ Some x) t e in
    let is : y ≡ x = cc in
    (omega (arith, ap bit t), sym is ∙ sym (pick_yes (p y) y (first_of p ys) t)))
    (λ t.
    let (some, later) = found-first p ys x (subst (λ (b : Bool). cond b (Some y) (find p ys) ≡ Some x) t e) in
    (omega (arith, some), later ∙ sym (pick_no (p y) y (first_of p ys) t)))

pub found-none : (p : ℕ → Bool) (xs : List ℕ) → find p xs ≡ None → count p xs ≡ 0
unfolding count
found-none p [] e = refl
found-none p (y ∷ ys) e =
    by_test (p y)
    (λ t.
    let here : Some y ≡ None = subst (λ (b : Bool). cond b (Some y) (find p ys) ≡ None) t e in
    cc)
    (λ t. omega (arith, ap bit t, found-none p ys (subst (λ (b : Bool). cond b (Some y) (find p ys) ≡ None) t e)))

-- ---- by their marks

finds-same : (p q : ℕ → Bool) → ((y : ℕ) → q y ≡ p y) → (xs : List ℕ) → find q xs ≡ find p xs
finds-same p q h [] = refl
finds-same p q h (x ∷ xs) = ap₂ (λ (b : Bool) (r : Option ℕ). cond b (Some x) r) (h x) (finds-same p q h xs)

module _ (m ms : List ℕ) (j base : ℕ) (eb : base ≡ places tree j) where
  -- the test of a mark
  abbrev pub unmarked : ℕ → Bool
  unmarked y = not (eqb (get_or m (base + y) 0) 1)

  pub absent-found : find unmarked ms ≡ find (absent_at tree m j) ms
  absent-found = finds-same (absent_at tree m j) unmarked (λ y. sym (absent_there m j base eb y)) ms

  -- member i's mark is one of the marks
  pub mark-there : Marked m ms j → (i d : ℕ) → i < length ms → base + get_or ms i d < length m
  mark-there k i d h = omega (arith, every-below k.symbols ms k.within i h, get_or_default ms i d 0 h, k.room)
