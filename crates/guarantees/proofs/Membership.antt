-- Members of an equation, by their places in its list.
use mathlib.Core.Path.{◌≡◌, refl, sym, ap, ◌∙◌}
use mathlib.Core.Logic.{◌≢◌}
use mathlib.Core.Bool.{Bool, true}
use mathlib.Core.List.{List, [], ◌∷◌, ◌++◌}
use Prim.Native.Nat.{ℕ, zero, suc, ◌≤◌, ◌<◌}
use native.Mathlib.Omega.{arith}
use lib.ListN.{length}
use lib.Dec.{ltb, eqb}
use borrow.Author.Tests.{ltb-true, eqb-true, eq-eqb}
use Rattle.octets.proofs.Choice.{by_test, pick_ind, pick_yes, pick_no, and_yes}
use Rattle.parity_table.specs.Members.{every, ascending, last_of}
use Rattle.model.specs.Symbols.{bit, count, others}
use Rattle.model.proofs.Counts.{is_it, others-none, member_later}
use Rattle.guarantees.specs.Tables.{IsMember}

member-first : (x : ℕ) (xs : List ℕ) → IsMember x (x ∷ xs)
member-first x xs = (0, omega arith, refl)

-- what holds of every element holds of a member
pub every-member_of : (p : ℕ → Bool) (xs : List ℕ) → every p xs ≡ true → (x : ℕ) → IsMember x xs → p x ≡ true
unfolding every
every-member_of p [] a x (q, h, e) = absurd (omega arith)
every-member_of p (y ∷ ys) a x (zero, h, e) = ap p (sym e) ∙ (and_yes (p y) (every p ys) a).0
every-member_of p (y ∷ ys) a x (suc q, h, e) = every-member_of p ys (and_yes (p y) (every p ys) a).1 x (q, omega arith, e)

-- a member other than x is one of the others
pub member-other : (x y : ℕ) (xs : List ℕ) → IsMember y xs → y ≢ x → IsMember y (others x xs)
unfolding others
member-other x y [] (q, h, e) n = absurd (omega arith)
member-other x y (z ∷ zs) (zero, h, e) n =
    pick_ind (λ (l : List ℕ). IsMember y l) (eqb z x) (λ t. absurd (n (sym e ∙ eqb-true z x t))) (λ t. (0, omega arith, e))
member-other x y (z ∷ zs) (suc q, h, e) n =
    let m = member-other x y zs (q, omega arith, e) n in
    pick_ind (λ (l : List ℕ). IsMember y l) (eqb z x) (λ t. m) (λ t. member_later y z (others x zs) m)

-- a member that passes, of a list in which one does
pub passing_member : (a : ℕ → Bool) (xs : List ℕ) → 1 ≤ count a xs → (x : ℕ) × IsMember x xs × (a x ≡ true)
unfolding count
passing_member a [] h = absurd (omega arith)
passing_member a (y ∷ ys) h =
    by_test (a y) (λ t. (y, member-first y ys, t))
    (λ t.
    let b : bit (a y) ≡ 0 = ap bit t in
    let (x, m, p) = passing_member a ys (omega arith) in (x, member_later x y ys m, p))

-- two of them, of an ascending list in which two do
pub two_passing : (a : ℕ → Bool) (xs : List ℕ) → ascending xs ≡ true → 2 ≤ count a xs
    → (x : ℕ) × (y : ℕ) × IsMember x xs × IsMember y xs × (x < y) × (a x ≡ true) × (a y ≡ true)
unfolding count ascending
two_passing a [] r h = absurd (omega arith)
two_passing a (z ∷ zs) r h =
    let (above, rest) = and_yes (every (ltb z) zs) (ascending zs) r in
    by_test (a z)
    (λ t.
    let b : bit (a z) ≡ 1 = ap bit t in
    let (y, m, p) = passing_member a zs (omega arith) in
    (z, y, member-first z zs, member_later y z zs m, ltb-true z y (every-member_of (ltb z) zs above y m), t, p))
    (λ t.
    let b : bit (a z) ≡ 0 = ap bit t in
    let (x, y, mx, my, l, p, q) = two_passing a zs rest (omega arith) in
    (x, y, member_later x z zs mx, member_later y z zs my, l, p, q))

-- the list before a member, and after it
pub member_apart : (x : ℕ) (xs : List ℕ) → IsMember x xs → (front : List ℕ) × (back : List ℕ) × (xs ≡ front ++ (x ∷ back))
member_apart x [] (q, h, e) = absurd (omega arith)
member_apart x (y ∷ ys) (zero, h, e) = ([], ys, ap (λ (z : ℕ). z ∷ ys) e)
member_apart x (y ∷ ys) (suc q, h, e) =
    let (front, back, s) = member_apart x ys (q, omega arith, e) in (y ∷ front, back, ap (λ (l : List ℕ). y ∷ l) s)

-- the list before its last
pub last_apart : (xs : List ℕ) (z : ℕ) → 1 ≤ length xs → (front : List ℕ) × (xs ≡ front ++ (last_of xs z ∷ []))
unfolding last_of
last_apart [] z h = absurd (omega arith)
last_apart (x ∷ []) z h = ([], refl)
last_apart (x ∷ y ∷ ys) z h = let (front, s) = last_apart (y ∷ ys) x (omega arith) in (x ∷ front, ap (λ (l : List ℕ). x ∷ l) s)

-- ---- members, one of them set apart

module _ (x : ℕ) where
  pub count-apart : (front back : List ℕ) → 1 ≤ count (is_it x) (front ++ (x ∷ back))
  unfolding count
  count-apart [] back = omega (arith, ap bit (eq-eqb x x refl))
  count-apart (y ∷ front) back = omega (arith, count-apart front back)

  -- it stands there only
  pub others_apart : (front back : List ℕ) → count (is_it x) (front ++ (x ∷ back)) ≤ 1 → others x (front ++ (x ∷ back)) ≡ front ++ back
  unfolding count others
  others_apart [] back h =
      pick_yes (eqb x x) _ _ (eq-eqb x x refl) ∙ others-none x back (omega (arith, ap bit (eq-eqb x x refl)))
  others_apart (y ∷ front) back h =
      by_test (eqb y x) (λ t. absurd (omega (arith, ap bit t, count-apart front back)))
      (λ t. pick_no (eqb y x) _ _ t ∙ ap {B = List ℕ} (λ l. y ∷ l) (others_apart front back (omega (arith, ap bit t))))
