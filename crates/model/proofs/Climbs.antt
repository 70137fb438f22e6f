-- What the answer of a climb says, that no other says it, and the climb symbol by symbol, as a loop meets it.
use mathlib.Core.Path.{◌≡◌, refl, sym, ap, ◌∙◌}
use mathlib.Core.Bool.{Bool, true, false}
use Prim.Native.Nat.{ℕ, zero, suc, ◌+◌, ◌-◌, ◌≤◌, ◌<◌}
use native.Mathlib.Numerals.{add-one}
use native.Mathlib.Omega.{arith}
use lib.Dec.{eqb}
use borrow.Author.Tests.{eqb-true, eqb-false}
use Rattle.octets.proofs.Choice.{by_test, pick_yes, pick_no, pick_ind, both}
use Rattle.model.specs.Climb.{Climb, leads, breaks, climb, First, Says}

module _ (fits : ℕ → Bool) (layer : ℕ → ℕ) where
  -- one symbol more in front, which fits
  more : (x m : ℕ) → fits x ≡ true → (c : Climb) → Says fits layer (suc x) m c → Says fits layer x (suc m) c
  more x m t leads s = λ y a b. by_test (eqb y x) (λ u. ap fits (eqb-true y x u) ∙ t) (λ u. s y (omega (arith, eqb-false y x u)) (omega arith))
  more x m t (breaks j) (y, first, e) = (
    y,
    record {
      from = omega (arith, first.from);
      upto = omega (arith, first.upto);
      unfit = first.unfit;
      before = λ z a b. by_test (eqb z x) (λ u. ap fits (eqb-true z x u) ∙ t) (λ u. first.before z (omega (arith, eqb-false z x u)) b);
    },
    e,
  )

  pub climb_says : (m x : ℕ) → Says fits layer x m (climb fits layer x m)
  unfolding climb
  climb_says zero x = λ y a b. absurd (omega arith)
  climb_says (suc m) x =
      pick_ind (Says fits layer x (suc m)) (fits x) (λ t. more x m t (climb fits layer (suc x) m) (climb_says m (suc x)))
      (λ t. (x, record { from = omega arith; upto = omega arith; unfit = t; before = λ z a b. absurd (omega arith) }, refl))

  -- a first one is the only one
  first_one : (x m y z : ℕ) → First fits x m y → First fits x m z → y ≡ z
  first_one x m y z f g =
      let not-below : y < z → ⊥ = λ h. both (g.before y f.from h) f.unfit in
      let not-above : z < y → ⊥ = λ h. both (f.before z g.from h) g.unfit in
      omega arith

  says_one : (x m : ℕ) (c e : Climb) → Says fits layer x m c → Says fits layer x m e → c ≡ e
  says_one x m leads leads s t = refl
  says_one x m leads (breaks j) s (y, f, e) = both (s y f.from f.upto) f.unfit
  says_one x m (breaks i) leads (y, f, e) t = both (t y f.from f.upto) f.unfit
  says_one x m (breaks i) (breaks j) (y, f, e) (z, g, h) = ap breaks (sym e ∙ ap layer (first_one x m y z f g) ∙ h)

  -- what is so is what the climb says
  pub climb-is : (m x : ℕ) (c : Climb) → Says fits layer x m c → climb fits layer x m ≡ c
  climb-is m x c s = says_one x m (climb fits layer x m) c (climb_says m x) s

-- ---- from symbol x on, with e symbols in all

module _ (fits : ℕ → Bool) (layer : ℕ → ℕ) (e x : ℕ) where
  pub climb-next : x < e → fits x ≡ true → climb fits layer (x + 1) (e - (x + 1)) ≡ climb fits layer x (e - x)
  unfolding climb
  climb-next h t =
      let n : e - x ≡ suc (e - (x + 1)) = omega arith in
      sym
      (ap (climb fits layer x) n ∙ pick_yes (fits x) (climb fits layer (suc x) (e - (x + 1))) (breaks (layer x)) t
      ∙ ap (λ (y : ℕ). climb fits layer y (e - (x + 1))) (sym (add-one x)))

  pub climb-breaks : x < e → fits x ≡ false → climb fits layer x (e - x) ≡ breaks (layer x)
  unfolding climb
  climb-breaks h t =
      let n : e - x ≡ suc (e - (x + 1)) = omega arith in
      ap (climb fits layer x) n ∙ pick_no (fits x) (climb fits layer (suc x) (e - (x + 1))) (breaks (layer x)) t

  pub climb-ends : e ≤ x → climb fits layer x (e - x) ≡ leads
  unfolding climb
  climb-ends h = let n : e - x ≡ 0 = omega arith in ap (climb fits layer x) n
