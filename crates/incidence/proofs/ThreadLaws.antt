-- What a caller has who walks the thread of a symbol x, from its last slot to its first: each step takes one member x away from those left in one equation.
use mathlib.Core.Path.{◌≡◌, refl, sym, ap, subst, ◌∙◌}
use mathlib.Core.Bool.{Bool, true, false, ◌&&◌}
use mathlib.Core.List.{List}
use Prim.Native.Nat.{ℕ, zero, suc, ◌+◌, ◌-◌, ◌*◌, ◌/◌, ◌%◌, ◌≤◌, ◌<◌}
use native.Mathlib.Decide.{dec_lt, ℕ_discrete}
use native.Mathlib.Omega.{arith}
use lib.ListN.{drop, get_or, length}
use lib.Dec.{eqb}
use borrow.Author.Tests.{lt-ltb, le-ltb}
use Rattle.octets.proofs.Choice.{by_test, pick_no, pick_yes}
use Rattle.model.specs.Symbols.{bit, count}
use Rattle.model.proofs.Counts.{count-drop, count-end, is_it}
use Rattle.equation.specs.Rooms.{members_at}
use Rattle.incidence.specs.Incidence.{Narrow, below, hits, holds_at}

module _ (ws starts : List ℕ) (from x : ℕ) where
  -- ---- the members in the slots from b on

  pub hits-all : (e : ℕ) → hits ws starts from x e 0 ≡ count (λ y. eqb y x) (members_at ws starts (from + e))
  unfolding hits
  hits-all e = let k : 0 - 8 * e ≡ 0 = omega arith in ap (λ (q : ℕ). count (is_it x) (drop q (members_at ws starts (from + e)))) k

  -- equation e has none from slot 8 e + 8 on
  pub hits-none : (e b : ℕ) → Narrow ws starts from e → 8 * e + 8 ≤ b → hits ws starts from x e b ≡ 0
  unfolding hits
  hits-none e b k h = count-end (is_it x) (members_at ws starts (from + e)) (b - 8 * e) (omega arith)

  -- slot b is one of equation b / 8
  hits-here : (b : ℕ) → hits ws starts from x (b / 8) b ≡ bit (holds_at ws starts from x b) + hits ws starts from x (b / 8) (suc b)
  unfolding hits holds_at
  hits-here b =
      let ms = members_at ws starts (from + b / 8) in
      let k : b - 8 * (b / 8) ≡ b % 8 = omega arith in
      let k' : suc b - 8 * (b / 8) ≡ b % 8 + 1 = omega arith in
      elim (dec_lt (b % 8) (length ms)) [
        | yes h ↦
            omega (
              arith,
              ap (λ (q : ℕ). count (is_it x) (drop q ms)) k,
              ap (λ (q : ℕ). count (is_it x) (drop q ms)) k',
              ap (λ (t : Bool). bit (t && eqb (get_or ms (b % 8) 0) x)) (lt-ltb (b % 8) (length ms) h),
              count-drop (is_it x) ms (b % 8) h,
            )
        | no h ↦
            omega (
              arith,
              ap (λ (t : Bool). bit (t && eqb (get_or ms (b % 8) 0) x)) (le-ltb (b % 8) (length ms) (omega arith)),
              count-end (is_it x) ms (b - 8 * (b / 8)) (omega arith),
              count-end (is_it x) ms (suc b - 8 * (b / 8)) (omega arith),
            )
      ]

  -- .. and of no other
  hits_away : (e b : ℕ) → Narrow ws starts from e → (e ≡ b / 8 → ⊥) → hits ws starts from x e b ≡ hits ws starts from x e (suc b)
  unfolding hits
  hits_away e b k z =
      elim (dec_lt b (8 * e)) [
        | yes h ↦
            let n : b - 8 * e ≡ suc b - 8 * e = omega arith in
            ap (λ (q : ℕ). count (is_it x) (drop q (members_at ws starts (from + e)))) n
        | no h ↦ hits-none e b k (omega arith) ∙ sym (hits-none e (suc b) k (omega arith))
      ]

  -- a slot that does not hold x
  hits_pass : (e b : ℕ) → Narrow ws starts from e → holds_at ws starts from x b ≡ false → hits ws starts from x e b ≡ hits ws starts from x e (suc b)
  hits_pass e b k t =
      elim (ℕ_discrete e (b / 8)) [
        | yes z ↦ rw z (omega (arith, hits-here b, ap bit t))
        | no z ↦ hits_away e b k z
      ]

  -- ---- the highest slot below b that holds x

  -- it is slot s: x is a member once more in the equation of slot s, from there on, than from b on, and as often in every other
  pub record Met (b s : ℕ) : Type 0 where
    pub under : s < b
    pub holds : holds_at ws starts from x s ≡ true
    pub here : (e : ℕ) → Narrow ws starts from e → e ≡ s / 8 → hits ws starts from x e s ≡ suc (hits ws starts from x e b)
    pub away : (e : ℕ) → Narrow ws starts from e → (e ≡ s / 8 → ⊥) → hits ws starts from x e s ≡ hits ws starts from x e b

  pub below_step : (b s : ℕ) → below ws starts from x b ≡ suc s → Met b s
  unfolding below
  below_step zero s h = absurd (omega arith)
  below_step (suc b) s h =
      by_test (holds_at ws starts from x b)
      (λ t.
      let z : s ≡ b = omega (arith, pick_yes (holds_at ws starts from x b) (suc b) (below ws starts from x b) t) in
      subst (Met (suc b)) (sym z)
      (record {
        under = omega arith;
        holds = t;
        here = λ e k i. rw i (omega (arith, hits-here b, ap bit t));
        away = λ e k i. hits_away e b k i;
      }))
      (λ t.
      let m = below_step b s (sym (pick_no (holds_at ws starts from x b) (suc b) (below ws starts from x b) t) ∙ h) in
      record {
        under = omega arith;
        holds = m.holds;
        here = λ e k i. m.here e k i ∙ ap suc (hits_pass e b k t);
        away = λ e k i. m.away e k i ∙ hits_pass e b k t;
      })

  -- there is none: x is a member of no equation before slot b
  pub below_none : (b : ℕ) → below ws starts from x b ≡ 0 → (e : ℕ) → Narrow ws starts from e → hits ws starts from x e 0 ≡ hits ws starts from x e b
  unfolding below
  below_none zero h e k = refl
  below_none (suc b) h e k =
      by_test (holds_at ws starts from x b)
      (λ t. absurd (omega (arith, pick_yes (holds_at ws starts from x b) (suc b) (below ws starts from x b) t)))
      (λ t. below_none b (sym (pick_no (holds_at ws starts from x b) (suc b) (below ws starts from x b) t) ∙ h) e k ∙ hits_pass e b k t)
