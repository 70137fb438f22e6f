-- The walk along the thread of a stored symbol: what is left of it, with what was noted, is all that was there.
use mathlib.Core.Bool.{Bool}
use mathlib.Core.List.{List, [], ◌∷◌}
use mathlib.Core.Path.{◌∙◌, ◌≡◌, ap, refl, sym}
use Prim.Native.Nat.{◌+◌, ◌-◌, ◌*◌, ◌/◌, ◌<◌, ◌≤◌, suc, zero, ℕ}
use native.Mathlib.Decide.{dec_lt, ℕ_discrete}
use native.Mathlib.Omega.{arith}
use lib.ListN.{drop, get_or, length, set}
use lib.Seq.{get_or-set_other, get_or-set_same}
use Rattle.model.proofs.Counts.{is_it}
use Rattle.model.specs.Symbols.{count}
use Rattle.equation.specs.Rooms.{members_at}
use Rattle.incidence.proofs.ThreadLaws.{Met, below_none, below_step, hits-all, hits-none}
use Rattle.incidence.specs.Incidence.{below, hits}
use Rattle.peeling.specs.Search.{Lowered, Thread}

count_dropped : (p : ℕ → Bool) (xs : List ℕ) (i : ℕ) → count p (drop i xs) ≤ count p xs
unfolding count
count_dropped p [] zero = omega arith
count_dropped p [] (suc i) = omega arith
count_dropped p (x ∷ xs) zero = omega arith
count_dropped p (x ∷ xs) (suc i) = omega (arith, count_dropped p xs i)

module _ (ws starts : List ℕ) (from n x : ℕ) where
  abbrev all : ℕ → ℕ
  all e = count (is_it x) (members_at ws starts (from + e))

  abbrev rest : ℕ → ℕ → ℕ
  rest e b = hits ws starts from x e b

  hits-some : (e b : ℕ) → rest e b ≤ all e
  unfolding hits
  hits-some e b = count_dropped (is_it x) (members_at ws starts (from + e)) (b - 8 * e)

  -- the slots from `bound` on have been noted in the counts a, which were a₀; the next one is `slot`, counted from 1
  pub record Walking (a₀ a : List ℕ) (slot : ℕ) : Type 0 where
    pub bound : ℕ
    pub inside : bound ≤ 8 * n
    pub here : slot ≡ below ws starts from x bound
    pub left : (e : ℕ) → e < n → get_or a e 0 + hits ws starts from x e bound ≡ get_or a₀ e 0

module _ {ws starts : List ℕ} {from n : ℕ} {last next : List ℕ} {x : ℕ} (k : Thread ws starts from n last next x) where
  pub walk_start : (a : List ℕ) → Walking ws starts from n x a a (get_or last x 0)
  walk_start a =
      record {
        bound = 8 * n;
        inside = omega arith;
        here = k.threaded.ends x k.known;
        left = λ e l. omega (arith, hits-none ws starts from x e (8 * n) (k.narrow e l) (omega arith));
      }

  module _ {a₀ a : List ℕ} {slot : ℕ} (w : Walking ws starts from n x a₀ a slot) where
    pub walk_end : slot ≤ 0 → Lowered ws starts from n x a₀ a
    walk_end h e l =
        omega
        (arith, w.left e l, hits-all ws starts from x e, below_none ws starts from x w.bound (sym w.here ∙ omega arith) e (k.narrow e l))

    -- a slot is left
    module _ (h : 0 < slot) where
      met : Met ws starts from x w.bound (slot - 1)
      met = below_step ws starts from x w.bound (slot - 1) (sym w.here ∙ omega arith)

      pub walk_slot : slot - 1 < 8 * n
      walk_slot = omega (arith, met.under, w.inside)

      pub walk_equation : (slot - 1) / 8 < n
      walk_equation = omega (arith, walk_slot)

      pub walk_some : ((e : ℕ) → e < n → count (is_it x) (members_at ws starts (from + e)) ≤ get_or a₀ e 0) → 1 ≤ get_or a ((slot - 1) / 8) 0
      walk_some enough =
          let q = (slot - 1) / 8 in
          omega
          (arith, enough q walk_equation, w.left q walk_equation, met.here q (k.narrow q walk_equation) refl, hits-some ws starts from n x q (slot - 1))

      next-below : get_or next (slot - 1) 0 ≡ below ws starts from x (slot - 1)
      next-below = k.threaded.links x (slot - 1) walk_slot met.holds

      pub walk_less : get_or next (slot - 1) 0 < slot
      walk_less =
          elim (dec_lt 0 (below ws starts from x (slot - 1))) [
            | yes g ↦
                let s = below ws starts from x (slot - 1) - 1 in
                let z : below ws starts from x (slot - 1) ≡ suc s = omega arith in
                omega (arith, next-below, (below_step ws starts from x (slot - 1) s z).under)
            | no g ↦ omega (arith, next-below)
          ]

      pub walk_turn : (a' : List ℕ) → a' ≡ set a ((slot - 1) / 8) (get_or a ((slot - 1) / 8) 0 - 1) → length a ≡ n → 1 ≤ get_or a ((slot - 1) / 8) 0
          → Walking ws starts from n x a₀ a' (get_or next (slot - 1) 0)
      walk_turn a' ea la some =
          let q = (slot - 1) / 8 in
          let v = get_or a q 0 - 1 in
          record {
            bound = slot - 1;
            inside = omega (arith, walk_slot);
            here = next-below;
            left = λ e l.
                let z : get_or a' e 0 ≡ get_or (set a q v) e 0 = ap (λ (y : List ℕ). get_or y e 0) ea in
                elim (ℕ_discrete e q) [
                  | yes i ↦
                      let s : get_or (set a q v) e 0 ≡ v = rw i (get_or-set_same a q v 0 (omega (arith, walk_equation))) in
                      let c : get_or a e 0 ≡ get_or a q 0 = ap (λ (y : ℕ). get_or a y 0) i in
                      omega (arith, w.left e l, met.here e (k.narrow e l) i)
                  | no i ↦ omega (arith, get_or-set_other a q e v 0 i, w.left e l, met.away e (k.narrow e l) i)
                ];
          }
