-- The threads while they are filled, one slot at a time.
use mathlib.Core.Path.{◌≡◌, sym, ap, ap₂, subst, ◌∙◌}
use mathlib.Core.Bool.{Bool, true, false, ◌&&◌}
use mathlib.Core.List.{List}
use Prim.Native.Nat.{ℕ, zero, suc, ◌+◌, ◌*◌, ◌/◌, ◌%◌, ◌≤◌, ◌<◌}
use native.Mathlib.Decide.{ℕ_discrete}
use native.Mathlib.Omega.{arith}
use lib.ListN.{get_or, get_or-replicate, length, length-replicate, length-set, replicate, set}
use lib.Seq.{get_or-set_other, get_or-set_same}
use lib.Dec.{eqb, ltb}
use borrow.Author.Tests.{eq-eqb, eqb-true, le-ltb, lt-ltb, ne_eqb}
use Rattle.octets.proofs.Choice.{both, pick_no, pick_yes}
use Rattle.model.proofs.Members.{every-below}
use Rattle.equation.specs.Rooms.{members_at}
use Rattle.incidence.specs.Incidence.{Threadable, Threaded, ThreadedTo, below, holds_at}

module _ (ws starts : List ℕ) (from : ℕ) where
  module _ (e symbols slots : ℕ) (k : Threadable ws starts from (e + 1) symbols slots) where
    -- its members are among the symbols
    pub member_small : (i : ℕ) → i < length (members_at ws starts (from + e)) → get_or (members_at ws starts (from + e)) i 0 < symbols
    member_small i h = every-below symbols (members_at ws starts (from + e)) (k.listed.within e (omega arith)) i h

  -- ---- what slot 8 e + i holds

  module _ (e i x : ℕ) (h : i < 8) where
    at_slot : (P : ℕ → ℕ → Type 0) → P i e → P ((8 * e + i) % 8) ((8 * e + i) / 8)
    at_slot P p =
        let a : i ≡ (8 * e + i) % 8 = omega arith in
        let b : e ≡ (8 * e + i) / 8 = omega arith in
        subst (λ (q : ℕ). P q ((8 * e + i) / 8)) a (subst (P i) b p)

    holds-member : i < length (members_at ws starts (from + e)) → holds_at ws starts from x (8 * e + i) ≡ eqb (get_or (members_at ws starts (from + e)) i 0) x
    unfolding holds_at
    holds-member l =
        at_slot
        (λ (j q : ℕ).
        (ltb j (length (members_at ws starts (from + q))) && eqb (get_or (members_at ws starts (from + q)) j 0) x) ≡ eqb (get_or (members_at ws starts (from + e)) i 0) x)
        (ap (λ (t : Bool). t && eqb (get_or (members_at ws starts (from + e)) i 0) x) (lt-ltb i (length (members_at ws starts (from + e))) l))

    holds_nothing : length (members_at ws starts (from + e)) ≤ i → holds_at ws starts from x (8 * e + i) ≡ false
    unfolding holds_at
    holds_nothing l =
        at_slot (λ (j q : ℕ). (ltb j (length (members_at ws starts (from + q))) && eqb (get_or (members_at ws starts (from + q)) j 0) x) ≡ false)
        (ap (λ (t : Bool). t && eqb (get_or (members_at ws starts (from + e)) i 0) x) (le-ltb i (length (members_at ws starts (from + e))) l))

  -- ---- from no slot to all

  pub threaded-none : (n : ℕ) (next : List ℕ) → ThreadedTo ws starts from 0 (replicate n 0) next
  unfolding below
  threaded-none n next =
      record { ends = λ x h. get_or-replicate n x 0 0 (omega (arith, length-replicate {A = ℕ} n 0)); links = λ x s h. absurd (omega arith) }

  module _ (b : ℕ) (last next : List ℕ) (t : ThreadedTo ws starts from b last next) where
    -- slot b holds nothing
    slot_free : ((x : ℕ) → holds_at ws starts from x b ≡ false) → ThreadedTo ws starts from (suc b) last next
    unfolding below
    slot_free f =
        record {
          ends = λ x h. t.ends x h ∙ sym (pick_no (holds_at ws starts from x b) (suc b) (below ws starts from x b) (f x));
          links = λ x s h k. elim (ℕ_discrete s b) [
            | yes z ↦ both (subst (λ (q : ℕ). holds_at ws starts from x q ≡ true) z k) (f x)
            | no z ↦ t.links x s (omega arith) k
          ];
        }

    -- slot b holds y
    slot-taken : (y : ℕ) → ((x : ℕ) → holds_at ws starts from x b ≡ eqb y x) → y < length last → b < length next
        → ThreadedTo ws starts from (suc b) (set last y (suc b)) (set next b (get_or last y 0))
    unfolding below
    slot-taken y f hl hn =
        record {
          ends = λ x h.
              let h' : x < length last = omega (arith, length-set last y (suc b)) in
              elim (ℕ_discrete x y) [
                | yes z ↦
                    ap (λ (q : ℕ). get_or (set last q (suc b)) x 0) (sym z) ∙ get_or-set_same last x (suc b) 0 h'
                    ∙ sym (pick_yes (holds_at ws starts from x b) (suc b) (below ws starts from x b) (f x ∙ eq-eqb y x (sym z)))
                | no z ↦
                    get_or-set_other last y x (suc b) 0 z ∙ t.ends x h'
                    ∙ sym (pick_no (holds_at ws starts from x b) (suc b) (below ws starts from x b) (f x ∙ ne_eqb y x (λ q. z (sym q))))
              ];
          links = λ x s h k. elim (ℕ_discrete s b) [
            | yes z ↦
                let v : y ≡ x = eqb-true y x (sym (f x) ∙ subst (λ (q : ℕ). holds_at ws starts from x q ≡ true) z k) in
                ap (λ (q : ℕ). get_or (set next b (get_or last y 0)) q 0) z ∙ get_or-set_same next b (get_or last y 0) 0 hn ∙ t.ends y hl
                ∙ ap₂ (below ws starts from) v (sym z)
            | no z ↦ get_or-set_other next b s (get_or last y 0) 0 z ∙ t.links x s (omega arith) k
          ];
        }

  -- ---- the slots of equation e

  module _ (e i : ℕ) (last next : List ℕ) (t : ThreadedTo ws starts from (8 * e + i) last next) where
    -- member i
    pub add_member : (y : ℕ) → i < 8 → i < length (members_at ws starts (from + e)) → y ≡ get_or (members_at ws starts (from + e)) i 0 → y < length last → 8 * e + i < length next
        → ThreadedTo ws starts from (8 * e + (i + 1)) (set last y (8 * e + i + 1)) (set next (8 * e + i) (get_or last y 0))
    add_member y h l v hl hn =
        let a : suc (8 * e + i) ≡ 8 * e + (i + 1) = omega arith in
        let b : suc (8 * e + i) ≡ 8 * e + i + 1 = omega arith in
        subst (λ (q : ℕ). ThreadedTo ws starts from (8 * e + (i + 1)) (set last y q) (set next (8 * e + i) (get_or last y 0))) b
        (subst (λ (q : ℕ). ThreadedTo ws starts from q (set last y (suc (8 * e + i))) (set next (8 * e + i) (get_or last y 0))) a
        (slot-taken (8 * e + i) last next t y (λ x. holds-member e i x h l ∙ ap (λ (q : ℕ). eqb q x) (sym v)) hl hn))

  -- the k slots that are left past its members
  pub add_rest : (k e i : ℕ) (last next : List ℕ) → i + k ≡ 8 → length (members_at ws starts (from + e)) ≤ i → ThreadedTo ws starts from (8 * e + i) last next
      → Threaded ws starts from (e + 1) last next
  add_rest zero e i last next h l t = let a : 8 * e + i ≡ 8 * (e + 1) = omega arith in subst (λ (q : ℕ). ThreadedTo ws starts from q last next) a t
  add_rest (suc k) e i last next h l t =
      let a : suc (8 * e + i) ≡ 8 * e + suc i = omega arith in
      add_rest k e (suc i) last next (omega arith) (omega arith)
      (subst (λ (q : ℕ). ThreadedTo ws starts from q last next) a (slot_free (8 * e + i) last next t (λ x. holds_nothing e i x (omega arith) l)))
