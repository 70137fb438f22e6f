-- Two repairs of genuine symbols: where what the first was lent is among what the second holds at its end, so is what the first holds at its own; and where
-- this is so of each beside the other, both end alike.
use mathlib.Core.Path.{◌≡◌, refl, sym, ap, ap₂, ◌∙◌, subst}
use mathlib.Core.Logic.{◌≢◌}
use mathlib.Core.Bool.{Bool, not, ◌&&◌}
use mathlib.Core.List.{List}
use Prim.Native.Nat.{ℕ, ◌≤◌, ◌<◌}
use native.Mathlib.Omega.{arith}
use native.Mathlib.Decide.{dec_lt, dec_le}
use lib.ListN.{length}
use Rattle.octets.proofs.Choice.{by_test, both}
use Rattle.model.specs.Shape.{Shape}
use Rattle.model.specs.Coded.{InTree}
use Rattle.model.specs.Repair.{End, working, whole, fault, unavailable, twins, St, absent_at}
use Rattle.model.specs.Ends.{Within, filled}
use Rattle.model.specs.Alike.{Kind, unfinished, complete, missing, refuted, kind_of}
use Rattle.model.specs.Finals.{LastLayer}
use Rattle.model.specs.Genuine.{HoldsAll, GenuineEnd}
use Rattle.model.proofs.Frame.{mark-below, filled_cong}

-- an end that is no fault and no twins is told by its kind
end_of : Kind → End
end_of unfinished = working
end_of complete = whole
end_of (missing j) = unavailable j
end_of (refuted j) = working

end_is : (z : End) → ((l : ℕ) → kind_of z ≢ refuted l) → z ≡ end_of (kind_of z)
unfolding end_of
end_is working n = refl
end_is whole n = refl
end_is (fault j e x s) n = absurd (n j refl)
end_is (unavailable j) n = refl
end_is (twins j x) n = absurd (n j refl)

module _ (S : Shape) (H : ℕ → ℕ → List ℕ → List ℕ) (root : List ℕ) (tbl : List (List (List ℕ))) (f : ℕ → ℕ → List ℕ) where
  -- ---- what the first was lent, the second holds at its end

  module _ (t₁ m₁ t₂ m₂ : List ℕ) (a b : St) (ga : GenuineEnd S tbl H root f t₁ m₁ a) (gb : GenuineEnd S tbl H root f t₂ m₂ b) (more : HoldsAll S tbl m₁ b.marks) where
    -- what the second lacks in a layer that both entered is a stopping set within what the first was lent absent
    lacks : (j : ℕ) → j < a.entered → j < b.entered → Within (S.n j) (absent_at S b.marks j) (absent_at S a.marks j)
    lacks j ha hb =
        (ga.largest j ha).contains (absent_at S b.marks j)
        (λ x h e. by_test (absent_at S m₁ j x) (λ k. k) (λ k. both e (more j x (omega (arith, ga.final.always.in_depth), h) k)))
        (gb.largest j hb).stopping

    -- the layers above the last that the first entered are complete
    not_nearer : (k : Kind) → LastLayer S H root tbl b k → ((l : ℕ) → k ≢ refuted l) → b.entered < a.entered → ⊥
    not_nearer unfinished s n h = s
    not_nearer complete s n h = omega (arith, s.0, ga.final.always.in_depth)
    not_nearer (missing j) s n h =
        let (e, _, w) = s in
        let (x, hx, ab) = w in
        both (lacks j (omega arith) (omega arith) x hx ab) ((ga.final.always.above j (omega arith)).full x hx)
    not_nearer (refuted j) s n h = n j refl

    entered-more : a.entered ≤ b.entered
    entered-more = elim (dec_le a.entered b.entered) [ yes h ↦ h | no h ↦ absurd (not_nearer (kind_of b.end) gb.final.last gb.unrefuted (omega arith)) ]

    pub never_less : HoldsAll S tbl a.marks b.marks
    never_less l i h held =
        elim (dec_lt l a.entered) [
          | yes k ↦ by_test (absent_at S b.marks l i) (λ e. both (lacks l k (omega (arith, entered-more)) i h.1 e) held) (λ e. e)
          | no k ↦ more l i h (sym (mark-below S a.entered l i (omega arith) a.marks m₁ ga.final.always.unmarked) ∙ held)
        ]

    complete_too : LastLayer S H root tbl a complete → (k : Kind) → LastLayer S H root tbl b k → ((l : ℕ) → k ≢ refuted l) → k ≡ complete
    complete_too s unfinished s' n = absurd s'
    complete_too s complete s' n = refl
    complete_too s (missing j) s' n =
        let (e, _, w) = s' in
        let (x, hx, ab) = w in
        let hj : j < length tbl = omega (arith, gb.final.always.in_depth) in
        both ab (never_less j x (hj, hx) ((s.1 j hj).full x hx))
    complete_too s (refuted j) s' n = absurd (n j refl)

    pub whole_too : a.end ≡ whole → b.end ≡ whole
    unfolding end_of
    whole_too e =
        end_is b.end gb.unrefuted
        ∙ ap end_of (complete_too (subst (λ (z : End). LastLayer S H root tbl a (kind_of z)) e ga.final.last) (kind_of b.end) gb.final.last gb.unrefuted)

  -- ---- what each was lent, the other holds at its end

  module _ (t₁ m₁ t₂ m₂ : List ℕ) (a b : St) (ga : GenuineEnd S tbl H root f t₁ m₁ a) (gb : GenuineEnd S tbl H root f t₂ m₂ b)
      (more : HoldsAll S tbl m₁ b.marks) (less : HoldsAll S tbl m₂ a.marks) where
    same-entered : a.entered ≡ b.entered
    same-entered = omega (arith, entered-more t₁ m₁ t₂ m₂ a b ga gb more, entered-more t₂ m₂ t₁ m₁ b a gb ga less)

    pub same-absent : (l i : ℕ) → InTree S tbl l i → absent_at S a.marks l i ≡ absent_at S b.marks l i
    same-absent l i h =
        by_test (absent_at S a.marks l i)
        (λ e. e ∙ by_test (absent_at S b.marks l i) sym (λ k. both e (never_less t₂ m₂ t₁ m₁ b a gb ga less l i h k)))
        (λ e. e ∙ sym (never_less t₁ m₁ t₂ m₂ a b ga gb more l i h e))

    -- with the same symbols lent absent, as many were stored
    pub same-stored : ((l i : ℕ) → InTree S tbl l i → absent_at S m₁ l i ≡ absent_at S m₂ l i) → a.stored ≡ b.stored
    same-stored lent =
        ga.final.always.counted
        ∙ filled_cong S H root t₂ m₂ b.tree b.marks t₁ m₁ a.tree a.marks a.entered
        (λ l i h k.
        let inside : InTree S tbl l i = (omega (arith, ga.final.always.in_depth), k) in
        ap₂ (λ (p q : Bool). p && not q) (ga.gaps l i h k ∙ lent l i inside ∙ sym (gb.gaps l i (omega (arith, same-entered)) k)) (same-absent l i inside))
        ∙ ap (filled S H root t₂ m₂ b.tree b.marks) same-entered
        ∙ sym gb.final.always.counted

    same_kind : (k k' : Kind) → LastLayer S H root tbl a k → LastLayer S H root tbl b k' → ((l : ℕ) → k ≢ refuted l) → ((l : ℕ) → k' ≢ refuted l) → k ≡ k'
    same_kind unfinished k' s s' n n' = absurd s
    same_kind (refuted i) k' s s' n n' = absurd (n i refl)
    same_kind complete k' s s' n n' = sym (complete_too t₁ m₁ t₂ m₂ a b ga gb more s k' s' n')
    same_kind (missing i) unfinished s s' n n' = absurd s'
    same_kind (missing i) complete s s' n n' = complete_too t₂ m₂ t₁ m₁ b a gb ga less s' (missing i) s n
    same_kind (missing i) (missing j) s s' n n' = ap missing (omega (arith, same-entered, s.0, s'.0))
    same_kind (missing i) (refuted j) s s' n n' = absurd (n' j refl)

    pub same_end : a.end ≡ b.end
    same_end =
        end_is a.end ga.unrefuted ∙ ap end_of (same_kind (kind_of a.end) (kind_of b.end) ga.final.last gb.final.last ga.unrefuted gb.unrefuted)
        ∙ sym (end_is b.end gb.unrefuted)
