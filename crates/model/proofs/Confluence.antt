-- Any two final states for the same lent symbols are alike, whatever turns led to them.
use mathlib.Core.Path.{◌≡◌, refl, sym, ap, ap₂, ◌∙◌, subst}
use mathlib.Core.Logic.{◌≢◌, inl, ⊎_elim}
use mathlib.Core.Bool.{Bool, false, not, ◌&&◌, ◌||◌, false≢true}
use mathlib.Core.List.{List}
use Prim.Native.Nat.{ℕ, zero, suc, ◌≤◌, ◌<◌}
use native.Mathlib.Omega.{arith}
use native.Mathlib.Decide.{dec_lt}
use lib.ListN.{length, get_or}
use lib.Dec.{ltb, eqb}
use borrow.Author.Tests.{ltb-true, eqb-true, eqb-false}
use Rattle.octets.proofs.Choice.{by_test, both, not_no}
use Rattle.octets.specs.ByteLists.{same}
use Rattle.parity_table.specs.Table.{layer_of, equation_of}
use Rattle.model.specs.Shape.{Shape, ShapeOk, place}
use Rattle.model.specs.Symbols.{count, sym_at, committed}
use Rattle.model.specs.Repair.{St, absent_at}
use Rattle.model.specs.Ends.{Stopping, Closed, gap_at, filled, Complete, Drained}
use Rattle.model.specs.Alike.{Kind, unfinished, complete, missing, refuted, kind_of, SameLent, Alike}
use Rattle.model.specs.Finals.{Grown, Refuted, LastLayer, Final}
use Rattle.model.proofs.Counts.{every-none}
use Rattle.model.proofs.Tables.{TableLaws}
use Rattle.model.proofs.Frame.{filled_cong, sym_below, byte-below, committed_keep, symbol-sized, as_absent}
use Rattle.model.proofs.Agreement.{Filling, Agreement, agreement}

lent_back : (S : Shape) (tbl : List (List (List ℕ))) (t₀ m₀ t₁ m₁ : List ℕ) → SameLent S tbl t₀ m₀ t₁ m₁ → SameLent S tbl t₁ m₁ t₀ m₀
lent_back S tbl t₀ m₀ t₁ m₁ k l h = record { marks = λ i b. sym ((k l h).marks i b); symbols = λ i b. sym ((k l h).symbols i b) }

module _ (S : Shape) (sh : ShapeOk S) (H : ℕ → ℕ → List ℕ → List ℕ) (root : List ℕ) (tbl : List (List (List ℕ))) (ok : TableLaws S tbl) where
  -- ---- complete layers

  complete-none : (t m : List ℕ) (l : ℕ) → l < length tbl → Complete S H root tbl t m l → (e : ℕ) → e < length (layer_of tbl l) → count (absent_at S m l) (equation_of tbl l e) ≡ 0
  complete-none t m l hl c e h = every-none (λ x. ltb x (S.n l)) (absent_at S m l) (λ x w. c.full x (ltb-true x (S.n l) w)) (equation_of tbl l e) (ok.within l e hl h)

  complete_closed : (t m : List ℕ) (l : ℕ) → l < length tbl → Complete S H root tbl t m l → Closed S tbl t l (absent_at S m l)
  complete_closed t m l hl c e h = inl (complete-none t m l hl c e h, c.holds e h)

  pub complete-grown : (t₀ m₀ t m : List ℕ) (l : ℕ) → l < length tbl → Complete S H root tbl t m l → Drained S H root tbl t₀ m₀ t l → Grown S H root tbl t₀ m₀ t m l
  unfolding Stopping
  complete-grown t₀ m₀ t m l hl c dr s w n x h b =
      absurd (false≢true (dr.contains s w (λ e k. n e k (complete-none t m l hl c e k) (c.holds e k)) x h b))

  -- ---- the layers of a final state

  module _ (t₀ m₀ : List ℕ) (st : St) (f : Final S H root tbl t₀ m₀ st) where
    pub grown_at : (l : ℕ) → l < st.entered → Grown S H root tbl t₀ m₀ st.tree st.marks l
    grown_at l h =
        elim (dec_lt (suc l) st.entered) [
          | yes k ↦ complete-grown t₀ m₀ st.tree st.marks l (omega (arith, f.always.in_depth)) (f.always.above l k) (f.always.drained l k)
          | no k ↦ f.grown l (omega arith)
        ]

    closed_last : (l : ℕ) → suc l ≡ st.entered → (k : Kind) → LastLayer S H root tbl st k → k ≢ refuted l → Closed S tbl st.tree l (absent_at S st.marks l)
    closed_last l h unfinished s n = absurd s
    closed_last l h complete s n = complete_closed st.tree st.marks l (omega (arith, s.0)) (s.1 l (omega (arith, s.0)))
    closed_last l h (missing i) s n = let e : i ≡ l = omega (arith, s.0) in subst (λ (z : ℕ). Closed S tbl st.tree z (absent_at S st.marks z)) e s.1
    closed_last l h (refuted i) s n = let e : i ≡ l = omega (arith, s.0) in absurd (n (ap refuted e))

    pub closed_at : (l : ℕ) → l < st.entered → kind_of st.end ≢ refuted l → Closed S tbl st.tree l (absent_at S st.marks l)
    closed_at l h n =
        elim (dec_lt (suc l) st.entered) [
          | yes k ↦ complete_closed st.tree st.marks l (omega (arith, f.always.in_depth)) (f.always.above l k)
          | no k ↦ closed_last l (omega arith) (kind_of st.end) f.last n
        ]

    some-entered : (k : Kind) → LastLayer S H root tbl st k → 0 < st.entered
    some-entered unfinished s = absurd s
    some-entered complete s = omega (arith, s.0, ok.deep)
    some-entered (missing i) s = omega (arith, s.0)
    some-entered (refuted i) s = omega (arith, s.0)

  -- ---- two final states, one after the other

  module _ (t₀ m₀ t₁ m₁ : List ℕ) (lent : SameLent S tbl t₀ m₀ t₁ m₁) (a b : St) (fa : Final S H root tbl t₀ m₀ a) (fb : Final S H root tbl t₁ m₁ b) where
    in_table : (j : ℕ) → j < a.entered → j < length tbl
    in_table j ha = omega (arith, fa.always.in_depth)

    -- layer j, under layers that are the same
    module _ (j : ℕ) (ha : j < a.entered) (hb : j < b.entered) (up : (k y : ℕ) → suc k ≡ j → y < S.n k → sym_at S b.tree k y ≡ sym_at S a.tree k y) where
      commit : (y : ℕ) → committed S root (sym_at S b.tree) j y ≡ committed S root (sym_at S a.tree) j y
      commit y = committed_keep S sh H root tbl ok a.tree b.tree j y up

      same_gap : (i : ℕ) → i < S.n j → gap_at S H root t₀ m₀ a.tree j i ≡ gap_at S H root t₁ m₁ b.tree j i
      unfolding gap_at
      same_gap i h =
          ap₂ (λ (p q : Bool). p || not q) (as_absent S m₀ m₁ j i ((lent j (in_table j ha)).marks i h)) (ap₂ same (ap (H j i) ((lent j (in_table j ha)).symbols i h)) (sym (commit i)))

      -- where the second is closed, it is a filling beside the first
      filling : Closed S tbl b.tree j (absent_at S b.marks j) → Filling S H root tbl t₀ m₀ a.tree j (sym_at S b.tree j) (absent_at S b.marks j)
      filling cl =
          record {
            sized = λ y h. symbol-sized S tbl b.tree b.marks fb.always.sized j y (in_table j ha) h;
            lent = λ y h n. (fa.always.kept j y ha h n).1 ∙ (lent j (in_table j ha)).symbols y h ∙ sym (fb.always.kept j y hb h (sym (same_gap y h) ∙ n)).1;
            in_gaps = λ x h ab. same_gap x h ∙ by_test (gap_at S H root t₁ m₁ b.tree j x) (λ n. n) (λ n. both ab (fb.always.kept j x hb h n).0);
            fits = λ y h n. fb.always.held j y hb h n ∙ commit y;
            stops = λ e he one. ⊎_elim (λ z. omega (arith, z.0)) (λ two. omega arith) (cl e he);
            holds = λ e he none. ⊎_elim (λ z. z.1) (λ two. absurd (omega arith)) (cl e he);
          }

      agreement_under : Closed S tbl b.tree j (absent_at S b.marks j) → Agreement S H root tbl t₀ m₀ a.tree j a.marks (sym_at S b.tree j) (absent_at S b.marks j)
      agreement_under cl =
          agreement S H root tbl t₀ m₀ a.tree j ok (in_table j ha) (λ y h. symbol-sized S tbl a.tree a.marks fa.always.sized j y (in_table j ha) h) a.marks (grown_at t₀ m₀ a fa j ha)
          (sym_at S b.tree j) (absent_at S b.marks j) (filling cl)

    -- the layers that both have gone past are the same
    tops : (d : ℕ) → d < a.entered → d < b.entered → (l i : ℕ) → l < d → i < S.n l → sym_at S b.tree l i ≡ sym_at S a.tree l i
    tops zero ha hb l i hl hi = absurd (omega arith)
    tops (suc d) ha hb l i hl hi =
        by_test (eqb l d)
        (λ u. subst (λ (z : ℕ). i < S.n z → sym_at S b.tree z i ≡ sym_at S a.tree z i) (sym (eqb-true l d u))
        (λ k. sym ((agreement_under d (omega arith) (omega arith) (λ q y e hy. tops d (omega arith) (omega arith) q y (omega arith) hy)
        (complete_closed b.tree b.marks d (omega (arith, fb.always.in_depth)) (fb.always.above d hb))).held i k ((fa.always.above d ha).full i k))) hi)
        (λ u. tops d (omega arith) (omega arith) l i (omega (arith, eqb-false l d u)) hi)

    module _ (j : ℕ) (ha : j < a.entered) (hb : j < b.entered) where
      up : (k y : ℕ) → suc k ≡ j → y < S.n k → sym_at S b.tree k y ≡ sym_at S a.tree k y
      up k y e hy = tops j ha hb k y (omega arith) hy

      gap_at_lem : (i : ℕ) → i < S.n j → gap_at S H root t₀ m₀ a.tree j i ≡ gap_at S H root t₁ m₁ b.tree j i
      gap_at_lem = same_gap j ha hb up

      agreement_at : Closed S tbl b.tree j (absent_at S b.marks j) → Agreement S H root tbl t₀ m₀ a.tree j a.marks (sym_at S b.tree j) (absent_at S b.marks j)
      agreement_at = agreement_under j ha hb up

  -- a layer that one has completed is not the last of the other, unless that is complete too
  module _ (t₀ m₀ t₁ m₁ : List ℕ) (lent : SameLent S tbl t₀ m₀ t₁ m₁) (a b : St) (fa : Final S H root tbl t₀ m₀ a) (fb : Final S H root tbl t₁ m₁ b) where
    ends_in : (k : Kind) → LastLayer S H root tbl b k → (j : ℕ) → suc j ≡ b.entered → j < a.entered → Complete S H root tbl a.tree a.marks j → (k ≡ complete) × (b.entered ≡ length tbl)
    ends_in unfinished s j e h c = absurd s
    ends_in complete s j e h c = (refl, s.0)
    ends_in (missing i) s j e h c =
        let q : i ≡ j = omega (arith, s.0) in
        let (_, cl, w) = s in
        let (x, hx, ab) = w in
        both ((agreement_at t₀ m₀ t₁ m₁ lent a b fa fb i (omega arith) (omega (arith, s.0)) cl).fewer x hx ab) (subst (λ (z : ℕ). x < S.n z → absent_at S a.marks z x ≡ false) (sym q) (c.full x) hx)
    ends_in (refuted i) s j e h c =
        let q : i ≡ j = omega (arith, s.0) in
        absurd ((agreement_at t₁ m₁ t₀ m₀ (lent_back S tbl t₀ m₀ t₁ m₁ lent) b a fb fa j (omega arith) h
        (complete_closed a.tree a.marks j (omega (arith, fa.always.in_depth)) c)).unrefuted (subst (Refuted S H root tbl b.tree b.marks) q s.1))

    not_before : b.entered < a.entered → ⊥
    not_before h = go b.entered refl
      where
        go : (d : ℕ) → d ≡ b.entered → ⊥
        go zero e = omega (arith, some-entered t₁ m₁ b fb (kind_of b.end) fb.last)
        go (suc j) e =
            let (p, q) = ends_in (kind_of b.end) fb.last j e (omega arith) (fa.always.above j (omega arith)) in
            omega (arith, fa.always.in_depth)

    -- where the first is complete in every layer, the second is
    complete_too : a.entered ≡ b.entered → LastLayer S H root tbl a complete → (k : Kind) → LastLayer S H root tbl b k → k ≡ complete
    complete_too e s k s' = go b.entered refl
      where
        go : (d : ℕ) → d ≡ b.entered → k ≡ complete
        go zero q = absurd (omega (arith, some-entered t₁ m₁ b fb k s'))
        go (suc j) q = (ends_in k s' j q (omega arith) (s.1 j (omega (arith, s.0)))).0

    not_refuted : a.entered ≡ b.entered → (i l : ℕ) → LastLayer S H root tbl a (refuted i) → LastLayer S H root tbl b (missing l) → ⊥
    not_refuted e i l s s' =
        let q : i ≡ l = omega (arith, s.0, s'.0) in
        (agreement_at t₀ m₀ t₁ m₁ lent a b fa fb l (omega (arith, s'.0)) (omega (arith, s'.0)) s'.1).unrefuted (subst (Refuted S H root tbl a.tree a.marks) q s.1)

  -- ---- two final states are alike

  module _ (t₀ m₀ t₁ m₁ : List ℕ) (lent : SameLent S tbl t₀ m₀ t₁ m₁) (a b : St) (fa : Final S H root tbl t₀ m₀ a) (fb : Final S H root tbl t₁ m₁ b) where
    back : SameLent S tbl t₁ m₁ t₀ m₀
    back = lent_back S tbl t₀ m₀ t₁ m₁ lent

    same-entered : a.entered ≡ b.entered
    same-entered =
        elim (dec_lt a.entered b.entered) [
          | yes h ↦ absurd (not_before t₁ m₁ t₀ m₀ back b a fb fa h)
          | no h ↦ elim (dec_lt b.entered a.entered) [
            | yes k ↦ absurd (not_before t₀ m₀ t₁ m₁ lent a b fa fb k)
            | no k ↦ omega arith
          ]
        ]

    same_kind : (k k' : Kind) → LastLayer S H root tbl a k → LastLayer S H root tbl b k' → k ≡ k'
    same_kind unfinished k' s s' = absurd s
    same_kind complete k' s s' = sym (complete_too t₀ m₀ t₁ m₁ lent a b fa fb same-entered s k' s')
    same_kind (missing i) unfinished s s' = absurd s'
    same_kind (missing i) complete s s' = complete_too t₁ m₁ t₀ m₀ back b a fb fa (sym same-entered) s' (missing i) s
    same_kind (missing i) (missing l) s s' = ap missing (omega (arith, same-entered, s.0, s'.0))
    same_kind (missing i) (refuted l) s s' = absurd (not_refuted t₁ m₁ t₀ m₀ back b a fb fa (sym same-entered) l i s' s)
    same_kind (refuted i) unfinished s s' = absurd s'
    same_kind (refuted i) complete s s' = complete_too t₁ m₁ t₀ m₀ back b a fb fa (sym same-entered) s' (refuted i) s
    same_kind (refuted i) (missing l) s s' = absurd (not_refuted t₀ m₀ t₁ m₁ lent a b fa fb same-entered i l s s')
    same_kind (refuted i) (refuted l) s s' = ap refuted (omega (arith, same-entered, s.0, s'.0))

    kinds-same : kind_of a.end ≡ kind_of b.end
    kinds-same = same_kind (kind_of a.end) (kind_of b.end) fa.last fb.last

    module _ (l i : ℕ) (hl : l < length tbl) (hi : i < S.n l) (nr : kind_of a.end ≢ refuted l) where
      abbrev Equal : Type 0
      Equal = (get_or a.marks (place S l i) 0 ≡ get_or b.marks (place S l i) 0) × (sym_at S a.tree l i ≡ sym_at S b.tree l i)

      equal-entered : l < a.entered → Equal
      unfolding absent_at
      equal-entered h =
          let h' : l < b.entered = omega (arith, same-entered) in
          let ca : Closed S tbl a.tree l (absent_at S a.marks l) = closed_at t₀ m₀ a fa l h nr in
          let cb : Closed S tbl b.tree l (absent_at S b.marks l) = closed_at t₁ m₁ b fb l h' (λ e. nr (kinds-same ∙ e)) in
          by_test (absent_at S a.marks l i)
          (λ t. let (p, q) = fa.always.cleared l i h hi t in
          let (p', q') = fb.always.cleared l i h' hi ((agreement_at t₁ m₁ t₀ m₀ back b a fb fa l h' h ca).fewer i hi t) in
          (p ∙ sym p', q ∙ sym q'))
          (λ t. let t' : absent_at S b.marks l i ≡ false = by_test (absent_at S b.marks l i) (λ u. both ((agreement_at t₀ m₀ t₁ m₁ lent a b fa fb l h h' cb).fewer i hi u) t) (λ u. u) in
          (eqb-true _ 1 (not_no _ t) ∙ sym (eqb-true _ 1 (not_no _ t')), (agreement_at t₀ m₀ t₁ m₁ lent a b fa fb l h h' cb).held i hi t))

      -- a layer that was not entered is as it was lent
      equal-below : a.entered ≤ l → Equal
      equal-below h = (
        byte-below S a.entered l i h a.marks m₀ fa.always.unmarked ∙ (lent l hl).marks i hi ∙ sym (byte-below S b.entered l i (omega (arith, same-entered)) b.marks m₁ fb.always.unmarked),
        sym_below S a.entered l i h a.tree t₀ fa.always.untouched ∙ (lent l hl).symbols i hi ∙ sym (sym_below S b.entered l i (omega (arith, same-entered)) b.tree t₁ fb.always.untouched),
      )

      equal : Equal
      equal = elim (dec_lt l a.entered) [ yes h ↦ equal-entered h | no h ↦ equal-below (omega arith) ]

    stored_same : ((l : ℕ) → kind_of a.end ≢ refuted l) → a.stored ≡ b.stored
    stored_same nr =
        fa.always.counted
        ∙ filled_cong S H root t₁ m₁ b.tree b.marks t₀ m₀ a.tree a.marks a.entered
        (λ l i h hi. ap₂ (λ (p q : Bool). p && not q) (gap_at_lem t₀ m₀ t₁ m₁ lent a b fa fb l h (omega (arith, same-entered)) i hi)
        (as_absent S a.marks b.marks l i (equal l i (omega (arith, fa.always.in_depth)) hi (nr l)).0))
        ∙ ap (filled S H root t₁ m₁ b.tree b.marks) same-entered
        ∙ sym fb.always.counted

    pub alike : Alike S tbl a b
    alike =
        record {
          kinds = kinds-same;
          layers-entered = same-entered;
          layers = λ l hl nr. record { marks = λ i hi. (equal l i hl hi nr).0; symbols = λ i hi. (equal l i hl hi nr).1 };
          stored_same = stored_same;
        }
