-- In the peeling of a layer: an equation is used, or its one absent member stored.
use mathlib.Core.Path.{◌≡◌, refl, sym, ap, ap₂, ◌∙◌, subst}
use mathlib.Core.Logic.{◌⊎◌, inl, inr, ◌≢◌}
use mathlib.Core.Bool.{Bool, true, false, not, ◌&&◌}
use mathlib.Core.List.{List}
use Prim.Native.Nat.{ℕ, suc, ◌*◌, ◌<◌}
use native.Mathlib.Omega.{arith}
use lib.ListN.{length, get_or, set, length-set}
use lib.Seq.{get_or-set_other}
use lib.Dec.{ltb, eqb}
use borrow.Author.Tests.{ltb-true, eqb-true, eqb-false}
use Rattle.parity_table.specs.Members.{every}
use Rattle.parity_table.specs.Table.{layer_of, equation_of}
use Rattle.octets.proofs.Choice.{by_test, and_yes, yes_and, both, not_yes}
use Rattle.model.specs.Shape.{Shape, ShapeOk, place, places}
use Rattle.octets.specs.ByteLists.{xors}
use Rattle.model.specs.Symbols.{xor_of, zeros, others, count, first_of, committed, sym_at, put_at}
use Rattle.model.specs.Repair.{St, use_eq, absent_at, store_sym}
use Rattle.model.specs.Ends.{Roomy, gap_at, filled_in, filled, PeeledAll, Always, Passed, Peels, stores}
use Rattle.model.specs.Finals.{Grown}
use Rattle.model.proofs.Bytes.{sym_self}
use Rattle.model.proofs.Members.{length-xor_of, xor_of_cong}
use Rattle.model.proofs.Counts.{is_it, first_of-passes, every_at, every-others, ascending_once, xor_of-others, others-differ, none-absent, every_both, first_member}
use Rattle.model.proofs.Tables.{TableLaws}
use Rattle.model.proofs.Flat.{put_length, put_there}
use Rattle.model.proofs.Peel.{Inv, inv_use, inv_store, largest-within}
use Rattle.model.proofs.Replay.{SameHeld, passed_keep, peels_keep}
use Rattle.model.proofs.Frame.{room, symbol-sized, put_keep, put_after, mark-after, byte_keep, mark_keep, mark_there, tally-one-more, Keeps, committed_keep, hash_keep, complete_keep, gap_keep, filled_keep, drained_keep}

and-true : (b : Bool) → (b && true) ≡ b
and-true true = refl
and-true false = refl

module _ (S : Shape) (sh : ShapeOk S) (H : ℕ → ℕ → List ℕ → List ℕ) (root : List ℕ) (tbl : List (List (List ℕ))) (ok : TableLaws S tbl) (t₀ m₀ o₀ : List ℕ) (ho : Roomy tbl o₀)
    (j : ℕ) (hj : j < length tbl) (m₁ : List ℕ) where
  -- in the peeling of layer j; m₁ are the marks with which it began
  pub record Mid (st : St) : Type 0 where
    pub last : st.entered ≡ suc j
    pub always : Always S H root tbl t₀ m₀ st.tree st.marks st.stored (suc j)
    pub inv : Inv S H root tbl ok j hj (absent_at S m₁ j) st.marks st.used
    pub gap_is : (i : ℕ) → i < S.n j → absent_at S m₁ j i ≡ gap_at S H root t₀ m₀ st.tree j i
    pub used-holds : (e : ℕ) → e < length (layer_of tbl j) → eqb (get_or st.used e 0) 0 ≡ false → xor_of (sym_at S st.tree j) (equation_of tbl j e) ≡ zeros
    pub out-kept : st.out ≡ o₀

  -- the layer has grown from what was lent
  grown-here : (st : St) → Mid st → Grown S H root tbl t₀ m₀ st.tree st.marks j
  grown-here st i s w n =
      largest-within S H root tbl ok j hj (absent_at S m₁ j) st.marks st.used i.inv s (λ x h t. i.gap_is x h ∙ w x h t)
      (λ e h u. n e h (i.inv.done e h u) (i.used-holds e h u))

  pub grown_mid : (st : St) → Mid st → (l : ℕ) → suc l ≡ st.entered → Grown S H root tbl t₀ m₀ st.tree st.marks l
  grown_mid st i l q = let e : j ≡ l = omega (arith, i.last) in subst (Grown S H root tbl t₀ m₀ st.tree st.marks) e (grown-here st i)

  pub mid_use : (st : St) (e : ℕ) → e < length (layer_of tbl j) → count (absent_at S st.marks j) (equation_of tbl j e) ≡ 0 → xor_of (sym_at S st.tree j) (equation_of tbl j e) ≡ zeros → Mid st → Mid (use_eq e st)
  unfolding use_eq
  mid_use st e h c z i =
      record {
        last = i.last;
        always = i.always;
        inv = inv_use S H root tbl ok j hj (absent_at S m₁ j) st.marks st.used e h c i.inv;
        gap_is = i.gap_is;
        used-holds = λ q k t. by_test (eqb q e)
            (λ u. subst (λ (n : ℕ). xor_of (sym_at S st.tree j) (equation_of tbl j n) ≡ zeros) (sym (eqb-true q e u)) z)
            (λ u. i.used-holds q k (sym (ap (λ (v : ℕ). eqb v 0) (get_or-set_other st.used e q 1 0 (eqb-false q e u))) ∙ t));
        out-kept = i.out-kept;
      }

  -- the one absent member of an equation is stored
  module _ (st : St) (i : Mid st) (e : ℕ) (he : e < length (layer_of tbl j)) (c : count (absent_at S st.marks j) (equation_of tbl j e) ≡ 1) where
    abbrev a : ℕ → Bool
    a = absent_at S st.marks j

    abbrev ms : List ℕ
    ms = equation_of tbl j e

    abbrev x : ℕ
    x = first_of a ms

    abbrev v : List ℕ
    v = xor_of (sym_at S st.tree j) (others x ms)

    x_absent : a x ≡ true
    x_absent = first_of-passes a ms (omega arith)

    x_below : x < S.n j
    x_below = ltb-true x (S.n j) (every_at (λ y. ltb y (S.n j)) a ms (ok.within j e hj he) (omega arith))

    tl : length st.tree ≡ 256 * places S (length tbl)
    tl = i.always.sized.tree-length

    ml : length st.marks ≡ places S (length tbl)
    ml = i.always.sized.marks-length

    sym_full : (y : ℕ) → y < S.n j → length (sym_at S st.tree j y) ≡ 256
    sym_full y h = symbol-sized S tbl st.tree st.marks i.always.sized j y hj h

    v_full : length v ≡ 256
    v_full = length-xor_of (sym_at S st.tree j) (S.n j) sym_full (others x ms) (every-others (λ y. ltb y (S.n j)) x ms (ok.within j e hj he))

    abbrev t' : List ℕ
    t' = put_at S st.tree j x v

    abbrev m' : List ℕ
    m' = set st.marks (place S j x) 1

    here : sym_at S t' j x ≡ v
    here = put_there S st.tree j x v (room S (length tbl) st.tree st.marks tl ml j x hj x_below) v_full

    keep : (l y : ℕ) → y < S.n l → (l ≢ j) ⊎ (y ≢ x) → sym_at S t' l y ≡ sym_at S st.tree l y
    keep = put_keep S (length tbl) st.tree st.marks tl ml j x hj x_below v v_full

    kept-mark : (l y : ℕ) → y < S.n l → (l ≢ j) ⊎ (y ≢ x) → absent_at S m' l y ≡ absent_at S st.marks l y
    kept-mark = mark_keep S (length tbl) st.tree st.marks tl ml j x hj x_below 1

    held-now : absent_at S m' j x ≡ false
    held-now = mark_there S (length tbl) st.tree st.marks tl ml j x hj x_below 1

    keeps_above : (l : ℕ) → l < j → Keeps S sh H root tbl ok st.tree t' l
    keeps_above l h k y b hy = keep k y hy (inl (λ q. omega arith))

    same-committed : (y : ℕ) → committed S root (sym_at S t') j y ≡ committed S root (sym_at S st.tree) j y
    same-committed y = committed_keep S sh H root tbl ok st.tree t' j y (λ k z q b. keep k z b (inl (λ r. omega arith)))

    is_gap : gap_at S H root t₀ m₀ st.tree j x ≡ true
    is_gap = sym (i.gap_is x x_below) ∙ i.inv.inside x x_absent

    same_gap : (y : ℕ) → gap_at S H root t₀ m₀ t' j y ≡ gap_at S H root t₀ m₀ st.tree j y
    same_gap y = gap_keep S sh H root tbl ok t₀ m₀ st.tree t' j y (λ k z q b. keep k z b (inl (λ r. omega arith)))

    one_more : filled_in S H root t₀ m₀ t' m' j ≡ suc (filled_in S H root t₀ m₀ st.tree st.marks j)
    unfolding filled_in
    one_more =
        tally-one-more _ _ (S.n j) x x_below
        (ap (λ (b : Bool). gap_at S H root t₀ m₀ st.tree j x && not b) x_absent ∙ ap (λ (b : Bool). b && false) is_gap)
        (yes_and (same_gap x ∙ is_gap) (ap not held-now))
        (λ y h n. ap₂ (λ (b d : Bool). b && not d) (same_gap y) (kept-mark j y h (inr n)))

    module _ (fit : H j x v ≡ committed S root (sym_at S st.tree) j x) where
      held-here : (y : ℕ) → y < S.n j → absent_at S m' j y ≡ false → H j y (sym_at S t' j y) ≡ committed S root (sym_at S t') j y
      held-here y hy ab =
          by_test (eqb y x)
          (λ u. subst (λ (z : ℕ). H j z (sym_at S t' j z) ≡ committed S root (sym_at S t') j z) (sym (eqb-true y x u)) (ap (H j x) here ∙ fit ∙ sym (same-committed x)))
          (λ u. let n : (j ≢ j) ⊎ (y ≢ x) = inr (eqb-false y x u) in
          ap (H j y) (keep j y hy n) ∙ i.always.held j y (omega arith) hy (sym (kept-mark j y hy n) ∙ ab) ∙ sym (same-committed y))

      -- the equation now holds
      now-holds : xor_of (sym_at S t' j) ms ≡ zeros
      now-holds =
          let within : every (λ y. ltb y (S.n j)) ms ≡ true = ok.within j e hj he in
          let once : count (is_it x) ms ≡ 1 = omega (arith, ascending_once x ms (ok.ascend j e hj he), first_member a ms (omega arith)) in
          let rest : xor_of (sym_at S t' j) (others x ms) ≡ v =
          xor_of_cong (sym_at S t' j) (sym_at S st.tree j) (λ y. not (eqb y x) && ltb y (S.n j))
          (λ y b. let (b₁, b₂) = and_yes (not (eqb y x)) (ltb y (S.n j)) b in
          keep j y (ltb-true y (S.n j) b₂) (inr (eqb-false y x (not_yes (eqb y x) b₁))))
          (others x ms) (every_both (λ y. not (eqb y x)) (λ y. ltb y (S.n j)) (others x ms) (others-differ x ms) (every-others (λ y. ltb y (S.n j)) x ms within)) in
          xor_of-others (sym_at S t' j) x ms once ∙ ap₂ xors here rest ∙ sym_self v v_full

      always_store : Always S H root tbl t₀ m₀ t' m' (suc st.stored) (suc j)
      unfolding filled
      always_store =
          record {
            in_depth = i.always.in_depth;
            sized = record {
              tree-length = put_length S st.tree j x v (room S (length tbl) st.tree st.marks tl ml j x hj x_below) v_full ∙ tl;
              marks-length = length-set st.marks (place S j x) 1 ∙ ml;
            };
            untouched = put_after S (length tbl) st.tree st.marks tl ml j x hj x_below v v_full ∙ i.always.untouched;
            unmarked = mark-after S (length tbl) st.tree st.marks tl ml j x hj x_below 1 ∙ i.always.unmarked;
            counted = omega (arith, i.always.counted, one_more, filled_keep S sh H root tbl ok t₀ m₀ st.tree t' st.marks m' j (λ l h. keeps_above l h) (λ l h y hy. kept-mark l y hy (inl (λ q. omega arith))));
            above = λ l h. complete_keep S sh H root tbl ok st.tree t' st.marks m' l (omega arith) (keeps_above l (omega arith)) (λ y hy. kept-mark l y hy (inl (λ q. omega arith))) (i.always.above l h);
            drained = λ l h. drained_keep S sh H root tbl ok t₀ m₀ st.tree t' l (λ k y q hy. keep k y hy (inl (λ z. omega arith))) (i.always.drained l h);
            held = λ l y h hy ab. by_test (eqb l j)
                (λ u. subst (λ (z : ℕ). y < S.n z → absent_at S m' z y ≡ false → H z y (sym_at S t' z y) ≡ committed S root (sym_at S t') z y) (sym (eqb-true l j u)) (held-here y) hy ab)
                (λ u. let hl : l < j = omega (arith, eqb-false l j u) in
                hash_keep S sh H root tbl ok st.tree t' l y (keeps_above l hl) hy (i.always.held l y h hy (sym (kept-mark l y hy (inl (λ q. omega arith))) ∙ ab)));
            kept = λ l y h hy g. by_test (eqb l j)
                (λ u. subst (λ (z : ℕ). y < S.n z → gap_at S H root t₀ m₀ t' z y ≡ false → (absent_at S m' z y ≡ false) × (sym_at S t' z y ≡ sym_at S t₀ z y)) (sym (eqb-true l j u))
                (λ hz gz. by_test (eqb y x)
                (λ w. both (same_gap x ∙ is_gap) (sym (ap (gap_at S H root t₀ m₀ t' j) (eqb-true y x w)) ∙ gz))
                (λ w. let ne : (j ≢ j) ⊎ (y ≢ x) = inr (eqb-false y x w) in
                let (p, q) = i.always.kept j y (omega arith) hz (sym (same_gap y) ∙ gz) in (kept-mark j y hz ne ∙ p, keep j y hz ne ∙ q))) hy g)
                (λ u. let nl : (l ≢ j) ⊎ (y ≢ x) = inl (eqb-false l j u) in
                let (p, q) = i.always.kept l y h hy (sym (gap_keep S sh H root tbl ok t₀ m₀ st.tree t' l y (λ k z e w. keep k z w (inl (λ r. omega arith)))) ∙ g) in
                (kept-mark l y hy nl ∙ p, keep l y hy nl ∙ q));
            cleared = λ l y h hy n. by_test (eqb l j)
                (λ u. subst (λ (z : ℕ). y < S.n z → absent_at S m' z y ≡ true → (get_or m' (place S z y) 0 ≡ 0) × (sym_at S t' z y ≡ zeros)) (sym (eqb-true l j u))
                (λ hz nz. by_test (eqb y x)
                (λ w. both nz (ap (absent_at S m' j) (eqb-true y x w) ∙ held-now))
                (λ w. let ne : (j ≢ j) ⊎ (y ≢ x) = inr (eqb-false y x w) in
                let (p, q) = i.always.cleared j y (omega arith) hz (sym (kept-mark j y hz ne) ∙ nz) in
                (byte_keep S (length tbl) st.tree st.marks tl ml j x hj x_below 1 j y hz ne ∙ p, keep j y hz ne ∙ q))) hy n)
                (λ u. let nl : (l ≢ j) ⊎ (y ≢ x) = inl (eqb-false l j u) in
                let (p, q) = i.always.cleared l y h hy (sym (kept-mark l y hy nl) ∙ n) in
                (byte_keep S (length tbl) st.tree st.marks tl ml j x hj x_below 1 l y hy nl ∙ p, keep l y hy nl ∙ q));
          }

      -- an equation used before holds still
      still_holds : (q : ℕ) → q < length (layer_of tbl j) → eqb (get_or st.used q 0) 0 ≡ false → xor_of (sym_at S t' j) (equation_of tbl j q) ≡ zeros
      still_holds q hq t =
          xor_of_cong (sym_at S t' j) (sym_at S st.tree j) (λ y. not (a y) && ltb y (S.n j))
          (λ y b. let (b₁, b₂) = and_yes (not (a y)) (ltb y (S.n j)) b in
          keep j y (ltb-true y (S.n j) b₂) (inr (λ r. both (ap a r ∙ x_absent) (not_yes (a y) b₁))))
          (equation_of tbl j q) (every_both (λ y. not (a y)) (λ y. ltb y (S.n j)) (equation_of tbl j q) (none-absent a (equation_of tbl j q) (i.inv.done q hq t)) (ok.within j q hj hq))
          ∙ i.used-holds q hq t

      pub mid_store : Mid (store_sym S j e x v st)
      unfolding store_sym
      mid_store =
          record {
            last = i.last;
            always = always_store;
            inv = inv_store S H root tbl ok j hj (absent_at S m₁ j) st.marks st.used e he c i.inv;
            gap_is = λ y hy. i.gap_is y hy ∙ sym (same_gap y);
            used-holds = λ q k t. by_test (eqb q e)
                (λ u. subst (λ (n : ℕ). xor_of (sym_at S t' j) (equation_of tbl j n) ≡ zeros) (sym (eqb-true q e u)) now-holds)
                (λ u. still_holds q k (sym (ap (λ (w : ℕ). eqb w 0) (get_or-set_other st.used e q 1 0 (eqb-false q e u))) ∙ t));
            out-kept = i.out-kept;
          }

      -- ---- how the layers were peeled, with this symbol

      -- symbols that are held stay as they are
      held_same : SameHeld S tbl ok j hj st.tree t' a
      held_same y l q = keep j y l (inr (λ r. both (ap a r ∙ x_absent) q))

      left-now : (y : ℕ) → y < S.n j → absent_at S m' j y ≡ (a y && not (eqb y x))
      left-now y l =
          by_test (eqb y x)
          (λ u. ap (absent_at S m' j) (eqb-true y x u) ∙ held-now ∙ sym (ap₂ (λ (p q : Bool). p && not q) (ap a (eqb-true y x u) ∙ x_absent) u))
          (λ u. kept-mark j y l (inr (eqb-false y x u)) ∙ sym (ap (λ (q : Bool). a y && not q) u ∙ and-true (a y)))

      pub peeled_store : ((q : ℕ) → q < e → Passed S tbl st.tree j a q) → PeeledAll S H root tbl t₀ m₀ st → PeeledAll S H root tbl t₀ m₀ (store_sym S j e x v st)
      unfolding store_sym
      peeled_store low p l h =
          by_test (eqb l j)
          (λ u. subst (λ (z : ℕ). Peels S tbl t' z (gap_at S H root t₀ m₀ t' z) (absent_at S m' z)) (sym (eqb-true l j u))
          (stores (peels_keep S tbl ok j hj st.tree t' (p j (omega (arith, i.last))) (λ y k. same_gap y) (λ y k. refl) held_same) e x he c refl now-holds
          (λ q k. passed_keep S tbl ok j hj st.tree t' a held_same q (omega arith) (low q k)) left-now))
          (λ u. let hl : l < j = omega (arith, i.last, eqb-false l j u) in
          peels_keep S tbl ok l (omega arith) st.tree t' (p l h)
          (λ y hy. gap_keep S sh H root tbl ok t₀ m₀ st.tree t' l y (λ k z q w. keep k z w (inl (λ r. omega arith))))
          (λ y hy. kept-mark l y hy (inl (λ q. omega arith))) (λ y hy q. keep l y hy (inl (λ r. omega arith))))
