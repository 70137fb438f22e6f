-- (a): the sweep of a layer, which makes its gaps absent and zero.
use mathlib.Core.Path.{◌≡◌, refl, sym, ap, ap₂, ◌∙◌, subst}
use mathlib.Core.Logic.{◌⊎◌, inl, inr, ◌≢◌}
use mathlib.Core.Bool.{Bool, true, false, not, ◌&&◌, ◌||◌}
use mathlib.Core.List.{List}
use Prim.Native.Nat.{ℕ, zero, suc, ◌+◌, ◌*◌, ◌≤◌, ◌<◌}
use native.Mathlib.Nat.{add-zero, zero-add}
use native.Mathlib.Omega.{arith}
use lib.ListN.{length, get_or, drop, set, length-set}
use lib.Seq.{get_or-set_same}
use lib.Dec.{eqb}
use borrow.Author.Tests.{eqb-true, eqb-false}
use Rattle.octets.proofs.Choice.{by_test, pick_ind, and_yes, both, not_yes, not_no}
use Rattle.model.specs.Shape.{Shape, ShapeOk, place, places}
use Rattle.octets.specs.ByteLists.{same}
use Rattle.model.specs.Symbols.{zeros, committed, sym_at, put_at}
use Rattle.model.specs.Repair.{working, St, absent_at, erase_sym, fits_at, sweep_at, sweep}
use Rattle.model.specs.Ends.{Sized, gap_at}
use Rattle.model.proofs.Bytes.{length-zeros}
use Rattle.model.proofs.Tables.{TableLaws}
use Rattle.model.proofs.Flat.{put_there, put_length}
use Rattle.model.proofs.Frame.{room, mark-room, put_keep, put_after, mark-after, byte_keep, mark_keep, mark_there, committed_keep}

-- a symbol is no gap where it is held and its hash fits
pub no_gap_is : (a b : Bool) → (not a && b) ≡ not (a || not b)
no_gap_is true b = refl
no_gap_is false true = refl
no_gap_is false false = refl

module _ (S : Shape) (sh : ShapeOk S) (H : ℕ → ℕ → List ℕ → List ℕ) (root : List ℕ) (tbl : List (List (List ℕ))) (ok : TableLaws S tbl) where
  -- st is st₁ swept up to number i of layer j
  pub record Swept (j : ℕ) (st₁ : St) (i : ℕ) (st : St) : Type 0 where
    pub sized : Sized S tbl st.tree st.marks
    pub frame : (l y : ℕ) → l < length tbl → y < S.n l → l ≢ j → sym_at S st.tree l y ≡ sym_at S st₁.tree l y
    pub frame_marks : (l y : ℕ) → l < length tbl → y < S.n l → l ≢ j → get_or st.marks (place S l y) 0 ≡ get_or st₁.marks (place S l y) 0
    pub tail : drop (256 * places S (suc j)) st.tree ≡ drop (256 * places S (suc j)) st₁.tree
    pub tail_marks : drop (places S (suc j)) st.marks ≡ drop (places S (suc j)) st₁.marks
    pub later : (y : ℕ) → i ≤ y → y < S.n j → sym_at S st.tree j y ≡ sym_at S st₁.tree j y
    pub later_marks : (y : ℕ) → i ≤ y → y < S.n j → absent_at S st.marks j y ≡ absent_at S st₁.marks j y
    pub gap_is : (y : ℕ) → y < i → y < S.n j → absent_at S st.marks j y ≡ gap_at S H root st₁.tree st₁.marks st₁.tree j y
    pub no_gap : (y : ℕ) → y < i → y < S.n j → absent_at S st.marks j y ≡ false → sym_at S st.tree j y ≡ sym_at S st₁.tree j y
    pub emptied : (y : ℕ) → y < i → y < S.n j → absent_at S st.marks j y ≡ true → (get_or st.marks (place S j y) 0 ≡ 0) × (sym_at S st.tree j y ≡ zeros)
    pub same_out : st.out ≡ st₁.out
    pub same-used : st.used ≡ st₁.used
    pub same-stored : st.stored ≡ st₁.stored
    pub same-entered : st.entered ≡ st₁.entered
    pub same_end : st.end ≡ working

  module _ (j : ℕ) (hj : j < length tbl) (st₁ : St) where
    pub same-committed : (i : ℕ) (st : St) → Swept j st₁ i st → (y : ℕ) → committed S root (sym_at S st.tree) j y ≡ committed S root (sym_at S st₁.tree) j y
    same-committed i st s y = committed_keep S sh H root tbl ok st₁.tree st.tree j y (λ k z q b. s.frame k z (omega arith) b (λ r. omega arith))

    abbrev gap₁ : ℕ → Bool
    gap₁ = gap_at S H root st₁.tree st₁.marks st₁.tree j

    -- the symbol at i is kept where it is held and has the committed hash
    test-is : (i : ℕ) (st : St) → Swept j st₁ i st → i < S.n j
        → (not (absent_at S st.marks j i) && fits_at S H root st j i (sym_at S st.tree j i)) ≡ not (gap₁ i)
    unfolding fits_at gap_at
    test-is i st s h =
        ap₂ (λ (b d : Bool). not b && d) (s.later_marks i (omega arith) h) (ap₂ same (ap (H j i) (s.later i (omega arith) h)) (same-committed i st s i))
        ∙ no_gap_is (absent_at S st₁.marks j i) (same (H j i (sym_at S st₁.tree j i)) (committed S root (sym_at S st₁.tree) j i))

    kept : (i : ℕ) (st : St) → Swept j st₁ i st → i < S.n j → absent_at S st.marks j i ≡ false → gap₁ i ≡ false → Swept j st₁ (suc i) st
    kept i st s h ab gp =
        record {
          sized = s.sized;
          frame = s.frame;
          frame_marks = s.frame_marks;
          tail = s.tail;
          tail_marks = s.tail_marks;
          later = λ y k hy. s.later y (omega arith) hy;
          later_marks = λ y k hy. s.later_marks y (omega arith) hy;
          gap_is = λ y k hy. by_test (eqb y i)
              (λ u. subst (λ (z : ℕ). absent_at S st.marks j z ≡ gap₁ z) (sym (eqb-true y i u)) (ab ∙ sym gp))
              (λ u. s.gap_is y (omega (arith, eqb-false y i u)) hy);
          no_gap = λ y k hy n. by_test (eqb y i) (λ u. s.later y (omega (arith, eqb-true y i u)) hy) (λ u. s.no_gap y (omega (arith, eqb-false y i u)) hy n);
          emptied = λ y k hy n. by_test (eqb y i) (λ u. both n (ap (absent_at S st.marks j) (eqb-true y i u) ∙ ab)) (λ u. s.emptied y (omega (arith, eqb-false y i u)) hy n);
          same_out = s.same_out;
          same-used = s.same-used;
          same-stored = s.same-stored;
          same-entered = s.same-entered;
          same_end = s.same_end;
        }

    dropped : (i : ℕ) (st : St) → Swept j st₁ i st → i < S.n j → gap₁ i ≡ true → Swept j st₁ (suc i) (erase_sym S j i st)
    unfolding erase_sym
    dropped i st s h gp =
        let tl = s.sized.tree-length in
        let ml = s.sized.marks-length in
        let keep : (l y : ℕ) → y < S.n l → (l ≢ j) ⊎ (y ≢ i) → sym_at S (put_at S st.tree j i zeros) l y ≡ sym_at S st.tree l y =
        put_keep S (length tbl) st.tree st.marks tl ml j i hj h zeros length-zeros in
        let keepm : (l y : ℕ) → y < S.n l → (l ≢ j) ⊎ (y ≢ i) → absent_at S (set st.marks (place S j i) 0) l y ≡ absent_at S st.marks l y =
        mark_keep S (length tbl) st.tree st.marks tl ml j i hj h 0 in
        let gone : absent_at S (set st.marks (place S j i) 0) j i ≡ true = mark_there S (length tbl) st.tree st.marks tl ml j i hj h 0 in
        record {
          sized = record {
            tree-length = put_length S st.tree j i zeros (room S (length tbl) st.tree st.marks tl ml j i hj h) length-zeros ∙ tl;
            marks-length = length-set st.marks (place S j i) 0 ∙ ml;
          };
          frame = λ l y hl hy n. keep l y hy (inl n) ∙ s.frame l y hl hy n;
          frame_marks = λ l y hl hy n. byte_keep S (length tbl) st.tree st.marks tl ml j i hj h 0 l y hy (inl n) ∙ s.frame_marks l y hl hy n;
          tail = put_after S (length tbl) st.tree st.marks tl ml j i hj h zeros length-zeros ∙ s.tail;
          tail_marks = mark-after S (length tbl) st.tree st.marks tl ml j i hj h 0 ∙ s.tail_marks;
          later = λ y k hy. keep j y hy (inr (λ q. omega arith)) ∙ s.later y (omega arith) hy;
          later_marks = λ y k hy. keepm j y hy (inr (λ q. omega arith)) ∙ s.later_marks y (omega arith) hy;
          gap_is = λ y k hy. by_test (eqb y i)
              (λ u. subst (λ (z : ℕ). absent_at S (set st.marks (place S j i) 0) j z ≡ gap₁ z) (sym (eqb-true y i u)) (gone ∙ sym gp))
              (λ u. keepm j y hy (inr (eqb-false y i u)) ∙ s.gap_is y (omega (arith, eqb-false y i u)) hy);
          no_gap = λ y k hy n. by_test (eqb y i)
              (λ u. both gone (sym (ap (absent_at S (set st.marks (place S j i) 0) j) (eqb-true y i u)) ∙ n))
              (λ u. keep j y hy (inr (eqb-false y i u)) ∙ s.no_gap y (omega (arith, eqb-false y i u)) hy (sym (keepm j y hy (inr (eqb-false y i u))) ∙ n));
          emptied = λ y k hy n. by_test (eqb y i)
              (λ u. subst (λ (z : ℕ). (get_or (set st.marks (place S j i) 0) (place S j z) 0 ≡ 0) × (sym_at S (put_at S st.tree j i zeros) j z ≡ zeros)) (sym (eqb-true y i u)) (
                get_or-set_same st.marks (place S j i) 0 0 (mark-room S (length tbl) st.tree st.marks tl ml j i hj h),
                put_there S st.tree j i zeros (room S (length tbl) st.tree st.marks tl ml j i hj h) length-zeros,
              ))
              (λ u. let ne : (j ≢ j) ⊎ (y ≢ i) = inr (eqb-false y i u) in
              let (p, q) = s.emptied y (omega (arith, eqb-false y i u)) hy (sym (keepm j y hy ne) ∙ n) in
              (byte_keep S (length tbl) st.tree st.marks tl ml j i hj h 0 j y hy ne ∙ p, keep j y hy ne ∙ q));
          same_out = s.same_out;
          same-used = s.same-used;
          same-stored = s.same-stored;
          same-entered = s.same-entered;
          same_end = refl;
        }

    sweep-one : (i : ℕ) (st : St) → Swept j st₁ i st → i < S.n j → Swept j st₁ (suc i) (sweep_at S H root j i st)
    unfolding sweep_at
    sweep-one i st s h =
        pick_ind (Swept j st₁ (suc i)) (not (absent_at S st.marks j i) && fits_at S H root st j i (sym_at S st.tree j i))
        (λ t. kept i st s h (not_yes (absent_at S st.marks j i) (and_yes (not (absent_at S st.marks j i)) (fits_at S H root st j i (sym_at S st.tree j i)) t).0)
        (not_yes (gap₁ i) (sym (test-is i st s h) ∙ t)))
        (λ t. dropped i st s h (not_no (gap₁ i) (sym (test-is i st s h) ∙ t)))

    sweep-all : (f i : ℕ) (st : St) → Swept j st₁ i st → i + f ≤ S.n j → Swept j st₁ (i + f) (sweep S H root j i f st)
    unfolding sweep
    sweep-all zero i st s h = subst (λ (n : ℕ). Swept j st₁ n st) (sym (add-zero i)) s
    sweep-all (suc f) i st s h =
        subst (λ (n : ℕ). Swept j st₁ n (sweep S H root j (suc i) f (sweep_at S H root j i st))) (omega arith)
        (sweep-all f (suc i) (sweep_at S H root j i st) (sweep-one i st s (omega arith)) (omega arith))

    pub swept : Sized S tbl st₁.tree st₁.marks → st₁.end ≡ working → Swept j st₁ (S.n j) (sweep S H root j 0 (S.n j) st₁)
    swept sz en =
        subst (λ (n : ℕ). Swept j st₁ n (sweep S H root j 0 (S.n j) st₁)) (zero-add (S.n j))
        (sweep-all (S.n j) 0 st₁
        (record {
          sized = sz;
          frame = λ l y hl hy n. refl;
          frame_marks = λ l y hl hy n. refl;
          tail = refl;
          tail_marks = refl;
          later = λ y k hy. refl;
          later_marks = λ y k hy. refl;
          gap_is = λ y k hy. absurd (omega arith);
          no_gap = λ y k hy. absurd (omega arith);
          emptied = λ y k hy. absurd (omega arith);
          same_out = refl;
          same-used = refl;
          same-stored = refl;
          same-entered = refl;
          same_end = en;
        }) (omega arith))
