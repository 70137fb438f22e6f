-- A repair of which every held symbol is that of one tree that agrees: no fault or twins come of it, what it holds then is that tree's, and what is absent
-- then is a matter of the lent marks alone.
use mathlib.Core.Path.{◌≡◌, refl, sym, ap, ap₂, ◌∙◌, subst}
use mathlib.Core.Logic.{◌≢◌}
use mathlib.Core.Bool.{Bool, false, not, ◌||◌, false≢true}
use mathlib.Core.List.{List}
use Prim.Native.Nat.{ℕ, zero, suc, ◌%◌, ◌≤◌, ◌<◌}
use native.Mathlib.Omega.{arith}
use native.Mathlib.Decide.{dec_lt}
use lib.ListN.{length}
use lib.Dec.{ltb, eqb}
use borrow.Author.Tests.{eqb-true, eqb-false}
use Rattle.octets.specs.ByteLists.{same}
use Rattle.octets.proofs.Choice.{by_test, both}
use Rattle.octets.proofs.SameLaws.{yes_same}
use Rattle.parity_table.specs.Table.{equation_of}
use Rattle.model.specs.Shape.{Shape, ShapeOk}
use Rattle.model.specs.Symbols.{sym_at, committed}
use Rattle.model.specs.Coded.{Digests, Agrees}
use Rattle.model.specs.Repair.{St, absent_at}
use Rattle.model.specs.Ends.{Within, Largest, gap_at}
use Rattle.model.specs.Alike.{Kind, unfinished, complete, missing, refuted, kind_of}
use Rattle.model.specs.Finals.{LastLayer, Final}
use Rattle.model.specs.Genuine.{Genuine, HoldsAll, GenuineEnd}
use Rattle.model.proofs.Shapes.{up_lt, committed-same}
use Rattle.model.proofs.Counts.{every-none}
use Rattle.model.proofs.Tables.{TableLaws}
use Rattle.model.proofs.Binding.{hashes}
use Rattle.model.proofs.Frame.{sym_below, mark-below, symbol-sized}
use Rattle.model.proofs.Agreement.{Filling, Agreement, agreement}
use Rattle.model.proofs.Closing.{closed_largest}
use Rattle.model.proofs.Confluence.{grown_at, closed_at}

module _ (S : Shape) (sh : ShapeOk S) (H : ℕ → ℕ → List ℕ → List ℕ) (digests : Digests H) (root : List ℕ) (tbl : List (List (List ℕ))) (ok : TableLaws S tbl) (f : ℕ → ℕ → List ℕ) (agr : Agrees S H tbl root f)
    (t₀ m₀ : List ℕ) (gen : Genuine S tbl f t₀ m₀) (st : St) (fin : Final S H root tbl t₀ m₀ st) where
  in_table : (j : ℕ) → j < st.entered → j < length tbl
  in_table j h = omega (arith, fin.always.in_depth)

  -- ---- layer j, under symbols that are f's

  module _ (j : ℕ) (hj : j < st.entered) (up : (k y : ℕ) → suc k ≡ j → y < S.n k → sym_at S st.tree k y ≡ f k y) where
    -- the committed hashes are those of f's symbols
    commit : (i : ℕ) → i < S.n j → H j i (f j i) ≡ committed S root (sym_at S st.tree) j i
    commit i h =
        hashes S sh H digests tbl root f agr j i (in_table j hj, h) ∙ sym (committed-same S root (sym_at S st.tree) f j i (λ k e. up k (i % S.k k) e (up_lt S sh k i)))

    -- so the gaps are what was lent absent
    gap_under : (i : ℕ) → i < S.n j → gap_at S H root t₀ m₀ st.tree j i ≡ absent_at S m₀ j i
    unfolding gap_at
    gap_under i h =
        by_test (absent_at S m₀ j i)
        (λ a. ap (λ (b : Bool). b || not (same (H j i (sym_at S t₀ j i)) (committed S root (sym_at S st.tree) j i))) a ∙ sym a)
        (λ a. ap₂ (λ (b c : Bool). b || not c) a (yes_same (ap (H j i) (gen j i (in_table j hj, h) a) ∙ commit i h)) ∙ sym a)

    -- f's symbols fill the layer, with none absent
    filling : Filling S H root tbl t₀ m₀ st.tree j (f j) (λ y. false)
    filling =
        record {
          sized = λ y h. agr.coded.sized j y (in_table j hj, h);
          lent = λ y h n. (fin.always.kept j y hj h n).1 ∙ gen j y (in_table j hj, h) (sym (gap_under y h) ∙ n);
          in_gaps = λ x h e. absurd (false≢true e);
          fits = λ y h _. commit y h;
          stops = λ e he one. omega (arith, every-none (λ x. ltb x (S.n j)) (λ x. false) (λ x w. refl) (equation_of tbl j e) (ok.within j e (in_table j hj) he));
          holds = λ e he _. agr.coded.holds j e (in_table j hj) he;
        }

    agreed_under : Agreement S H root tbl t₀ m₀ st.tree j st.marks (f j) (λ y. false)
    agreed_under =
        agreement S H root tbl t₀ m₀ st.tree j ok (in_table j hj) (λ y h. symbol-sized S tbl st.tree st.marks fin.always.sized j y (in_table j hj) h) st.marks
        (grown_at S sh H root tbl ok t₀ m₀ st fin j hj) (f j) (λ y. false) filling

  -- the layers above an entered one are f's
  tops : (d : ℕ) → d < st.entered → (l i : ℕ) → l < d → i < S.n l → sym_at S st.tree l i ≡ f l i
  tops zero hd l i hl hi = absurd (omega arith)
  tops (suc d) hd l i hl hi =
      by_test (eqb l d)
      (λ u. subst (λ (z : ℕ). i < S.n z → sym_at S st.tree z i ≡ f z i) (sym (eqb-true l d u))
      (λ k. (agreed_under d (omega arith) (λ q y e hy. tops d (omega arith) q y (omega arith) hy)).held i k ((fin.always.above d hd).full i k)) hi)
      (λ u. tops d (omega arith) l i (omega (arith, eqb-false l d u)) hi)

  -- ---- each layer that was entered

  module _ (j : ℕ) (hj : j < st.entered) where
    up : (k y : ℕ) → suc k ≡ j → y < S.n k → sym_at S st.tree k y ≡ f k y
    up k y e hy = tops j hj k y (omega arith) hy

    gap_lent : (i : ℕ) → i < S.n j → gap_at S H root t₀ m₀ st.tree j i ≡ absent_at S m₀ j i
    gap_lent = gap_under j hj up

    agreed : Agreement S H root tbl t₀ m₀ st.tree j st.marks (f j) (λ y. false)
    agreed = agreed_under j hj up

  never_refuted : (k : Kind) → LastLayer S H root tbl st k → (l : ℕ) → k ≢ refuted l
  never_refuted unfinished s l e = absurd s
  never_refuted complete s l e = let z : ◌≡◌ {A = ℕ} 0 1 = cc in omega arith
  never_refuted (missing j) s l e = let z : ◌≡◌ {A = ℕ} 0 1 = cc in omega arith
  never_refuted (refuted j) s l e = (agreed j (omega (arith, s.0))).unrefuted s.1

  unrefuted : (l : ℕ) → kind_of st.end ≢ refuted l
  unrefuted = never_refuted (kind_of st.end) fin.last

  -- only gaps are absent
  in_gaps : (j : ℕ) → j < st.entered → Within (S.n j) (absent_at S st.marks j) (gap_at S H root t₀ m₀ st.tree j)
  in_gaps j hj x h a = by_test (gap_at S H root t₀ m₀ st.tree j x) (λ g. g) (λ g. both a (fin.always.kept j x hj h g).0)

  largest-lent : (j : ℕ) → j < st.entered → Largest S tbl j (absent_at S m₀ j) (absent_at S st.marks j)
  largest-lent j hj =
      let l = closed_largest S H root tbl t₀ m₀ st.tree st.marks j (grown_at S sh H root tbl ok t₀ m₀ st fin j hj)
      (closed_at S sh H root tbl ok t₀ m₀ st fin j hj (unrefuted j)) (in_gaps j hj) in
      record {
        inside = λ x h a. sym (gap_lent j hj x h) ∙ l.inside x h a;
        stopping = l.stopping;
        contains = λ s w n. l.contains s (λ x h a. gap_lent j hj x h ∙ w x h a) n;
      }

  -- a layer that was not entered is as it was lent
  module _ (l i : ℕ) (h : st.entered ≤ l) where
    below-marks : absent_at S st.marks l i ≡ absent_at S m₀ l i
    below-marks = mark-below S st.entered l i h st.marks m₀ fin.always.unmarked

    below-symbols : sym_at S st.tree l i ≡ sym_at S t₀ l i
    below-symbols = sym_below S st.entered l i h st.tree t₀ fin.always.untouched

  still_held : HoldsAll S tbl m₀ st.marks
  still_held l i h a =
      elim (dec_lt l st.entered) [
        | yes k ↦ (fin.always.kept l i k h.1 (gap_lent l k i h.1 ∙ a)).0
        | no k ↦ below-marks l i (omega arith) ∙ a
      ]

  still_genuine : Genuine S tbl f st.tree st.marks
  still_genuine l i h a =
      elim (dec_lt l st.entered) [
        | yes k ↦ (agreed l k).held i h.1 a
        | no k ↦ below-symbols l i (omega arith) ∙ gen l i h (sym (below-marks l i (omega arith)) ∙ a)
      ]

  pub genuine-end : GenuineEnd S tbl H root f t₀ m₀ st
  genuine-end =
      record {
        final = fin;
        kept = still_held;
        genuine = still_genuine;
        unrefuted = unrefuted;
        gaps = λ l i h k. gap_lent l h i k;
        largest = largest-lent;
      }
