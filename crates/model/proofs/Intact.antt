-- A repair ends whole with nothing stored where, and only where, every layer is complete as it was lent: then it changes nothing.
use mathlib.Core.Path.{◌≡◌, refl, sym, ap, ap₂, ◌∙◌, subst}
use mathlib.Core.Bool.{Bool, false, not, ◌&&◌, ◌||◌}
use mathlib.Core.List.{List, []}
use Prim.Native.Nat.{ℕ, ◌<◌}
use native.Mathlib.Omega.{arith}
use lib.ListN.{length, get_or}
use lib.Seq.{ext_get_or}
use borrow.Author.Tests.{eqb-true}
use Rattle.octets.specs.ByteLists.{same}
use Rattle.octets.proofs.Choice.{by_test, both, yes_and, not_no}
use Rattle.octets.proofs.SameLaws.{yes_same}
use Rattle.model.specs.Shape.{Shape, ShapeOk}
use Rattle.model.specs.Symbols.{committed, sym_at}
use Rattle.model.specs.Repair.{End, working, whole, fault, unavailable, twins, St, absent_at, repair}
use Rattle.model.specs.Ends.{Sized, Roomy, gap_at, Intact, Unchanged, Drained}
use Rattle.model.specs.Alike.{complete, kind_of, Alike}
use Rattle.model.specs.Finals.{LastLayer, Final}
use Rattle.model.proofs.Shapes.{place_of_lem}
use Rattle.model.proofs.Tables.{TableLaws}
use Rattle.model.proofs.Flat.{tree-same}
use Rattle.model.proofs.Frame.{filled_none, none_filled, drained_if}
use Rattle.model.proofs.Confluence.{complete-grown, alike}
use Rattle.model.proofs.FourEnds.{repair-final}

-- an end of this kind is whole
whole_kind : (z : End) → complete ≡ kind_of z → z ≡ whole
whole_kind working e = cc
whole_kind whole e = refl
whole_kind (fault j q x n) e = cc
whole_kind (unavailable j) e = cc
whole_kind (twins j x) e = cc

module _ (S : Shape) (sh : ShapeOk S) (H : ℕ → ℕ → List ℕ → List ℕ) (root : List ℕ) (tbl : List (List (List ℕ))) (ok : TableLaws S tbl) (t m : List ℕ) (sz : Sized S tbl t m) where
  -- ---- a tree that is complete as it was lent is in a final state

  module _ (c : Intact S H root tbl t m) where
    gap_none : (l i : ℕ) → l < length tbl → i < S.n l → gap_at S H root t m t l i ≡ false
    unfolding gap_at
    gap_none l i hl hi = ap₂ (λ (a b : Bool). a || not b) ((c l hl).full i hi) (yes_same ((c l hl).hashed i hi))

    drained-lent : (l : ℕ) → l < length tbl → Drained S H root tbl t m t l
    drained-lent l hl = drained_if S sh H root tbl ok t m t l hl (λ s w n x h e. both (w x h e) (gap_none l x hl h))

    as_lent : St
    as_lent = record { tree = t; marks = m; out = []; used = []; stored = 0; entered = length tbl; end = whole }

    final-lent : Final S H root tbl t m as_lent
    unfolding as_lent
    final-lent =
        record {
          always = record {
            in_depth = omega arith;
            sized = sz;
            untouched = refl;
            unmarked = refl;
            counted = sym (filled_none S H root t m t m (length tbl) (λ l i h k. ap (λ (b : Bool). b && not (absent_at S m l i)) (gap_none l i h k)));
            above = λ l h. c l (omega arith);
            drained = λ l h. drained-lent l (omega arith);
            held = λ l i h k e. (c l h).hashed i k;
            kept = λ l i h k e. ((c l h).full i k, refl);
            cleared = λ l i h k e. both e ((c l h).full i k);
          };
          grown = λ l e. let h : l < length tbl = omega arith in complete-grown S sh H root tbl ok t m t m l h (c l h) (drained-lent l h);
          last = (refl, c);
        }

  module _ (st : St) (f : Final S H root tbl t m st) where
    -- ---- .. and every final state is like it
    intact-ends : Intact S H root tbl t m → (st.end ≡ whole) × (st.stored ≡ 0)
    unfolding as_lent
    intact-ends c =
        let a : Alike S tbl (as_lent c) st = alike S sh H root tbl ok t m t m (λ l h. record { marks = λ i k. refl; symbols = λ i k. refl }) (as_lent c) st (final-lent c) f in
        (whole_kind st.end a.kinds, sym (a.stored_same (λ l e. let z : ◌≡◌ {A = ℕ} 0 1 = cc in omega arith)))

    -- ---- a final state that is whole, with nothing stored

    module _ (w : st.end ≡ whole) (none : st.stored ≡ 0) where
      ended : LastLayer S H root tbl st complete
      ended = subst (λ (z : End). LastLayer S H root tbl st (kind_of z)) w f.last

      -- no symbol was a gap
      no_gap : (l i : ℕ) → l < length tbl → i < S.n l → gap_at S H root t m st.tree l i ≡ false
      no_gap l i hl hi =
          by_test (gap_at S H root t m st.tree l i)
          (λ g. both (yes_and g (ap not ((ended.1 l hl).full i hi))) (none_filled S H root t m st.tree st.marks st.entered (sym f.always.counted ∙ none) l i (omega (arith, ended.0)) hi))
          (λ g. g)

      was_held : (l i : ℕ) → l < length tbl → i < S.n l → absent_at S m l i ≡ false
      unfolding gap_at
      was_held l i hl hi =
          by_test (absent_at S m l i) (λ a. both (ap (λ (b : Bool). b || not (same (H l i (sym_at S t l i)) (committed S root (sym_at S st.tree) l i))) a) (no_gap l i hl hi)) (λ a. a)

      kept-tree : st.tree ≡ t
      kept-tree =
          tree-same S (length tbl) st.tree t f.always.sized.tree-length sz.tree-length
          (λ l i hl hi. (f.always.kept l i (omega (arith, ended.0)) hi (no_gap l i hl hi)).1)

      -- every mark is 1
      kept-marks : st.marks ≡ m
      unfolding absent_at
      kept-marks =
          ext_get_or 0 st.marks m (f.always.sized.marks-length ∙ sym sz.marks-length)
          (λ p h.
          let (l, i, hl, hi, e) = place_of_lem S (length tbl) p (omega (arith, f.always.sized.marks-length)) in
          subst (λ (q : ℕ). get_or st.marks q 0 ≡ get_or m q 0) (sym e)
          (eqb-true _ 1 (not_no _ ((ended.1 l hl).full i hi)) ∙ sym (eqb-true _ 1 (not_no _ (was_held l i hl hi)))))

      unchanged : Unchanged t m st
      unchanged = record { ends-whole = w; none-stored = none; tree-kept = kept-tree; marks-kept = kept-marks }

      was_intact : Intact S H root tbl t m
      was_intact = subst (λ (u : List ℕ). Intact S H root tbl u m) kept-tree (subst (Intact S H root tbl st.tree) kept-marks ended.1)

  -- ---- a repair with a roomy output buffer

  module _ (o : List ℕ) (ho : Roomy tbl o) where
    abbrev fin : Final S H root tbl t m (repair S H root tbl t m o)
    fin = repair-final S sh H root tbl ok t m o ho sz

    pub intact_unchanged : Intact S H root tbl t m → Unchanged t m (repair S H root tbl t m o)
    intact_unchanged c = let (w, n) = intact-ends (repair S H root tbl t m o) fin c in unchanged (repair S H root tbl t m o) fin w n

    pub whole-intact : (repair S H root tbl t m o).end ≡ whole → (repair S H root tbl t m o).stored ≡ 0 → Intact S H root tbl t m
    whole-intact = was_intact (repair S H root tbl t m o) fin
