-- A layer is entered, swept and peeled: (a) and (b).
use mathlib.Core.Path.{◌≡◌, refl, sym, ap, ap₂, ◌∙◌, subst}
use mathlib.Core.Bool.{Bool, true, false, not, ◌&&◌, ◌||◌}
use mathlib.Core.List.{List}
use Prim.Native.Nat.{ℕ, suc, ◌*◌, ◌<◌}
use native.Mathlib.Omega.{arith}
use lib.ListN.{length, get_or, length-replicate, get_or-replicate}
use lib.Dec.{eqb}
use borrow.Author.Tests.{eqb-true, eqb-false, eq-eqb}
use Rattle.parity_table.specs.Table.{layer_of}
use Rattle.octets.proofs.Choice.{by_test, and_yes, both}
use Rattle.model.specs.Shape.{Shape, ShapeOk, place, places}
use Rattle.octets.specs.ByteLists.{same}
use Rattle.model.specs.Symbols.{zeros, committed, sym_at}
use Rattle.model.specs.Repair.{End, going, St, fresh, absent_at, peel, enter}
use Rattle.model.specs.Ends.{Roomy, PeeledAll, gap_at, filled_in, filled, Always, Peels, none-stored}
use Rattle.octets.proofs.SameLaws.{same_yes}
use Rattle.model.proofs.Counts.{is_it, count_le}
use Rattle.model.proofs.Shapes.{places_mono}
use Rattle.model.proofs.Tables.{TableLaws}
use Rattle.model.proofs.Frame.{drop_more, sym_below, mark-below, mark-room, as_absent, tally-none, Keeps, KeepsMarks, hash_keep, complete_keep, gap_keep, filled_keep, drained_keep}
use Rattle.model.proofs.Peel.{Inv, NoTake, inv_start, settled}
use Rattle.model.proofs.Storing.{Mid}
use Rattle.model.proofs.Peeling.{Stage, StageSt, mid_of, stage_peel, peeled-peel}
use Rattle.model.proofs.Replay.{peels_keep}
use Rattle.model.proofs.Sweeping.{no_gap_is, Swept, same-committed, swept}
use Rattle.model.proofs.Closing.{Between}

and_not : (b : Bool) → (b && not b) ≡ false
and_not true = refl
and_not false = refl

module _ (S : Shape) (sh : ShapeOk S) (H : ℕ → ℕ → List ℕ → List ℕ) (root : List ℕ) (tbl : List (List (List ℕ))) (ok : TableLaws S tbl) (t₀ m₀ o₀ : List ℕ) (ho : Roomy tbl o₀)
    (j : ℕ) (hj : j < length tbl) (st : St) (b : Between S sh H root tbl ok t₀ m₀ o₀ ho j st) where
  abbrev st₁ : St
  st₁ = fresh j (length (layer_of tbl j)) st

  abbrev pub en : St
  en = enter S H root tbl j st

  swept_here : Swept S sh H root tbl ok j st₁ (S.n j) en
  unfolding enter fresh
  swept_here = swept S sh H root tbl ok j hj st₁ b.always.sized refl

  -- the absent symbols after (a) are the gaps
  gap_same : (i : ℕ) → i < S.n j → absent_at S en.marks j i ≡ gap_at S H root t₀ m₀ en.tree j i
  unfolding gap_at fresh
  gap_same i h =
      swept_here.gap_is i h h
      ∙ ap₂ (λ (p : Bool) (q : List ℕ). p || not (same (H j i q) (committed S root (sym_at S st.tree) j i)))
      (mark-below S j j i (omega arith) st.marks m₀ b.always.unmarked) (sym_below S j j i (omega arith) st.tree t₀ b.always.untouched)
      ∙ ap (λ (q : List ℕ). absent_at S m₀ j i || not (same (H j i (sym_at S t₀ j i)) q)) (sym (same-committed S sh H root tbl ok j hj st₁ (S.n j) en swept_here i))

  keeps : (l : ℕ) → l < j → Keeps S sh H root tbl ok st.tree en.tree l
  unfolding fresh
  keeps l h k y e hy = swept_here.frame k y (omega arith) hy (λ q. omega arith)

  keeps_marks : (l : ℕ) → l < j → KeepsMarks S sh H root tbl ok st.marks en.marks l
  unfolding fresh
  keeps_marks l h y hy = as_absent S en.marks st.marks l y (swept_here.frame_marks l y (omega arith) hy (λ q. omega arith))

  none_filled : filled_in S H root t₀ m₀ en.tree en.marks j ≡ 0
  unfolding filled_in
  none_filled = tally-none _ (S.n j) (λ i h. ap (λ (p : Bool). p && not (absent_at S en.marks j i)) (sym (gap_same i h)) ∙ and_not (absent_at S en.marks j i))

  held-here : (y : ℕ) → y < S.n j → absent_at S en.marks j y ≡ false → H j y (sym_at S en.tree j y) ≡ committed S root (sym_at S en.tree) j y
  unfolding gap_at fresh
  held-here y hy ab =
      let own : Bool = same (H j y (sym_at S st.tree j y)) (committed S root (sym_at S st.tree) j y) in
      let pass : (not (absent_at S st.marks j y) && own) ≡ true = no_gap_is (absent_at S st.marks j y) own ∙ ap not (sym (swept_here.gap_is y hy hy) ∙ ab) in
      ap (H j y) (swept_here.no_gap y hy hy ab)
      ∙ same_yes _ _ (and_yes (not (absent_at S st.marks j y)) own pass).1
      ∙ sym (same-committed S sh H root tbl ok j hj st₁ (S.n j) en swept_here y)

  always-enter : Always S H root tbl t₀ m₀ en.tree en.marks en.stored (suc j)
  unfolding filled fresh
  always-enter =
      record {
        in_depth = hj;
        sized = swept_here.sized;
        untouched = swept_here.tail ∙ drop_more (256 * places S j) (256 * places S (suc j)) st.tree t₀ (omega (arith, places_mono S j (suc j) (omega arith))) b.always.untouched;
        unmarked = swept_here.tail_marks ∙ drop_more (places S j) (places S (suc j)) st.marks m₀ (places_mono S j (suc j) (omega arith)) b.always.unmarked;
        counted = omega (arith, swept_here.same-stored, b.always.counted, none_filled, filled_keep S sh H root tbl ok t₀ m₀ st.tree en.tree st.marks en.marks j keeps keeps_marks);
        above = λ l h. complete_keep S sh H root tbl ok st.tree en.tree st.marks en.marks l (omega arith) (keeps l (omega arith)) (keeps_marks l (omega arith)) (b.complete l (omega arith));
        drained = λ l h. drained_keep S sh H root tbl ok t₀ m₀ st.tree en.tree l (λ k y q hy. swept_here.frame k y (omega arith) hy (λ z. omega arith)) (b.drained l (omega arith));
        held = λ l y h hy ab. by_test (eqb l j)
            (λ u. subst (λ (z : ℕ). y < S.n z → absent_at S en.marks z y ≡ false → H z y (sym_at S en.tree z y) ≡ committed S root (sym_at S en.tree) z y) (sym (eqb-true l j u)) (held-here y) hy ab)
            (λ u. let hl : l < j = omega (arith, eqb-false l j u) in
            hash_keep S sh H root tbl ok st.tree en.tree l y (keeps l hl) hy ((b.complete l hl).hashed y hy));
        kept = λ l y h hy g. by_test (eqb l j)
            (λ u. subst (λ (z : ℕ). y < S.n z → gap_at S H root t₀ m₀ en.tree z y ≡ false → (absent_at S en.marks z y ≡ false) × (sym_at S en.tree z y ≡ sym_at S t₀ z y)) (sym (eqb-true l j u))
            (λ hz gz. let ab : absent_at S en.marks j y ≡ false = gap_same y hz ∙ gz in (ab, swept_here.no_gap y hz hz ab ∙ sym_below S j j y (omega arith) st.tree t₀ b.always.untouched)) hy g)
            (λ u. let hl : l < j = omega (arith, eqb-false l j u) in
            let (p, q) = b.always.kept l y hl hy (sym (gap_keep S sh H root tbl ok t₀ m₀ st.tree en.tree l y (λ k z e w. swept_here.frame k z (omega arith) w (λ r. omega arith))) ∙ g) in
            (keeps_marks l hl y hy ∙ p, swept_here.frame l y (omega arith) hy (λ r. omega arith) ∙ q));
        cleared = λ l y h hy n. by_test (eqb l j)
            (λ u. subst (λ (z : ℕ). y < S.n z → absent_at S en.marks z y ≡ true → (get_or en.marks (place S z y) 0 ≡ 0) × (sym_at S en.tree z y ≡ zeros)) (sym (eqb-true l j u))
            (λ hz nz. swept_here.emptied y hz hz nz) hy n)
            (λ u. let hl : l < j = omega (arith, eqb-false l j u) in both n (keeps_marks l hl y hy ∙ (b.complete l hl).full y hy));
      }

  fresh-used : (e : ℕ) → e < length (layer_of tbl j) → eqb (get_or en.used e 0) 0 ≡ true
  unfolding fresh
  fresh-used e h = ap (λ (us : List ℕ). eqb (get_or us e 0) 0) swept_here.same-used ∙ eq-eqb _ 0 (get_or-replicate (length (layer_of tbl j)) e 0 0 h)

  listed : length en.used ≡ length (layer_of tbl j)
  unfolding fresh
  listed = ap length swept_here.same-used ∙ length-replicate (length (layer_of tbl j)) 0

  start : Inv S H root tbl ok j hj (absent_at S en.marks j) en.marks en.used
  start = inv_start S H root tbl ok j hj en (λ x h. mark-room S (length tbl) en.tree en.marks swept_here.sized.tree-length swept_here.sized.marks-length j x hj h) listed fresh-used

  mid_enter : Mid S sh H root tbl ok t₀ m₀ o₀ ho j hj en.marks en
  unfolding fresh
  mid_enter =
      record {
        last = swept_here.same-entered;
        always = always-enter;
        inv = start;
        gap_is = gap_same;
        used-holds = λ e h t. both (fresh-used e h) t;
        out-kept = swept_here.same_out ∙ b.out-kept;
      }

  -- how the layers were peeled: nothing is stored yet in this one
  peeled-enter : PeeledAll S H root tbl t₀ m₀ st → PeeledAll S H root tbl t₀ m₀ en
  unfolding fresh
  peeled-enter p l h =
      by_test (eqb l j)
      (λ u. subst (λ (z : ℕ). Peels S tbl en.tree z (gap_at S H root t₀ m₀ en.tree z) (absent_at S en.marks z)) (sym (eqb-true l j u)) (none-stored gap_same))
      (λ u. let hl : l < j = omega (arith, swept_here.same-entered, eqb-false l j u) in
      peels_keep S tbl ok l (omega arith) st.tree en.tree (p l (omega (arith, b.last)))
      (λ y hy. gap_keep S sh H root tbl ok t₀ m₀ st.tree en.tree l y (λ k z e w. swept_here.frame k z (omega arith) w (λ r. omega arith)))
      (λ y hy. keeps_marks l hl y hy) (λ y hy q. swept_here.frame l y (omega arith) hy (λ r. omega arith)))

  -- ---- what the peeling of the layer leaves

  abbrev pub r : St
  r = peel S H root tbl j (length (layer_of tbl j)) en

  stage_enter : StageSt S sh H root tbl ok t₀ m₀ o₀ ho j hj en.marks en
  stage_enter = subst (λ (z : End). Stage S sh H root tbl ok t₀ m₀ o₀ ho j hj en.marks en z) (sym swept_here.same_end) mid_enter

  pub stage_layer : StageSt S sh H root tbl ok t₀ m₀ o₀ ho j hj en.marks r
  stage_layer = stage_peel S sh H root tbl ok t₀ m₀ o₀ ho j hj en.marks (length (layer_of tbl j)) en stage_enter

  pub peeled-layer : PeeledAll S H root tbl t₀ m₀ st → PeeledAll S H root tbl t₀ m₀ r
  peeled-layer p = peeled-peel S sh H root tbl ok t₀ m₀ o₀ ho j hj en.marks (length (layer_of tbl j)) en stage_enter (peeled-enter p)

  -- where it goes on, no equation can be taken
  module _ (g : going r.end ≡ true) where
    pub mid_layer : Mid S sh H root tbl ok t₀ m₀ o₀ ho j hj en.marks r
    mid_layer = mid_of S sh H root tbl ok t₀ m₀ o₀ ho j hj en.marks r r.end g stage_layer

    pub none_left : NoTake S H root tbl ok j hj r
    none_left =
        settled S H root tbl ok j hj (absent_at S en.marks j) (length (layer_of tbl j)) en start (omega (arith, count_le (is_it 0) en.used, listed)) g
