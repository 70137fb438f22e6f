-- CR 12: more shops, never less volume.
use mathlib.Core.Path.{◌≡◌, refl, sym, ap, ap₂, ◌∙◌, subst}
use mathlib.Core.Logic.{inl, inr, ⊎_elim}
use mathlib.Core.Bool.{Bool}
use mathlib.Core.List.{List}
use Prim.Native.Nat.{ℕ, ◌+◌, ◌*◌, ◌≤◌, ◌<◌}
use native.Mathlib.Omega.{arith}
use native.Mathlib.Decide.{dec_le}
use lib.ListN.{length, get_or}
use lib.Seq.{ext_get_or}
use Rattle.octets.specs.Choice.{pick}
use Rattle.octets.proofs.Choice.{by_test, both}
use Rattle.parity_table.specs.Shape.{k_of, n_of}
use Rattle.symbol_hash.specs.SymbolHash.{symbol_hash}
use Rattle.symbol_hash.specs.declared.Kind.{Kind}
use Rattle.root_record.specs.Records.{kind_in, size_in, root_in}
use Rattle.model.specs.Shape.{tree}
use Rattle.model.specs.Coded.{InTree}
use Rattle.model.specs.Writer.{zero_filled}
use Rattle.model.specs.Repair.{End, working, whole, fault, unavailable, twins, St, absent_at}
use Rattle.model.specs.Genuine as model
use Rattle.model.proofs.Shapes.{place_of_lem}
use Rattle.model.proofs.Flat.{tree-same}
use Rattle.model.proofs.NeverLess as laws
use Rattle.calls.specs.Stops.{Done}
use Rattle.volume_calls.specs.Writing.{tree_written}
use Rattle.fault_calls.specs.Repairing.{Result, ended, misfilled, RepairLeft, ended_by, repair_of, repaired}
use Rattle.guarantees.specs.Layouts.{all_symbols, tree_symbols, symbol_at, mark_at, root_part, block_start}
use Rattle.guarantees.specs.Trees.{Hasher, hash_by, AgreesWith}
use Rattle.guarantees.specs.Terms.{equations_of}
use Rattle.guarantees.specs.Refusals.{TreeLengths, OutputLength}
use Rattle.guarantees.specs.Demand2.{tree_after, marks_after, record_after, symbol, Exactly}
use Rattle.guarantees.specs.Change12.{Genuine, GenuineInput, HoldsAll, IsWhole, IsMisfilled, StopsIn, NeverLess, EndsAlike, WrittenInput, written_left, OfWritten, Change12}
use Rattle.guarantees.proofs.Layouts.{tree-symbols, symbol_at_lem, mark_at_lem}
use Rattle.guarantees.proofs.Marks.{held-marked}
use Rattle.guarantees.proofs.Refusals.{absent_said}
use Rattle.guarantees.proofs.Passing.{repair-passes}
use Rattle.guarantees.proofs.Whole.{answer-is}
use Rattle.guarantees.proofs.Demand2.{coding, after-full, after-bits, after-right, after_names, demand_2}
use Rattle.guarantees.proofs.Demand3.{marked_1, is_held, is-absent, way_of}
use Rattle.guarantees.proofs.Change5.{change_5}
use Rattle.guarantees.proofs.Genuine.{repair_so, ok, genuine_so, whole-end, end_whole, stops_end, end_stops, last, in_tree, left-low, whole-held, genuine-ends, repaired_again, by_places}

-- a filling has a part in a whole end alone
ended_same : (b c : Bool) (s : ℕ) (z : End) → (z ≡ whole → b ≡ c) → ended_by b s z ≡ ended_by c s z
ended_same b c s working h = refl
ended_same b c s whole h = ap (λ (x : Bool). pick x (ended s whole) (misfilled s)) (h refl)
ended_same b c s (fault j e x n) h = refl
ended_same b c s (unavailable j) h = refl
ended_same b c s (twins j x) h = refl

module _ (d : ℕ) (r table : List ℕ) (f : ℕ → ℕ → List ℕ) where
  abbrev tbl : List (List (List ℕ))
  tbl = equations_of table

  abbrev H : Hasher
  H = symbol_hash (kind_in r)

  abbrev Input : List ℕ → List ℕ → List ℕ → Type 0
  Input t m o = GenuineInput d r table f t m o

  -- what 01's steps come to, and what is known of them
  abbrev steps : List ℕ → List ℕ → List ℕ → St
  steps t m o = repair_of r table t m o

  abbrev end_so : (t m o : List ℕ) → Input t m o → model.GenuineEnd tree tbl H (root_in r) f t m (steps t m o)
  end_so t m o a = genuine_so d r table f t m o a

  -- what the call answers and leaves
  abbrev left : List ℕ → List ℕ → List ℕ → RepairLeft Result
  left t m o = repaired d r table t m o

  -- by marks, as crate `model` says it
  holds_so : (t m o : List ℕ) → Input t m o → (v w : List ℕ) → HoldsAll d v w → model.HoldsAll tree tbl v w
  unfolding k_of n_of
  holds_so t m o a v w h l i inside e = is_held w l i (h l i (omega (arith, inside.0, (ok d r table f t m o a).depth)) inside.1 (marked_1 v l i e))

  module _ (t m o u n p : List ℕ) (a : Input t m o) (b : Input u n p) where
    -- ---- two repairs that end whole have one tree, and one filling

    trees : (steps t m o).end ≡ whole → (steps u n p).end ≡ whole → (steps u n p).tree ≡ (steps t m o).tree
    trees q q' =
        let x = end_so t m o a in
        let y = end_so u n p b in
        tree-same tree (length tbl) (steps u n p).tree (steps t m o).tree y.final.always.sized.tree-length x.final.always.sized.tree-length
        (λ j i hj hi. y.genuine j i (hj, hi) (whole-held d r table f u n p b q' j i (hj, hi)) ∙ sym (x.genuine j i (hj, hi) (whole-held d r table f t m o a q j i (hj, hi))))

    misfilled_both : (steps t m o).end ≡ whole → (steps u n p).end ≡ whole → IsMisfilled (left t m o).answer → IsMisfilled (left u n p).answer
    misfilled_both q q' (s, x) =
        let (_, _, w) = ((repair_so d r table f t m o a).misfilled_just_when s).0 x in
        let (y, h, k) = w in (
          (steps u n p).stored,
          ((repair_so d r table f u n p b).misfilled_just_when (steps u n p).stored).1
              (q', refl, (y, h, λ z. k (ap (λ (l : List ℕ). get_or l (block_start d + y) 0) (sym (trees q q')) ∙ z))),
        )

    -- ---- two that leave the same symbols absent leave the same marks

    marks-same : ((l i : ℕ) → InTree tree tbl l i → absent_at tree (steps t m o).marks l i ≡ absent_at tree (steps u n p).marks l i) → (left t m o).marks ≡ (left u n p).marks
    marks-same same =
        let x : List ℕ = (steps t m o).marks in
        let y : List ℕ = (steps u n p).marks in
        let full = (end_so t m o a).final.always.sized.marks-length in
        (repair_so d r table f t m o a).as_the_steps.marks-left
        ∙ ext_get_or 0 x y (full ∙ sym (end_so u n p b).final.always.sized.marks-length)
        (λ q h.
        let (j, i, hj, hi, e) = place_of_lem tree (length tbl) q (omega (arith, full)) in
        let lj : j < d = omega (arith, (ok d r table f t m o a).depth) in
        subst (λ (z : ℕ). get_or x z 0 ≡ get_or y z 0) (sym e)
        (by_test (absent_at tree x j i)
        (λ k. absent_said x j i (left-low d r table f t m o a j i lj hi) k ∙ sym (absent_said y j i (left-low d r table f u n p b j i lj hi) (sym (same j i (hj, hi)) ∙ k)))
        (λ k. held-marked x j i k ∙ sym (held-marked y j i (sym (same j i (hj, hi)) ∙ k)))))
        ∙ sym (repair_so d r table f u n p b).as_the_steps.marks-left

  module _ (t m o u n p : List ℕ) (a : Input t m o) (b : Input u n p) where
    whole_both : (steps t m o).end ≡ whole → (steps u n p).end ≡ whole → IsWhole (left t m o).answer → IsWhole (left u n p).answer
    unfolding way_of
    whole_both q q' w =
        ⊎_elim (λ k. k)
        (λ k. let (s, z) = misfilled_both u n p t m o b a q' q k in absurd (omega (arith, ap way_of (sym w.1 ∙ z))))
        (end_whole d r table f u n p b q')

    -- ---- the second holds everything the first does

    module _ (more : HoldsAll d m n) where
      abbrev A : St
      A = steps t m o

      abbrev B : St
      B = steps u n p

      -- what the first was lent the second holds at its end
      lent-left : model.HoldsAll tree tbl m B.marks
      lent-left l i h e = (end_so u n p b).kept l i h (holds_so t m o a m n more l i h e)

      held_too : model.HoldsAll tree tbl A.marks B.marks
      held_too = laws.never_less tree H (root_in r) tbl f t m u n A B (end_so t m o a) (end_so u n p b) lent-left

      end_too : A.end ≡ whole → B.end ≡ whole
      end_too = laws.whole_too tree H (root_in r) tbl f t m u n A B (end_so t m o a) (end_so u n p b) lent-left

      never_nearer : (j l : ℕ) → StopsIn j (left t m o).answer → StopsIn l (left u n p).answer → j ≤ l
      never_nearer j l x y =
          let en = (last d r table f t m o a (unavailable j) (stops_end d r table f t m o a j x)).0 in
          let (en', _, w) = last d r table f u n p b (unavailable l) (stops_end d r table f u n p b l y) in
          let (i, hi, ab) = w in
          elim (dec_le j l) [
            | yes h ↦ h
            | no h ↦
                both ab (held_too l i (omega (arith, (end_so u n p b).final.always.in_depth), hi) (((end_so t m o a).final.always.above l (omega arith)).full i hi))
          ]

      among : (j : ℕ) → StopsIn j (left t m o).answer → StopsIn j (left u n p).answer
          → (i : ℕ) → i < all_symbols j → mark_at (left u n p).marks j i ≡ 0 → mark_at (left t m o).marks j i ≡ 0
      unfolding k_of n_of
      among j x y i hi =
          let en = (last d r table f t m o a (unavailable j) (stops_end d r table f t m o a j x)).0 in
          let inside : j < length tbl = omega (arith, (end_so t m o a).final.always.in_depth) in
          rw (repair_so d r table f t m o a).as_the_steps.marks-left (rw (repair_so d r table f u n p b).as_the_steps.marks-left
          (λ z. by_test (absent_at tree A.marks j i) (λ e. mark_at_lem A.marks j i ∙ ((end_so t m o a).final.always.cleared j i (omega arith) hi e).0)
          (λ e. both (is-absent B.marks j i (λ h. omega arith)) (held_too j i (inside, hi) e))))

      never_less : NeverLess d (left t m o) (left u n p)
      unfolding k_of n_of
      never_less =
          record {
            whole_too = λ k. let q = whole-end d r table f t m o a (inl k) in whole_both q (end_too q) k;
            misfilled_too = λ k. let q = whole-end d r table f t m o a (inr k) in misfilled_both t m o u n p a b q (end_too q) k;
            same-tree = λ k.
                let q = whole-end d r table f t m o a k in
                (repair_so d r table f u n p b).as_the_steps.tree-left ∙ trees t m o u n p a b q (end_too q) ∙ sym (repair_so d r table f t m o a).as_the_steps.tree-left;
            never_nearer = never_nearer;
            among = among;
            holds-all = rw (repair_so d r table f t m o a).as_the_steps.marks-left (rw (repair_so d r table f u n p b).as_the_steps.marks-left
                (λ j i hj hi h. marked_1 B.marks j i (held_too j i (in_tree d r table f t m o a j i hj hi) (is_held A.marks j i h))));
          }

  -- ---- the second is lent, besides, only what the first gave back

  module _ (t m o u n p : List ℕ) (a : Input t m o) (b : Input u n p) (more : HoldsAll d m n) (less : HoldsAll d n (left t m o).marks) where
    given_back : model.HoldsAll tree tbl n (steps t m o).marks
    given_back = holds_so t m o a n (steps t m o).marks (rw (repair_so d r table f t m o a).as_the_steps.marks-left at less)

    same_end : (steps t m o).end ≡ (steps u n p).end
    same_end = laws.same_end tree H (root_in r) tbl f t m u n (steps t m o) (steps u n p) (end_so t m o a) (end_so u n p b) (lent-left t m o u n p a b more) given_back

    in_turns : EndsAlike (left t m o) (left u n p)
    in_turns =
        record {
          both_whole = (
            λ k. let q = whole-end d r table f t m o a (inl k) in whole_both t m o u n p a b q (sym same_end ∙ q) k,
            λ k. let q = whole-end d r table f u n p b (inl k) in whole_both u n p t m o b a q (same_end ∙ q) k,
          );
          both_misfilled = (
            λ k. let q = whole-end d r table f t m o a (inr k) in misfilled_both t m o u n p a b q (sym same_end ∙ q) k,
            λ k. let q = whole-end d r table f u n p b (inr k) in misfilled_both u n p t m o b a q (same_end ∙ q) k,
          );
          both_stop = λ j. (
            λ k. end_stops d r table f u n p b j (sym same_end ∙ stops_end d r table f t m o a j k),
            λ k. end_stops d r table f t m o a j (same_end ∙ stops_end d r table f u n p b j k),
          );
          same-marks = marks-same t m o u n p a b
              (laws.same-absent tree H (root_in r) tbl f t m u n (steps t m o) (steps u n p) (end_so t m o a) (end_so u n p b) (lent-left t m o u n p a b more) given_back);
        }

  -- ---- both are lent the same marks

  same-places : (t m o u p : List ℕ) → Input t m o → Input u m p → ((left t m o).answer ≡ (left u m p).answer) × ((left t m o).marks ≡ (left u m p).marks)
  same-places t m o u p a b =
      let x : St = steps t m o in
      let y : St = steps u m p in
      let ga = end_so t m o a in
      let gb = end_so u m p b in
      let blank : St → Bool = λ z. zero_filled tree d (size_in r) z.tree in
      let end = laws.same_end tree H (root_in r) tbl f t m u m x y ga gb gb.kept ga.kept in
      let stored = laws.same-stored tree H (root_in r) tbl f t m u m x y ga gb gb.kept ga.kept (λ l i h. refl) in (
        answer-is d r table t m o a.well_formed
            ∙ ended_same (blank x) (blank y) x.stored x.end (λ q. ap (zero_filled tree d (size_in r)) (sym (trees t m o u m p a b q (sym end ∙ q))))
            ∙ ap₂ (ended_by (blank y)) stored end
            ∙ sym (answer-is d r table u m p b.well_formed),
        marks-same t m o u m p a b (laws.same-absent tree H (root_in r) tbl f t m u m x y ga gb gb.kept ga.kept),
      )

-- ---- a volume that was written

module _ (d : ℕ) (kind : Kind) (table block t m r : List ℕ) (e : (tree_written d kind table block t m r).answer ≡ Done) where
  abbrev r' : List ℕ
  r' = record_after d kind table block t m r

  abbrev own : ℕ → ℕ → List ℕ
  own = symbol d kind table block t m r

  made : Exactly d kind table block t m r
  made = demand_2.writes_exactly d kind table block t m r e

  genuine_input : (u w o : List ℕ) → TreeLengths d u w → OutputLength d o → ((p : ℕ) → p < tree_symbols d → get_or w p 0 ≤ 1) → Genuine d own u w → WrittenInput d kind table block t m r u w o
  genuine_input u w o l room low g =
      record {
        agrees = subst (λ (k : ℕ). AgreesWith (hash_by k) d (equations_of table) (root_part r') own) (sym (after-bits d kind table block t m r e)) made.agrees;
        well_formed = repair-passes d r' table u w o (after-full d kind table block t m r e) (after-right d kind table block t m r e)
            (coding d kind table block t m r e).taken (after_names d kind table block t m r e) l room (λ p h. low p (omega (arith, l.mark-bytes)));
        genuine = g;
      }

  module _ (u w o : List ℕ) (g : WrittenInput d kind table block t m r u w o) where
    abbrev st : St
    st = repair_of r' table u w o

    -- a full tree has the symbols that were written, and every mark 1
    back-tree : st.end ≡ whole → st.tree ≡ tree_after d kind table block t m r
    back-tree q =
        tree-same tree d st.tree (tree_after d kind table block t m r) ((repair_so d r' table own u w o g).every-end.lengths.tree-bytes ∙ ap (λ (k : ℕ). 256 * k) (tree-symbols d))
        (made.lengths.tree-bytes ∙ ap (λ (k : ℕ). 256 * k) (tree-symbols d))
        (λ j i hj hi.
        let inside = in_tree d r' table own u w o g j i hj hi in
        (genuine_so d r' table own u w o g).genuine j i inside (whole-held d r' table own u w o g q j i inside) ∙ symbol_at_lem (tree_after d kind table block t m r) j i)

    back-marks : st.end ≡ whole → st.marks ≡ marks_after d kind table block t m r
    back-marks q =
        let full = (repair_so d r' table own u w o g).every-end.lengths.mark-bytes in
        ext_get_or 0 st.marks (marks_after d kind table block t m r) (full ∙ sym made.lengths.mark-bytes)
        (λ p h.
        let (j, i, hj, hi, k) = place_of_lem tree d p (omega (arith, full, tree-symbols d)) in
        ap (λ (x : ℕ). get_or st.marks x 0) k ∙ held-marked st.marks j i (whole-held d r' table own u w o g q j i (in_tree d r' table own u w o g j i hj hi))
        ∙ sym (made.marked p (omega (arith, full))))

    comes_back : IsWhole (written_left d kind table block t m r u w o).answer
        → ((written_left d kind table block t m r u w o).tree ≡ tree_after d kind table block t m r) × ((written_left d kind table block t m r u w o).marks ≡ marks_after d kind table block t m r)
    comes_back k =
        let q = whole-end d r' table own u w o g (inl k) in (
          (repair_so d r' table own u w o g).as_the_steps.tree-left ∙ back-tree q,
          (repair_so d r' table own u w o g).as_the_steps.marks-left ∙ back-marks q,
        )

    -- it would show a collision of that tree with itself
    never_misfilled : IsMisfilled (written_left d kind table block t m r u w o).answer → ⊥
    never_misfilled (s, x) =
        let c = change_5.writer_never_misfilled d kind table block t m r e u w o s x in
        let same = (repair_so d r' table own u w o g).as_the_steps.tree-left ∙ back-tree (whole-end d r' table own u w o g (inr (s, x))) in
        c.collide.differ (ap (λ (y : List ℕ). symbol_at y c.layer c.number) same)

  of_written : OfWritten d kind table block t m r
  of_written = record { genuine_input = genuine_input; never_misfilled = never_misfilled; comes_back = comes_back }

pub change_12 : Change12
change_12 =
    record {
      one-repair = genuine-ends;
      two-repairs = never_less;
      by_places = by_places;
      same-places = same-places;
      repaired_again = λ d r table f t m o p g. repaired_again d r table f t m o g p;
      in_turns = in_turns;
      of_written = of_written;
    }
