-- One repair whose held symbols are all those of one tree that agrees.
use mathlib.Core.Path.{◌≡◌, sym, ap, ◌∙◌, subst}
use mathlib.Core.Logic.{◌⊎◌, ◌↔◌, inl, inr, ⊎_elim}
use mathlib.Core.Bool.{true, false}
use mathlib.Core.List.{List}
use Prim.Native.Nat.{ℕ, ◌≤◌, ◌<◌}
use native.Mathlib.Omega.{arith}
use native.Mathlib.Decide.{dec_lt}
use lib.ListN.{length, get_or}
use Rattle.octets.proofs.Choice.{by_test, both}
use Rattle.parity_table.specs.Shape.{k_of, n_of}
use Rattle.parity_table.specs.Table.{layer_of, equation_of, TableOk}
use Rattle.symbol_hash.specs.SymbolHash.{symbol_hash}
use Rattle.symbol_hash.proofs.Laws.{length-symbol_hash}
use Rattle.root_record.specs.Records.{kind_in, root_in}
use Rattle.model.specs.Shape.{tree, place}
use Rattle.model.specs.Coded.{InTree, Agrees}
use Rattle.model.specs.Repair.{End, whole, fault, unavailable, twins, St, absent_at}
use Rattle.model.specs.Ends.{Stopping}
use Rattle.model.specs.Alike.{kind_of}
use Rattle.model.specs.Finals.{LastLayer, Final}
use Rattle.model.specs.Genuine as model
use Rattle.model.proofs.Shapes.{tree_ok, place_of_lem}
use Rattle.model.proofs.Frame.{byte-below}
use Rattle.model.proofs.FourEnds.{repair-final}
use Rattle.model.proofs.Genuine.{genuine-end}
use Rattle.calls.specs.Stops.{Done}
use Rattle.fault_calls.specs.Repairing.{ended, end_number, repair_tested, repair_of, repaired}
use Rattle.fault_calls.proofs.RepairingLaws.{formed}
use Rattle.guarantees.specs.Layouts.{all_symbols, mark_at, root_part}
use Rattle.guarantees.specs.Trees.{Hasher, members, AgreesWith}
use Rattle.guarantees.specs.Terms.{equations_of}
use Rattle.guarantees.specs.Refusals.{TreeLengths, OutputLength}
use Rattle.guarantees.specs.Demand3.{Repair, EndsWhole, EndsMisfilled, EndsFault, EndsUnavailable, EndsTwins}
use Rattle.guarantees.specs.Change12.{GenuineInput, Completes, StopsIn, GenuineEnds, Stuck, NoneStuck, FirstStuck, ByPlaces}
use Rattle.guarantees.proofs.Layouts.{tree-symbols, symbol_at_lem, mark_at_lem}
use Rattle.guarantees.proofs.Trees.{hash_in_lem, with_agrees}
use Rattle.guarantees.proofs.Refusals.{absent_said}
use Rattle.guarantees.proofs.Marks.{held-marked}
use Rattle.guarantees.proofs.Passing.{repair-passes}
use Rattle.guarantees.proofs.Whole.{laws, sized, roomy}
use Rattle.guarantees.proofs.Demand2.{rules}
use Rattle.guarantees.proofs.Demand3.{marked_1, is_held, is-absent, meets-count, way_of, lent-low, demand_3}

module _ (d : ℕ) (r table : List ℕ) (f : ℕ → ℕ → List ℕ) (t m o : List ℕ) (g : GenuineInput d r table f t m o) where
  abbrev st : St
  st = repair_of r table t m o

  abbrev tbl : List (List (List ℕ))
  tbl = equations_of table

  e : repair_tested d r table t m o ≡ Done
  e = g.well_formed

  pub repair_so : Repair d r table t m o
  repair_so = demand_3.repairs d r table t m o e

  pub ok : TableOk d tbl
  ok = rules d table (formed d r table t m o e).admits.taken

  -- ---- the same of crate `model`

  final : Final tree (symbol_hash (kind_in r)) (root_in r) tbl t m st
  unfolding repair_of
  final = repair-final tree tree_ok.shape (symbol_hash (kind_in r)) (root_in r) tbl (laws d r table t m o e) t m o (roomy d r table t m o e) (sized d r table t m o e)

  agrees : Agrees tree (symbol_hash (kind_in r)) tbl (root_in r) f
  unfolding root_in
  agrees = with_agrees (kind_in r) d tbl ok (root_part r) f (subst (λ (h : Hasher). AgreesWith h d tbl (root_part r) f) (hash_in_lem r) g.agrees)

  lent : model.Genuine tree tbl f t m
  unfolding k_of n_of
  lent l i h a = sym (symbol_at_lem t l i) ∙ g.genuine l i (omega (arith, h.0, ok.depth)) h.1 (marked_1 m l i a)

  pub genuine_so : model.GenuineEnd tree tbl (symbol_hash (kind_in r)) (root_in r) f t m st
  genuine_so =
      genuine-end tree tree_ok.shape (symbol_hash (kind_in r)) (length-symbol_hash (kind_in r)) (root_in r) tbl (laws d r table t m o e) f agrees t m lent st final

  -- ---- the end of the steps, by the answer

  end_of : (s : ℕ) (z : End) → (repaired d r table t m o).answer ≡ ended s z → st.end ≡ z
  unfolding way_of
  end_of s z q =
      ⊎_elim (λ p. let k : ended s z ≡ ended st.stored st.end = sym q ∙ p in cc)
      (λ (_, p). absurd (omega (arith, ap way_of (sym q ∙ p)))) repair_so.as_the_steps.reports

  pub whole-end : Completes (repaired d r table t m o).answer → st.end ≡ whole
  whole-end (inl (s, q)) = end_of s whole q
  whole-end (inr (s, q)) = ((repair_so.misfilled_just_when s).0 q).0

  pub end_whole : st.end ≡ whole → Completes (repaired d r table t m o).answer
  end_whole q =
      ⊎_elim (λ p. inl (st.stored, p ∙ ap (ended st.stored) q)) (λ (_, p). inr (st.stored, p)) repair_so.as_the_steps.reports

  pub stops_end : (j : ℕ) → StopsIn j (repaired d r table t m o).answer → st.end ≡ unavailable j
  stops_end j (s, q) = end_of s (unavailable j) q

  pub end_stops : (j : ℕ) → st.end ≡ unavailable j → StopsIn j (repaired d r table t m o).answer
  end_stops j q =
      ⊎_elim (λ p. (st.stored, p ∙ ap (ended st.stored) q)) (λ (w, _). absurd (omega (arith, ap end_number (sym q ∙ w)))) repair_so.as_the_steps.reports

  -- ---- neither a fault nor twins

  abbrev Ends : Type 0
  Ends = EndsWhole d r table t m o ⊎ (EndsMisfilled d r table t m o ⊎ EndsUnavailable d r table t m o)

  neither : EndsWhole d r table t m o ⊎ (EndsMisfilled d r table t m o ⊎ (EndsFault d r table t m o ⊎ (EndsUnavailable d r table t m o ⊎ EndsTwins d r table t m o))) → Ends
  neither (inl w) = inl w
  neither (inr (inl w)) = inr (inl w)
  neither (inr (inr (inl w))) = absurd (genuine_so.unrefuted w.layer (ap kind_of w.is-end))
  neither (inr (inr (inr (inl w)))) = inr (inr w)
  neither (inr (inr (inr (inr w)))) = absurd (genuine_so.unrefuted w.layer (ap kind_of w.is-end))

  pub in_tree : (j i : ℕ) → j < d → i < n_of j → InTree tree tbl j i
  in_tree j i hj hi = (omega (arith, ok.depth), hi)

  pub genuine-ends : GenuineEnds d r table f t m o
  unfolding k_of n_of
  genuine-ends =
      record {
        ends = neither repair_so.one_of_five;
        no_fault_lem = λ s j x y n q. genuine_so.unrefuted j (ap kind_of (end_of s (fault j x y n) q));
        no_twins = λ s j x q. genuine_so.unrefuted j (ap kind_of (end_of s (twins j x) q));
        still_held = rw repair_so.as_the_steps.marks-left (λ j i hj hi h. marked_1 st.marks j i (genuine_so.kept j i (in_tree j i hj hi) (is_held m j i h)));
        still_genuine = rw repair_so.as_the_steps.marks-left (rw repair_so.as_the_steps.tree-left
            (λ j i hj hi h. symbol_at_lem st.tree j i ∙ genuine_so.genuine j i (in_tree j i hj hi) (is_held st.marks j i h)));
      }

  -- ---- what it leaves is such input again

  -- with the same record and table other buffers pass the tests too
  passes_too : (u n p : List ℕ) → TreeLengths d u n → OutputLength d p → ((q : ℕ) → q < length n → get_or n q 0 ≤ 1) → repair_tested d r table u n p ≡ Done
  passes_too u n p = let k = formed d r table t m o e in repair-passes d r table u n p k.record_full k.admits.head k.admits.taken k.admits.named

  -- a mark that is left is 0 or 1
  pub left-low : (j i : ℕ) → j < d → i < n_of j → get_or st.marks (place tree j i) 0 ≤ 1
  left-low j i hj hi =
      elim (dec_lt j st.entered) [
        | yes h ↦
            by_test (absent_at tree st.marks j i) (λ a. omega (arith, (genuine_so.final.always.cleared j i h hi a).0)) (λ a. omega (arith, held-marked st.marks j i a))
        | no h ↦
            omega (
              arith,
              byte-below tree st.entered j i (omega arith) st.marks m genuine_so.final.always.unmarked,
              lent-low d r table t m o e j i hj hi,
            )
      ]

  left-right : (p : ℕ) → p < length st.marks → get_or st.marks p 0 ≤ 1
  left-right p h =
      let (j, i, hj, hi, q) = place_of_lem tree d p (omega (arith, repair_so.every-end.lengths.mark-bytes, tree-symbols d)) in
      subst (λ (x : ℕ). get_or st.marks x 0 ≤ 1) (sym q) (left-low j i hj hi)

  pub repaired_again : (p : List ℕ) → OutputLength d p → GenuineInput d r table f (repaired d r table t m o).tree (repaired d r table t m o).marks p
  repaired_again p room =
      record {
        agrees = g.agrees;
        well_formed = rw repair_so.as_the_steps.marks-left (rw repair_so.as_the_steps.tree-left
            (passes_too st.tree st.marks p repair_so.every-end.lengths room left-right));
        genuine = genuine-ends.still_genuine;
      }

  -- ---- in a layer that was entered, what is stuck is what is absent

  module _ (j : ℕ) (hj : j < st.entered) where
    lj : j < d
    lj = omega (arith, genuine_so.final.always.in_depth, ok.depth)

    stuck_absent : (i : ℕ) → Stuck table m j i → absent_at tree st.marks j i ≡ true
    unfolding Stopping k_of n_of layer_of equation_of
    stuck_absent i x =
        (genuine_so.largest j hj).contains x.set (λ y hy s. is-absent m j y (λ q. omega (arith, x.marked_0 y hy s)))
        (λ v hv c. x.never_once v (omega (arith, ok.equations j lj)) (meets-count x.set (members tbl j v) ∙ c)) i x.in_layer_lem x.in_set

    absent_stuck : (i : ℕ) → i < n_of j → absent_at tree st.marks j i ≡ true → Stuck table m j i
    unfolding Stopping k_of n_of layer_of equation_of
    absent_stuck i hi a =
        record {
          in_layer_lem = hi;
          set = absent_at tree st.marks j;
          in_set = a;
          marked_0 = λ x hx s. mark_at_lem m j x ∙ absent_said m j x (lent-low d r table t m o e j x lj hx) ((genuine_so.largest j hj).inside x hx s);
          never_once = λ v hv c.
              (genuine_so.largest j hj).stopping v (omega (arith, ok.equations j lj)) (sym (meets-count (absent_at tree st.marks j) (members tbl j v)) ∙ c);
        }

    none_stuck : ((i : ℕ) → i < n_of j → absent_at tree st.marks j i ≡ false) → NoneStuck table m j
    unfolding k_of n_of
    none_stuck full i x = both (stuck_absent i x) (full i x.in_layer_lem)

  -- ---- the two ends

  pub last : (z : End) → st.end ≡ z → LastLayer tree (symbol_hash (kind_in r)) (root_in r) tbl st (kind_of z)
  last z q = subst (λ (y : End). LastLayer tree (symbol_hash (kind_in r)) (root_in r) tbl st (kind_of y)) q genuine_so.final.last

  pub whole-held : st.end ≡ whole → (j i : ℕ) → InTree tree tbl j i → absent_at tree st.marks j i ≡ false
  whole-held q j i h = ((last whole q).1 j h.0).full i h.1

  whole-none : st.end ≡ whole → (j : ℕ) → j < d → NoneStuck table m j
  whole-none q j hj = none_stuck j (omega (arith, (last whole q).0, ok.depth)) (λ i hi. whole-held q j i (in_tree j i hj hi))

  stops_first : (j : ℕ) → st.end ≡ unavailable j → FirstStuck d table m j
  stops_first j q =
      let (en, _, w) = last (unavailable j) q in
      let (i, hi, ab) = w in
      record {
        in_depth = lj j (omega arith);
        some_stuck = (i, absent_stuck j (omega arith) i hi ab);
        none_above = λ l h. none_stuck l (omega arith) (λ x hx. (genuine_so.final.always.above l (omega arith)).full x hx);
      }

  abbrev Ways : Type 0
  Ways = (st.end ≡ whole) ⊎ ((j : ℕ) × (st.end ≡ unavailable j))

  which : Ends → Ways
  which (inl w) = inl w.whole-tree.is-end
  which (inr (inl w)) = inl w.whole-tree.is-end
  which (inr (inr w)) = inr (w.layer, w.is-end)

  -- no layer has stuck symbols, or the first that has is this one
  none-whole : ((j : ℕ) → j < d → NoneStuck table m j) → Ways → st.end ≡ whole
  none-whole none (inl q) = q
  none-whole none (inr (j, q)) = let s = stops_first j q in let (i, x) = s.some_stuck in absurd (none j s.in_depth i x)

  first_stops : (j : ℕ) → FirstStuck d table m j → Ways → st.end ≡ unavailable j
  first_stops j s (inl q) = let (i, x) = s.some_stuck in absurd (whole-none q j s.in_depth i x)
  first_stops j s (inr (l, q)) =
      let s' = stops_first l q in
      let (i, x) = s.some_stuck in
      let (y, z) = s'.some_stuck in
      elim (dec_lt l j) [
        | yes h ↦ absurd (s.none_above l h y z)
        | no h ↦ elim (dec_lt j l) [
          | yes k ↦ absurd (s'.none_above j k i x)
          | no k ↦ let same : l ≡ j = omega arith in q ∙ ap unavailable same
        ]
      ]

  missing_stuck : (j : ℕ) → StopsIn j (repaired d r table t m o).answer → (i : ℕ) → i < all_symbols j → (mark_at (repaired d r table t m o).marks j i ≡ 0) ↔ Stuck table m j i
  unfolding k_of n_of
  missing_stuck j s i hi =
      let en = (last (unavailable j) (stops_end j s)).0 in
      rw repair_so.as_the_steps.marks-left (
        λ z. absent_stuck j (omega arith) i hi (is-absent st.marks j i (λ h. omega arith)),
        λ x. mark_at_lem st.marks j i ∙ (genuine_so.final.always.cleared j i (omega arith) hi (stuck_absent j (omega arith) i x)).0,
      )

  pub by_places : ByPlaces d table m (repaired d r table t m o)
  by_places =
      let ways = which genuine-ends.ends in
      record {
        completes_just_when = (λ w. whole-none (whole-end w), λ none. end_whole (none-whole none ways));
        stops_just_when = λ j. (λ s. stops_first j (stops_end j s), λ s. end_stops j (first_stops j s ways));
        missing_just_when = missing_stuck;
      }
