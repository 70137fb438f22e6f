-- Demand 3: the checker is sound, and every repair of well-formed input ends in one of four ways, or whole but misfilled.
use Rattle.std.specs.Prelude.{Ok, Err}
use mathlib.Core.Path.{◌≡◌, refl, sym, ap, ap₂, ◌∙◌, subst}
use mathlib.Core.Logic.{◌⊎◌, ◌↔◌, ◌≢◌, inl, inr, ⊎_elim}
use mathlib.Core.Bool.{Bool, true, false, not, ◌&&◌, ◌||◌}
use mathlib.Core.List.{List, [], ◌∷◌, ◌++◌, append-nil}
use Prim.Native.Nat.{ℕ, zero, suc, ◌+◌, ◌*◌, ◌≤◌, ◌<◌}
use native.Mathlib.Omega.{arith}
use lib.ListN.{length, get_or}
use lib.Dec.{ltb, eqb}
use borrow.Author.Tests.{ltb-true, eqb-false, eq-eqb, ne_eqb}
use Rattle.octets.specs.Choice.{pick}
use Rattle.octets.specs.ByteLists.{same}
use Rattle.octets.proofs.Choice.{by_test, and_yes, yes_and, both, not_yes}
use Rattle.parity_table.specs.Shape.{k_of, n_of}
use Rattle.parity_table.specs.Members.{every, last_of}
use Rattle.parity_table.specs.Table.{layer_of, equation_of, TableOk}
use Rattle.table_bytes.specs.Bytes.{words_of}
use Rattle.parity_table.proofs.Shape.{depth_is}
use Rattle.parity_table.proofs.Accepts.{accepted-depth}
use Rattle.parity_table.proofs.Rules.{members-below}
use Rattle.model.specs.Shape.{tree, place, places}
use Rattle.model.specs.Symbols.{bit, count, others, symbol_in, xor_of, zeros, committed, sym_at}
use Rattle.model.specs.Repair.{End, working, whole, fault, unavailable, twins, St, absent_at}
use Rattle.model.specs.Writer.{block_of, zero_filled}
use Rattle.model.specs.Ends as model
use Rattle.model.specs.Ends.{Stopping, tally, gap_at, filled_in, filled, Passed, Peels, Taken, WholeEnd, FaultEnd, UnavailableEnd, TwinsEnd, EndOk, Ended}
use Rattle.octets.proofs.SameLaws.{yes_same, no_same}
use Rattle.model.proofs.Members.{every-below}
use Rattle.model.proofs.Counts.{is_it, first_of-passes, every-others, ascending_once, none-absent, others-held, last-member, first_member, counted-member}
use Rattle.model.proofs.Shapes.{place_lt}
use Rattle.model.proofs.Flat.{sym_at-length}
use Rattle.model.proofs.Filling.{zero_is, not_zero}
use Rattle.root_record.specs.Records.{kind_in, size_in, root_in}
use Rattle.calls.specs.Stops.{Answer}
use Rattle.calls.specs.declared.Stop.{Stop}
use Rattle.calls.specs.Stops.{Done, Stopped}
use Rattle.fault_calls.specs.Repairing.{Result, ended, misfilled, stopped, repair_sized, end_number, ended_by, repair_tested, repair_of, repaired_by, repaired}
use Rattle.calls.specs.Marks.{lowest_bad}
use Rattle.fault_calls.proofs.Sound.{checker_sound}
use Rattle.calls.specs.Tests.{test_marks, admitted_by}
use Rattle.calls.proofs.TestLaws.{then_done, marks-passed}
use Rattle.fault_calls.proofs.CheckingLaws.{passed}
use Rattle.fault_calls.proofs.RepairingLaws.{misfills, ends_so, formed}
use Rattle.fault_calls.proofs.Ends.{four_ways, fault-accepted}
use Rattle.guarantees.specs.Layouts.{bytes_from, symbol_no, data_symbols, all_symbols, symbol_at, mark_at, hash_for, XorOf, kind_no, root_part, block_room}
use Rattle.guarantees.specs.Tables.{IsMember}
use Rattle.guarantees.specs.Trees.{Hasher, hash_by, members, EquationHolds}
use Rattle.guarantees.specs.Terms.{equations_of}
use Rattle.guarantees.specs.Demand3.{how_many, meets, in_layers, NotTaken, Peeled, none-stored, stores, Gap, Tells, Took, LastOfFailing, Checker, AsTheSteps, EveryEnd, WholeTree, Filling, base_byte, EndsWhole, EndsMisfilled, EndsFault, EndsUnavailable, EndsTwins, Repair, StopsJustWhen, Demand3}
use Rattle.guarantees.proofs.Layouts.{tree-symbols, symbol_at_lem, mark_at_lem, hash_for_lem, xor_one, xor_of_lem}
use Rattle.calls.proofs.AdmissionLaws.{TableTaken}
use Rattle.guarantees.proofs.Membership.{every-member_of, member-other, two_passing, member_apart, last_apart, others_apart}
use Rattle.guarantees.proofs.Marks.{held-marked, all_right}
use Rattle.guarantees.proofs.Tables.{ok_rules}
use Rattle.guarantees.proofs.Whole.{answer-is as whole-answer}
use Rattle.guarantees.proofs.Trees.{hash_in_lem, symbols-are, agrees_with, with_agrees, twins_of}
use Rattle.guarantees.proofs.Refusals.{absent_said, absent-seen}
use Rattle.guarantees.proofs.FaultProofs.{fault-proofs}
use Rattle.guarantees.proofs.Records.{block_size_lem}
use Rattle.guarantees.proofs.Demand2.{rules, base-byte}

-- ---- the checker

checker : Checker
unfolding root_in k_of n_of
checker depth r table f agr b e =
    let tbl : List (List (List ℕ)) = equations_of table in
    let p = passed depth r table b e in
    let ok = rules depth table p.admits.taken in
    let x = checker_sound depth r table b e f (with_agrees (kind_in r) depth tbl ok (root_part r) f (rw (hash_in_lem r) at agr)) in
    let y = x.collision in
    let n = ((fault-proofs.accepts_just_when depth r table b).0 e).ready.named in
    let shallow = (accepted-depth depth (words_of table) p.admits.taken.accepted).1 in
    let hj : y.layer < depth = omega (arith, y.inside.0, ok.depth) in
    record {
      named = n;
      layer = y.layer;
      number = y.number;
      held = y.symbol;
      holds = (fault-proofs.holds_exactly depth tbl b shallow (ok_rules depth tbl ok) n y.layer y.number y.symbol).0 y.is_held;
      in_tree = (hj, y.inside.1);
      collide = rw (hash_in_lem r) (twins_of (kind_in r) y.layer y.number y.symbol (f y.layer y.number) x.sized x.sized_in_tree y.collide);
    }

-- ---- well-formed input

-- the marks of input that passed its tests
marks_tested : (d : ℕ) (r table t m o : List ℕ) → repair_tested d r table t m o ≡ Done → length m ≤ lowest_bad m
unfolding repair_tested
marks_tested d r table t m o e =
    marks-passed m (then_done (admitted_by d (repair_sized d (length r) (length t) (length m) (length o)) r table) (test_marks m) e).1

-- depth, lengths and table are right, and every mark is 0 or 1
record RepairInput (depth : ℕ) (table m : List ℕ) : Type 0 where
  taken : TableTaken depth table
  marks-right : (p : ℕ) → p < places tree depth → get_or m p 0 ≤ 1

input_of : (d : ℕ) (r table t m o : List ℕ) → repair_tested d r table t m o ≡ Done → RepairInput d table m
input_of d r table t m o e =
    let k = formed d r table t m o e in
    record {
      taken = k.admits.taken;
      marks-right = λ p h. all_right m (marks_tested d r table t m o e) p (omega (arith, k.marks-full));
    }

-- ---- marks, gaps and counts

-- absent, by its mark
module _ (m : List ℕ) (j i : ℕ) where
  pub marked_1 : absent_at tree m j i ≡ false → mark_at m j i ≡ 1
  marked_1 h = mark_at_lem m j i ∙ held-marked m j i h

  pub is_held : mark_at m j i ≡ 1 → absent_at tree m j i ≡ false
  unfolding absent_at
  is_held e = ap not (eq-eqb (get_or m (place tree j i) 0) 1 (sym (mark_at_lem m j i) ∙ e))

  pub is-absent : mark_at m j i ≢ 1 → absent_at tree m j i ≡ true
  unfolding absent_at
  is-absent n = ap not (ne_eqb (get_or m (place tree j i) 0) 1 (λ e. n (mark_at_lem m j i ∙ e)))

or_right : (a b : Bool) → a ≡ false → (a || b) ≡ true → b ≡ true
or_right true b e h = both refl e
or_right false b e h = h

or_first : (a b : Bool) → a ≡ true → (a || b) ≡ true
or_first true b h = refl
or_first false b h = both h refl

or_yes : (a b : Bool) → b ≡ true → (a || b) ≡ true
or_yes true b h = refl
or_yes false b h = h

bit-pick : (b : Bool) → pick b 1 0 ≡ bit b
unfolding pick
bit-pick true = refl
bit-pick false = refl

how_many_lem : (p q : ℕ → Bool) (n : ℕ) → ((i : ℕ) → i < n → p i ≡ q i) → how_many p n ≡ tally q n
unfolding how_many tally
how_many_lem p q zero h = refl
how_many_lem p q (suc n) h =
    ap₂ (λ (a b : ℕ). a + b) (bit-pick (p n) ∙ ap bit (h n (omega arith))) (how_many_lem p q n (λ i l. h i (omega arith)))

pub meets-count : (p : ℕ → Bool) (xs : List ℕ) → meets p xs ≡ count p xs
unfolding meets count
meets-count p [] = refl
meets-count p (x ∷ xs) = ap₂ (λ (a b : ℕ). a + b) (bit-pick (p x)) (meets-count p xs)

-- ---- results

-- 0 for an end, 1 for 13, and 2 where a repair stopped
unfoldable pub way_of : Result → ℕ
way_of (ended s z) = 0
way_of (misfilled s) = 1
way_of (stopped w) = 2

-- the symbols stored after 13, and why a repair stopped, else w
stored_of : Result → ℕ
stored_of (ended s z) = s
stored_of (misfilled s) = s
stored_of (stopped w) = 0

stop_of : Stop → Result → Stop
stop_of w (ended s z) = w
stop_of w (misfilled s) = w
stop_of w (stopped v) = v

-- no end is a stop
ends_way : (blank : Bool) (s : ℕ) (z : End) → way_of (ended_by blank s z) ≤ 1
unfolding way_of
ends_way blank s working = omega arith
ends_way blank s whole =
    by_test blank (λ f. omega (arith, ap way_of (ends_so blank s whole (λ n. f)))) (λ f. omega (arith, ap way_of (misfills blank s whole refl f)))
ends_way blank s (fault j x w n) = omega arith
ends_way blank s (unavailable j) = omega arith
ends_way blank s (twins j n) = omega arith

stops_so : (a : Answer) (d n : ℕ) (st : St) (t m o : List ℕ) (s : Stop) → (repaired_by a d n st t m o).answer ≡ stopped s → a ≡ Stopped s
unfolding way_of stop_of
stops_so (Ok tt) d n st t m o s e = absurd (omega (arith, ends_way (zero_filled tree d n st.tree) st.stored st.end, ap way_of e))
stops_so (Err w) d n st t m o s e = ap Stopped (ap (stop_of s) e)

-- and 13 comes of input that passed the tests
went_on : (a : Answer) (d n : ℕ) (st : St) (t m o : List ℕ) (s : ℕ) → (repaired_by a d n st t m o).answer ≡ misfilled s → a ≡ Done
unfolding way_of
went_on (Ok tt) d n st t m o s e = refl
went_on (Err w) d n st t m o s e = absurd (omega (arith, ap way_of e))

pub passed_13 : (d : ℕ) (r table t m o : List ℕ) (s : ℕ) → (repaired d r table t m o).answer ≡ misfilled s → repair_tested d r table t m o ≡ Done
unfolding repaired
passed_13 d r table t m o s e = went_on (repair_tested d r table t m o) d (size_in r) (repair_of r table t m o) t m o s e

stops_just_when : StopsJustWhen
unfolding repaired
stops_just_when depth r table t m o s = (
  stops_so (repair_tested depth r table t m o) depth (size_in r) (repair_of r table t m o) t m o s,
  λ e. ap (λ (a : Answer). (repaired_by a depth (size_in r) (repair_of r table t m o) t m o).answer) e,
)

-- ---- the four ways

module _ (depth : ℕ) (r table t m o : List ℕ) (e : repair_tested depth r table t m o ≡ Done) where
  abbrev st : St
  st = repair_of r table t m o

  abbrev root : List ℕ
  root = root_part r

  abbrev tbl : List (List (List ℕ))
  tbl = equations_of table

  abbrev H : Hasher
  H = hash_by (kind_no r 0)

  -- the end of the steps is reported, or 13 in place of whole
  abbrev blank : Bool
  blank = zero_filled tree depth (size_in r) st.tree

  answer-is : (repaired depth r table t m o).answer ≡ ended_by blank st.stored st.end
  answer-is = whole-answer depth r table t m o e

  reported : (z : End) → st.end ≡ z → (end_number z ≡ 0 → blank ≡ true) → (repaired depth r table t m o).answer ≡ ended st.stored z
  reported z q f = answer-is ∙ ap (ended_by blank st.stored) q ∙ sym (ends_so blank st.stored z f)

  reported_13 : st.end ≡ whole → blank ≡ false → (repaired depth r table t m o).answer ≡ misfilled st.stored
  reported_13 q f = answer-is ∙ ap (ended_by blank st.stored) q ∙ sym (misfills blank st.stored whole refl f)

  reports_so : (z : End) → st.end ≡ z
      → ((repaired depth r table t m o).answer ≡ ended st.stored z) ⊎ ((z ≡ whole) × ((repaired depth r table t m o).answer ≡ misfilled st.stored))
  reports_so working q = inl (reported working q (λ n. absurd (omega arith)))
  reports_so whole q = by_test blank (λ f. inl (reported whole q (λ n. f))) (λ f. inr (refl, reported_13 q f))
  reports_so (fault j x w n) q = inl (reported (fault j x w n) q (λ n. absurd (omega arith)))
  reports_so (unavailable j) q = inl (reported (unavailable j) q (λ n. absurd (omega arith)))
  reports_so (twins j n) q = inl (reported (twins j n) q (λ n. absurd (omega arith)))

  as_steps : AsTheSteps depth r table t m o
  unfolding repaired
  as_steps =
      record {
        reports = reports_so st.end refl;
        tree-left = ap (λ (a : Answer). (repaired_by a depth (size_in r) st t m o).tree) e;
        marks-left = ap (λ (a : Answer). (repaired_by a depth (size_in r) st t m o).marks) e;
        out-left = ap (λ (a : Answer). (repaired_by a depth (size_in r) st t m o).out) e;
      }

  so : Ended tree H root tbl t m o st
  unfolding root_in
  so = subst (λ (h : Hasher). Ended tree h root tbl t m o st) (sym (hash_in_lem r)) (four_ways depth r table t m o e)

  input : RepairInput depth table m
  input = input_of depth r table t m o e

  ok : TableOk depth tbl
  ok = rules depth table input.taken

  abbrev absent : ℕ → ℕ → Bool
  absent = absent_at tree st.marks

  -- a layer that was entered is one of the tree's
  in_depth : st.entered ≤ depth
  in_depth = omega (arith, so.always.in_depth, ok.depth)

  -- symbols of the tree have 256 bytes
  full : (j i : ℕ) → j < depth → i < n_of j → length (sym_at tree st.tree j i) ≡ 256
  full j i hj hi =
      sym_at-length tree st.tree j i
      (omega (arith, place_lt tree depth j i hj hi, so.always.sized.tree-length, ap (places tree) ok.depth))

  committed-is : (j i : ℕ) → hash_for root (symbol_at st.tree) j i ≡ committed tree root (sym_at tree st.tree) j i
  committed-is j i = rw (symbols-are st.tree) (hash_for_lem root (sym_at tree st.tree) j i)

  -- ---- gaps

  module _ (j i : ℕ) (hj : j < depth) (hi : i < n_of j) where
    pub lent-low : get_or m (place tree j i) 0 ≤ 1
    lent-low = input.marks-right (place tree j i) (place_lt tree depth j i hj hi)

    gap_is : gap_at tree H root t m st.tree j i ≡ true → Gap depth r table t m o j i
    unfolding gap_at
    gap_is g =
        by_test (absent_at tree m j i) (λ a. inl (mark_at_lem m j i ∙ absent_said m j i lent-low a))
        (λ a.
        inr (λ q.
        both
        (yes_same (ap (H j i) (sym (symbol_at_lem t j i)) ∙ q ∙ committed-is j i))
        (not_yes (same (H j i (sym_at tree t j i)) (committed tree root (sym_at tree st.tree) j i)) (or_right (absent_at tree m j i) _ a g))))

    is_gap : Gap depth r table t m o j i → gap_at tree H root t m st.tree j i ≡ true
    unfolding gap_at
    is_gap (inl z) = or_first (absent_at tree m j i) _ (absent-seen m j i lent-low (sym (mark_at_lem m j i) ∙ z))
    is_gap (inr n) =
        or_yes (absent_at tree m j i) _
        (ap not (no_same (λ q. n (ap (H j i) (symbol_at_lem t j i) ∙ q ∙ sym (committed-is j i)))))

  gap_no : (j i : ℕ) → j < depth → i < n_of j → (Gap depth r table t m o j i → ⊥) → gap_at tree H root t m st.tree j i ≡ false
  gap_no j i hj hi n = by_test (gap_at tree H root t m st.tree j i) (λ g. absurd (n (gap_is j i hj hi g))) (λ g. g)

  -- ---- what holds at every end

  -- a gap that is now held
  abbrev stored_at : ℕ → ℕ → Bool
  stored_at j i = gap_at tree H root t m st.tree j i && not (absent j i)

  layers-count : (d : ℕ) → in_layers stored_at d ≡ filled tree H root t m st.tree st.marks d
  unfolding in_layers filled filled_in k_of n_of
  layers-count zero = refl
  layers-count (suc d) = ap₂ (λ (a b : ℕ). a + b) (how_many_lem (stored_at d) (stored_at d) (all_symbols d) (λ i h. refl)) (layers-count d)

  -- an equation whose exclusive-or is zeros holds, and only such a one
  module _ (j q : ℕ) (hj : j < depth) (hq : q < 3 * k_of j) where
    inside : (i : ℕ) → i < length (equation_of tbl j q) → length (sym_at tree st.tree j (get_or (equation_of tbl j q) i 0)) ≡ 256
    inside i h =
        full j (get_or (equation_of tbl j q) i 0) hj (every-below (n_of j) (equation_of tbl j q) (members-below depth tbl ok j q hj hq) i h)

    holds_so : xor_of (sym_at tree st.tree j) (equation_of tbl j q) ≡ zeros → EquationHolds (symbol_at st.tree j) (members tbl j q)
    unfolding layer_of equation_of zeros
    holds_so z =
        subst (λ (f : ℕ → ℕ → List ℕ). EquationHolds (f j) (members tbl j q)) (sym (symbols-are st.tree))
        (subst (XorOf (λ i. sym_at tree st.tree j (get_or (members tbl j q) i 0)) (length (members tbl j q))) z
        (xor_of_lem (sym_at tree st.tree j) (members tbl j q) inside))

    so_holds : EquationHolds (symbol_at st.tree j) (members tbl j q) → xor_of (sym_at tree st.tree j) (equation_of tbl j q) ≡ zeros
    unfolding layer_of equation_of zeros
    so_holds x =
        xor_one (λ i. sym_at tree st.tree j (get_or (members tbl j q) i 0)) (length (members tbl j q)) (xor_of (sym_at tree st.tree j) (members tbl j q)) zeros
        (xor_of_lem (sym_at tree st.tree j) (members tbl j q) inside)
        (subst (λ (f : ℕ → ℕ → List ℕ). EquationHolds (f j) (members tbl j q)) (symbols-are st.tree) x)

  -- ---- (b), in a layer that was entered

  -- an equation that isn't taken where the symbols a are absent
  not_taken : (j q : ℕ) → j < depth → q < 3 * k_of j → (a : ℕ → Bool) → Passed tree tbl st.tree j a q
      → NotTaken (symbol_at st.tree j) (members tbl j) a q
  unfolding layer_of equation_of
  not_taken j q hj hq a (inl (c, z)) =
      inl (λ y mem. not_yes (a y) (every-member_of (λ x. not (a x)) (members tbl j q) (none-absent a (members tbl j q) c) y mem), holds_so j q hj hq z)
  not_taken j q hj hq a (inr two) = inr (two_passing a (members tbl j q) (ok.members j q hj hq).ascend two)

  -- which symbols are absent
  told : (j : ℕ) → j < st.entered → Tells depth r table t m o j (absent j)
  unfolding k_of n_of
  told j hj i hi = (
    λ h. mark_at_lem st.marks j i ∙ (so.always.cleared j i hj hi h).0,
    λ z. is-absent st.marks j i (λ h. omega arith),
  )

  -- one symbol less
  one_less : (a b : ℕ → Bool) (x y : ℕ) → b y ≡ (a y && not (eqb y x)) → (b y ≡ true) ↔ ((a y ≡ true) × (y ≢ x))
  one_less a b x y e = (
    λ h. let (p, q) = and_yes (a y) (not (eqb y x)) (sym e ∙ h) in (p, eqb-false y x (not_yes (eqb y x) q)),
    λ (p, n). e ∙ yes_and p (ap not (ne_eqb y x n)),
  )

  peeled_so : (j : ℕ) → j < depth → {a : ℕ → Bool} → Peels tree tbl st.tree j (gap_at tree H root t m st.tree j) a
      → Peeled (all_symbols j) (3 * data_symbols j) (Gap depth r table t m o j) (symbol_at st.tree j) (members tbl j) a
  unfolding k_of n_of layer_of equation_of
  peeled_so j hj (model.none-stored h) =
      none-stored (λ x l. (λ p. gap_is j x hj l (sym (h x l) ∙ p), λ g. h x l ∙ is_gap j x hj l g))
  peeled_so j hj (model.stores {a} {b} p e x he c ex z low eb) =
      let ms : List ℕ = members tbl j e in
      let le : e < 3 * k_of j = omega (arith, ok.equations j hj) in
      let mem : IsMember x ms = counted-member x ms (rw ex (first_member a ms (omega arith))) in
      stores (peeled_so j hj p) e x le mem (rw ex (first_of-passes a ms (omega arith)))
      (λ y my n. not_yes (a y) (every-member_of (λ v. not (a v)) (others x ms) (others-held a x ms c ex) y (member-other x y ms my n)))
      (holds_so j e hj le z) (λ q l. not_taken j q hj (omega arith) a (low q l)) (λ y l. one_less a b x y (eb y l))

  every-end : EveryEnd depth r table t m o
  unfolding k_of n_of zeros
  every-end =
      let a = so.always in
      record {
        in_depth = in_depth;
        lengths = record {
          tree-bytes = a.sized.tree-length ∙ ap (λ (n : ℕ). 256 * places tree n) ok.depth ∙ ap (λ (n : ℕ). 256 * n) (sym (tree-symbols depth));
          mark-bytes = a.sized.marks-length ∙ ap (places tree) ok.depth ∙ sym (tree-symbols depth);
        };
        tree-below = rw (tree-symbols st.entered) a.untouched;
        marks-below = rw (tree-symbols st.entered) a.unmarked;
        zeroed = λ j i hj hi n.
            let (z, s) = a.cleared j i hj hi (is-absent st.marks j i n) in (mark_at_lem st.marks j i ∙ z, symbol_at_lem st.tree j i ∙ s);
        kept = λ j i hj hi n.
            let (h, s) = a.kept j i hj hi (gap_no j i (omega (arith, in_depth)) hi n) in
            (marked_1 st.marks j i h, symbol_at_lem st.tree j i ∙ s ∙ sym (symbol_at_lem t j i));
        held = λ j i hj hi h. ap (H j i) (symbol_at_lem st.tree j i) ∙ a.held j i hj hi (is_held st.marks j i h) ∙ sym (committed-is j i);
        above-complete = λ j i hj hi. marked_1 st.marks j i ((a.above j hj).full i hi);
        above_holds = λ j q hj hq.
            holds_so j q (omega (arith, in_depth)) hq ((a.above j hj).holds q (omega (arith, ok.equations j (omega (arith, in_depth)))));
        was_stored = stored_at;
        tells-stored = λ j i hj hi.
            let lj : j < depth = omega (arith, in_depth) in (
              λ q.
                  let (g, h) = and_yes (gap_at tree H root t m st.tree j i) (not (absent j i)) q in
                  (gap_is j i lj hi g, marked_1 st.marks j i (not_yes (absent j i) h)),
              λ (g, h). yes_and (is_gap j i lj hi g) (ap not (is_held st.marks j i h)),
            );
        counted = a.counted ∙ sym (layers-count st.entered);
        absent = absent;
        tells-absent = told;
        peeled = λ j hj. peeled_so j (omega (arith, in_depth)) (so.peels j hj);
      }

  -- ---- the equation that was taken

  module _ (j q x : ℕ) (k : Taken tree H root tbl st.tree st.marks j q x) (en : st.entered ≡ suc j) where
    hj : j < depth
    hj = omega (arith, in_depth, en)

    hq : q < 3 * k_of j
    hq = omega (arith, k.in_table, ok.equations j hj)

    abbrev ms : List ℕ
    ms = equation_of tbl j q

    zero_mark : (p : ℕ) → p < 3 * k_of j → (y : ℕ) → IsMember y (equation_of tbl j p) → absent j y ≡ true → mark_at st.marks j y ≡ 0
    zero_mark p hp y mem a =
        let below : y < n_of j =
        ltb-true y (n_of j) (every-member_of (λ z. ltb z (n_of j)) (equation_of tbl j p) (members-below depth tbl ok j p hj hp) y mem) in
        mark_at_lem st.marks j y ∙ (so.always.cleared j y (omega (arith, en)) below a).0

    one-mark : (ys : List ℕ) → every (λ y. not (absent j y)) ys ≡ true → (y : ℕ) → IsMember y ys → mark_at st.marks j y ≡ 1
    one-mark ys a y mem = marked_1 st.marks j y (not_yes (absent j y) (every-member_of (λ z. not (absent j z)) ys a y mem))

    is_member : IsMember x ms
    is_member =
        ⊎_elim (λ w. counted-member x ms (rw w.1 (first_member (absent j) ms (omega (arith, w.0)))))
        (λ w. counted-member x ms (rw w.1 (last-member ms 0 (omega (arith, (ok.members j q hj hq).some))))) k.withheld

    held-others : (y : ℕ) → IsMember y ms → y ≢ x → mark_at st.marks j y ≡ 1
    held-others y mem n =
        ⊎_elim (λ w. one-mark (others x ms) (others-held (absent j) x ms w.0 w.1) y (member-other x y ms mem n))
        (λ w. one-mark ms (none-absent (absent j) ms w.0) y mem) k.withheld

    took : Took depth r table t m o j q x
    unfolding layer_of equation_of k_of
    took =
        record {
          last = en;
          in_table = (hj, hq);
          member = is_member;
          others-held = held-others;
          absent = absent j;
          tells = told j (omega (arith, en));
          lowest = λ p h. not_taken j p hj (omega (arith, hq)) (absent j) (k.lower p h);
        }

    failing : (count (absent j) ms ≡ 0) × (x ≡ last_of ms 0) × (xor_of (sym_at tree st.tree j) ms ≢ zeros) → LastOfFailing depth r table t m o j q x
    unfolding k_of
    failing w = (
      one-mark ms (none-absent (absent j) ms w.0) x is_member,
      w.1 ∙ (ok.members j q hj hq).final,
      λ h. w.2 (so_holds j q hj hq h),
    )

  -- ---- the ends

  shallow : depth ≤ 9
  shallow = (depth_is depth input.taken.deep).1

  whole-tree : st.end ≡ whole → WholeEnd tree H root tbl t m o st → WholeTree depth r table t m o
  unfolding k_of n_of
  whole-tree q x =
      record {
        is-end = q;
        last = x.last ∙ ok.depth;
        all_held = λ j i hj hi. marked_1 st.marks j i (x.all_held j i (omega (arith, ok.depth)) hi);
        agrees = rw (symbols-are st.tree, hash_in_lem r) (agrees_with (kind_in r) depth tbl ok root (sym_at tree st.tree) (rw (hash_in_lem r) at x.agrees));
        out-untouched = x.out-kept;
      }

  -- the filling, by the test of it
  base-is : (p : ℕ) → p < block_room depth → get_or (block_of tree depth st.tree) p 0 ≡ base_byte depth r table t m o p
  unfolding k_of
  base-is p h = base-byte depth p st.tree h

  ends-whole : st.end ≡ whole → WholeTree depth r table t m o → blank ≡ true → EndsWhole depth r table t m o
  unfolding k_of
  ends-whole q x f =
      record {
        reported = reported whole q (λ n. f);
        whole-tree = x;
        filling_zero = λ p h. sym (base-is p h.1) ∙ (zero_is tree depth (size_in r) st.tree).0 f p (omega (arith, h.0, block_size_lem r)) h.1;
      }

  ends-misfilled : st.end ≡ whole → WholeTree depth r table t m o → blank ≡ false → EndsMisfilled depth r table t m o
  unfolding k_of
  ends-misfilled q x f =
      let (p, from, below, n) = not_zero tree depth (size_in r) st.tree f in
      record {
        reported = reported_13 q f;
        whole-tree = x;
        byte = p;
        in_filling = (omega (arith, from, block_size_lem r), below);
        not_zero = λ z. n (base-is p below ∙ z);
      }

  ends-fault : (j q w n : ℕ) → st.end ≡ fault j q w n → FaultEnd tree H root tbl o j q w n st → EndsFault depth r table t m o
  unfolding k_of n_of layer_of equation_of
  ends-fault j q w n z x =
      let k = x.taken in
      let (front, back, s) = member_apart w (equation_of tbl j q) (is_member j q w k x.last) in
      record {
        layer = j;
        equation_no = q;
        withheld = w;
        size = n;
        is-end = z;
        reported = reported (fault j q w n) z (λ y. absurd (omega arith));
        took = took j q w k x.last;
        why = ⊎_elim
            (λ a.
            inl (zero_mark j q w k x.last q (hq j q w k x.last) w (is_member j q w k x.last)
            (rw a.1 (first_of-passes (absent j) (equation_of tbl j q) (omega (arith, a.0))))))
            (λ a. inr (failing j q w k x.last a)) k.withheld;
        accepted = fault-accepted depth r table t m o e j q w n z;
        proof = rw (x.proof, symbols-are st.tree)
            (fault-proofs.writes-layout depth tbl shallow (ok_rules depth tbl ok) (sym_at tree st.tree) full j q w front back (hj j q w k x.last) (hq j q w k x.last) s);
        exact = x.sized;
        out-rest = x.out-rest;
      }

  ends-unavailable : (j : ℕ) → st.end ≡ unavailable j → UnavailableEnd tree H root tbl t m o j st → EndsUnavailable depth r table t m o
  unfolding k_of n_of Stopping layer_of equation_of
  ends-unavailable j q x =
      let lj : j < depth = omega (arith, in_depth, x.last) in
      let a = so.always in
      let gone : (i : ℕ) → i < all_symbols j → absent j i ≡ true → mark_at st.marks j i ≡ 0 =
      λ i hi h. mark_at_lem st.marks j i ∙ (a.cleared j i (omega (arith, x.last)) hi h).0 in
      let lost : (i : ℕ) → mark_at st.marks j i ≡ 0 → absent j i ≡ true = λ i z. is-absent st.marks j i (λ h. omega arith) in
      let in_table : (p : ℕ) → p < 3 * data_symbols j → p < length (layer_of tbl j) = λ p h. omega (arith, ok.equations j lj) in
      record {
        layer = j;
        is-end = q;
        reported = reported (unavailable j) q (λ y. absurd (omega arith));
        last = x.last;
        incomplete = let (i, h, b) = x.missing in (i, h, gone i h b);
        first = λ l i h hi. marked_1 st.marks l i ((a.above l (omega (arith, x.last))).full i hi);
        absent = absent j;
        tells = told j (omega (arith, x.last));
        within_gaps = λ i hi z. gap_is j i lj hi (x.largest.inside i hi (lost i z));
        never_once = λ v hv c. x.largest.stopping v (in_table v hv) (sym (meets-count (absent j) (members tbl j v)) ∙ c);
        largest = λ s w n i hi b.
            gone i hi
            (x.largest.contains s (λ y hy c. is_gap j y lj hy (w y hy c))
            (λ v hv c. n v (omega (arith, ok.equations j lj)) (meets-count s (members tbl j v) ∙ c)) i hi b);
        none-taken = λ v hv. not_taken j v lj hv (absent j) (x.passed v (in_table v hv));
        out-untouched = x.out-kept;
      }

  ends-twins : (j n : ℕ) → st.end ≡ twins j n → TwinsEnd tree H root tbl o j n st → EndsTwins depth r table t m o
  unfolding symbol_in bytes_from layer_of equation_of
  ends-twins j n q x =
      let k = x.taken in
      let v : ℕ = x.equation in
      let lj = hj j v n k x.last in
      let lv = hq j v n k x.last in
      let es : List ℕ = members tbl j v in
      let w = ⊎_elim (λ a. absurd (omega (arith, a.0, x.complete))) (λ a. a) k.withheld in
      let (front, s) = last_apart es 0 (omega (arith, (ok.members j v lj lv).some)) in
      let split : es ≡ front ++ (n ∷ []) = s ∙ ap (λ (z : ℕ). front ++ (z ∷ [])) (sym w.1) in
      let once : count (is_it n) (front ++ (n ∷ [])) ≤ 1 = subst (λ (l : List ℕ). count (is_it n) l ≤ 1) split (ascending_once n es (ok.members j v lj lv).ascend) in
      let rest : others n es ≡ front = ap (others n) split ∙ others_apart n front [] once ∙ append-nil front in
      let low : every (λ y. ltb y (n_of j)) front ≡ true =
      subst (λ (l : List ℕ). every (λ y. ltb y (n_of j)) l ≡ true) rest (every-others (λ y. ltb y (n_of j)) n es (members-below depth tbl ok j v lj lv)) in
      record {
        layer = j;
        equation_no = v;
        number = n;
        is-end = q;
        reported = reported (twins j n) q (λ y. absurd (omega arith));
        took = took j v n k x.last;
        why = failing j v n k x.last w;
        shown = record { symbols = x.sized; differ = x.differ; equal = x.hash-first ∙ sym x.hash-second };
        first-is = x.first-is ∙ sym (symbol_at_lem st.tree j n);
        front = front;
        splits = split;
        second_is = subst (λ (f : ℕ → ℕ → List ℕ). XorOf (λ i. f j (get_or front i 0)) (length front) (symbol_no st.out 1)) (sym (symbols-are st.tree))
            (subst (XorOf (λ i. sym_at tree st.tree j (get_or front i 0)) (length front)) (sym (x.second_is ∙ ap (xor_of (sym_at tree st.tree j)) rest))
            (xor_of_lem (sym_at tree st.tree j) front (λ i h. full j (get_or front i 0) lj (every-below (n_of j) front low i h))));
        is-committed = x.hash-first ∙ sym (committed-is j n);
        out-rest = x.out-rest;
      }

  abbrev Others : Type 0
  Others = EndsFault depth r table t m o ⊎ (EndsUnavailable depth r table t m o ⊎ EndsTwins depth r table t m o)

  four : (z : End) → st.end ≡ z → EndOk tree H root tbl t m o st z → WholeTree depth r table t m o ⊎ Others
  four working q x = absurd x
  four whole q x = inl (whole-tree q x)
  four (fault j v w n) q x = inr (inl (ends-fault j v w n q x))
  four (unavailable j) q x = inr (inr (inl (ends-unavailable j q x)))
  four (twins j n) q x = inr (inr (inr (ends-twins j n q x)))

  five : WholeTree depth r table t m o ⊎ Others → EndsWhole depth r table t m o ⊎ (EndsMisfilled depth r table t m o ⊎ Others)
  five (inl w) = by_test blank (λ f. inl (ends-whole w.is-end w f)) (λ f. inr (inl (ends-misfilled w.is-end w f)))
  five (inr z) = inr (inr z)

  -- 13, and nothing else
  not_13 : (s k : ℕ) (z : End) → (repaired depth r table t m o).answer ≡ ended k z → (repaired depth r table t m o).answer ≡ misfilled s → ⊥
  unfolding way_of
  not_13 s k z q x = omega (arith, ap way_of (sym q ∙ x))

  abbrev Misfill : Type 0
  Misfill = (p : ℕ) × Filling depth r table t m o p × (base_byte depth r table t m o p ≢ 0)

  ends_13 : (s : ℕ) → (repaired depth r table t m o).answer ≡ misfilled s → EndsWhole depth r table t m o ⊎ (EndsMisfilled depth r table t m o ⊎ Others)
      → EndsMisfilled depth r table t m o
  ends_13 s x (inl k) = absurd (not_13 s _ _ k.reported x)
  ends_13 s x (inr (inl k)) = k
  ends_13 s x (inr (inr (inl k))) = absurd (not_13 s _ _ k.reported x)
  ends_13 s x (inr (inr (inr (inl k)))) = absurd (not_13 s _ _ k.reported x)
  ends_13 s x (inr (inr (inr (inr k)))) = absurd (not_13 s _ _ k.reported x)

  pub is_13 : (s : ℕ) → (repaired depth r table t m o).answer ≡ misfilled s → EndsMisfilled depth r table t m o
  is_13 s x = ends_13 s x (five (four st.end refl so.ends))

  said_13 : (s : ℕ) → (repaired depth r table t m o).answer ≡ misfilled s → (st.end ≡ whole) × (s ≡ st.stored) × Misfill
  unfolding stored_of
  said_13 s x = let k = is_13 s x in (k.whole-tree.is-end, ap stored_of (sym x ∙ k.reported), (k.byte, k.in_filling, k.not_zero))

  so_13 : (s : ℕ) → st.end ≡ whole → s ≡ st.stored → Misfill → (repaired depth r table t m o).answer ≡ misfilled s
  unfolding k_of
  so_13 s q n (p, h, k) =
      by_test blank
      (λ f. absurd (k (sym (base-is p h.1) ∙ (zero_is tree depth (size_in r) st.tree).0 f p (omega (arith, h.0, block_size_lem r)) h.1)))
      (λ f. reported_13 q f ∙ ap misfilled (sym n))

  repair_so : Repair depth r table t m o
  repair_so =
      let ends = four st.end refl so.ends in
      record {
        as_the_steps = as_steps;
        one_of_five = five ends;
        one_of_four = ends;
        every-end = every-end;
        misfilled_just_when = λ s. (said_13 s, λ (q, n, k). so_13 s q n k);
      }

pub demand_3 : Demand3
demand_3 =
    record {
      checker = checker;
      repairs = repair_so;
      stops_just_when = stops_just_when;
    }
