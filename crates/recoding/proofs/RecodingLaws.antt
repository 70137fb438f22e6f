-- What coding a volume anew answers and leaves.
use mathlib.Core.Path.{◌≡◌, refl, sym, ap, ap₂, ◌∙◌}
use mathlib.Core.Bool.{Bool, true, false, ◌&&◌, false≢true}
use mathlib.Core.List.{List}
use Prim.Native.Nat.{ℕ, ◌+◌, ◌-◌, ◌*◌, ◌≤◌}
use native.Mathlib.Omega.{arith}
use lib.ListN.{length, take, drop, replicate, length-take, length-replicate}
use lib.Dec.{eqb}
use borrow.Author.Tests.{eqb-true, eq-eqb, le-leb}
use Rattle.std.specs.Prelude.{Ok, Err}
use Rattle.octets.specs.Choice.{pick}
use Rattle.octets.proofs.Choice.{by_test, and_yes, yes_and, pick_ind, pick_no, pick_yes}
use Rattle.parity_table.specs.Shape.{depth_fits, k_of, max_depth}
use Rattle.parity_table.specs.Parse.{table_of}
use Rattle.parity_table.specs.Accepted.{Accepted, accepted}
use Rattle.parity_table.proofs.Shape.{depth_is}
use Rattle.table_bytes.specs.Bytes.{words_of}
use Rattle.symbol_hash.specs.SymbolHash.{symbol_hash}
use Rattle.symbol_hash.specs.declared.Kind.{Kind}
use Rattle.model.specs.Shape.{tree, places}
use Rattle.model.specs.Writer.{block_of, zero_filled}
use Rattle.model.specs.Repair.{End, working, whole, fault, unavailable, twins, St}
use Rattle.model.specs.Look.{is_whole, intact}
use Rattle.coded_tree.proofs.BlockLaws.{block_part}
use Rattle.root_record.specs.Records.{kind_in, size_in, root_in}
use Rattle.root_record.proofs.RecordLaws.{head-parts}
use Rattle.calls.specs.declared.Stop.{Stop}
use Rattle.calls.specs.declared.Stop.TheVariants.{NotWhole}
use Rattle.calls.specs.Lengths.{tree_sized, record_sized}
use Rattle.calls.specs.Tests.{◌then◌, admitted_by, test_marks}
use Rattle.calls.specs.Stops.{Answer, Done, Stopped, Small}
use Rattle.calls.proofs.LengthLaws.{places_small, tree-lengths, fit_no, fit_yes}
use Rattle.calls.proofs.TestLaws.{then_done, small_plain, small_then, small_marks}
use Rattle.calls.proofs.AdmissionLaws.{admits}
use Rattle.calls.proofs.RecordLaws.{AdmittedBy, admission_by, admitted_by-sized, admits_by, small_admitted_by}
use Rattle.volume_calls.specs.Writing.{TreeLeft, leaves, write_sized, written_by, tree_written}
use Rattle.volume_calls.proofs.WritingLaws.{by_tests as written-by}
use Rattle.fault_calls.specs.Repairing.{ended_by, repair_sized, repair_tested, repair_of, repaired_by, repaired}
use Rattle.recoding.specs.Recoding.{other_kind, recode_sized, nothing_to_do, called_whole, test_whole, recode_tested, recoded}
use Rattle.recoding.proofs.LookLaws.{Seen, as_repaired}

-- ---- the lengths

-- two tests of a depth and of lengths pass, or the second fails
pub both_fit : (a b c e : Bool) → (a && b) ≡ true → (a && c) ≡ true → e ≡ (a && (b && (c && e)))
both_fit true b c e p q = fit_yes true c e q ∙ fit_yes true b (c && e) p
both_fit false b c e p q = absurd (false≢true p)

pub second-fails : (a b c e : Bool) → (a && b) ≡ true → (a && c) ≡ false → false ≡ (a && (b && (c && e)))
second-fails true b c e p q = fit_no true c e q ∙ fit_yes true b (c && e) p
second-fails false b c e p q = absurd (false≢true p)

pub sizes : (d r t m t' m' r' : ℕ) → recode_sized d r t m t' m' r' ≡ true
    → (t ≡ 256 * places tree d) × (m ≡ places tree d) × (t' ≡ 256 * places tree d) × (m' ≡ places tree d) × (r ≡ 556) × (r' ≡ 556)
sizes d r t m t' m' r' e =
    let (p, q) = and_yes (tree_sized d t m) (tree_sized d t' m' && (record_sized r && record_sized r')) e in
    let (u, v) = and_yes (tree_sized d t' m') (record_sized r && record_sized r') q in
    let (x, y) = and_yes (record_sized r) (record_sized r') v in
    let (a, b) = tree-lengths d t m p in
    let (f, g) = tree-lengths d t' m' u in
    (a, b, f, g, eqb-true r 556 x, eqb-true r' 556 y)

-- what is known of a call that has passed tests 1, 2, 11, 3, 10 and 12
module _ (d : ℕ) (r table t m : List ℕ) (t' m' r' : ℕ) where
  pub record Formed : Type 0 where
    pub admits : AdmittedBy d (recode_sized d (length r) (length t) (length m) t' m' r') r table
    pub some : 1 ≤ d
    pub shallow : d ≤ max_depth
    pub tree-full : length t ≡ 256 * places tree d
    pub marks-full : length m ≡ places tree d
    pub new_tree-full : t' ≡ 256 * places tree d
    pub new_marks-full : m' ≡ places tree d
    pub record_full : length r ≡ 556
    pub new_record-full : r' ≡ 556
    pub size_fits : size_in r ≤ 256 * k_of (d - 1)

  pub formed : Done ≡ admitted_by d (recode_sized d (length r) (length t) (length m) t' m' r') r table → Formed
  formed e =
      let a = admission_by d (recode_sized d (length r) (length t) (length m) t' m' r') r table (sym e) in
      let (x, y, u, v, f, g) = sizes d (length r) (length t) (length m) t' m' r' a.lengths in
      let (low, high) = depth_is d a.taken.deep in
      record {
        admits = a;
        some = low;
        shallow = high;
        tree-full = x;
        marks-full = y;
        new_tree-full = u;
        new_marks-full = v;
        record_full = f;
        new_record-full = g;
        size_fits = (head-parts d r a.head).3;
      }

-- ---- tests 4 and 14

-- after test 4, the look decides
module _ (a : Answer) (p q : Bool) (e : Done ≡ a) where
  pub seen_not : (p && q) ≡ false → Stopped NotWhole ≡ (a then test_whole (p && q))
  unfolding test_whole
  seen_not l = sym (pick_no (p && q) Done (Stopped NotWhole) l) ∙ ap (λ (x : Answer). x then test_whole (p && q)) e

  pub seen-whole : (p && q) ≡ true → Done ≡ (a then test_whole (p && q))
  unfolding test_whole
  seen-whole l = sym (pick_yes (p && q) Done (Stopped NotWhole) l) ∙ ap (λ (x : Answer). x then test_whole (p && q)) e

nothing_to_do_lem : (zero : Bool) (s : ℕ) (z : End) → nothing_to_do (ended_by zero s z) ≡ ((is_whole z && eqb s 0) && zero)
unfolding pick
nothing_to_do_lem zero s working = refl
nothing_to_do_lem true s whole = by_test (eqb s 0) (λ e. e ∙ sym (ap (λ (b : Bool). b && true) e)) (λ e. e ∙ sym (ap (λ (b : Bool). b && true) e))
nothing_to_do_lem false s whole = by_test (eqb s 0) (λ e. sym (ap (λ (b : Bool). b && false) e)) (λ e. sym (ap (λ (b : Bool). b && false) e))
nothing_to_do_lem zero s (fault j e x n) = refl
nothing_to_do_lem zero s (unavailable j) = refl
nothing_to_do_lem zero s (twins j x) = refl

-- a test after another is asked only where that passes
then_same : (a x y : Answer) → (a ≡ Done → x ≡ y) → (a then x) ≡ (a then y)
then_same (Ok _) x y f = f refl
then_same (Err s) x y f = refl

module _ (d : ℕ) (r table t m : List ℕ) (t' m' r' : ℕ) (k : Formed d r table t m t' m' r') where
  abbrev tbl : List (List (List ℕ))
  tbl = table_of (words_of table)

  abbrev out : List ℕ
  out = replicate (12 + 256 * (8 * d - 1)) 0

  out-full : length out ≡ 12 + 256 * (8 * d - 1)
  out-full = length-replicate {A = ℕ} (12 + 256 * (8 * d - 1)) 0

  abbrev st : St
  st = repair_of r table t m out

  -- a repair of the source passes the same tests
  tested : test_marks m ≡ Done → repair_tested d r table t m out ≡ Done
  unfolding repair_tested
  tested e =
      ap₂ (λ (a b : Answer). a then b)
      (sym (admits_by d (repair_sized d (length r) (length t) (length m) (length out)) r table
      (record {
        lengths = yes_and (yes_and (eq-eqb _ _ k.tree-full) (eq-eqb _ _ k.marks-full)) (yes_and (eq-eqb _ _ k.record_full) (eq-eqb _ _ out-full));
        head = k.admits.head;
        taken = k.admits.taken;
        named = k.admits.named;
      }))) e

  -- what the look finds
  abbrev pub seen_whole : Bool
  seen_whole = intact tree (symbol_hash (kind_in r)) (root_in r) tbl t m && zero_filled tree d (size_in r) t

  called_whole_lem : test_marks m ≡ Done → called_whole d r table t m ≡ seen_whole
  unfolding repaired repair_of
  called_whole_lem e =
      let seen : Seen (kind_in r) (root_in r) (words_of table) t m out =
      as_repaired d (kind_in r) (root_in r) (words_of table) t m out k.admits.taken.accepted k.tree-full k.marks-full out-full in
      let fills : List ℕ → Bool = zero_filled tree d (size_in r) in
      ap (λ (a : Answer). nothing_to_do (repaired_by a d (size_in r) st t m out).answer) (tested e)
      ∙ nothing_to_do_lem (fills st.tree) st.stored st.end
      ∙ ap (λ (b : Bool). b && fills st.tree) (sym seen.outcome)
      ∙ by_test (intact tree (symbol_hash (kind_in r)) (root_in r) tbl t m) (λ i. ap (λ (x : List ℕ). intact tree (symbol_hash (kind_in r)) (root_in r) tbl t m && fills x) (seen.kept i))
      (λ i. ap (λ (b : Bool). b && fills st.tree) i ∙ sym (ap (λ (b : Bool). b && fills t) i))

  pub tests_same : (test_marks m then test_whole seen_whole) ≡ (test_marks m then test_whole (called_whole d r table t m))
  tests_same = then_same (test_marks m) (test_whole seen_whole) (test_whole (called_whole d r table t m)) (λ e. ap test_whole (sym (called_whole_lem e)))

-- ---- the source's block, where it stands

module _ (d base : ℕ) (t : List ℕ) (deep : 1 ≤ d) (eb : base ≡ places tree (d - 1)) (lt : length t ≡ 256 * places tree d) (n : ℕ) (h : n ≤ 256 * k_of (d - 1)) where
  pub block-short : length (take (256 * base + n - 256 * base) (drop (256 * base) t)) ≤ 256 * k_of (d - 1)
  block-short = omega (arith, ap length (block_part d base t deep eb lt n h), length-take n (block_of tree d t))

-- ---- of the whole call

module _ (d : ℕ) (r table t m t' m' r' : List ℕ) where
  abbrev sized : Bool
  sized = recode_sized d (length r) (length t) (length m) (length t') (length m') (length r')

  abbrev block : List ℕ
  block = take (size_in r) (block_of tree d t)

  -- the tests' answer decides
  pub by_tests : (a : Answer) → a ≡ recode_tested d r table t m (length t') (length m') (length r')
      → written_by a d (other_kind (kind_in r)) table (take (size_in r) (block_of tree d t)) t' m' r' ≡ recoded d r table t m t' m' r'
  unfolding recoded
  by_tests a e = ap (λ (x : Answer). written_by x d (other_kind (kind_in r)) table block t' m' r') e

  -- what a call leaves whose source has this kind, this root and a block of n bytes, by a table
  abbrev coded_by : Kind → Accepted → List ℕ → ℕ → TreeLeft Answer
  coded_by kind a root n =
      written_by (test_marks m then test_whole (intact tree (symbol_hash kind) root a.layers t m && zero_filled tree a.depth n t)) a.depth (other_kind kind) table (take n (block_of tree a.depth t)) t' m' r'

  went_on_so : (kind : Kind) (a : Accepted) (root : List ℕ) (n : ℕ) (x : TreeLeft Answer) → kind ≡ kind_in r → root ≡ root_in r → n ≡ size_in r
      → a ≡ accepted d (table_of (words_of table)) → Done ≡ admitted_by d (recode_sized d (length r) (length t) (length m) (length t') (length m') (length r')) r table
      → x ≡ coded_by kind a root n → x ≡ recoded d r table t m t' m' r'
  went_on_so kind a root n x ek eo en ea e ex =
      let k = formed d r table t m (length t') (length m') (length r') e in
      ex
      ∙ ap (λ (q : Kind). coded_by q a root n) ek
      ∙ ap (λ (q : Accepted). coded_by (kind_in r) q root n) ea
      ∙ ap₂ (λ (o : List ℕ) (q : ℕ). coded_by (kind_in r) (accepted d (table_of (words_of table))) o q) eo en
      ∙ by_tests _ (tests_same d r table t m (length t') (length m') (length r') k ∙ ap (λ (a : Answer). a then test_marks m then test_whole (called_whole d r table t m)) e)

  -- the test of lengths as the call makes it
  module _ {own : Bool} (es : own ≡ (depth_fits d && recode_sized d (length r) (length t) (length m) (length t') (length m') (length r'))) where
    as_sized : admitted_by d own r table ≡ admitted_by d sized r table
    as_sized = admitted_by-sized d own sized r table es

    pub record_sized_so : own ≡ true → length r ≡ 556
    record_sized_so e = (sizes d (length r) (length t) (length m) (length t') (length m') (length r') (and_yes (depth_fits d) sized (sym es ∙ e)).1).4

    -- a test that fails stops the call
    pub refused : (s : Stop) → Stopped s ≡ admitted_by d own r table → leaves (Stopped s) t' m' r' ≡ recoded d r table t m t' m' r'
    refused s e = by_tests (Stopped s) (ap (λ (a : Answer). a then test_marks m then test_whole (called_whole d r table t m)) (e ∙ as_sized))

    -- what is known once they have passed
    pub formed_by : Done ≡ admitted_by d own r table → Formed d r table t m (length t') (length m') (length r')
    formed_by e = formed d r table t m (length t') (length m') (length r') (e ∙ as_sized)

    pub went_on : (kind : Kind) (a : Accepted) (root : List ℕ) (n : ℕ) (x : TreeLeft Answer) → kind ≡ kind_in r → root ≡ root_in r → n ≡ size_in r
        → a ≡ accepted d (table_of (words_of table)) → x ≡ coded_by kind a root n → Done ≡ admitted_by d own r table → x ≡ recoded d r table t m t' m' r'
    went_on kind a root n x ek eo en ea ex e = went_on_so kind a root n x ek eo en ea (e ∙ as_sized) ex

  pub answer-is : (recoded d r table t m t' m' r').answer ≡ recode_tested d r table t m (length t') (length m') (length r')
  unfolding recoded
  answer-is = refl

  -- a call that is done leaves what the writer makes of the block
  pub as_writer : (recoded d r table t m t' m' r').answer ≡ Done
      → recoded d r table t m t' m' r' ≡ tree_written d (other_kind (kind_in r)) table (take (size_in r) (block_of tree d t)) t' m' r'
  as_writer e =
      let passed : recode_tested d r table t m (length t') (length m') (length r') ≡ Done = sym answer-is ∙ e in
      let (a, _) = then_done (admitted_by d sized r table) (test_marks m then test_whole (called_whole d r table t m)) passed in
      let k = formed d r table t m (length t') (length m') (length r') (sym a) in
      let lengths : write_sized d (length block) (length t') (length m') (length r') ≡ true =
      yes_and (yes_and (eq-eqb _ _ k.new_tree-full) (eq-eqb _ _ k.new_marks-full))
      (yes_and (le-leb (length block) (256 * k_of (d - 1)) (omega (arith, length-take (size_in r) (block_of tree d t), k.size_fits))) (eq-eqb _ _ k.new_record-full)) in
      sym (by_tests Done (sym passed))
      ∙ written-by d (other_kind (kind_in r)) table block t' m' r' Done (admits d (write_sized d (length block) (length t') (length m') (length r')) table k.admits.taken lengths)

  -- a stop's values are small
  pub small : Small (recoded d r table t m t' m' r').answer
  unfolding test_whole
  small =
      rw answer-is
      (small_then (admitted_by d sized r table) (test_marks m then test_whole (called_whole d r table t m)) (small_admitted_by d sized r table)
      (λ e.
      let k = formed d r table t m (length t') (length m') (length r') (sym e) in
      small_then (test_marks m) (test_whole (called_whole d r table t m)) (small_marks m (omega (arith, k.marks-full, places_small d k.shallow)))
      (λ h. pick_ind Small (called_whole d r table t m) (λ w. small_plain refl) (λ w. small_plain refl))))
