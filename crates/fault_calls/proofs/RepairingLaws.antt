-- What repairing a tree answers and leaves.
use mathlib.Core.Path.{◌≡◌, refl, sym, ap, ap₂, ◌∙◌}
use mathlib.Core.Bool.{Bool, true, false, ◌&&◌}
use mathlib.Core.List.{List}
use Prim.Native.Nat.{ℕ, ◌+◌, ◌-◌, ◌*◌, ◌^◌, ◌≤◌}
use native.Mathlib.Omega.{arith}
use lib.ListN.{length, length-replicate, replicate}
use lib.Pow.{pow_mono}
use lib.Dec.{eqb}
use borrow.Author.Tests.{eqb-true}
use Rattle.octets.proofs.Choice.{and_yes, pick_yes, pick_no}
use Rattle.parity_table.specs.Shape.{depth_fits, k_of, max_depth}
use Rattle.table_bytes.specs.Bytes.{words_of}
use Rattle.parity_table.specs.Accepted.{Accepted, accepted}
use Rattle.parity_table.specs.Parse.{table_of}
use Rattle.parity_table.proofs.Shape.{depth_is}
use Rattle.symbol_hash.specs.SymbolHash.{symbol_hash}
use Rattle.symbol_hash.specs.declared.Kind.{Kind}
use Rattle.model.specs.Shape.{tree, places}
use Rattle.model.specs.Repair.{End as StepsEnd, working, whole, fault, unavailable, twins, St, repair}
use Rattle.model.specs.Writer.{zero_filled}
use Rattle.repair.specs.declared.End.{End}
use Rattle.repair.specs.Buffers.{Lists}
use Rattle.repair.specs.Reports.{end_of, Repaired}
use Rattle.calls.specs.declared.Stop.{Stop}
use Rattle.root_record.specs.Records.{kind_in, size_in, root_in}
use Rattle.calls.specs.Lengths.{tree_sized, record_sized}
use Rattle.calls.specs.Tests.{◌then◌, admitted_by, test_marks}
use Rattle.calls.proofs.LengthLaws.{places_small, tree-lengths}
use Rattle.calls.specs.Stops.{Answer, Done, Stopped, Small}
use Rattle.calls.proofs.TestLaws.{then_done, small_then, small_marks}
use Rattle.calls.proofs.RecordLaws.{AdmittedBy, admission_by, admitted_by-sized, small_admitted_by}
use Rattle.fault_calls.specs.Repairing.{Result, ended, misfilled, stopped, RepairLeft, leaves, repair_sized, end_number, ended_by, repair_tested, repair_of, repaired_by, repaired}

-- ---- the lengths, where their test passes

pub sizes : (d r t m o : ℕ) → repair_sized d r t m o ≡ true
    → (r ≡ 556) × (t ≡ 256 * places tree d) × (m ≡ places tree d) × (o ≡ 12 + 256 * (8 * d - 1))
sizes d r t m o e =
    let (p, q) = and_yes (tree_sized d t m) (record_sized r && eqb o (12 + 256 * (8 * d - 1))) e in
    let (x, y) = and_yes (record_sized r) (eqb o (12 + 256 * (8 * d - 1))) q in
    let (v, w) = tree-lengths d t m p in
    (eqb-true r 556 x, v, w, eqb-true o (12 + 256 * (8 * d - 1)) y)

-- ---- the end by the filling

module _ (zero : Bool) (s : ℕ) where
  pub misfills : (z : StepsEnd) → end_number z ≡ 0 → zero ≡ false → misfilled s ≡ ended_by zero s z
  misfills working e f = absurd (omega arith)
  misfills whole e f = sym (pick_no zero (ended s whole) (misfilled s) f)
  misfills (fault j q x n) e f = absurd (omega arith)
  misfills (unavailable j) e f = absurd (omega arith)
  misfills (twins j x) e f = absurd (omega arith)

  -- any end but whole, and whole where the filling is zero
  pub ends_so : (z : StepsEnd) → (end_number z ≡ 0 → zero ≡ true) → ended s z ≡ ended_by zero s z
  ends_so working f = refl
  ends_so whole f = sym (pick_yes zero (ended s whole) (misfilled s) (f refl))
  ends_so (fault j q x n) f = refl
  ends_so (unavailable j) f = refl
  ends_so (twins j x) f = refl

-- ---- after the tests

module _ (kind : Kind) (root : List ℕ) (tbl : List (List (List ℕ))) (d n : ℕ) (t m o : List ℕ) where
  abbrev steps : St
  steps = repair tree (symbol_hash kind) root tbl t m o

  pub marks_refuse : (s : Stop) → Stopped s ≡ test_marks m → leaves (stopped s) t m o ≡ repaired_by (test_marks m) d n steps t m o
  marks_refuse s e = ap (λ (a : Answer). repaired_by a d n steps t m o) e

  pub repairs : (t' m' o' : List ℕ) (s : ℕ) (z : End) (x : Result) → Repaired kind root tbl t m o t' m' o' s z → Done ≡ test_marks m
      → x ≡ ended_by (zero_filled tree d n t') s (end_of z) → leaves x t' m' o' ≡ repaired_by (test_marks m) d n steps t m o
  repairs t' m' o' s z x r e ex =
      ap (λ (y : Result). leaves y t' m' o') (ex ∙ ap₂ (λ (q : ℕ) y. ended_by (zero_filled tree d n t') q y) r.stored_is r.end_is)
      ∙ ap₂ (λ (y w : List ℕ). leaves (ended_by (zero_filled tree d n y) steps.stored steps.end) y w o') r.tree_is r.marks-is
      ∙ ap (λ (y : List ℕ). leaves (ended_by (zero_filled tree d n steps.tree) steps.stored steps.end) steps.tree steps.marks y) r.out-is
      ∙ ap (λ (a : Answer). repaired_by a d n steps t m o) e

-- ---- arrays for the search

-- arrays of these lengths, by depth b, serve every depth up to b
pub lists_for : (d b : ℕ) → (depth_fits d ≡ true → d ≤ b) → depth_fits d ≡ true
    → Lists (k_of (d - 1)) (replicate (3 * (4 * 2 ^ (b - 1))) 0) (replicate (3 * (4 * 2 ^ (b - 1))) 0) (replicate (6 * (4 * 2 ^ (b - 1))) 0)
    (replicate (4 * (4 * 2 ^ (b - 1))) 0) (replicate (24 * (4 * 2 ^ (b - 1))) 0)
unfolding k_of
lists_for d b up_to_lem f =
    let h = up_to_lem f in
    let p : 2 ^ (d - 1) ≤ 2 ^ (b - 1) = pow_mono {i = d - 1} {j = b - 1} (omega arith) in
    let n : (x : ℕ) → length (replicate {A = ℕ} x 0) ≡ x = λ x. length-replicate {A = ℕ} x 0 in
    record {
      used-room = omega (arith, n (3 * (4 * 2 ^ (b - 1))));
      absent-room = omega (arith, n (3 * (4 * 2 ^ (b - 1))));
      order_room = omega (arith, n (6 * (4 * 2 ^ (b - 1))));
      last-room = omega (arith, n (4 * (4 * 2 ^ (b - 1))));
      next-room = omega (arith, n (24 * (4 * 2 ^ (b - 1))));
    }

-- ---- of the whole call

module _ (d : ℕ) (r table t m o : List ℕ) where
  went_on_so : (kind : Kind) (tbl : Accepted) (root : List ℕ) (n : ℕ) (x : RepairLeft Result) → kind ≡ kind_in r → root ≡ root_in r → n ≡ size_in r
      → tbl ≡ accepted d (table_of (words_of table)) → x ≡ repaired_by (test_marks m) tbl.depth n (repair tree (symbol_hash kind) root tbl.layers t m o) t m o
      → Done ≡ admitted_by d (repair_sized d (length r) (length t) (length m) (length o)) r table → x ≡ repaired d r table t m o
  unfolding repaired repair_tested repair_of
  went_on_so kind tbl root n x ek eo en et ex e =
      let ls : List (List (List ℕ)) = table_of (words_of table) in
      ex ∙ ap (λ (q : Accepted). repaired_by (test_marks m) q.depth n (repair tree (symbol_hash kind) root q.layers t m o) t m o) et
      ∙ ap (λ (k : Kind). repaired_by (test_marks m) d n (repair tree (symbol_hash k) root ls t m o) t m o) ek
      ∙ ap₂ (λ (q : List ℕ) (k : ℕ). repaired_by (test_marks m) d k (repair tree (symbol_hash (kind_in r)) q ls t m o) t m o) eo en
      ∙ ap (λ (a : Answer). repaired_by (a then test_marks m) d (size_in r) (repair_of r table t m o) t m o) e

  -- the tests that well-formed input has passed
  pub record Formed : Type 0 where
    pub admits : AdmittedBy d (repair_sized d (length r) (length t) (length m) (length o)) r table
    pub some : 1 ≤ d
    pub shallow : d ≤ max_depth
    pub record_full : length r ≡ 556
    pub tree-full : length t ≡ 256 * places tree d
    pub marks-full : length m ≡ places tree d
    pub out-full : length o ≡ 12 + 256 * (8 * d - 1)

  admitted-formed : admitted_by d (repair_sized d (length r) (length t) (length m) (length o)) r table ≡ Done → Formed
  admitted-formed e =
      let a = admission_by d (repair_sized d (length r) (length t) (length m) (length o)) r table e in
      let (f, v, w, x) = sizes d (length r) (length t) (length m) (length o) a.lengths in
      record {
        admits = a;
        some = (depth_is d a.taken.deep).0;
        shallow = (depth_is d a.taken.deep).1;
        record_full = f;
        tree-full = v;
        marks-full = w;
        out-full = x;
      }

  pub formed : repair_tested d r table t m o ≡ Done → Formed
  unfolding repair_tested
  formed e = admitted-formed (then_done (admitted_by d (repair_sized d (length r) (length t) (length m) (length o)) r table) (test_marks m) e).0

  -- a stop's values are small
  pub small : Small (repair_tested d r table t m o)
  unfolding repair_tested
  small =
      small_then (admitted_by d (repair_sized d (length r) (length t) (length m) (length o)) r table) (test_marks m)
      (small_admitted_by d (repair_sized d (length r) (length t) (length m) (length o)) r table)
      (λ e. let k = admitted-formed e in small_marks m (omega (arith, k.marks-full, places_small d k.shallow)))

  -- the test of lengths as the call makes it
  module _ {sized : Bool} (es : sized ≡ (depth_fits d && repair_sized d (length r) (length t) (length m) (length o))) where
    as_sized : admitted_by d sized r table ≡ admitted_by d (repair_sized d (length r) (length t) (length m) (length o)) r table
    as_sized = admitted_by-sized d sized (repair_sized d (length r) (length t) (length m) (length o)) r table es

    pub record_sized_so : sized ≡ true → length r ≡ 556
    record_sized_so e =
        (sizes d (length r) (length t) (length m) (length o)
        (and_yes (depth_fits d) (repair_sized d (length r) (length t) (length m) (length o)) (sym es ∙ e)).1).0

    -- a test that fails stops the call
    pub refused : (s : Stop) → Stopped s ≡ admitted_by d sized r table → leaves (stopped s) t m o ≡ repaired d r table t m o
    unfolding repaired repair_tested
    refused s e = ap (λ (a : Answer). repaired_by (a then test_marks m) d (size_in r) (repair_of r table t m o) t m o) (e ∙ as_sized)

    -- what is known once they have passed
    pub formed_by : Done ≡ admitted_by d sized r table → Formed
    formed_by e = admitted-formed (sym (e ∙ as_sized))

    pub went_on : (kind : Kind) (tbl : Accepted) (root : List ℕ) (n : ℕ) (x : RepairLeft Result) → kind ≡ kind_in r → root ≡ root_in r → n ≡ size_in r
        → tbl ≡ accepted d (table_of (words_of table)) → x ≡ repaired_by (test_marks m) tbl.depth n (repair tree (symbol_hash kind) root tbl.layers t m o) t m o
        → Done ≡ admitted_by d sized r table → x ≡ repaired d r table t m o
    went_on kind tbl root n x ek eo en et ex e = went_on_so kind tbl root n x ek eo en et ex (e ∙ as_sized)
