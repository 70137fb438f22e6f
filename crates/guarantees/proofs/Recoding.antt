-- The recoder: when it is done, that its result is the writer's, and that recoding back gives what was there.
use mathlib.Core.Path.{◌≡◌, refl, sym, ap, ap₂, ◌∙◌, subst}
use mathlib.Core.Logic.{◌↔◌, ◌≢◌}
use mathlib.Core.Bool.{Bool, true, false}
use mathlib.Core.List.{List, ◌++◌}
use Prim.Native.Nat.{ℕ, ◌+◌, ◌-◌, ◌*◌, ◌≤◌, ◌<◌}
use native.Mathlib.Omega.{arith}
use lib.ListN.{length, get_or, take, drop, replicate, length-replicate}
use lib.Seq.{ext_get_or, length-take-le}
use borrow.Author.Tests.{eq-eqb}
use Rattle.octets.proofs.Choice.{by_test, yes_and, pick_yes, pick_no}
use Rattle.parity_table.specs.Shape.{k_of, n_of}
use Rattle.parity_table.specs.Table.{TableOk}
use Rattle.parity_table.proofs.Shape.{depth_is}
use Rattle.symbol_hash.specs.SymbolHash.{symbol_hash}
use Rattle.symbol_hash.specs.declared.Kind.{Kind}
use Rattle.symbol_hash.specs.declared.Kind.TheVariants.{Plain, Placed}
use Rattle.symbol_hash.proofs.Laws.{length-symbol_hash}
use Rattle.root_record.specs.Records.{kind_number, record_of, kind_in, size_in, root_in}
use Rattle.root_record.proofs.RecordLaws.{head-parts, record_read_of}
use Rattle.model.specs.Shape.{tree, place, places}
use Rattle.model.specs.Symbols.{sym_at}
use Rattle.model.specs.Coded.{Agrees}
use Rattle.model.specs.Writer.{block_of, zero_filled, written_marks, written_root}
use Rattle.model.specs.Repair.{whole}
use Rattle.model.specs.Ends.{Intact, EndOk, WholeEnd}
use Rattle.model.proofs.Shapes.{tree_ok, place_of_lem, place_lt}
use Rattle.model.proofs.Flat.{tree-same}
use Rattle.model.proofs.Binding.{hashes}
use Rattle.model.proofs.Writer.{block-symbol, marks-one, marks-length}
use Rattle.model.proofs.Filling.{length-block, zero_filled_lem, back-filled, zero_is}
use Rattle.calls.specs.Stops.{Answer}
use Rattle.calls.specs.Stops.{Done, Stopped}
use Rattle.calls.specs.declared.Stop.TheVariants.{NotWhole}
use Rattle.calls.specs.Stops.{number_of}
use Rattle.calls.specs.Tests.{◌then◌, admitted_by, test_marks}
use Rattle.calls.proofs.TestLaws.{stopped_not, then_done}
use Rattle.calls.proofs.RecordLaws.{AdmittedBy, admits_by}
use Rattle.volume_calls.specs.Writing.{TreeLeft, leaves, written_tree, written_record, tree_written}
use Rattle.volume_calls.specs.Reading.{block_read}
use Rattle.volume_calls.specs.Reading as reading
use Rattle.volume_calls.proofs.ReadingLaws.{when_done as read_left}
use Rattle.volume_calls.proofs.WritingLaws.{when_done}
use Rattle.fault_calls.specs.Repairing.{ended, repair_sized, repair_tested, repair_of, repaired}
use Rattle.fault_calls.proofs.RepairingLaws.{formed}
use Rattle.fault_calls.proofs.Ends.{four_ways}
use Rattle.recoding.proofs.RecodingLaws.{as_writer as as-the-writer}
use Rattle.recoding.specs.Recoding.{other_kind, recode_sized, nothing_to_do, called_whole, test_whole, recoded}
use Rattle.guarantees.specs.Layouts.{tree_symbols, symbol_at, kind_no, block_size, filled_up}
use Rattle.guarantees.specs.Trees.{kind_bits, hash_by, CorrectlyCoded, HasBlock}
use Rattle.guarantees.specs.Refusals.{TreeLengths, RecordLength, BlockLength, OutputLength, RecodeLengths}
use Rattle.guarantees.specs.Demand2.{tree_after, marks_after, record_after, CompleteTree, block_after}
use Rattle.guarantees.specs.Cases.{AreBytes}
use Rattle.guarantees.specs.Terms.{equations_of}
use Rattle.guarantees.specs.Change7.{RecodeInput, CompleteSource, new_tree, new_marks, new_record, Recoder}
use Rattle.guarantees.proofs.Layouts.{tree-symbols, symbol_at_lem, mark_at_lem}
use Rattle.guarantees.proofs.Records.{block_size_lem, root_in_lem, head-right}
use Rattle.guarantees.proofs.Marks.{held-marked}
use Rattle.guarantees.proofs.Trees.{hash_of, hash_in_lem, symbols-are, agrees_with, with_agrees, base-block}
use Rattle.guarantees.proofs.Whole.{WholeLent, result_whole, stays, lent_called, called_lent}
use Rattle.guarantees.proofs.Refusals.{size_tests, table_long, recode_own, recode_passed}
use Rattle.guarantees.proofs.Demand2.{coding, rules, filled_up_lem, base-byte, after_block, after-size, after_kind, after-bits, first-bytes, demand_2}
use Rattle.guarantees.proofs.Demand3.{is_held}
use Rattle.guarantees.proofs.Change5.{first_kind, change_5}

-- ---- the kinds

other-other : (kind : Kind) → other_kind (other_kind kind) ≡ kind
other-other Plain = refl
other-other Placed = refl

two-kinds : (kind : Kind) → kind_number kind + kind_bits (other_kind kind) ≡ 1
two-kinds Plain = refl
two-kinds Placed = refl

-- ---- 14, or done

module _ (d : ℕ) (r table t m : List ℕ) where
  abbrev blank : List ℕ
  blank = replicate (12 + 256 * (8 * d - 1)) 0

  abbrev whole-test : Bool
  whole-test = nothing_to_do (repaired d r table t m blank).answer

  -- what the test finds is what a repair with any output finds
  module _ (o : List ℕ) (e : repair_tested d r table t m o ≡ Done) (e₀ : repair_tested d r table t m blank ≡ Done) where
    test_said : whole-test ≡ true → (repaired d r table t m o).answer ≡ ended 0 whole
    test_said b = lent_called d r table t m o e (called_lent d r table t m blank e₀ (result_whole (repaired d r table t m blank).answer b))

    test-seen : (repaired d r table t m o).answer ≡ ended 0 whole → whole-test ≡ true
    test-seen q = ap nothing_to_do (lent_called d r table t m blank e₀ (called_lent d r table t m o e q))

-- the output's length is all that a repair's tests ask of it
other-output : (d : ℕ) (r table t m o u : List ℕ) → repair_tested d r table t m o ≡ Done → OutputLength d u → repair_tested d r table t m u ≡ Done
unfolding repair_tested
other-output d r table t m o u e x =
    let k = formed d r table t m o e in
    let q = (then_done (admitted_by d (repair_sized d (length r) (length t) (length m) (length o)) r table) (test_marks m) e).1 in
    sym (ap₂ (λ (a b : Answer). a then b)
    (admits_by d (repair_sized d (length r) (length t) (length m) (length u)) r table
    (record {
      lengths = yes_and (yes_and (eq-eqb (length t) (256 * places tree d) k.tree-full) (eq-eqb (length m) (places tree d) k.marks-full))
          (yes_and (eq-eqb (length r) 556 k.record_full) (eq-eqb (length u) (12 + 256 * (8 * d - 1)) x));
      head = k.admits.head;
      taken = k.admits.taken;
      named = k.admits.named;
    }))
    (sym q))

blank_length : (d : ℕ) → OutputLength d (replicate (12 + 256 * (8 * d - 1)) 0)
blank_length d = length-replicate {A = ℕ} (12 + 256 * (8 * d - 1)) 0

module _ (d : ℕ) (r table t m t' m' r' o : List ℕ) (i : RecodeInput d r table t m t' m' r' o) where
  e₀ : repair_tested d r table t m (blank d r table t m) ≡ Done
  e₀ = other-output d r table t m o (blank d r table t m) i.well_formed (blank_length d)

  -- the tests before 14 pass
  at_last : (recoded d r table t m t' m' r').answer ≡ test_whole (called_whole d r table t m)
  unfolding recoded repair_tested
  at_last =
      let k = formed d r table t m o i.well_formed in
      let q = (then_done (admitted_by d (repair_sized d (length r) (length t) (length m) (length o)) r table) (test_marks m) i.well_formed).1 in
      let sized : recode_sized d (length r) (length t) (length m) (length t') (length m') (length r') ≡ true =
      yes_and (yes_and (eq-eqb (length t) (256 * places tree d) k.tree-full) (eq-eqb (length m) (places tree d) k.marks-full))
      (yes_and (size_tests d t' m' i.new_tree-lengths) (yes_and (eq-eqb (length r) 556 k.record_full) (eq-eqb (length r') 556 i.new_record-length))) in
      ap₂ (λ (a b : Answer). a then (b then test_whole (called_whole d r table t m)))
      (sym (admits_by d (recode_sized d (length r) (length t) (length m) (length t') (length m') (length r')) r table
      (record { lengths = sized; head = k.admits.head; taken = k.admits.taken; named = k.admits.named })))
      q

  abbrev b : Bool
  b = whole-test d r table t m

  done_so : b ≡ true → (recoded d r table t m t' m' r').answer ≡ Done
  unfolding test_whole
  done_so f = at_last ∙ pick_yes b Done (Stopped NotWhole) f

  stop_so : b ≡ false → (recoded d r table t m t' m' r').answer ≡ Stopped NotWhole
  unfolding test_whole
  stop_so f = at_last ∙ pick_no b Done (Stopped NotWhole) f

  stops_with_14 : (number_of (recoded d r table t m t' m' r').answer ≡ 14) ↔ ((repaired d r table t m o).answer ≢ ended 0 whole)
  stops_with_14 = (
    λ n q. omega (arith, n, ap number_of (done_so (test-seen d r table t m o i.well_formed e₀ q))),
    λ n. by_test b (λ f. absurd (n (test_said d r table t m o i.well_formed e₀ f))) (λ f. ap number_of (stop_so f)),
  )

  done_just_when : ((recoded d r table t m t' m' r').answer ≡ Done) ↔ ((repaired d r table t m o).answer ≡ ended 0 whole)
  done_just_when = (
    λ n. by_test b (λ f. test_said d r table t m o i.well_formed e₀ f) (λ f. absurd (stopped_not NotWhole (sym (stop_so f) ∙ n))),
    λ q. done_so (test-seen d r table t m o i.well_formed e₀ q),
  )

-- ---- a call that is done

module _ (d : ℕ) (r table t m t' m' r' : List ℕ) (e : (recoded d r table t m t' m' r').answer ≡ Done) where
  abbrev sized : Bool
  sized = recode_sized d (length r) (length t) (length m) (length t') (length m') (length r')

  abbrev other : Kind
  other = other_kind (kind_in r)

  abbrev block : List ℕ
  block = take (size_in r) (block_of tree d t)

  split : AdmittedBy d sized r table × ((test_marks m then test_whole (called_whole d r table t m)) ≡ Done)
  split = recode_passed d r table t m t' m' r' e

  a : AdmittedBy d sized r table
  a = split.0

  k : RecodeLengths d r table t m t' m' r'
  k = recode_own d r table t m t' m' r' a.lengths (table_long table a.taken.length-fits)

  tree-full : length t ≡ 256 * places tree d
  tree-full = k.tree-lengths.tree-bytes ∙ ap (λ (n : ℕ). 256 * n) (tree-symbols d)

  marks-full : length m ≡ places tree d
  marks-full = k.tree-lengths.mark-bytes ∙ tree-symbols d

  source-formed : repair_tested d r table t m (blank d r table t m) ≡ Done
  unfolding repair_tested
  source-formed =
      sym (ap₂ (λ (x y : Answer). x then y)
      (admits_by d (repair_sized d (length r) (length t) (length m) (length (blank d r table t m))) r table
      (record {
        lengths = yes_and (size_tests d t m k.tree-lengths) (yes_and (eq-eqb (length r) 556 k.record_length) (eq-eqb _ (12 + 256 * (8 * d - 1)) (blank_length d)));
        head = a.head;
        taken = a.taken;
        named = a.named;
      }))
      (sym (then_done (test_marks m) (test_whole (called_whole d r table t m)) split.1).0))

  lent : WholeLent d r table t m
  unfolding test_whole
  lent =
      let w = (then_done (test_marks m) (test_whole (called_whole d r table t m)) split.1).1 in
      called_lent d r table t m (blank d r table t m) source-formed
      (result_whole (repaired d r table t m (blank d r table t m)).answer
      (by_test (whole-test d r table t m) (λ f. f) (λ f. absurd (stopped_not NotWhole (sym (pick_no (whole-test d r table t m) Done (Stopped NotWhole) f) ∙ w)))))

  ok : TableOk d (equations_of table)
  ok = rules d table a.taken

  size_fits : size_in r ≤ 256 * k_of (d - 1)
  size_fits = (head-parts d r a.head).3

  block-length : length block ≡ size_in r
  block-length =
      length-take-le (size_in r) (block_of tree d t) (omega (arith, size_fits, length-block tree d tree_ok t (depth_is d a.taken.deep).0 tree-full))

  as_writer : recoded d r table t m t' m' r' ≡ tree_written d other table block t' m' r'
  as_writer = as-the-writer d r table t m t' m' r' e

  written : (tree_written d other table block t' m' r').answer ≡ Done
  written = sym (ap (λ (w : TreeLeft Answer). w.answer) as_writer) ∙ e

  -- every symbol is held
  held : (p : ℕ) → p < places tree d → get_or m p 0 ≡ 1
  held p h =
      let (l, i, hl, hi, q) = place_of_lem tree d p h in
      ap (λ (n : ℕ). get_or m n 0) q ∙ held-marked m l i ((lent.complete l (omega (arith, ok.depth))).full i hi)

  complete : CompleteTree d t m
  complete =
      record { depth-right = depth_is d a.taken.deep; lengths = k.tree-lengths; all_held = λ p h. held p (omega (arith, tree-symbols d)) }

  read : (b : List ℕ) → BlockLength d b → (block_read d r t m b).answer ≡ Done
  read b h = demand_2.reads_complete d r t m b complete k.record_length (head-right d r a.head) h

  as_written : (b : List ℕ) → BlockLength d b
      → ((block_read d r t m b).answer ≡ Done) × (recoded d r table t m t' m' r' ≡ tree_written d other table (take (block_size r) (block_after d r t m b)) t' m' r')
  as_written b h = (read b h, as_writer ∙ ap (λ (x : List ℕ). tree_written d other table x t' m' r') (sym (first-bytes d r t m b (read b h))))

  block_unchanged : (b : List ℕ) → BlockLength d b
      → block_read d (new_record d r table t m t' m' r') (new_tree d r table t m t' m' r') (new_marks d r table t m t' m' r') b ≡ block_read d r t m b
  block_unchanged b h =
      let r₁ = record_after d other table block t' m' r' in
      let t₁ = tree_after d other table block t' m' r' in
      let m₁ = marks_after d other table block t' m' r' in
      let n : size_in r₁ ≡ size_in r = after-size d other table block t' m' r' written ∙ block-length in
      let same : take (size_in r₁) (block_of tree d t₁) ≡ block =
      ap (λ (x : ℕ). take x (block_of tree d t₁)) (after-size d other table block t' m' r' written) ∙ (back-filled tree d block t₁ (after_block d other table block t' m' r' written)).1 in
      ap (λ (w : TreeLeft Answer). block_read d w.root_record w.tree w.marks b) as_writer
      ∙ read_left d r₁ t₁ m₁ b (demand_2.reads_written d other table block t' m' r' b written h).0
      ∙ ap₂ (λ (x : List ℕ) (q : ℕ). reading.leaves Done (x ++ drop q b)) same n
      ∙ sym (read_left d r t m b (read b h))

  new_record_lem : new_record d r table t m t' m' r' ≡ record_after d other table block t' m' r'
  new_record_lem = ap (λ (w : TreeLeft Answer). w.root_record) as_writer

  other_kind_lem : (kind_no r 0 + kind_no (new_record d r table t m t' m' r') 0 ≡ 1) × (block_size (new_record d r table t m t' m' r') ≡ block_size r)
  other_kind_lem = (
    ap₂ (λ (x y : ℕ). x + y) (sym (first_kind d r (head-right d r a.head)))
        (ap (λ (l : List ℕ). kind_no l 0) new_record_lem ∙ after-bits d other table block t' m' r' written)
        ∙ two-kinds (kind_in r),
    ap block_size new_record_lem ∙ block_size_lem _ ∙ after-size d other table block t' m' r' written ∙ block-length ∙ sym (block_size_lem r),
  )

  -- ---- the source is what the writer makes of its own kind

  agreed : Agrees tree (symbol_hash (kind_in r)) (equations_of table) (root_in r) (sym_at tree t)
  agreed =
      let st = repair_of r table t m (blank d r table t m) in
      let u = stays d r table t m (blank d r table t m) source-formed lent.complete in
      let w : WholeEnd tree (symbol_hash (kind_in r)) (root_in r) (equations_of table) t m (blank d r table t m) st =
      subst (EndOk tree (symbol_hash (kind_in r)) (root_in r) (equations_of table) t m (blank d r table t m) st) u.ends-whole
      (four_ways d r table t m (blank d r table t m) source-formed).ends in
      subst (λ (l : List ℕ). Agrees tree (symbol_hash (kind_in r)) (equations_of table) (root_in r) (sym_at tree l)) u.tree-kept w.agrees

  own_block : HasBlock d (symbol_at t) (filled_up d block)
  own_block i h =
      let full : filled_up d block ≡ block_of tree d t =
      filled_up_lem d block ∙ zero_filled_lem tree d tree_ok t (depth_is d a.taken.deep).0 tree-full (size_in r) size_fits lent.blank in
      rw full (symbol_at_lem t (d - 1) i ∙ base-block d (sym_at tree t) (block_of tree d t) (λ q l. sym (block-symbol tree d t q l)) i h)

  module _ (u v w : List ℕ) (done : (tree_written d (kind_in r) table block u v w).answer ≡ Done) where
    same-tree : tree_after d (kind_in r) table block u v w ≡ t
    unfolding k_of n_of
    same-tree =
        let x = demand_2.writes_exactly d (kind_in r) table block u v w done in
        let coded : CorrectlyCoded (hash_by (kind_bits (kind_in r))) d (equations_of table) (symbol_at t) =
        rw (hash_of (kind_in r), symbols-are t) (agrees_with (kind_in r) d (equations_of table) ok (root_in r) (sym_at tree t) agreed).correctly_coded in
        tree-same tree d (tree_after d (kind_in r) table block u v w) t (x.lengths.tree-bytes ∙ ap (λ (n : ℕ). 256 * n) (tree-symbols d)) tree-full
        (λ j i hj hi. sym (symbol_at_lem _ j i) ∙ x.only (symbol_at t) coded own_block j i hj hi ∙ symbol_at_lem t j i)

    same-marks : written_marks tree d ≡ m
    same-marks =
        ext_get_or 0 (written_marks tree d) m (marks-length tree d ∙ sym marks-full)
        (λ p h. let l : p < places tree d = omega (arith, marks-length tree d) in marks-one tree d p l ∙ sym (held p l))

    own_root : written_root tree (symbol_hash (kind_in r)) t ≡ root_in r
    unfolding written_root
    own_root = sym agreed.rooted

    as_it_was : AreBytes r → tree_written d (kind_in r) table block u v w ≡ leaves Done t m r
    as_it_was bytes =
        let q = when_done d (kind_in r) table block u v w done in
        let tree_is : written_tree d (kind_in r) table block u ≡ t = sym (ap (λ (z : TreeLeft Answer). z.tree) q) ∙ same-tree in
        let record_is : written_record d (kind_in r) table block u ≡ r =
        ap₂ (λ (n : ℕ) (l : List ℕ). record_of (kind_in r) d n table (written_root tree (symbol_hash (kind_in r)) l)) block-length tree_is
        ∙ ap (record_of (kind_in r) d (size_in r) table) own_root
        ∙ sym (record_read_of d r bytes k.record_length a.head table a.named) in
        q ∙ ap₂ (λ (x y : List ℕ). leaves Done x y (written_record d (kind_in r) table block u)) tree_is same-marks ∙ ap (λ (x : List ℕ). leaves Done t m x) record_is

  source : CompleteSource d r table t m
  unfolding k_of n_of
  source =
      record {
        complete = complete;
        agrees = rw (hash_in_lem r, symbols-are t, root_in_lem r) (agrees_with (kind_in r) d (equations_of table) ok (root_in r) (sym_at tree t) agreed);
        filling_zero = λ p from below.
            sym (base-byte d p t below) ∙ (zero_is tree d (size_in r) t).0 lent.blank p (omega (arith, block_size_lem r)) below;
      }

-- ---- a tree that is complete and agrees

held-intact : (kind : Kind) (d : ℕ) (tbl : List (List (List ℕ))) → TableOk d tbl → (root t m : List ℕ) → Agrees tree (symbol_hash kind) tbl root (sym_at tree t)
    → ((p : ℕ) → p < tree_symbols d → get_or m p 0 ≡ 1) → Intact tree (symbol_hash kind) root tbl t m
unfolding k_of n_of
held-intact kind d tbl ok root t m agr marked l hl =
    let hd : l < d = omega (arith, ok.depth) in
    record {
      full = λ i hi. is_held m l i (mark_at_lem m l i ∙ marked (place tree l i) (omega (arith, tree-symbols d, place_lt tree d l i hd hi)));
      hashed = λ i hi. hashes tree tree_ok.shape (symbol_hash kind) (length-symbol_hash kind) tbl root (sym_at tree t) agr l i (hl, hi);
      holds = λ q hq. agr.coded.holds l q hl hq;
    }

complete_just_when : (d : ℕ) (r table t m t' m' r' o : List ℕ) → RecodeInput d r table t m t' m' r' o
    → ((recoded d r table t m t' m' r').answer ≡ Done) ↔ CompleteSource d r table t m
unfolding k_of n_of
complete_just_when d r table t m t' m' r' o i = (
  source d r table t m t' m' r',
  λ s.
      let ok = rules d table (formed d r table t m o i.well_formed).admits.taken in
      (done_just_when d r table t m t' m' r' o i).1
      (lent_called d r table t m o i.well_formed
      (record {
        complete = held-intact (kind_in r) d (equations_of table) ok (root_in r) t m
            (with_agrees (kind_in r) d (equations_of table) ok (root_in r) (sym_at tree t) (rw (hash_in_lem r, symbols-are t, root_in_lem r) at s.agrees)) s.complete.all_held;
        blank = (zero_is tree d (size_in r) t).1 (λ p from below. base-byte d p t below ∙ s.filling_zero p (omega (arith, block_size_lem r)) below);
      })),
)

-- ---- a volume that was written

module _ (d : ℕ) (kind : Kind) (table block t m r : List ℕ) (e : (tree_written d kind table block t m r).answer ≡ Done) where
  abbrev t₁ : List ℕ
  t₁ = tree_after d kind table block t m r

  abbrev m₁ : List ℕ
  m₁ = marks_after d kind table block t m r

  abbrev r₁ : List ℕ
  r₁ = record_after d kind table block t m r

  -- a repair calls it whole
  written-lent : WholeLent d r₁ table t₁ m₁
  written-lent =
      let x = demand_2.writes_exactly d kind table block t m r e in
      let ok = rules d table (coding d kind table block t m r e).taken in
      let agr : Agrees tree (symbol_hash kind) (equations_of table) (root_in r₁) (sym_at tree t₁) =
      with_agrees kind d (equations_of table) ok (root_in r₁) (sym_at tree t₁) (rw (hash_of kind, symbols-are t₁, root_in_lem r₁) at x.agrees) in
      record {
        complete = subst (λ (q : Kind). Intact tree (symbol_hash q) (root_in r₁) (equations_of table) t₁ m₁) (sym (after_kind d kind table block t m r e))
            (held-intact kind d (equations_of table) ok (root_in r₁) t₁ m₁ agr x.marked);
        blank = ap (λ (n : ℕ). zero_filled tree d n t₁) (after-size d kind table block t m r e)
            ∙ (back-filled tree d block t₁ (after_block d kind table block t m r e)).0;
      }

  module _ (u v w : List ℕ) (lu : TreeLengths d u v) (lw : RecordLength w) where
    written_input : RecodeInput d r₁ table t₁ m₁ u v w (blank d r table t m)
    written_input =
        record {
          well_formed = (change_5.writer_passes d kind table block t m r e).2 (blank d r table t m) (blank_length d);
          new_tree-lengths = lu;
          new_record-length = lw;
        }

    written-done : (recoded d r₁ table t₁ m₁ u v w).answer ≡ Done
    written-done =
        (done_just_when d r₁ table t₁ m₁ u v w (blank d r table t m) written_input).1
        (lent_called d r₁ table t₁ m₁ (blank d r table t m) written_input.well_formed written-lent)

    of_written : recoded d r₁ table t₁ m₁ u v w ≡ tree_written d (other_kind kind) table block u v w
    of_written =
        as_writer d r₁ table t₁ m₁ u v w written-done
        ∙ ap₂ (λ (q : Kind) (l : List ℕ). tree_written d q table l u v w) (ap other_kind (after_kind d kind table block t m r e))
        (ap (λ (n : ℕ). take n (block_of tree d t₁)) (after-size d kind table block t m r e) ∙ (back-filled tree d block t₁ (after_block d kind table block t m r e)).1)

-- ---- back again: the other kind's other kind, and the same block

back_again : (d : ℕ) (r table t m t' m' r' u v w : List ℕ) → AreBytes r → (recoded d r table t m t' m' r').answer ≡ Done → TreeLengths d u v → RecordLength w
    → recoded d (new_record d r table t m t' m' r') table (new_tree d r table t m t' m' r') (new_marks d r table t m t' m' r') u v w ≡ leaves Done t m r
back_again d r table t m t' m' r' u v w bytes e lu lw =
    let b = block d r table t m t' m' r' e in
    let o = other d r table t m t' m' r' e in
    let x = written d r table t m t' m' r' e in
    let is : recoded d (record_after d o table b t' m' r') table (tree_after d o table b t' m' r') (marks_after d o table b t' m' r') u v w
    ≡ tree_written d (kind_in r) table b u v w =
    of_written d o table b t' m' r' x u v w lu lw ∙ ap (λ (q : Kind). tree_written d q table b u v w) (other-other (kind_in r)) in
    ap (λ (z : TreeLeft Answer). recoded d z.root_record table z.tree z.marks u v w) (as_writer d r table t m t' m' r' e)
    ∙ is ∙ as_it_was d r table t m t' m' r' e u v w (sym (ap (λ (z : TreeLeft Answer). z.answer) is) ∙ written-done d o table b t' m' r' x u v w lu lw) bytes

pub recoder : Recoder
recoder =
    record {
      stops_with_14 = stops_with_14;
      done_just_when = done_just_when;
      complete_just_when = complete_just_when;
      as_written = as_written;
      other_kind_lem = other_kind_lem;
      block_unchanged = λ d r table t m t' m' r' b e. block_unchanged d r table t m t' m' r' e b;
      of_written = λ d kind table block t m r u v w e. of_written d kind table block t m r e u v w;
      back_again = back_again;
    }
