-- 02, CR 5: tests 11 and 12 by themselves, records written and read, and what a record binds.
use Rattle.std.specs.Prelude.{Ok, Err}
use mathlib.Core.Path.{◌≡◌, refl, sym, ap, ap₂, ◌∙◌, subst}
use mathlib.Core.Logic.{◌⊎◌, ◌↔◌, ◌≢◌, inl, inr, ⊎_elim}
use mathlib.Core.Bool.{true}
use mathlib.Core.List.{List, ◌++◌}
use Prim.Native.Nat.{ℕ, ◌+◌, ◌*◌, ◌/◌, ◌^◌, ◌≤◌, ◌<◌}
use native.Mathlib.Omega.{arith}
use lib.ListN.{length, get_or}
use lib.Dec.{eqb}
use borrow.Author.Tests.{eqb-true, eq-eqb}
use Rattle.octets.specs.BigEndian.{bytes_of}
use Rattle.octets.specs.ByteLists.{same}
use Rattle.octets.proofs.Bytes.{length-bytes_of}
use Rattle.octets.proofs.Choice.{by_test}
use Rattle.sha256.specs.Hash.{sha256}
use Rattle.parity_table.specs.Shape.{k_of}
use Rattle.table_bytes.specs.Bytes.{words_of}
use Rattle.table_bytes.proofs.ByteForm.{words_of-length}
use Rattle.model.specs.Shape.{tree}
use Rattle.model.specs.Repair.{St}
use Rattle.model.specs.Writer.{zero_filled}
use Rattle.octets.proofs.SameLaws.{same_yes, same_no}
use Rattle.model.proofs.Filling.{back-filled, zero_is, full-filled}
use Rattle.heads.specs.Heads.{head, kind_at}
use Rattle.symbol_hash.specs.declared.Kind.{Kind}
use Rattle.root_record.specs.Records.{kind_number, kind_of, kind_in, record_of, size_in, count_in, hash_in, root_in, head_right, names_table}
use Rattle.root_record.proofs.RecordLaws.{number-back, table-parts, record_length, record_root, record_size, record_right, record_names, record_read, record_read_of}
use Rattle.calls.specs.Stops.{Answer}
use Rattle.calls.specs.Stops.{Done}
use Rattle.calls.specs.Stops.{values_of}
use Rattle.volume_calls.specs.Reading.{block_read}
use Rattle.volume_calls.specs.Writing.{tree_written}
use Rattle.sample_calls.specs.Checking.{sample_checked}
use Rattle.fault_calls.specs.Checking.{proof_checked}
use Rattle.fault_calls.specs.Repairing.{misfilled, repair_tested, repair_of, repaired_by, repaired}
use Rattle.fault_calls.proofs.CheckingLaws.{passed}
use Rattle.fault_calls.proofs.RepairingLaws.{ends_so, formed}
use Rattle.recoding.specs.Recoding.{recoded}
use Rattle.guarantees.specs.Layouts.{bytes_from, symbol_at, kind_no, value_no, record_bytes, block_size, root_part, block_room, block_start}
use Rattle.guarantees.specs.Answers.{test, fails, holds, unless, Just}
use Rattle.guarantees.specs.Refusals.{DepthRight, TableLength, TreeLengths, BlockLength, RecordLength, HeadRight, NamesTable, SampleLength, OutputLength, takes_table, takes_named}
use Rattle.guarantees.specs.Demand2.{tree_after, marks_after, record_after, TreesCollide}
use Rattle.guarantees.specs.Trees.{kind_bits, hash_by, AgreesWith}
use Rattle.guarantees.specs.Terms.{equations_of}
use Rattle.guarantees.specs.Cases.{AreBytes}
use Rattle.guarantees.specs.Change5.{StopsWith11, StopsWith12, record_for, ReadsAs, Takes, by_proof, by_repair, by_recoder, TablesCollide, Change5}
use Rattle.guarantees.proofs.Answers.{never, done_never}
use Rattle.guarantees.proofs.Layouts.{tree-symbols}
use Rattle.guarantees.proofs.Records.{kind_no_lem, at_most, record_number, block_size_lem, word_count, table_hash, root_in_lem, block_room_lem, head-right, right-head, names_table_lem, table-named, head_bytes, record_bytes_lem}
use Rattle.guarantees.proofs.Refusals.{depth-fits, recode_passed, refusals}
use Rattle.guarantees.proofs.Passing.{decided, Stable, past_words, past_words_so, past_lengths, past_lengths_so, head_stable, head-front, proof_stable, repair_stable, recode_stable, repair-passes}
use Rattle.guarantees.proofs.FaultProofs.{fault-proofs}
use Rattle.guarantees.proofs.Demand2.{coding, after-full, after-bits, after-right, after_names, after-size, base-byte, reading, after_block, after_one, demand_2}
use Rattle.guarantees.proofs.Demand3.{way_of, passed_13, is_13, demand_3}

-- ---- tests 11 and 12

-- a test gives its number only when it fails, where later ones don't give it
found : {k : ℕ} {right : Type 0} {later : ℕ → ℕ × ℕ → Type 0} → ((v : ℕ × ℕ) → later k v → ⊥) → (v : ℕ × ℕ) → test k (unless right) later k v → right → ⊥
found none v (fails e x) = x.is_not
found none v (holds x l) = absurd (none v l)

-- a call by its tests, R being what the lengths are to be; those after 11 don't give 11, and those after 12 not 12
module _ (d : ℕ) (r : List ℕ) {R : Type 0} (so : Stable R) {later : ℕ → ℕ × ℕ → Type 0} (a : Answer) where
  stops_11 : (before : Type 0) → (DepthRight d → R → before) → (before → DepthRight d × R)
      → Just a (test 1 (unless (DepthRight d)) (test 2 (unless R) (test 11 (unless (HeadRight d r)) later))) → ((v : ℕ × ℕ) → later 11 v → ⊥)
      → StopsWith11 d r before a
  stops_11 before join split j none = (
    λ e.
        let (k, l, t) = past_lengths d (λ q. omega arith) (λ q. omega arith) so ((j.answers 11 (values_of a)).0 (e, refl)) in (join k l, found none (values_of a) t),
    λ (b, n).
        let (k, l) = split b in
        ((j.answers 11 (0, 0)).1 (past_lengths_so d (λ q. omega arith) (λ q. omega arith) k l (fails refl (record { is_not = n; alone = refl })))).0,
  )

  stops_12 : (table : List ℕ) → Just a (test 1 (unless (DepthRight d)) (test 2 (unless R) (takes_named d r table later))) → ((v : ℕ × ℕ) → later 12 v → ⊥)
      → StopsWith12 d r table (DepthRight d × R) a
  stops_12 table j none =
      let f = head-front d {later = takes_table d table (test 12 (unless (NamesTable r table)) later)} so (head_stable d r) in (
        λ e.
            let (b, t) = f.into (λ q. omega arith) (λ q. omega arith) (λ q. omega arith) ((j.answers 12 (values_of a)).0 (e, refl)) in
            let (w, c, u) = past_words d (words_of table) (f.deep b) (λ q. omega arith) (λ q. omega arith) t in
            ((b.0, b.1), b.2, w, c, found none (values_of a) u),
        λ (b, h, w, c, n).
            ((j.answers 12 (0, 0)).1
            (f.back (λ q. omega arith) (λ q. omega arith) (λ q. omega arith) (b.0, b.1, h)
            (past_words_so d (words_of table) (depth-fits d b.0) w c (fails refl (record { is_not = n; alone = refl }))))).0,
      )

-- lengths, where their opposite doesn't hold
length_stable : (a b : ℕ) → Stable (a ≡ b)
length_stable a b = decided (eqb a b) (eqb-true a b) (eq-eqb a b)

block_stable : (d : ℕ) (r t m b : List ℕ) → Stable (RecordLength r × TreeLengths d t m × BlockLength d b)
block_stable d r t m b x = (
  length_stable _ _ (λ n. x (λ k. n k.0)),
  record {
    tree-bytes = length_stable _ _ (λ n. x (λ k. n k.1.tree-bytes));
    mark-bytes = length_stable _ _ (λ n. x (λ k. n k.1.mark-bytes));
  },
  length_stable _ _ (λ n. x (λ k. n k.2)),
)

sample_stable : (d : ℕ) (r s : List ℕ) → Stable (RecordLength r × SampleLength d s)
sample_stable d r s x = (length_stable _ _ (λ n. x (λ k. n k.0)), length_stable _ _ (λ n. x (λ k. n k.1)))

-- ---- reading and writing a record

-- a table that calls take has few words
few_words : (table : List ℕ) → TableLength table → length table / 4 < 2 ^ 30
few_words table l = omega (arith, l.not_over)

module _ (k d n : ℕ) (table root : List ℕ) where
  written_reads : k ≤ 1 → DepthRight d → n ≤ block_room d → TableLength table → length root ≡ 512 → ReadsAs k d n table root (record_for k d n table root)
  unfolding k_of
  written_reads low deep h l full =
      let f = depth-fits d deep in
      let c = few_words table l in
      let kind : Kind = kind_of k in
      let r : List ℕ = record_of kind d n table root in
      let is : record_for k d n table root ≡ r =
      ap (λ (v : ℕ). record_for v d n table root) (sym (number-back k low)) ∙ record_bytes_lem kind d n table root in
      rw is
      (record {
        full = record_length kind d n table root full;
        head = head-right d r (record_right kind d n table root f h c);
        kind_is = record_number kind d n table root f h c ∙ number-back k low;
        size_is = block_size_lem r ∙ record_size kind d n table root f h c;
        table-named = names_table_lem r table (record_names kind d n table root f h c);
        root_is = root_in_lem r ∙ record_root kind d n table root;
      })

-- the kind of a record that 11 lets pass
pub first_kind : (d : ℕ) (r : List ℕ) → HeadRight d r → kind_number (kind_in r) ≡ kind_no r 0
unfolding kind_in
first_kind d r h = number-back (kind_at r 0) (omega (arith, at_most (kind_no r 0) h.first_kind, kind_no_lem r 0)) ∙ sym (kind_no_lem r 0)

read_as_written : (d : ℕ) (r : List ℕ) → AreBytes r → RecordLength r → HeadRight d r
    → r ≡ record_bytes (kind_no r 0) d (block_size r) (value_no r 2) (bytes_from r 12 32) (root_part r)
read_as_written d r bytes full right =
    record_read d r bytes full (right-head d r right)
    ∙ ap (λ (k : ℕ). head k d (size_in r) (count_in r) ++ (hash_in r ++ root_in r)) (first_kind d r right)
    ∙ ap₂ (λ (n c : ℕ). head (kind_no r 0) d n c ++ (hash_in r ++ root_in r)) (sym (block_size_lem r)) (sym (word_count r))
    ∙ ap₂ (λ (h root : List ℕ). head (kind_no r 0) d (block_size r) (value_no r 2) ++ (h ++ root)) (sym (table_hash r)) (sym (root_in_lem r))
    ∙ sym (head_bytes (kind_no r 0) d (block_size r) (value_no r 2) (bytes_from r 12 32) (root_part r))

read_was_written : (d : ℕ) (r table : List ℕ) → AreBytes r → RecordLength r → HeadRight d r → NamesTable r table
    → r ≡ record_for (kind_no r 0) d (block_size r) table (root_part r)
read_was_written d r table bytes full head named =
    record_read_of d r bytes full (right-head d r head) table (table-named r table named)
    ∙ ap₂ (λ (n : ℕ) (root : List ℕ). record_of (kind_in r) d n table root) (sym (block_size_lem r)) (sym (root_in_lem r))
    ∙ sym (record_bytes_lem (kind_in r) d (block_size r) table (root_part r))
    ∙ ap (λ (k : ℕ). record_for k d (block_size r) table (root_part r)) (first_kind d r head)

by_words : (r ws : List ℕ) → NamesTable r (bytes_of ws) ↔ ((value_no r 2 ≡ length ws) × (bytes_from r 12 32 ≡ sha256 (bytes_of ws)))
by_words r ws =
    let e : length (words_of (bytes_of ws)) ≡ length ws = omega (arith, words_of-length (bytes_of ws), length-bytes_of ws) in
    (λ k. (k.count-is ∙ e, k.hash-is), λ (n, h). record { count-is = n ∙ sym e; hash-is = h })

-- what the writer leaves
module _ (d : ℕ) (kind : Kind) (table block t m r : List ℕ) (e : (tree_written d kind table block t m r).answer ≡ Done) where
  abbrev t' : List ℕ
  t' = tree_after d kind table block t m r

  abbrev m' : List ℕ
  m' = marks_after d kind table block t m r

  abbrev r' : List ℕ
  r' = record_after d kind table block t m r

  passes : (o : List ℕ) → OutputLength d o → repair_tested d r' table t' m' o ≡ Done
  passes o room =
      let x = demand_2.writes_exactly d kind table block t m r e in
      repair-passes d r' table t' m' o (after-full d kind table block t m r e) (after-right d kind table block t m r e) (coding d kind table block t m r e).taken
      (after_names d kind table block t m r e) x.lengths room (λ p h. omega (arith, x.marked p (omega (arith, x.lengths.mark-bytes))))

-- a repair by the record that the writer left, which ends with 13
module _ (d : ℕ) (kind : Kind) (table block t m r : List ℕ) (e : (tree_written d kind table block t m r).answer ≡ Done) (u w o : List ℕ) (n : ℕ)
    (x : (repaired d (record_after d kind table block t m r) table u w o).answer ≡ misfilled n) where
  abbrev left : List ℕ
  left = (repair_of (record_after d kind table block t m r) table u w o).tree

  abbrev made : List ℕ
  made = tree_after d kind table block t m r

  -- its tree isn't the written one, whose filling is zero
  other-tree : (p : ℕ) → length block ≤ p → p < block_room d → get_or left (block_start d + p) 0 ≢ 0 → left ≢ made
  unfolding k_of
  other-tree p from below z q =
      let zero = (zero_is tree d (length block) made).0 (back-filled tree d block made (after_block d kind table block t m r e)).0 p from below in
      z (ap (λ (l : List ℕ). get_or l (block_start d + p) 0) q ∙ sym (base-byte d p made below) ∙ zero)

  never_misfilled : TreesCollide (hash_by (kind_bits kind)) d (symbol_at (repaired d (record_after d kind table block t m r) table u w o).tree) (symbol_at made)
  never_misfilled =
      let r' : List ℕ = record_after d kind table block t m r in
      let k = passed_13 d r' table u w o n x in
      let y = is_13 d r' table u w o k n x in
      let all = demand_3.repairs d r' table u w o k in
      rw all.as_the_steps.tree-left
      (⊎_elim
      (λ q.
      absurd (other-tree y.byte (omega (arith, y.in_filling.0, block_size_lem r', after-size d kind table block t m r e)) y.in_filling.1 y.not_zero q)) (λ c. c)
      (after_one d kind table block t m r e left (all.every-end.lengths.tree-bytes ∙ ap (λ (l : ℕ). 256 * l) (tree-symbols d))
      (subst (λ (k : ℕ). AgreesWith (hash_by k) d (equations_of table) (root_part r') (symbol_at left)) (after-bits d kind table block t m r e) y.whole-tree.agrees)))

-- ---- what a record binds

named_by : (d : ℕ) (r table : List ℕ) → Takes d r table → (head_right d r ≡ true) × (names_table r table ≡ true)
named_by d r table (by_proof b e) = let k = (passed d r table b e).admits in (k.head, k.named)
named_by d r table (by_repair t m o e) = let k = (formed d r table t m o e).admits in (k.head, k.named)
named_by d r table (by_recoder t m t' m' r' e) = let k = (recode_passed d r table t m t' m' r' e).0 in (k.head, k.named)

one_table : (d : ℕ) (r table other : List ℕ) → Takes d r table → Takes d r other → (words_of table ≡ words_of other) ⊎ TablesCollide table other
one_table d r table other p q =
    let hash : sha256 table ≡ sha256 other =
    sym (table-parts r table (named_by d r table p).1).1 ∙ (table-parts r other (named_by d r other q).1).1 in
    by_test (same (words_of table) (words_of other)) (λ y. inl (same_yes (words_of table) (words_of other) y))
    (λ n. inr (record { differ = same_no n; equal = hash }))

head-depth : (d : ℕ) (r : List ℕ) → HeadRight d r → d ≡ value_no r 0
head-depth d r h = sym h.depth_is

-- ---- a block that fills the base

module _ (d : ℕ) (r table t m o : List ℕ) (full : block_size r ≡ block_room d) where
  no_filling : (u : List ℕ) → zero_filled tree d (size_in r) u ≡ true
  no_filling u = ap (λ (n : ℕ). zero_filled tree d n u) (sym (block_size_lem r) ∙ full ∙ block_room_lem d) ∙ full-filled tree d u

  never_13 : (a : Answer) (st : St) (n : ℕ) → (repaired_by a d (size_in r) st t m o).answer ≢ misfilled n
  unfolding way_of
  never_13 (Ok tt) st n e =
      omega (arith, ap way_of (ends_so (zero_filled tree d (size_in r) st.tree) st.stored st.end (λ q. no_filling st.tree) ∙ e))
  never_13 (Err s) st n e = omega (arith, ap way_of e)

  full_block : (n : ℕ) → (repaired d r table t m o).answer ≢ misfilled n
  unfolding repaired
  full_block = never_13 (repair_tested d r table t m o) (repair_of r table t m o)

-- ---- the request

pub change_5 : Change5
change_5 =
    record {
      block_reader = λ d r t m b.
          stops_11 d r (block_stable d r t m b) (block_read d r t m b).answer _ (λ k l. (k, l.0, l.1, l.2)) (λ b. (b.0, (b.1, b.2, b.3))) (refusals.block_reader d r t m b)
          (never (λ e. omega arith) (never (λ e. omega arith) (done_never (λ e. omega arith))));
      sample-checker = λ d i r s.
          stops_11 d r (sample_stable d r s) (sample_checked d i r s) _ (λ k l. (k, l.0, l.1)) (λ b. (b.0, (b.1, b.2))) (refusals.sample-checker d i r s)
          (never (λ e. omega arith) (never (λ e. omega arith) (done_never (λ e. omega arith))));
      proof-checker = λ d r table b.
          stops_11 d r (proof_stable r table b) (proof_checked d r table b) _ (λ k l. (k, l)) (λ b. b) (fault-proofs.checker-answers d r table b)
          (never (λ e. omega arith) (never (λ e. omega arith) (never (λ e. omega arith) (never (λ e. omega arith) (never (λ e. omega arith) (never (λ e. omega arith) (never (λ e. omega arith) (done_never (λ e. omega arith)))))))));
      repairer = λ d r table t m o.
          stops_11 d r (repair_stable d r table t m o) (repair_tested d r table t m o) _ (λ k l. (k, l)) (λ b. b) (refusals.repairer d r table t m o)
          (never (λ e. omega arith) (never (λ e. omega arith) (never (λ e. omega arith) (never (λ e. omega arith) (done_never (λ e. omega arith))))));
      recoder = λ d r table t m t' m' r'.
          stops_11 d r (recode_stable d r table t m t' m' r') (recoded d r table t m t' m' r').answer _ (λ k l. (k, l)) (λ b. b) (refusals.recoder d r table t m t' m' r')
          (never (λ e. omega arith) (never (λ e. omega arith) (never (λ e. omega arith) (never (λ e. omega arith) (never (λ e. omega arith) (done_never (λ e. omega arith)))))));
      proof-checker-table = λ d r table b.
          stops_12 d r (proof_stable r table b) (proof_checked d r table b) table (fault-proofs.checker-answers d r table b)
          (never (λ e. omega arith) (never (λ e. omega arith) (never (λ e. omega arith) (never (λ e. omega arith) (done_never (λ e. omega arith))))));
      repairer-table = λ d r table t m o.
          stops_12 d r (repair_stable d r table t m o) (repair_tested d r table t m o) table (refusals.repairer d r table t m o) (never (λ e. omega arith) (done_never (λ e. omega arith)));
      recoder-table = λ d r table t m t' m' r'.
          stops_12 d r (recode_stable d r table t m t' m' r') (recoded d r table t m t' m' r').answer table (refusals.recoder d r table t m t' m' r') (never (λ e. omega arith) (never (λ e. omega arith) (done_never (λ e. omega arith))));
      by_words = by_words;
      written_reads = written_reads;
      read_as_written = read_as_written;
      read_was_written = read_was_written;
      writer_passes = λ d kind table block t m r e. (
        head-right d _ (after-right d kind table block t m r e),
        names_table_lem _ table (after_names d kind table block t m r e),
        passes d kind table block t m r e,
      );
      writer_never_misfilled = never_misfilled;
      one_table = one_table;
      sample-depth = λ d i r s e. head-depth d r ((demand_2.accepts_just_when d i r s).0 e).ready.head-right;
      block-depth = λ d r t m b e. head-depth d r (head-right d r (reading d r t m b e).head);
      taken-depth = λ d r table k. head-depth d r (head-right d r (named_by d r table k).0);
      full_block = full_block;
    }
