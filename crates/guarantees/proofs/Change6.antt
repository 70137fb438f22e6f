-- CR 6: depth 9, tables from C, and the calls as they were.
use mathlib.Core.Path.{◌≡◌, refl, sym, ap, ◌∙◌, subst}
use mathlib.Core.Logic.{◌↔◌}
use mathlib.Core.Bool.{Bool, true, false, ◌&&◌}
use mathlib.Core.List.{List}
use Prim.Native.Nat.{ℕ, ◌*◌, ◌%◌, ◌≤◌, ◌<◌}
use native.Mathlib.Omega.{arith}
use native.Mathlib.Decide.{dec_lt}
use lib.ListN.{length}
use lib.Dec.{eqb}
use borrow.Author.Tests.{le-leb, lt-leb}
use Rattle.octets.specs.BigEndian.{bytes_of}
use Rattle.octets.specs.Choice.{pick}
use Rattle.parity_table.specs.Shape.{depth_fits}
use Rattle.parity_table.specs.Table.{table_words}
use Rattle.parity_table.specs.Reader.{read_of}
use Rattle.parity_table.specs.Longest.{full_table, longest}
use Rattle.parity_table.proofs.Longest.{full-formed, none_longer as words-most, longest_grows, longest_nine, longest_five}
use Rattle.table_bytes.specs.Bytes.{words_of, length_fits}
use Rattle.table_bytes.proofs.ByteForm.{words_of-length}
use Rattle.table_bytes.proofs.RoundTrip.{Words, table-words}
use Rattle.house_table.specs.House.{house_answer}
use Rattle.model.specs.Fault.{proof_length}
use Rattle.calls.specs.declared.Stop.TheVariants.{Length}
use Rattle.calls.specs.Stops.{Done, Stopped}
use Rattle.calls.specs.Stops.{number_of}
use Rattle.calls.specs.Tests.{test_depth, test_lengths, words_tested, admitted}
use Rattle.calls.proofs.Taken.{bytes_tested}
use Rattle.volume_calls.specs.Reading.{block_read}
use Rattle.volume_calls.specs.Writing.{write_sized, tree_written, tree_written_by}
use Rattle.sample_calls.specs.Checking.{sample_checked}
use Rattle.sample_calls.specs.Taking.{sample_taken}
use Rattle.fault_calls.specs.Checking.{proof_sized, proof_checked}
use Rattle.fault_calls.specs.Repairing.{repair_sized, repair_tested, repaired}
use Rattle.recoding.specs.Recoding.{recode_sized, recoded}
use Rattle.guarantees.specs.Layouts.{tree_symbols}
use Rattle.guarantees.specs.Tables.{FirstWrongWord}
use Rattle.guarantees.specs.Answers.{test, holds, unless, JustWhen}
use Rattle.guarantees.specs.Refusals.{DepthRight, TableLength}
use Rattle.guarantees.specs.Cases.{EveryCall}
use Rattle.guarantees.specs.Before.{now, short, begun, calls_by, before}
use Rattle.guarantees.specs.Change6.{DepthNine, Accepted, LongerTable, Change6}
use Rattle.guarantees.proofs.Answers.{never, done_never, left}
use Rattle.guarantees.proofs.Layouts.{tree-symbols}
use Rattle.guarantees.proofs.Tables.{right-formed, formed-right}
use Rattle.guarantees.proofs.Refusals.{depth-fits, words-cases, refusals}
use Rattle.guarantees.proofs.Cases.{at_test, stops, has, longest as longest-proof}
use Rattle.guarantees.proofs.Change1.{change_1}
use Rattle.guarantees.proofs.AsBefore.{as_before}

-- ---- depth 9

depth_nine : DepthNine
unfolding proof_length
depth_nine =
    record {
      base = refl;
      symbols = refl;
      proof = λ kind. longest-proof kind 7 (omega arith);
      block = λ b. (λ e. e, λ e. e);
      block-read = λ b. (λ e. e, λ e. e);
      tree = λ t m. (λ r. (r.tree-bytes, r.mark-bytes), λ (p, q). record { tree-bytes = p; mark-bytes = q });
      output = λ o. (λ e. e, λ e. e);
    }

-- ---- how long a table is

longest-most : (d : ℕ) → DepthRight d → longest d ≤ 55192
longest-most d r = omega (arith, longest_grows d 9 r.0 r.1, longest_nine)

-- as many bytes as the longest has
longest-bytes : length (table_words (full_table 9)) * 4 ≡ 220768
unfolding longest
longest-bytes = omega (arith, longest_nine)

-- a table that is taken as words is taken as bytes
taken-bytes : (d : ℕ) (ws : List ℕ) → words_tested d ws ≡ Done → admitted d true (bytes_of ws) ≡ Done
taken-bytes d ws e =
    let (r, w, c) = (change_1.words-taken d ws).0 e in
    let f = right-formed d ws w in
    let few : length ws ≤ 55192 = omega (arith, words-most d ws f, longest-most d r) in
    let fit : Words ws = subst Words (sym f.written) (table-words d f.table f.rules r.1 (omega (arith, ap length f.written))) in
    bytes_tested d ws fit (omega arith) ∙ e

-- a test that is passed is none
after : {k number : ℕ} {values : ℕ × ℕ} {right : Type 0} {later : ℕ → ℕ × ℕ → Type 0} → JustWhen number values (test k (unless right) later) → right
    → JustWhen number values later
after j r = record { answers = λ n v. (λ h. left r ((j.answers n v).0 h), λ l. (j.answers n v).1 (holds (λ w x. x.is_not r) l)) }

stops_with_2 : (d : ℕ) (table : List ℕ) → DepthRight d → length table % 4 ≡ 0 → (number_of (admitted d true table) ≡ 2) ↔ (220792 < length table)
stops_with_2 d table r q =
    let (to, fro) = at_test (after (refusals.table-bytes d table) r) (never (λ e. omega arith) (never (λ e. omega arith) (done_never (λ e. omega arith)))) in (
      λ e. elim (dec_lt 220792 (length table)) [ yes h ↦ h | no h ↦ absurd (to e (record { not_over = omega arith; in_words = q })) ],
      λ h. fro (λ l. omega (arith, l.not_over)),
    )

-- ---- the depths

accepts : (d : ℕ) → DepthRight d → Accepted d
accepts d r =
    let (w, t) = change_1.house-taken d r in record { words = w; table = t; writes = has d (tree_symbols d) (depth-fits d r) (sym (tree-symbols d)) }

-- ---- as before

two_numbers : now ≡ calls_by 9 220792
unfolding depth_fits length_fits read_of test_depth house_answer tree_written tree_written_by block_read sample_taken sample_checked proof_checked repair_tested repaired recoded
two_numbers = refl

deeper_before : (d : ℕ) → 5 < d → EveryCall before d (λ number. number ≡ 1)
unfolding pick
deeper_before d h =
    let some = le-leb 1 d (omega arith) in
    let deep = lt-leb d 5 h in
    record {
      table-words = λ ws. rw (some, deep);
      table-bytes = λ b. rw (some, deep);
      house-words = λ n. rw (some, deep);
      house-bytes = λ n. rw (some, deep);
      tree_writer = λ kind table b t m r. rw (some, deep);
      tree_writer_by = λ number table b t m r. rw (some, deep);
      block_reader = λ r t m b. rw (some, deep);
      sampler = λ i t m s. rw (some, deep);
      sample-checker = λ i r s. rw (some, deep);
      proof-checker = λ r table b. rw (some, deep);
      repairer = λ r table t m o. rw (some, deep);
      recoder = λ r table t m t' m' r'. rw (some, deep);
    }

-- ---- a longer table

-- where a list has more words than any table, one is wrong
wrong_word : (d : ℕ) (ws : List ℕ) → DepthRight d → longest d < length ws → (i : ℕ) × FirstWrongWord d ws i
wrong_word d ws r h =
    words-cases d (depth-fits d r) (λ x. (i : ℕ) × FirstWrongWord d ws i) ws (λ i w. (i, w)) (λ w. absurd (omega (arith, words-most d ws (right-formed d ws w))))

no_and : (a b : Bool) → (a && (false && b)) ≡ false
no_and true b = refl
no_and false b = refl

module _ (d : ℕ) (table : List ℕ) (some : 1 ≤ d) (few : d ≤ 5) (l : TableLength table) (h : 16384 < length table) where
  -- every call that is lent it begins so
  long_before : (sized : Bool) → begun 5 16384 d (sized && short 5 16384 table) ≡ Stopped Length
  unfolding test_lengths pick
  long_before sized = rw (le-leb 1 d some, le-leb d 5 few, lt-leb (length table) 16384 h, no_and sized (eqb (length table % 4) 0))

  longer : LongerTable d table
  longer =
      let dr : DepthRight d = (some, omega arith) in
      let (i, w) = wrong_word d (words_of table) dr (omega (arith, words_of-length table, longest_grows d 5 some few, longest_five)) in
      record {
        check_before = rw (long_before true);
        check_now = (((change_1.table_check d table).stops_with_3 i).1 ((dr, l), w)).0;
        writer_before = λ kind b t m r. rw (long_before (write_sized d (length b) (length t) (length m) (length r)));
        writer_now = λ kind b t m r k. (((change_1.tree_writer d kind table b t m r).stops_with_3 i).1 ((dr, k), w)).0;
        writer_by_before = λ number b t m r. rw (long_before (write_sized d (length b) (length t) (length m) (length r)));
        writer_by_now = λ number b t m r k n. (((change_1.tree_writer_by d number table b t m r).stops_with_3 i).1 ((dr, k, n), w)).0;
        proof-before = λ r b. rw (long_before (proof_sized (length r) (length b)));
        proof-now = λ r b k hr. (((change_1.proof-checker d r table b).stops_with_3 i).1 ((dr, k, hr), w)).0;
        repair-before = λ r t m o. rw (long_before (repair_sized d (length r) (length t) (length m) (length o)));
        repair-now = λ r t m o k hr. (((change_1.repairer d r table t m o).stops_with_3 i).1 ((dr, k, hr), w)).0;
        recode_before = λ r t m t' m' r'. rw (long_before (recode_sized d (length r) (length t) (length m) (length t') (length m') (length r')));
        recode_now = λ r t m t' m' r' k hr. (((change_1.recoder d r table t m t' m' r').stops_with_3 i).1 ((dr, k, hr), w)).0;
      }

-- ---- all of it

pub change_6 : Change6
change_6 =
    record {
      depth_nine = depth_nine;
      from-C = record {
        none_longer = λ d ws r w. omega (arith, words-most d ws (right-formed d ws w), longest-most d r);
        longest = (table_words (full_table 9), formed-right 9 (table_words (full_table 9)) (full-formed 9), longest-bytes);
        taken = taken-bytes;
        stops_with_2 = stops_with_2;
      };
      depth_ten = stops 10 (λ h. omega (arith, h.1));
      accepted = accepts;
      two_numbers = two_numbers;
      as_before = as_before;
      deeper_before = deeper_before;
      longer_table = λ d table some few l h. longer d table some few l h;
    }
