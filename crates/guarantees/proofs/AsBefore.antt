-- CR 6: up to depth 5 the calls are as they were.
use mathlib.Core.Path.{◌≡◌, refl}
use mathlib.Core.Bool.{Bool, true, false, ◌&&◌}
use mathlib.Core.List.{List}
use Prim.Native.Nat.{ℕ, zero, suc, ◌%◌, ◌≤◌}
use native.Mathlib.Omega.{arith}
use lib.ListN.{length}
use lib.Dec.{leb, eqb}
use borrow.Author.Tests.{eqb-true, le-leb, leb-false, leb-true}
use Rattle.octets.specs.Choice.{pick}
use Rattle.octets.proofs.Choice.{by_test}
use Rattle.parity_table.specs.Shape.{depth_fits}
use Rattle.parity_table.specs.Reader.{read_of}
use Rattle.table_bytes.specs.Bytes.{length_fits}
use Rattle.house_table.specs.House.{house_answer}
use Rattle.calls.specs.Tests.{test_depth}
use Rattle.volume_calls.specs.Reading.{block_read}
use Rattle.volume_calls.specs.Writing.{tree_written, tree_written_by}
use Rattle.sample_calls.specs.Checking.{sample_checked}
use Rattle.sample_calls.specs.Taking.{sample_taken}
use Rattle.fault_calls.specs.Checking.{proof_checked}
use Rattle.fault_calls.specs.Repairing.{repair_tested, repaired}
use Rattle.recoding.specs.Recoding.{recoded}
use Rattle.guarantees.specs.Refusals.{TableLength}
use Rattle.guarantees.specs.Change6.{AsBefore, LengthAsBefore}

-- such a length is right now just where it was
length-same : (table : List ℕ) → (TableLength table → length table ≤ 16384)
    → (leb (length table) 220792 && eqb (length table % 4) 0) ≡ (leb (length table) 16384 && eqb (length table % 4) 0)
length-same table h =
    by_test (leb (length table) 16384)
    (λ t. let l = leb-true (length table) 16384 t in rw (t, le-leb (length table) 220792 (omega arith)))
    (λ t.
    by_test (eqb (length table % 4) 0)
    (λ q.
    by_test (leb (length table) 220792)
    (λ w.
    absurd
    (omega
    (arith, h (record { not_over = leb-true (length table) 220792 w; in_words = eqb-true (length table % 4) 0 q }), leb-false (length table) 16384 t)))
    (λ w. rw (t, w)))
    (λ q. rw q (alike (leb (length table) 220792) (leb (length table) 16384))))
  where
    alike : (a b : Bool) → (a && false) ≡ (b && false)
    alike true true = refl
    alike true false = refl
    alike false true = refl
    alike false false = refl

pub as_before : (d : ℕ) → d ≤ 5 → AsBefore d
unfolding depth_fits length_fits read_of test_depth house_answer tree_written tree_written_by block_read sample_taken sample_checked proof_checked repair_tested repaired recoded pick
as_before zero h =
    record {
      table-words = λ ws. refl;
      table-bytes = λ table l. refl;
      house = λ n m. refl;
      tree_writer = λ kind table b t m r l. refl;
      tree_writer_by = λ number table b t m r l. refl;
      block_reader = λ r t m b. refl;
      sampler = λ i t m s. refl;
      sample-checker = λ i r s. refl;
      proof-checker = λ r table b l. refl;
      repairer = λ r table t m o l. refl;
      recoder = λ r table t m t' m' r' l. refl;
    }
as_before (suc d) h =
    let five = le-leb (suc d) 5 h in
    let nine = le-leb (suc d) 9 (omega arith) in
    let same : (table : List ℕ) → LengthAsBefore (suc d) table
    → (leb (length table) 220792 && eqb (length table % 4) 0) ≡ (leb (length table) 16384 && eqb (length table % 4) 0) = λ table l. length-same table (l (omega arith)) in
    record {
      table-words = λ ws. rw (five, nine);
      table-bytes = λ table l. rw (five, nine, same table l);
      house = λ n m. rw (five, nine);
      tree_writer = λ kind table b t m r l. rw (five, nine, same table l);
      tree_writer_by = λ number table b t m r l. rw (five, nine, same table l);
      block_reader = λ r t m b. rw (five, nine);
      sampler = λ i t m s. rw (five, nine);
      sample-checker = λ i r s. rw (five, nine);
      proof-checker = λ r table b l. rw (five, nine, same table l);
      repairer = λ r table t m o l. rw (five, nine, same table l);
      recoder = λ r table t m t' m' r' l. rw (five, nine, same table l);
    }
