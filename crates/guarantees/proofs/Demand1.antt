-- Demand 1: what each call leaves.
use Rattle.std.specs.Prelude.{Ok, Err, Result}
use Rattle.parity_table.specs.declared.TableError.TheVariants as table_error
use mathlib.Core.Path.{◌≡◌, refl, sym, ap, ◌∙◌}
use mathlib.Core.List.{List}
use Prim.Native.Nat.{ℕ}
use native.Mathlib.Omega.{arith}
use lib.ListN.{length, take}
use Rattle.octets.proofs.Choice.{by_test, pick_yes, pick_no}
use Rattle.sha256.specs.Hash.{sha256}
use Rattle.sha256.specs.Call.{fits, answer, after, wrong_length}
use Rattle.sha256.specs.declared.WrongLength.{WrongLength}
use Rattle.parity_table.specs.Reader.{Answer as Read}
use Rattle.model.specs.Shape.{tree}
use Rattle.model.specs.Symbols.{sym_at}
use Rattle.model.specs.Writer.{written_marks, block_of}
use Rattle.model.specs.Repair.{St}
use Rattle.model.specs.Sampling.{sample_bytes}
use Rattle.symbol_hash.specs.declared.Kind.{Kind}
use Rattle.root_record.specs.Records.{kind_of, kind_in, size_in}
use Rattle.calls.specs.declared.Stop.{Stop}
use Rattle.calls.specs.Stops.{Answer}
use Rattle.calls.specs.Stops.{Done, Stopped}
use Rattle.calls.specs.Stops.{number_of}
use Rattle.calls.specs.Tests.{read_answer}
use Rattle.calls.proofs.TestLaws.{stopped_not}
use Rattle.cedunmi_c.specs.Result.{hash_answer}
use Rattle.volume_calls.specs.Reading.{block_tested, block_given, read_by, block_read}
use Rattle.volume_calls.specs.Writing.{written_tree, written_record, written_by, write_tested, tree_written, number_tested, tree_written_by}
use Rattle.sample_calls.specs.Taking.{take_tested, taken_by, sample_taken}
use Rattle.fault_calls.specs.Repairing.{repair_tested, repair_of, repaired_by, repaired}
use Rattle.recoding.specs.Recoding.{other_kind, recode_tested, recoded}
use Rattle.guarantees.specs.Demand1.{Condition, HouseWriter, TreeWriter, Repairer, Demand1}
use Rattle.guarantees.proofs.Refusals.{refusals}
use Rattle.guarantees.proofs.FaultProofs.{fault-proofs}

-- a buffer that a done call makes new, and one that a stopped call leaves
made : (old new : List ℕ) → Condition (Done ≡ Done) old new new
made old new = record { described = λ e. refl; untouched = λ n. absurd (n refl) }

kept : (s : Stop) (old new : List ℕ) → Condition (Stopped s ≡ Done) old new old
kept s old new = record { described = λ e. absurd (stopped_not s e); untouched = λ n. refl }

hasher : (m d : List ℕ) → Condition (answer m d ≡ Ok tt) d (sha256 m) (after m d)
unfolding answer after
hasher m d =
    by_test (fits m d)
    (λ t.
    record { described = λ q. pick_yes (fits m d) (sha256 m) d t; untouched = λ n. absurd (n (pick_yes (fits m d) (Ok tt) (Err wrong_length) t)) })
    (λ t.
    record {
      described = λ q. absurd (omega (arith, ap (λ (a : Result Unit WrongLength). number_of (hash_answer a)) (sym (pick_no (fits m d) (Ok tt) (Err wrong_length) t) ∙ q)));
      untouched = λ n. pick_no (fits m d) (sha256 m) d t;
    })

house : (new lent : List ℕ) (a : Read) → HouseWriter new lent a
house new lent (Err table_error.Depth) = record { described = λ e. absurd (omega (arith, ap (λ (r : Read). number_of (read_answer r)) e)); untouched = λ n. refl }
house new lent (Err table_error.Length) = record { described = λ e. absurd (omega (arith, ap (λ (r : Read). number_of (read_answer r)) e)); untouched = λ n. refl }
house new lent (Err (table_error.Wrong i)) = record { described = λ e. absurd (omega (arith, ap (λ (r : Read). number_of (read_answer r)) e)); untouched = λ n. refl }
house new lent (Ok tt) = record { described = λ e. refl; untouched = λ n. absurd (n refl) }

tree_writer : (depth : ℕ) (kind : Kind) (table block t m r : List ℕ) (a : Answer)
    → TreeWriter depth kind table block t m r (written_by a depth kind table block t m r)
tree_writer depth kind table block t m r (Ok tt) =
    record { tree-bytes = made t (written_tree depth kind table block t); mark-bytes = made m (written_marks tree depth); record_bytes_lem = made r (written_record depth kind table block t) }
tree_writer depth kind table block t m r (Err s) = record { tree-bytes = kept s t _; mark-bytes = kept s m _; record_bytes_lem = kept s r _ }

block_reader : (depth : ℕ) (r t b : List ℕ) (a : Answer) → Condition ((read_by a depth r t b).answer ≡ Done) b (block_given depth r t b) (read_by a depth r t b).block
block_reader depth r t b (Ok tt) = made b (block_given depth r t b)
block_reader depth r t b (Err s) = kept s b _

sampler : (depth i : ℕ) (t s : List ℕ) (a : Answer)
    → Condition ((taken_by a depth i t s).answer ≡ Done) s (sample_bytes tree (sym_at tree t) depth i) (taken_by a depth i t s).sample
sampler depth i t s (Ok tt) = made s (sample_bytes tree (sym_at tree t) depth i)
sampler depth i t s (Err w) = kept w s _

repairer : (depth : ℕ) (r table t m o : List ℕ) (a : Answer) → Repairer r table t m o a (repaired_by a depth (size_in r) (repair_of r table t m o) t m o)
repairer depth r table t m o (Ok tt) =
    let st : St = repair_of r table t m o in
    record { tree-bytes = made t st.tree; mark-bytes = made m st.marks; out-bytes = made o st.out }
repairer depth r table t m o (Err s) = record { tree-bytes = kept s t _; mark-bytes = kept s m _; out-bytes = kept s o _ }

-- ---- the demand

pub demand_1 : Demand1
unfolding tree_written tree_written_by recoded block_read sample_taken repaired
demand_1 =
    record {
      refusals = refusals;
      proof-checker = fault-proofs.checker-answers;
      hasher = hasher;
      house-words = λ depth lent. house _ lent _;
      house-bytes = λ depth lent. house _ lent _;
      tree_writer = λ depth kind table block t m r. tree_writer depth kind table block t m r (write_tested depth table block t m r);
      tree_writer_by = λ depth number table block t m r.
          tree_writer depth (kind_of number) table block t m r (number_tested depth number table block t m r);
      block_reader = λ depth r t m b. block_reader depth r t b (block_tested depth r (length t) m (length b));
      sampler = λ depth i t m s. sampler depth i t s (take_tested depth i (length t) m (length s));
      repairer = λ depth r table t m o. repairer depth r table t m o (repair_tested depth r table t m o);
      recoder = λ depth r table t m t' m' r'.
          tree_writer depth (other_kind (kind_in r)) table (take (size_in r) (block_of tree depth t)) t' m' r' (recode_tested depth r table t m (length t') (length m') (length r'));
    }
