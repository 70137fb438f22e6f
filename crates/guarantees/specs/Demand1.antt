-- Demand 1: "Every buffer lent to the software is, after any call and on any bytes, in a condition fixed beforehand: wholly described on
-- success, untouched on refusal. Every call ends, reads and writes only inside what it was lent, and finds bad input for itself and names it
-- by number." Statements only.
--
-- The contract of each call names one definition, which gives its answer and what each lent buffer holds afterwards (the hasher's and the house table's
-- name two: the answer, and the buffer), for every input, and has no `requires`: so a call finds bad input for itself. Below is what these definitions say, for each public call. A buffer that no definition
-- names is only read. That every call ends, and reads and writes only inside what it was lent, is the language's own theorem of every function.
use Rattle.std.specs.Prelude.{◌≡◌, List, ℕ, ◌*◌, length, take, Ok}
use Rattle.octets.specs.BigEndian.{bytes_of}
use Rattle.sha256.specs.Hash.{sha256}
use Rattle.sha256.specs.Call.{answer, after}
use Rattle.parity_table.specs.Reader.{Answer as Read}
use Rattle.parity_table.specs.Reader.{Whole}
use Rattle.house_table.specs.House.{house_words, house_answer, house_out}
use Rattle.model.specs.Shape.{tree}
use Rattle.model.specs.Symbols.{sym_at}
use Rattle.model.specs.Writer.{write_tree, written_marks, written_root, filled, block_of}
use Rattle.model.specs.Sampling.{sample_bytes}
use Rattle.symbol_hash.specs.SymbolHash.{symbol_hash}
use Rattle.symbol_hash.specs.declared.Kind.{Kind}
use Rattle.root_record.specs.Records.{kind_of, kind_in, size_in, record_of}
use Rattle.calls.specs.Stops.{Answer}
use Rattle.calls.specs.Stops.{Done}
use Rattle.volume_calls.specs.Reading.{block_given, block_read}
use Rattle.volume_calls.specs.Writing.{TreeLeft, tree_written, tree_written_by}
use Rattle.sample_calls.specs.Taking.{sample_taken}
use Rattle.fault_calls.specs.Repairing.{Result, RepairLeft, repair_tested, repair_of, repaired}
use Rattle.recoding.specs.Recoding.{other_kind, recoded}
use Rattle.guarantees.specs.Refusals.{Refusals}
use Rattle.guarantees.specs.FaultProofs.{ProofCheckerAnswers}
use Rattle.guarantees.specs.Terms.{equations_of}

-- ---- a buffer that held `old` and holds `now` after a call

-- "wholly described on success, untouched on refusal": `new` is described by the definition of the call
pub record Condition (success : Type 0) (old new now : List ℕ) : Type 0 where
  pub described : success → now ≡ new
  pub untouched : (success → ⊥) → now ≡ old

-- the house table, as words or as bytes, into the buffer `lent`, which has as many entries as the table
abbrev pub HouseWriter : List ℕ → List ℕ → Read → Type 0
HouseWriter new lent a = Condition (a ≡ Whole) lent new (house_out a new lent)

-- a tree, its marks and its record are written
pub record TreeWriter (depth : ℕ) (kind : Kind) (table block t m r : List ℕ) (w : TreeLeft Answer) : Type 0 where
  pub tree-bytes : Condition (w.answer ≡ Done) t (write_tree tree (symbol_hash kind) (equations_of table) (filled tree depth block) t) w.tree
  pub mark-bytes : Condition (w.answer ≡ Done) m (written_marks tree depth) w.marks
  pub record_bytes_lem : Condition (w.answer ≡ Done) r (record_of kind depth (length block) table (written_root tree (symbol_hash kind) w.tree)) w.root_record

-- tree, marks and output are repaired: what 01's steps make of them
pub record Repairer (r table t m o : List ℕ) (a : Answer) (w : RepairLeft Result) : Type 0 where
  pub tree-bytes : Condition (a ≡ Done) t (repair_of r table t m o).tree w.tree
  pub mark-bytes : Condition (a ≡ Done) m (repair_of r table t m o).marks w.marks
  pub out-bytes : Condition (a ≡ Done) o (repair_of r table t m o).out w.out

-- ---- every public call; the two checks of a table, the sample check and the proof check only read

pub record Demand1 : Type 0 where
  -- bad input is found and named: which number and values, and just when
  pub refusals : Refusals
  pub proof-checker : ProofCheckerAnswers
  -- every lent buffer
  pub hasher : (m d : List ℕ) → Condition (answer m d ≡ Ok tt) d (sha256 m) (after m d)
  pub house-words : (depth : ℕ) (lent : List ℕ) → HouseWriter (house_words depth) lent (house_answer depth (length lent) (length (house_words depth)))
  pub house-bytes : (depth : ℕ) (lent : List ℕ)
      → HouseWriter (bytes_of (house_words depth)) lent (house_answer depth (length lent) (length (house_words depth) * 4))
  pub tree_writer : (depth : ℕ) (kind : Kind) (table block t m r : List ℕ) → TreeWriter depth kind table block t m r (tree_written depth kind table block t m r)
  -- .. its kind as a number, from C
  pub tree_writer_by : (depth number : ℕ) (table block t m r : List ℕ)
      → TreeWriter depth (kind_of number) table block t m r (tree_written_by depth number table block t m r)
  pub block_reader : (depth : ℕ) (r t m b : List ℕ)
      → Condition ((block_read depth r t m b).answer ≡ Done) b (block_given depth r t b) (block_read depth r t m b).block
  pub sampler : (depth i : ℕ) (t m s : List ℕ)
      → Condition ((sample_taken depth i t m s).answer ≡ Done) s (sample_bytes tree (sym_at tree t) depth i) (sample_taken depth i t m s).sample
  pub repairer : (depth : ℕ) (r table t m o : List ℕ) → Repairer r table t m o (repair_tested depth r table t m o) (repaired depth r table t m o)
  -- the source is only read
  pub recoder : (depth : ℕ) (r table t m t' m' r' : List ℕ)
      → TreeWriter depth (other_kind (kind_in r)) table (take (size_in r) (block_of tree depth t)) t' m' r' (recoded depth r table t m t' m' r')
