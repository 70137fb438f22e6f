-- 02, CR 5: "Length and table written in the root record." Statements only.
--
-- The record byte for byte, "the writer fills up with zeros" and reading back are in Demand2.antt; 13, and that "the fault promise concerns the 512 bytes
-- inside", in Demand3.antt; which calls test 11 and 12, and where in their order, in Refusals.antt and FaultProofs.antt. Below is each of these two tests by
-- itself, that reading and writing a record are inverse, what a record binds, and where 13 doesn't come.
use Rattle.std.specs.Prelude.{◌≡◌, ◌⊎◌, ◌↔◌, ◌≢◌, List, ℕ, ◌≤◌, length}
use Rattle.octets.specs.BigEndian.{bytes_of}
use Rattle.sha256.specs.Hash.{sha256}
use Rattle.table_bytes.specs.Bytes.{words_of}
use Rattle.symbol_hash.specs.declared.Kind.{Kind}
use Rattle.calls.specs.Stops.{Answer}
use Rattle.calls.specs.Stops.{Done}
use Rattle.calls.specs.Stops.{number_of}
use Rattle.volume_calls.specs.Reading.{block_read}
use Rattle.volume_calls.specs.Writing.{tree_written}
use Rattle.sample_calls.specs.Checking.{sample_checked}
use Rattle.fault_calls.specs.Checking.{proof_checked}
use Rattle.fault_calls.specs.Repairing.{misfilled, repair_tested, repaired}
use Rattle.recoding.specs.Recoding.{recoded}
use Rattle.guarantees.specs.Layouts.{bytes_from, symbol_at, kind_no, value_no, record_bytes, block_size, root_part, block_room}
use Rattle.guarantees.specs.Tables.{TableRight, AllInTwo}
use Rattle.guarantees.specs.Refusals.{DepthRight, TableLength, TreeLengths, BlockLength, RecordLength, HeadRight, NamesTable, SampleLength, OutputLength, RepairLengths, RecodeLengths}
use Rattle.guarantees.specs.FaultProofs.{ProofLengths}
use Rattle.guarantees.specs.Demand2.{tree_after, marks_after, record_after, symbol, TreesCollide}
use Rattle.guarantees.specs.Trees.{kind_bits, hash_by}
use Rattle.guarantees.specs.Cases.{AreBytes}
use Rattle.guarantees.specs.Terms.{equations_of}

-- ---- a call that gives the answer a, at depth d, lent the record r; `before` is what tests 1 and 2 ask

-- "A head with a wrong kind, a length over 256·k or another depth than the call's stops with 11 after 2"
abbrev pub StopsWith11 : ℕ → List ℕ → Type 0 → Answer → Type 0
StopsWith11 d r before a = (number_of a ≡ 11) ↔ (before × (HeadRight d r → ⊥))

-- "a table of another word count or hash stops with 12 after 10"
abbrev pub StopsWith12 : ℕ → List ℕ → List ℕ → Type 0 → Answer → Type 0
StopsWith12 d r table before a =
    (number_of a ≡ 12) ↔ (before × HeadRight d r × TableRight d (words_of table) × AllInTwo d (equations_of table) × (NamesTable r table → ⊥))

-- ---- reading and writing a record

-- the record of these
abbrev pub record_for : (kind d n : ℕ) (table root : List ℕ) → List ℕ
record_for kind d n table root = record_bytes kind d n (length (words_of table)) (sha256 table) root

pub record ReadsAs (kind d n : ℕ) (table root r : List ℕ) : Type 0 where
  pub full : RecordLength r
  pub head : HeadRight d r
  pub kind_is : kind_no r 0 ≡ kind
  pub size_is : block_size r ≡ n
  pub table-named : NamesTable r table
  pub root_is : root_part r ≡ root

-- ---- what a record binds

-- a call takes this table by this record: the check of a proof accepts, a repair is not turned away, or the recoder is done
pub data Takes (d : ℕ) (r table : List ℕ) : Type 0 where
  by_proof : (b : List ℕ) → proof_checked d r table b ≡ Done → Takes d r table
  by_repair : (t m o : List ℕ) → repair_tested d r table t m o ≡ Done → Takes d r table
  by_recoder : (t m t' m' r' : List ℕ) → (recoded d r table t m t' m' r').answer ≡ Done → Takes d r table

-- two different lists of words have, as big-endian bytes, equal SHA-256
pub record TablesCollide (table other : List ℕ) : Type 0 where
  pub differ : words_of table ≢ words_of other
  pub equal : sha256 table ≡ sha256 other

-- ---- the request

pub record Change5 : Type 0 where
  pub block_reader : (d : ℕ) (r t m b : List ℕ)
      → StopsWith11 d r (DepthRight d × RecordLength r × TreeLengths d t m × BlockLength d b) (block_read d r t m b).answer
  pub sample-checker : (d i : ℕ) (r s : List ℕ) → StopsWith11 d r (DepthRight d × RecordLength r × SampleLength d s) (sample_checked d i r s)
  pub proof-checker : (d : ℕ) (r table b : List ℕ) → StopsWith11 d r (DepthRight d × ProofLengths r table b) (proof_checked d r table b)
  pub repairer : (d : ℕ) (r table t m o : List ℕ) → StopsWith11 d r (DepthRight d × RepairLengths d r table t m o) (repair_tested d r table t m o)
  pub recoder : (d : ℕ) (r table t m t' m' r' : List ℕ)
      → StopsWith11 d r (DepthRight d × RecodeLengths d r table t m t' m' r') (recoded d r table t m t' m' r').answer
  pub proof-checker-table : (d : ℕ) (r table b : List ℕ) → StopsWith12 d r table (DepthRight d × ProofLengths r table b) (proof_checked d r table b)
  pub repairer-table : (d : ℕ) (r table t m o : List ℕ)
      → StopsWith12 d r table (DepthRight d × RepairLengths d r table t m o) (repair_tested d r table t m o)
  pub recoder-table : (d : ℕ) (r table t m t' m' r' : List ℕ)
      → StopsWith12 d r table (DepthRight d × RecodeLengths d r table t m t' m' r') (recoded d r table t m t' m' r').answer
  -- "the number of table words [..] the SHA-256 of the table words as big-endian bytes": of a table that is lent as bytes, whatever its words are
  pub by_words : (r ws : List ℕ) → NamesTable r (bytes_of ws) ↔ ((value_no r 2 ≡ length ws) × (bytes_from r 12 32 ≡ sha256 (bytes_of ws)))
  -- What is written is read, and a record that reads is exactly the record of what was read. With n = `block_room d`: the old 512 bytes of a block that filled
  -- the base, with its depth and table, have this record, which passes 11 and 12.
  pub written_reads : (kind d n : ℕ) (table root : List ℕ) → kind ≤ 1 → DepthRight d → n ≤ block_room d → TableLength table → length root ≡ 512
      → ReadsAs kind d n table root (record_for kind d n table root)
  pub read_as_written : (d : ℕ) (r : List ℕ) → AreBytes r → RecordLength r → HeadRight d r
      → r ≡ record_bytes (kind_no r 0) d (block_size r) (value_no r 2) (bytes_from r 12 32) (root_part r)
  -- and by a table that it names, the record of that table
  pub read_was_written : (d : ℕ) (r table : List ℕ) → AreBytes r → RecordLength r → HeadRight d r → NamesTable r table
      → r ≡ record_for (kind_no r 0) d (block_size r) table (root_part r)
  -- what the writer leaves passes 11 and 12, and every test of a repair
  pub writer_passes : (d : ℕ) (kind : Kind) (table block t m r : List ℕ) → (tree_written d kind table block t m r).answer ≡ Done
      → HeadRight d (record_after d kind table block t m r) × NamesTable (record_after d kind table block t m r) table
      × ((o : List ℕ) → OutputLength d o
      → repair_tested d (record_after d kind table block t m r) table (tree_after d kind table block t m r) (marks_after d kind table block t m r) o ≡ Done)
  -- so a volume that the writer filled up doesn't end with 13, whatever symbols and marks come back, unless the repaired tree and the written one show, at one
  -- layer and number, two different symbols of equal hash
  pub writer_never_misfilled : (d : ℕ) (kind : Kind) (table block t m r : List ℕ) → (tree_written d kind table block t m r).answer ≡ Done
      → (u w o : List ℕ) (n : ℕ) → (repaired d (record_after d kind table block t m r) table u w o).answer ≡ misfilled n
      → TreesCollide (hash_by (kind_bits kind)) d (symbol_at (repaired d (record_after d kind table block t m r) table u w o).tree) (symbol d kind table block t m r)
  -- a record that is taken with two tables at one depth has the words of both, or shows a collision
  pub one_table : (d : ℕ) (r table other : List ℕ) → Takes d r table → Takes d r other → (words_of table ≡ words_of other) ⊎ TablesCollide table other
  -- what is accepted for a record is for its depth, and no other
  pub sample-depth : (d i : ℕ) (r s : List ℕ) → sample_checked d i r s ≡ Done → d ≡ value_no r 0
  pub block-depth : (d : ℕ) (r t m b : List ℕ) → (block_read d r t m b).answer ≡ Done → d ≡ value_no r 0
  pub taken-depth : (d : ℕ) (r table : List ℕ) → Takes d r table → d ≡ value_no r 0
  -- a block that fills the base has no filling: never 13
  pub full_block : (d : ℕ) (r table t m o : List ℕ) → block_size r ≡ block_room d → (n : ℕ) → (repaired d r table t m o).answer ≢ misfilled n
