-- 02, CR 1: "Pages that no equation mentions." Statements only.
--
-- A table is lent as bytes to the check of a table, the writer (in either form), the check of a fault proof, the repairer and the recoder, and as words to
-- the check of words: these are all the calls that take one. What each answers in every other case is in `Refusals` and `ProofCheckerAnswers`, with the same
-- test 10.
use Rattle.std.specs.Prelude.{◌≡◌, ◌↔◌, true, List, ℕ}
use Rattle.octets.specs.BigEndian.{bytes_of}
use Rattle.table_bytes.specs.Bytes.{words_of}
use Rattle.parity_table.specs.Parse.{table_of}
use Rattle.house_table.specs.House.{house_table, house_words}
use Rattle.symbol_hash.specs.declared.Kind.{Kind}
use Rattle.calls.specs.Stops.{Answer}
use Rattle.calls.specs.Stops.{Done}
use Rattle.calls.specs.Tests.{words_tested, admitted}
use Rattle.volume_calls.specs.Writing.{tree_written, tree_written_by}
use Rattle.fault_calls.specs.Checking.{proof_checked}
use Rattle.fault_calls.specs.Repairing.{repair_tested}
use Rattle.recoding.specs.Recoding.{recoded}
use Rattle.guarantees.specs.Answers.{Answers}
use Rattle.guarantees.specs.Tables.{TableRight, FirstWrongWord, AllInTwo, FirstNotInTwo}
use Rattle.guarantees.specs.Refusals.{DepthRight, TableLength, KindRight, HeadRight, WriterLengths, RepairLengths, RecodeLengths}
use Rattle.guarantees.specs.FaultProofs.{ProofLengths}
use Rattle.guarantees.specs.Terms.{equations_of}

-- ---- a call that gives the answer a, at depth d, lent the words ws of a table; `before` is what the tests before 3 ask

module _ (d : ℕ) (ws : List ℕ) (before : Type 0) (a : Answer) where
  -- "A table that keeps the old rules but breaks this stops with 10, tested right after 3, with the first such layer and its lowest such symbol."
  abbrev pub StopsWith10 : Type 0
  StopsWith10 = (j i : ℕ) → Answers a 10 (j, i) ↔ (before × TableRight d ws × FirstNotInTwo d (table_of ws) j i)

  -- the old rules, whatever equations a data symbol is in: "first wrong word (its end if short)"
  abbrev pub StopsWith3 : Type 0
  StopsWith3 = (i : ℕ) → Answers a 3 (i, 0) ↔ (before × FirstWrongWord d ws i)

  -- "A table is now taken only when every data symbol of every layer is also a member of at least two equations of that layer."
  abbrev pub TakenOnly : Type 0
  TakenOnly = a ≡ Done → TableRight d ws × AllInTwo d (table_of ws)

  pub record Table : Type 0 where
    pub stops_with_3 : StopsWith3
    pub stops_with_10 : StopsWith10
    pub taken-only : TakenOnly

-- ---- every call that takes a table

pub record Change1 : Type 0 where
  pub words_check : (d : ℕ) (ws : List ℕ) → Table d ws (DepthRight d) (words_tested d ws)
  pub table_check : (d : ℕ) (table : List ℕ) → Table d (words_of table) (DepthRight d × TableLength table) (admitted d true table)
  pub tree_writer : (d : ℕ) (kind : Kind) (table b t m r : List ℕ)
      → Table d (words_of table) (DepthRight d × WriterLengths d table b t m r) (tree_written d kind table b t m r).answer
  pub tree_writer_by : (d number : ℕ) (table b t m r : List ℕ)
      → Table d (words_of table) (DepthRight d × WriterLengths d table b t m r × KindRight number) (tree_written_by d number table b t m r).answer
  pub proof-checker : (d : ℕ) (r table b : List ℕ)
      → Table d (words_of table) (DepthRight d × ProofLengths r table b × HeadRight d r) (proof_checked d r table b)
  pub repairer : (d : ℕ) (r table t m o : List ℕ)
      → Table d (words_of table) (DepthRight d × RepairLengths d r table t m o × HeadRight d r) (repair_tested d r table t m o)
  pub recoder : (d : ℕ) (r table t m t' m' r' : List ℕ)
      → Table d (words_of table) (DepthRight d × RecodeLengths d r table t m t' m' r' × HeadRight d r) (recoded d r table t m t' m' r').answer
  -- and a table is taken just when it is so
  pub words-taken : (d : ℕ) (ws : List ℕ) → (words_tested d ws ≡ Done) ↔ (DepthRight d × TableRight d ws × AllInTwo d (table_of ws))
  pub table_taken : (d : ℕ) (table : List ℕ)
      → (admitted d true table ≡ Done) ↔ (DepthRight d × TableLength table × TableRight d (words_of table) × AllInTwo d (equations_of table))
  -- the house table is, at every depth; so it is taken at each that there is
  pub house_covered : (d : ℕ) → AllInTwo d (house_table d)
  pub house-taken : (d : ℕ) → DepthRight d → (words_tested d (house_words d) ≡ Done) × (admitted d true (bytes_of (house_words d)) ≡ Done)
