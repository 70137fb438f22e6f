-- Every call that is lent a depth: those of now, and those that there would be without 02's CR 6. A call's tests are the same but for two numbers, the
-- largest depth and the most bytes of a table from C; what they are made from, the definitions of other crates, is what it was. The recoder, and the writer
-- that is told the kind by its number, came with CR 7: those of before are the same with these two numbers. Definitions only.
use Rattle.std.specs.Prelude.{Bool, true, ◌&&◌, List, ℕ, ◌+◌, ◌-◌, ◌*◌, ◌%◌, length, take, replicate, leb, eqb}
use Rattle.octets.specs.Choice.{pick}
use Rattle.parity_table.specs.Reader.{Answer as Read}
use Rattle.parity_table.specs.Reader as read
use Rattle.parity_table.specs.Reader.{layered, run}
use Rattle.parity_table.specs.Parse.{table_of}
use Rattle.table_bytes.specs.Bytes.{words_of}
use Rattle.house_table.specs.House.{house_answer}
use Rattle.coverage.specs.Coverage.{coverage_of}
use Rattle.symbol_hash.specs.SymbolHash.{symbol_hash}
use Rattle.symbol_hash.specs.declared.Kind.{Kind}
use Rattle.model.specs.Shape.{tree}
use Rattle.model.specs.Writer.{block_of}
use Rattle.model.specs.Fault.{verdict}
use Rattle.model.specs.SampleCheck.{sample_check}
use Rattle.sampling.specs.Absent.{first_absent}
use Rattle.root_record.specs.Records.{kind_of, kind_in, size_in, root_in}
use Rattle.calls.specs.declared.Stop.TheVariants.{Depth}
use Rattle.calls.specs.Stops.{Answer}
use Rattle.calls.specs.Stops.{Done, Stopped}
use Rattle.calls.specs.Tests.{◌then◌, test_lengths, test_head, read_answer, cover_answer, test_named, test_marks, test_number, words_tested, admitted}
use Rattle.volume_calls.specs.Reading.{BlockLeft, read_sized, test_base, read_by, block_read}
use Rattle.volume_calls.specs.Writing.{TreeLeft, write_sized, written_by, tree_written, test_kind, tree_written_by}
use Rattle.sample_calls.specs.Checking.{check_sized, led, sample_checked}
use Rattle.sample_calls.specs.Taking.{SampleLeft, take_sized, needed, taken_by, sample_taken}
use Rattle.fault_calls.specs.Checking.{proof_sized, judged, proof_checked}
use Rattle.fault_calls.specs.Repairing.{Result, RepairLeft, repair_sized, repair_tested, repair_of, repaired_by, repaired}
use Rattle.recoding.specs.Recoding.{other_kind, recode_sized, nothing_to_do, test_whole, recoded}

-- what each answers, and what it leaves in the buffers that it is lent; `house` writes the house table, of m entries, into n, just when it answers `Whole`
pub record Calls : Type 0 where
  pub table-words : (d : ℕ) (ws : List ℕ) → Answer
  pub table-bytes : (d : ℕ) (table : List ℕ) → Answer
  pub house : (d n m : ℕ) → Read
  pub tree_writer : (d : ℕ) (kind : Kind) (table b t m r : List ℕ) → TreeLeft Answer
  pub tree_writer_by : (d number : ℕ) (table b t m r : List ℕ) → TreeLeft Answer
  pub block_reader : (d : ℕ) (r t m b : List ℕ) → BlockLeft Answer
  pub sampler : (d i : ℕ) (t m s : List ℕ) → SampleLeft Answer
  pub sample-checker : (d i : ℕ) (r s : List ℕ) → Answer
  pub proof-checker : (d : ℕ) (r table b : List ℕ) → Answer
  pub repair_tests_lem : (d : ℕ) (r table t m o : List ℕ) → Answer
  pub repairer : (d : ℕ) (r table t m o : List ℕ) → RepairLeft Result
  pub recoder : (d : ℕ) (r table t m t' m' r' : List ℕ) → TreeLeft Answer

-- those of now
abbrev pub now : Calls
now =
    record {
      table-words = words_tested;
      table-bytes = λ d table. admitted d true table;
      house = house_answer;
      tree_writer = tree_written;
      tree_writer_by = tree_written_by;
      block_reader = block_read;
      sampler = sample_taken;
      sample-checker = sample_checked;
      proof-checker = proof_checked;
      repair_tests_lem = repair_tested;
      repairer = repaired;
      recoder = recoded;
    }

-- ---- with another largest depth, and another number of bytes that a table from C has at most

module _ (largest most : ℕ) where
  -- 1, and 2 of a table: "depth not 1 to 5"; "a length over 16,384 or not a multiple of 4 stops with 2"
  abbrev pub deep : ℕ → Bool
  deep d = leb 1 d && leb d largest

  abbrev pub short : List ℕ → Bool
  short table = leb (length table) most && eqb (length table % 4) 0

  -- tests 1 and 2
  abbrev pub begun : ℕ → Bool → Answer
  begun d sized = pick (deep d) Done (Stopped Depth) then test_lengths sized

  -- .. and 11
  abbrev pub head_by : ℕ → Bool → List ℕ → Answer
  head_by d sized r = begun d sized then test_head d r

  -- of a table as words, as bytes from C, and by a record: 1, 3, 10; 1, 2, 3, 10; 1, 2, 11, 3, 10, 12
  abbrev pub words_by : ℕ → List ℕ → Answer
  words_by d ws = read_answer (pick (deep d) (run d 0 (layered d 0) ws) read.Depth) then cover_answer (coverage_of d (table_of ws))

  abbrev pub table_by : ℕ → Bool → List ℕ → Answer
  table_by d sized table = begun d (sized && short table) then words_by d (words_of table)

  abbrev pub named_by : ℕ → Bool → List ℕ → List ℕ → Answer
  named_by d sized r table = head_by d (sized && short table) r then words_by d (words_of table) then test_named r table

  -- .. and where the kind is told by its number: 1, 2, 11, 3, 10
  abbrev pub number_by : ℕ → ℕ → Bool → List ℕ → Answer
  number_by d number sized table = begun d (sized && short table) then test_kind number then words_by d (words_of table)

  -- a repair's tests, and a repair
  abbrev pub repair_by : ℕ → List ℕ → List ℕ → List ℕ → List ℕ → List ℕ → Answer
  repair_by d r table t m o = named_by d (repair_sized d (length r) (length t) (length m) (length o)) r table then test_marks m

  abbrev pub mended_by : ℕ → List ℕ → List ℕ → List ℕ → List ℕ → List ℕ → RepairLeft Result
  mended_by d r table t m o = repaired_by (repair_by d r table t m o) d (size_in r) (repair_of r table t m o) t m o

  -- the recoder's tests, the last of which is by such a repair
  abbrev pub recode_by : ℕ → List ℕ → List ℕ → List ℕ → List ℕ → ℕ → ℕ → ℕ → Answer
  recode_by d r table t m t' m' r' =
      named_by d (recode_sized d (length r) (length t) (length m) t' m' r') r table then test_marks m
      then test_whole (nothing_to_do (mended_by d r table t m (replicate (12 + 256 * (8 * d - 1)) 0)).answer)

  abbrev pub calls_by : Calls
  calls_by =
      record {
        table-words = words_by;
        table-bytes = λ d table. table_by d true table;
        house = λ d n m. pick (deep d) (pick (eqb n m) read.Whole read.Length) read.Depth;
        tree_writer = λ d kind table b t m r. written_by (table_by d (write_sized d (length b) (length t) (length m) (length r)) table) d kind table b t m r;
        tree_writer_by = λ d number table b t m r.
            written_by (number_by d number (write_sized d (length b) (length t) (length m) (length r)) table) d (kind_of number) table b t m r;
        block_reader = λ d r t m b. read_by (head_by d (read_sized d (length r) (length t) (length m) (length b)) r then test_marks m then test_base d m) d r t b;
        sampler = λ d i t m s.
            taken_by (begun d (take_sized d (length t) (length m) (length s)) then test_marks m then test_number d i then needed (first_absent d i m)) d i t s;
        sample-checker = λ d i r s.
            (head_by d (check_sized d (length r) (length s)) r then test_number d i) then led (sample_check tree (symbol_hash (kind_in r)) (root_in r) d i s);
        proof-checker = λ d r table b.
            named_by d (proof_sized (length r) (length b)) r table then judged (verdict tree (symbol_hash (kind_in r)) (root_in r) (table_of (words_of table)) b);
        repair_tests_lem = repair_by;
        repairer = mended_by;
        recoder = λ d r table t m t' m' r'.
            written_by (recode_by d r table t m (length t') (length m') (length r')) d (other_kind (kind_in r)) table (take (size_in r) (block_of tree d t)) t' m' r';
      }

-- those of before: "depth not 1 to 5"; "a length over 16,384"
abbrev pub before : Calls
before = calls_by 5 16384
