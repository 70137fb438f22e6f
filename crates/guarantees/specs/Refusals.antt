-- "What stops a call", of every call but the check of a fault proof (FaultProofs.antt): which number and values, and just when. Each test stands in the papers'
-- words, and a call makes its tests in this order. Statements only.
use Rattle.std.specs.Prelude.{◌≡◌, ◌⊎◌, ◌↔◌, ◌≢◌, true, List, ℕ, suc, ◌+◌, ◌-◌, ◌*◌, ◌%◌, ◌^◌, ◌≤◌, ◌<◌, length, get_or, Ok, Result}
use Rattle.sha256.specs.Hash.{sha256}
use Rattle.sha256.specs.Call.{answer}
use Rattle.sha256.specs.declared.WrongLength.{WrongLength}
use Rattle.parity_table.specs.Reader.{Answer as Read}
use Rattle.parity_table.specs.Reader.{Whole}
use Rattle.parity_table.specs.Parse.{table_of}
use Rattle.table_bytes.specs.Bytes.{words_of}
use Rattle.house_table.specs.House.{house_words, house_answer}
use Rattle.calls.specs.Stops.{Answer}
use Rattle.calls.specs.Stops.{Done}
use Rattle.calls.specs.Stops.{number_of}
use Rattle.calls.specs.Tests.{read_answer, words_tested, admitted}
use Rattle.volume_calls.specs.Reading.{block_read}
use Rattle.volume_calls.specs.Writing.{tree_written, tree_written_by}
use Rattle.sample_calls.specs.Checking.{sample_checked}
use Rattle.sample_calls.specs.Taking.{sample_taken}
use Rattle.model.specs.Repair.{whole}
use Rattle.fault_calls.specs.Repairing.{ended, repair_tested, repaired}
use Rattle.recoding.specs.Recoding.{recoded}
use Rattle.cedunmi_c.specs.Result.{hash_answer}
use Rattle.guarantees.specs.Layouts.{bytes_from, symbol_no, data_symbols, all_symbols, tree_symbols, mark_at, hash_for, sampled_layer, sampled_number, kind_no, value_no, block_size, root_part, block_room}
use Rattle.guarantees.specs.Tables.{FirstWrongWord, FirstNotInTwo}
use Rattle.symbol_hash.specs.declared.Kind.{Kind}
use Rattle.guarantees.specs.Trees.{Hasher, hash_by}
use Rattle.guarantees.specs.Answers.{Answered, done, test, unless, one, two, Just}

-- v is the lowest of the numbers below n of which P holds
pub record LowestOf (P : ℕ → Type 0) (n v : ℕ) : Type 0 where
  pub below : v < n
  pub holds : P v
  pub none-lower : (q : ℕ) → q < v → P q → ⊥

-- ---- what the tests ask

-- 1: "depth not 1 to 5"; 02, CR 6: "Depth up to 9"
abbrev pub DepthRight : ℕ → Type 0
DepthRight d = (1 ≤ d) × (d ≤ 9)

-- 2, of a table: "a length over 16,384 or not a multiple of 4 stops with 2"; 02, CR 6: "From C a table may now have 220,792 bytes."
pub record TableLength (table : List ℕ) : Type 0 where
  pub not_over : length table ≤ 220792
  pub in_words : length table % 4 ≡ 0

-- 2, of a tree: "The tree buffer holds all layers"; "marks are one byte for each symbol"
pub record TreeLengths (d : ℕ) (t m : List ℕ) : Type 0 where
  pub tree-bytes : length t ≡ 256 * tree_symbols d
  pub mark-bytes : length m ≡ tree_symbols d

-- 2, of a block: "0 to 256·k of the base"; of a buffer to read one back into: "256·k bytes"; of a record: "556 in all"; of a sample: "256·(2D−1)"; of
-- repair's output: "12+256·(8D−1) bytes"
abbrev pub BlockFits : ℕ → List ℕ → Type 0
BlockFits d b = length b ≤ block_room d

abbrev pub BlockLength : ℕ → List ℕ → Type 0
BlockLength d b = length b ≡ block_room d

abbrev pub RecordLength : List ℕ → Type 0
RecordLength r = length r ≡ 556

abbrev pub SampleLength : ℕ → List ℕ → Type 0
SampleLength d s = length s ≡ 256 * (2 * d - 1)

abbrev pub OutputLength : ℕ → List ℕ → Type 0
OutputLength d o = length o ≡ 12 + 256 * (8 * d - 1)

-- 11, of the kind that a record's first word has, or that the writer is told by its number from C: 00 or 01
abbrev pub KindRight : ℕ → Type 0
KindRight number = (number ≡ 0) ⊎ (number ≡ 1)

-- 11: "A head with a wrong kind, a length over 256·k or another depth than the call's stops with 11 after 2"; of the first word, CR 7: "In a new record the
-- first word's kind is 00. [..] Kind 01 records remain readable"
pub record HeadRight (d : ℕ) (r : List ℕ) : Type 0 where
  pub first_kind : KindRight (kind_no r 0)
  pub kinds : (kind_no r 1 ≡ 2) × (kind_no r 2 ≡ 3)
  pub depth_is : value_no r 0 ≡ d
  pub size_fits : block_size r ≤ block_room d

-- 12: "a table of another word count or hash stops with 12 after 10"; the table's words come as big-endian bytes
pub record NamesTable (r table : List ℕ) : Type 0 where
  pub count-is : value_no r 2 ≡ length (words_of table)
  pub hash-is : bytes_from r 12 32 ≡ sha256 table

-- 4: "a mark neither 0 nor 1", with the "lowest place"
abbrev pub BadMark : ℕ → List ℕ → ℕ → Type 0
BadMark d m = LowestOf (λ p. (get_or m p 0 ≢ 0) × (get_or m p 0 ≢ 1)) (tree_symbols d)

-- 5: "base symbol number not below n"
abbrev pub InBase : ℕ → ℕ → Type 0
InBase d i = i < all_symbols (d - 1)

-- 9, reading the block: "a needed symbol absent", with "its base number"
abbrev pub AbsentData : ℕ → List ℕ → ℕ → Type 0
AbsentData d m = LowestOf (λ i. mark_at m (d - 1) i ≡ 0) (data_symbols (d - 1))

-- 9, sampling: "index in the sample of the first"
abbrev pub AbsentSampled : ℕ → ℕ → List ℕ → ℕ → Type 0
AbsentSampled d i m = LowestOf (λ x. mark_at m (sampled_layer d x) (sampled_number d i x) ≡ 0) (2 * d - 1)

-- A sample: "Every hash in it is checked: both symbols of a layer against the next data symbol up, the top ones against the root." Layer j's data symbol is
-- number 2(D−1−j)−1 of the sample, its parity symbol the one after it.
module _ (H : Hasher) (d i : ℕ) (root s : List ℕ) where
  abbrev pub data_of_sample : ℕ → ℕ → List ℕ
  data_of_sample j m = symbol_no s (2 * (d - 1 - j) - 1)

  pub record AllHashesLead : Type 0 where
    pub base : H (d - 1) i (symbol_no s 0) ≡ hash_for root data_of_sample (d - 1) i
    pub data_symbol : (j : ℕ) → suc j < d → H j (i % data_symbols j) (symbol_no s (2 * (d - 1 - j) - 1)) ≡ hash_for root data_of_sample j (i % data_symbols j)
    pub parity_symbol : (j : ℕ) → suc j < d
        → H j (data_symbols j + i % (3 * data_symbols j)) (symbol_no s (2 * (d - 1 - j))) ≡ hash_for root data_of_sample j (data_symbols j + i % (3 * data_symbols j))

  -- symbol number x of the sample has the hash that the next data symbol up, or the root, has for it
  abbrev pub SampleFits : ℕ → Type 0
  SampleFits x = H (sampled_layer d x) (sampled_number d i x) (symbol_no s x) ≡ hash_for root data_of_sample (sampled_layer d x) (sampled_number d i x)

  -- 7, with "the first layer, going up from the given symbol, whose hash isn't the committed one; in a sample either symbol of a layer counts" (02, CR 4):
  -- a symbol of layer l has another hash, and every symbol of a layer nearer the base has the committed one
  pub record SampleBreaks (l : ℕ) : Type 0 where
    pub index : ℕ
    pub inside : index < 2 * d - 1
    pub at_layer : sampled_layer d index ≡ l
    pub breaks : SampleFits index → ⊥
    pub lead_below : (x : ℕ) → x < 2 * d - 1 → l < sampled_layer d x → SampleFits x

-- ---- the calls

-- "message over the limit": "SHA-256 of a message of 0 to 1,048,576 bytes"; a digest has 32
abbrev pub hash_tests : List ℕ → List ℕ → Answered
hash_tests m digest = test 2 (unless ((length m ≤ 1048576) × (length digest ≡ 32))) done

-- a table's own tests: 3, "first wrong word (its end if short)"; 10, "tested right after 3, with the first such layer and its lowest such symbol"
abbrev pub takes_words : ℕ → List ℕ → Answered → Answered
takes_words d ws later = test 3 (one (FirstWrongWord d ws)) (test 10 (two (FirstNotInTwo d (table_of ws))) later)

abbrev pub takes_table : ℕ → List ℕ → Answered → Answered
takes_table d table later = takes_words d (words_of table) later

-- .. by a record: 11 before them, and 12 after
abbrev pub takes_named : ℕ → List ℕ → List ℕ → Answered → Answered
takes_named d r table later = test 11 (unless (HeadRight d r)) (takes_table d table (test 12 (unless (NamesTable r table)) later))

-- a table as words, and as bytes from C
abbrev pub words_tests : ℕ → List ℕ → Answered
words_tests d ws = test 1 (unless (DepthRight d)) (takes_words d ws done)

abbrev pub table_tests : ℕ → List ℕ → Answered
table_tests d table = test 1 (unless (DepthRight d)) (test 2 (unless (TableLength table)) (takes_table d table done))

-- the house table into a buffer of n entries, w to a word: "It has 5·12·(2^D−1)+1 words."
abbrev pub house_tests : ℕ → ℕ → ℕ → Answered
house_tests d w n = test 1 (unless (DepthRight d)) (test 2 (unless (n ≡ w * (5 * 12 * (2 ^ d - 1) + 1))) done)

module _ (d : ℕ) (table b t m r : List ℕ) where
  pub record WriterLengths : Type 0 where
    pub table-length : TableLength table
    pub block-fits : BlockFits d b
    pub tree-lengths : TreeLengths d t m
    pub record_length : RecordLength r

  abbrev pub writer_tests : Answered
  writer_tests = test 1 (unless (DepthRight d)) (test 2 (unless WriterLengths) (takes_table d table done))

  -- .. its kind as a number, from C: 11, after 2, for another than 0 or 1
  abbrev pub numbered_tests : ℕ → Answered
  numbered_tests number =
      test 1 (unless (DepthRight d)) (test 2 (unless WriterLengths) (test 11 (unless (KindRight number)) (takes_table d table done)))

abbrev pub block_tests : ℕ → List ℕ → List ℕ → List ℕ → List ℕ → Answered
block_tests d r t m b =
    test 1 (unless (DepthRight d))
    (test 2 (unless (RecordLength r × TreeLengths d t m × BlockLength d b))
    (test 11 (unless (HeadRight d r)) (test 4 (one (BadMark d m)) (test 9 (one (AbsentData d m)) done))))

abbrev pub sampler_tests : ℕ → ℕ → List ℕ → List ℕ → List ℕ → Answered
sampler_tests d i t m s =
    test 1 (unless (DepthRight d))
    (test 2 (unless (TreeLengths d t m × SampleLength d s))
    (test 4 (one (BadMark d m)) (test 5 (unless (InBase d i)) (test 9 (one (AbsentSampled d i m)) done))))

abbrev pub sample_tests : ℕ → ℕ → List ℕ → List ℕ → Answered
sample_tests d i r s =
    test 1 (unless (DepthRight d))
    (test 2 (unless (RecordLength r × SampleLength d s))
    (test 11 (unless (HeadRight d r)) (test 5 (unless (InBase d i)) (test 7 (one (SampleBreaks (hash_by (kind_no r 0)) d i (root_part r) s)) done))))

module _ (d : ℕ) (r table t m o : List ℕ) where
  pub record RepairLengths : Type 0 where
    pub record_length : RecordLength r
    pub table-length : TableLength table
    pub tree-lengths : TreeLengths d t m
    pub output-length : OutputLength d o

  abbrev pub repair_tests : Answered
  repair_tests =
      test 1 (unless (DepthRight d))
      (test 2 (unless RepairLengths) (takes_named d r table (test 4 (one (BadMark d m)) done)))

-- 14: "A source tree that repair doesn't call whole without storing anything": a repair of copies, whatever its output buffer holds
abbrev pub CalledWhole : ℕ → List ℕ → List ℕ → List ℕ → List ℕ → Type 0
CalledWhole d r table t m = (o : List ℕ) → OutputLength d o → (repaired d r table t m o).answer ≡ ended 0 whole

module _ (d : ℕ) (r table t m t' m' r' : List ℕ) where
  pub record RecodeLengths : Type 0 where
    pub record_length : RecordLength r
    pub table-length : TableLength table
    pub tree-lengths : TreeLengths d t m
    pub new_tree-lengths : TreeLengths d t' m'
    pub new_record-length : RecordLength r'

  abbrev pub recode_tests : Answered
  recode_tests =
      test 1 (unless (DepthRight d))
      (test 2 (unless RecodeLengths) (takes_named d r table (test 4 (one (BadMark d m)) (test 14 (unless (CalledWhole d r table t m)) done))))

-- ---- each call answers as its tests say, and not otherwise

pub record Refusals : Type 0 where
  -- 0 is done, or accepted, and nothing else is
  pub done_call : (a : Answer) → (number_of a ≡ 0) ↔ (a ≡ Done)
  pub done-read : (a : Read) → (number_of (read_answer a) ≡ 0) ↔ (a ≡ Whole)
  pub done-hash : (a : Result Unit WrongLength) → (number_of (hash_answer a) ≡ 0) ↔ (a ≡ Ok tt)
  pub hasher : (m d : List ℕ) → Just (hash_answer (answer m d)) (hash_tests m d)
  pub table-words : (d : ℕ) (ws : List ℕ) → Just (words_tested d ws) (words_tests d ws)
  pub table-bytes : (d : ℕ) (table : List ℕ) → Just (admitted d true table) (table_tests d table)
  pub house-words : (d n : ℕ) → Just (read_answer (house_answer d n (length (house_words d)))) (house_tests d 1 n)
  pub house-bytes : (d n : ℕ) → Just (read_answer (house_answer d n (length (house_words d) * 4))) (house_tests d 4 n)
  pub tree_writer : (d : ℕ) (kind : Kind) (table b t m r : List ℕ) → Just (tree_written d kind table b t m r).answer (writer_tests d table b t m r)
  pub tree_writer_by : (d number : ℕ) (table b t m r : List ℕ) → Just (tree_written_by d number table b t m r).answer (numbered_tests d table b t m r number)
  pub block_reader : (d : ℕ) (r t m b : List ℕ) → Just (block_read d r t m b).answer (block_tests d r t m b)
  pub sampler : (d i : ℕ) (t m s : List ℕ) → Just (sample_taken d i t m s).answer (sampler_tests d i t m s)
  pub sample-checker : (d i : ℕ) (r s : List ℕ) → Just (sample_checked d i r s) (sample_tests d i r s)
  pub repairer : (d : ℕ) (r table t m o : List ℕ) → Just (repair_tested d r table t m o) (repair_tests d r table t m o)
  pub recoder : (d : ℕ) (r table t m t' m' r' : List ℕ) → Just (recoded d r table t m t' m' r').answer (recode_tests d r table t m t' m' r')
