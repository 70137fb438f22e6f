-- 02, CR 6: "Depth up to 9." Statements only.
--
-- Depths are 1 to 9 and a table from C has up to 220,792 bytes in all that this crate says: `DepthRight`, `TableLength` (Refusals.antt). Below is what else
-- the request says, and what it leaves as it was. "The built-in table ends at 5 [..]" is of CR 2's table: no call goes without a table yet.
use Rattle.std.specs.Prelude.{◌≡◌, ◌↔◌, true, List, ℕ, ◌-◌, ◌*◌, ◌%◌, ◌≤◌, ◌<◌, length}
use Rattle.octets.specs.BigEndian.{bytes_of}
use Rattle.house_table.specs.House.{house_words, house_answer}
use Rattle.symbol_hash.specs.declared.Kind.{Kind}
use Rattle.calls.specs.Stops.{Done}
use Rattle.calls.specs.Stops.{number_of}
use Rattle.calls.specs.Tests.{words_tested, admitted}
use Rattle.volume_calls.specs.Reading.{block_read}
use Rattle.volume_calls.specs.Writing.{tree_written, tree_written_by}
use Rattle.sample_calls.specs.Checking.{sample_checked}
use Rattle.sample_calls.specs.Taking.{sample_taken}
use Rattle.fault_calls.specs.Checking.{proof_checked}
use Rattle.fault_calls.specs.Repairing.{repair_tested, repaired}
use Rattle.recoding.specs.Recoding.{recoded}
use Rattle.guarantees.specs.Layouts.{data_symbols, tree_symbols}
use Rattle.guarantees.specs.Tables.{TableRight}
use Rattle.guarantees.specs.Refusals.{DepthRight, TableLength, TreeLengths, BlockFits, BlockLength, KindRight, HeadRight, OutputLength, WriterLengths, RepairLengths, RecodeLengths}
use Rattle.guarantees.specs.FaultProofs.{ProofLengths}
use Rattle.guarantees.specs.Cases.{EveryCall, Has, Longest}
use Rattle.guarantees.specs.Before.{now, calls_by, before}

-- ---- "Firmware of the newer boards needs base k = 1,024. That makes 8,176 symbols, and a proof of up to 18,188 bytes."

pub record DepthNine : Type 0 where
  pub base : data_symbols (9 - 1) ≡ 1024
  pub symbols : tree_symbols 9 ≡ 8176
  pub proof : (kind : Kind) → Longest kind 9 18188
  -- so a block has at most so many bytes, and the buffer that it is read back into, a tree with its marks, and repair's output have these lengths
  pub block : (b : List ℕ) → BlockFits 9 b ↔ (length b ≤ 262144)
  pub block-read : (b : List ℕ) → BlockLength 9 b ↔ (length b ≡ 262144)
  pub tree : (t m : List ℕ) → TreeLengths 9 t m ↔ ((length t ≡ 2093056) × (length m ≡ 8176))
  pub output : (o : List ℕ) → OutputLength 9 o ↔ (length o ≡ 18188)

-- ---- "From C a table may now have 220,792 bytes."

-- 220,792 bytes are nine words for each equation of depth 9, one for each layer, and the end word. No table has so many, and the longest has six words fewer:
-- members ascend strictly and end in k+e, so equations 0, 1 and 2 of layer 0 have at most 5, 6 and 7 of them.
pub record FromC : Type 0 where
  pub none_longer : (d : ℕ) (ws : List ℕ) → DepthRight d → TableRight d ws → length ws * 4 ≤ 220768
  pub longest : (ws : List ℕ) × TableRight 9 ws × (length ws * 4 ≡ 220768)
  -- so no table that is taken as words is turned away as bytes
  pub taken : (d : ℕ) (ws : List ℕ) → words_tested d ws ≡ Done → admitted d true (bytes_of ws) ≡ Done
  -- "may now have": of whole words, 220,792 bytes don't stop with 2, and 220,796 do
  pub stops_with_2 : (d : ℕ) (table : List ℕ) → DepthRight d → length table % 4 ≡ 0 → (number_of (admitted d true table) ≡ 2) ↔ (220792 < length table)

-- ---- "Depth 10 stops with 1; case 8's depth 6 is accepted."

-- the house table is taken, as words and as bytes, and the writer is done with it, in buffers of this depth's lengths and no others
pub record Accepted (d : ℕ) : Type 0 where
  pub words : words_tested d (house_words d) ≡ Done
  pub table : admitted d true (bytes_of (house_words d)) ≡ Done
  pub writes : Has d (tree_symbols d)

-- ---- "Stored forms of depth 1 to 5 read and come out as before."

-- a table whose length is wrong, or was right before, wherever the depth is looked at first
abbrev pub LengthAsBefore : ℕ → List ℕ → Type 0
LengthAsBefore d table = 1 ≤ d → TableLength table → length table ≤ 16384

-- what each call answers and leaves is what it answered and left, with any such table
pub record AsBefore (d : ℕ) : Type 0 where
  pub table-words : (ws : List ℕ) → words_tested d ws ≡ before.table-words d ws
  pub table-bytes : (table : List ℕ) → LengthAsBefore d table → admitted d true table ≡ before.table-bytes d table
  pub house : (n m : ℕ) → house_answer d n m ≡ before.house d n m
  pub tree_writer : (kind : Kind) (table b t m r : List ℕ) → LengthAsBefore d table → tree_written d kind table b t m r ≡ before.tree_writer d kind table b t m r
  pub tree_writer_by : (number : ℕ) (table b t m r : List ℕ) → LengthAsBefore d table
      → tree_written_by d number table b t m r ≡ before.tree_writer_by d number table b t m r
  pub block_reader : (r t m b : List ℕ) → block_read d r t m b ≡ before.block_reader d r t m b
  pub sampler : (i : ℕ) (t m s : List ℕ) → sample_taken d i t m s ≡ before.sampler d i t m s
  pub sample-checker : (i : ℕ) (r s : List ℕ) → sample_checked d i r s ≡ before.sample-checker d i r s
  pub proof-checker : (r table b : List ℕ) → LengthAsBefore d table → proof_checked d r table b ≡ before.proof-checker d r table b
  pub repairer : (r table t m o : List ℕ) → LengthAsBefore d table → repaired d r table t m o ≡ before.repairer d r table t m o
  pub recoder : (r table t m t' m' r' : List ℕ) → LengthAsBefore d table
      → recoded d r table t m t' m' r' ≡ before.recoder d r table t m t' m' r'

-- a table of more: every call that is lent it stopped with 2; now it passes 2 and 11, where the other lengths and the record's head, or the number of the
-- kind, are right, and stops with 3
pub record LongerTable (d : ℕ) (table : List ℕ) : Type 0 where
  pub check_before : number_of (before.table-bytes d table) ≡ 2
  pub check_now : number_of (admitted d true table) ≡ 3
  pub writer_before : (kind : Kind) (b t m r : List ℕ) → number_of (before.tree_writer d kind table b t m r).answer ≡ 2
  pub writer_now : (kind : Kind) (b t m r : List ℕ) → WriterLengths d table b t m r → number_of (tree_written d kind table b t m r).answer ≡ 3
  pub writer_by_before : (number : ℕ) (b t m r : List ℕ) → number_of (before.tree_writer_by d number table b t m r).answer ≡ 2
  pub writer_by_now : (number : ℕ) (b t m r : List ℕ) → WriterLengths d table b t m r → KindRight number
      → number_of (tree_written_by d number table b t m r).answer ≡ 3
  pub proof-before : (r b : List ℕ) → number_of (before.proof-checker d r table b) ≡ 2
  pub proof-now : (r b : List ℕ) → ProofLengths r table b → HeadRight d r → number_of (proof_checked d r table b) ≡ 3
  pub repair-before : (r t m o : List ℕ) → number_of (before.repair_tests_lem d r table t m o) ≡ 2
  pub repair-now : (r t m o : List ℕ) → RepairLengths d r table t m o → HeadRight d r → number_of (repair_tested d r table t m o) ≡ 3
  pub recode_before : (r t m t' m' r' : List ℕ) → number_of (before.recoder d r table t m t' m' r').answer ≡ 2
  pub recode_now : (r t m t' m' r' : List ℕ) → RecodeLengths d r table t m t' m' r' → HeadRight d r
      → number_of (recoded d r table t m t' m' r').answer ≡ 3

-- ---- the request

pub record Change6 : Type 0 where
  pub depth_nine : DepthNine
  pub from-C : FromC
  pub depth_ten : EveryCall now 10 (λ number. number ≡ 1)
  -- depth 6, and every other from 1 to 9
  pub accepted : (d : ℕ) → DepthRight d → Accepted d
  -- the calls of now are those of before but for two numbers, 9 for 5 and 220,792 for 16,384
  pub two_numbers : now ≡ calls_by 9 220792
  pub as_before : (d : ℕ) → d ≤ 5 → AsBefore d
  -- and these are the differences: depths over 5, and tables whose length was wrong and is right now
  pub deeper_before : (d : ℕ) → 5 < d → EveryCall before d (λ number. number ≡ 1)
  pub longer_table : (d : ℕ) (table : List ℕ) → 1 ≤ d → d ≤ 5 → TableLength table → 16384 < length table → LongerTable d table
