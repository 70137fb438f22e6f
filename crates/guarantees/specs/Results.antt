-- What a C program reads from the one number that a call returns, and from a record. The functions are those of include/cedunmi.h, by their arithmetic.
-- Statements only.
use Rattle.std.specs.Prelude.{◌≡◌, ◌↔◌, ◌≢◌, true, List, ℕ, ◌+◌, ◌-◌, ◌*◌, ◌/◌, ◌%◌, ◌^◌, length, get_or, ltb, eqb, Ok, Err}
use Rattle.octets.specs.Choice.{pick}
use Rattle.sha256.specs.Call.{answer}
use Rattle.house_table.specs.House.{house_words, house_answer}
use Rattle.model.specs.Repair.{End, working, whole, fault, unavailable, twins}
use Rattle.repair.specs.declared.End.{End as ReportEnd}
use Rattle.repair.specs.declared.End.TheVariants as report
use Rattle.repair.specs.Reports.{end_of}
use Rattle.calls.specs.declared.Stop.{Stop}
use Rattle.calls.specs.Stops.{Answer}
use Rattle.calls.specs.Stops.{Done}
use Rattle.calls.specs.Stops.{number_of, values_of}
use Rattle.calls.specs.Tests.{read_answer, admitted}
use Rattle.fault_calls.specs.declared.Outcome.TheVariants as outcome
use Rattle.fault_calls.specs.Checking.{proof_checked}
use Rattle.fault_calls.specs.Repairing.{Result, ended, misfilled, stopped, outcome_of, repair_tested, repaired}
use Rattle.cedunmi_c.specs.Result.{hash_answer, call_result, tree_in_c, block_in_c, sample_in_c, repaired_in_c}
use Rattle.volume_calls.specs.Writing.{TreeLeft, tree_written_by}
use Rattle.volume_calls.specs.Reading.{BlockLeft, block_read}
use Rattle.recoding.specs.Recoding.{recoded}
use Rattle.sample_calls.specs.Taking.{SampleLeft, sample_taken}
use Rattle.sample_calls.specs.Checking.{sample_checked}
use Rattle.guarantees.specs.Layouts.{kind_no, value_no, block_size}
use Rattle.guarantees.specs.Refusals.{DepthRight, TableLength, HeadRight, NamesTable}

-- cmt_number, cmt_value, cmt_second_value
abbrev pub cmt_number : ℕ → ℕ
cmt_number r = r % 256

abbrev pub cmt_value : ℕ → ℕ
cmt_value r = r / 256 % 16777216

abbrev pub cmt_second_value : ℕ → ℕ
cmt_second_value r = r / 4294967296

-- cmt_repair_end, cmt_repair_stored, cmt_repair_proof_bytes, cmt_repair_layer, cmt_repair_twins_layer, cmt_repair_twins_number
abbrev pub cmt_repair_end : ℕ → ℕ
cmt_repair_end r = pick (eqb (cmt_number r) 0) (cmt_value r) 16777216

abbrev pub cmt_repair_stored : ℕ → ℕ
cmt_repair_stored r = pick (eqb (cmt_number r) 0) (cmt_second_value r % 65536) 0

abbrev pub cmt_repair_proof_bytes : ℕ → ℕ
cmt_repair_proof_bytes r = pick (eqb (cmt_repair_end r) 1) (cmt_second_value r / 65536) 0

abbrev pub cmt_repair_layer : ℕ → ℕ
cmt_repair_layer r = pick (eqb (cmt_repair_end r) 2) (cmt_second_value r / 65536) 0

abbrev pub cmt_repair_twins_layer : ℕ → ℕ
cmt_repair_twins_layer r = pick (eqb (cmt_repair_end r) 3) (cmt_second_value r / 65536 / 4096) 0

abbrev pub cmt_repair_twins_number : ℕ → ℕ
cmt_repair_twins_number r = pick (eqb (cmt_repair_end r) 3) (cmt_second_value r / 65536 % 4096) 0

-- cmt_record_word, its four turns; cmt_record_kind, cmt_record_length, cmt_record_table_bytes
abbrev pub cmt_record_word : List ℕ → ℕ → ℕ
cmt_record_word r w = 256 * (256 * (256 * (256 * 0 + get_or r (4 * w) 0) + get_or r (4 * w + 1) 0) + get_or r (4 * w + 2) 0) + get_or r (4 * w + 3) 0

abbrev pub cmt_record_kind : List ℕ → ℕ
cmt_record_kind r = cmt_record_word r 0 / 1073741824

abbrev pub cmt_record_length : List ℕ → ℕ
cmt_record_length r = cmt_record_word r 1 % 1073741824

abbrev pub cmt_record_table_bytes : List ℕ → ℕ
cmt_record_table_bytes r = 4 * (cmt_record_word r 2 % 1073741824)

-- cmt_record_depth: the three tests, which return 0 where a word has another kind, then what returns 0 by the depth, in its order; CMT_BLOCK_BYTES is
-- asked of a depth from 1 to 9 only
abbrev pub cmt_depth_taken : List ℕ → ℕ → ℕ
cmt_depth_taken r d = pick (ltb d 1) 0 (pick (ltb 9 d) 0 (pick (ltb (256 * (4 * 2 ^ (d - 1))) (cmt_record_length r)) 0 d))

abbrev pub cmt_record_depth : List ℕ → ℕ
cmt_record_depth r =
    pick (ltb 1 (cmt_record_kind r)) 0
    (pick (eqb (cmt_record_word r 1 / 1073741824) 2)
    (pick (eqb (cmt_record_word r 2 / 1073741824) 3) (cmt_depth_taken r (cmt_record_word r 0 % 1073741824)) 0) 0)

-- the number r says this number with these values
pub record Says (r number : ℕ) (values : ℕ × ℕ) : Type 0 where
  pub number_is : cmt_number r ≡ number
  pub value_is : cmt_value r ≡ values.0
  pub second_is : cmt_second_value r ≡ values.1

-- the number that a call returns says what it answers
abbrev pub SaysAnswer : Answer → Type 0
SaysAnswer a = Says (call_result a) (number_of a) (values_of a)

-- the number r says this end of a repair: its number, the bytes of its proof, its layer, and the layer and number of its twins
pub record SaysEnd (r end bytes layer : ℕ) (twins : ℕ × ℕ) : Type 0 where
  pub end_is : cmt_repair_end r ≡ end
  pub bytes-are : cmt_repair_proof_bytes r ≡ bytes
  pub layer-is : cmt_repair_layer r ≡ layer
  pub twins-layer-is : cmt_repair_twins_layer r ≡ twins.0
  pub twins-number-is : cmt_repair_twins_number r ≡ twins.1

-- it says that the repair has no end
pub record SaysNoEnd (r : ℕ) : Type 0 where
  pub end_none : cmt_repair_end r ≡ 16777216
  pub stored-none : cmt_repair_stored r ≡ 0
  pub bytes-none : cmt_repair_proof_bytes r ≡ 0
  pub layer-none : cmt_repair_layer r ≡ 0
  pub twins-layer-none : cmt_repair_twins_layer r ≡ 0
  pub twins-number-none : cmt_repair_twins_number r ≡ 0

-- "The ends are: whole, fault, unavailable, twins", and 02's 13; "a fault [..] reports the proof's length"; "unavailable" is "with this layer"; of a volume of
-- kind 00 "its twins also report their layer and number" (02, CR 7)
abbrev pub EndSaid : ℕ → ℕ → End → Type 0
EndSaid kind r whole = SaysEnd r 0 0 0 (0, 0)
EndSaid kind r (fault j e x n) = SaysEnd r 1 n 0 (0, 0)
EndSaid kind r (unavailable j) = SaysEnd r 2 0 j (0, 0)
EndSaid kind r (twins j x) = SaysEnd r 3 0 0 (pick (eqb kind 0) (j, x) (0, 0))
EndSaid kind r working = ⊥

-- the number r says that a repair, by a record of this kind, came out so, with this many symbols stored
abbrev pub EndedSaid : ℕ → ℕ → Result → Type 0
EndedSaid kind r (ended s z) = (cmt_repair_stored r ≡ s) × EndSaid kind r z
EndedSaid kind r (misfilled s) = (cmt_repair_stored r ≡ s) × SaysEnd r 13 0 0 (0, 0)
EndedSaid kind r (stopped w) = ⊥

-- what `cmt_repair` returns
abbrev pub repair_number : (depth : ℕ) (r table t m o : List ℕ) → ℕ
repair_number depth r table t m o = (repaired_in_c depth r table t m o).answer

-- of every call; the contract of each says that it returns this number
pub record Results : Type 0 where
  -- the ends that `repair_tree` answers with, each with its numbers
  pub ends : (layer equation withheld size number : ℕ)
      → (end_of report.Whole ≡ whole) × (end_of (report.Fault layer equation withheld size) ≡ fault layer equation withheld size)
      × (end_of (report.Unavailable layer) ≡ unavailable layer) × (end_of (report.Twins layer number) ≡ twins layer number)
  -- and how `repair_tree` comes out: at one of these ends, misfilled, or refused
  pub outcomes : (stored : ℕ) (end : ReportEnd) (stop : Stop)
      → (outcome_of (Ok (outcome.Ended (record { stored = stored; end = end }))) ≡ ended stored (end_of end))
      × (outcome_of (Ok (outcome.Misfilled stored)) ≡ misfilled stored) × (outcome_of (Err stop) ≡ stopped stop)
  pub of_hasher : (m digest : List ℕ) → SaysAnswer (hash_answer (answer m digest))
  pub of_table_check : (depth : ℕ) (table : List ℕ) → SaysAnswer (admitted depth true table)
  pub of_house_table : (depth n : ℕ) → SaysAnswer (read_answer (house_answer depth n (length (house_words depth) * 4)))
  pub of_tree_writer : (depth number : ℕ) (table b t m r : List ℕ) → SaysAnswer (tree_written_by depth number table b t m r).answer
  pub of_block_reader : (depth : ℕ) (r t m b : List ℕ) → SaysAnswer (block_read depth r t m b).answer
  pub of_sampler : (depth i : ℕ) (t m s : List ℕ) → SaysAnswer (sample_taken depth i t m s).answer
  pub of_sample_checker : (depth i : ℕ) (r s : List ℕ) → SaysAnswer (sample_checked depth i r s)
  pub of_proof_checker : (depth : ℕ) (r table b : List ℕ) → SaysAnswer (proof_checked depth r table b)
  pub of_recoder : (depth : ℕ) (r table t m t' m' r' : List ℕ) → SaysAnswer (recoded depth r table t m t' m' r').answer
  -- a repair that is refused, and one that came to its end
  pub of_refusal : (depth : ℕ) (r table t m o : List ℕ) → repair_tested depth r table t m o ≢ Done
      → Says (repair_number depth r table t m o) (number_of (repair_tested depth r table t m o)) (values_of (repair_tested depth r table t m o))
  pub no_end : (depth : ℕ) (r table t m o : List ℕ) → repair_tested depth r table t m o ≢ Done → SaysNoEnd (repair_number depth r table t m o)
  pub of_repair : (depth : ℕ) (r table t m o : List ℕ) → repair_tested depth r table t m o ≡ Done
      → (cmt_number (repair_number depth r table t m o) ≡ 0)
      × EndedSaid (kind_no r 0) (repair_number depth r table t m o) (repaired depth r table t m o).answer
  -- to C a call leaves the buffers that it leaves, and its answer is that number
  pub tree_in_c_lem : (w : TreeLeft Answer)
      → ((tree_in_c w).answer ≡ call_result w.answer) × ((tree_in_c w).tree ≡ w.tree) × ((tree_in_c w).marks ≡ w.marks) × ((tree_in_c w).root_record ≡ w.root_record)
  pub block_in_c_lem : (w : BlockLeft Answer) → ((block_in_c w).answer ≡ call_result w.answer) × ((block_in_c w).block ≡ w.block)
  pub sample_in_c_lem : (w : SampleLeft Answer) → ((sample_in_c w).answer ≡ call_result w.answer) × ((sample_in_c w).sample ≡ w.sample)
  pub repair_in_c_lem : (depth : ℕ) (r table t m o : List ℕ)
      → ((repaired_in_c depth r table t m o).tree ≡ (repaired depth r table t m o).tree) × ((repaired_in_c depth r table t m o).marks ≡ (repaired depth r table t m o).marks)
      × ((repaired_in_c depth r table t m o).out ≡ (repaired depth r table t m o).out)
  -- of a record C reads what the calls do: the depth at which 11 lets it pass, and 0 where there is none
  pub record_depth : (d : ℕ) (r : List ℕ) → DepthRight d → (cmt_record_depth r ≡ d) ↔ HeadRight d r
  pub record_no_depth : (r : List ℕ) → (cmt_record_depth r ≡ 0) ↔ ((d : ℕ) → DepthRight d → HeadRight d r → ⊥)
  pub record_kind : (r : List ℕ) → cmt_record_kind r ≡ kind_no r 0
  pub record_length : (r : List ℕ) → cmt_record_length r ≡ block_size r
  pub record_table_bytes : (r : List ℕ) → cmt_record_table_bytes r ≡ 4 * value_no r 2
  -- so that a table that 12 lets pass has these bytes
  pub named-table-bytes : (r table : List ℕ) → TableLength table → NamesTable r table → length table ≡ cmt_record_table_bytes r
