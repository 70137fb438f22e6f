-- Demand 2: "A block, its depth and its parity table give exactly the symbols and root that the coded Merkle tree's definition and FIPS 180-4
-- give. A complete tree gives back exactly that block, and a sample is accepted just when its hashes lead to the root." 02, CR 5: "Demand 2's root is
-- now this record." CR 7: "the writer is told which kind to make"; "A tree agrees with a record only by hashes of that record's kind." Statements only. The
-- definition is that of Trees.antt, 01's and 02's, with `sha256`, FIPS 180-4's.
use Rattle.std.specs.Prelude.{◌≡◌, ◌⊎◌, ◌↔◌, List, ℕ, ◌+◌, ◌-◌, ◌*◌, ◌≤◌, ◌<◌, length, get_or, take, drop}
use Rattle.sha256.specs.Hash.{sha256}
use Rattle.table_bytes.specs.Bytes.{words_of}
use Rattle.calls.specs.Stops.{Done}
use Rattle.volume_calls.specs.Reading.{block_read}
use Rattle.volume_calls.specs.Writing.{tree_written}
use Rattle.sample_calls.specs.Checking.{sample_checked}
use Rattle.sample_calls.specs.Taking.{sample_taken}
use Rattle.guarantees.specs.Layouts.{symbol_no, data_symbols, all_symbols, tree_symbols, symbol_at, mark_at, sampled_layer, sampled_number, kind_no, record_bytes, block_size, root_part, block_start, filled_up}
use Rattle.guarantees.specs.Tables.{TableRules, listed}
use Rattle.symbol_hash.specs.declared.Kind.{Kind}
use Rattle.guarantees.specs.Trees.{Hasher, kind_bits, hash_by, CorrectlyCoded, RootOf, AgreesWith, HasBlock, Twins}
use Rattle.guarantees.specs.Refusals.{DepthRight, TreeLengths, BlockFits, BlockLength, RecordLength, HeadRight, SampleLength, InBase, AllHashesLead}
use Rattle.guarantees.specs.Terms.{equations_of}

-- ---- what a call of the writer leaves, that was lent the buffers t, m and r

module _ (depth : ℕ) (kind : Kind) (table block t m r : List ℕ) where
  abbrev pub tree_after : List ℕ
  tree_after = (tree_written depth kind table block t m r).tree

  abbrev pub marks_after : List ℕ
  marks_after = (tree_written depth kind table block t m r).marks

  abbrev pub record_after : List ℕ
  record_after = (tree_written depth kind table block t m r).root_record

-- ---- "A block, its depth and its parity table give exactly the symbols and root that the coded Merkle tree's definition and FIPS 180-4 give."

-- "The block length is 0 to 256·k of the base; the writer fills up with zeros."
module _ (depth : ℕ) (kind : Kind) (table block t m r : List ℕ) where
  -- symbol i of layer j that is written, and the root inside the record
  abbrev pub symbol : ℕ → ℕ → List ℕ
  symbol = symbol_at (tree_after depth kind table block t m r)

  abbrev pub root_after : List ℕ
  root_after = root_part (record_after depth kind table block t m r)

  pub record Exactly : Type 0 where
    -- the equations are by the rules, and theirs are the words that were lent
    pub by_rules : TableRules depth (equations_of table)
    pub table-words : words_of table ≡ listed (equations_of table)
    -- the block has room; the tree is correctly coded, its layer 0 has the hashes that are the root, and its base has the block's bytes and then zeros
    pub block-fits : BlockFits depth block
    pub agrees : AgreesWith (hash_by (kind_bits kind)) depth (equations_of table) root_after symbol
    pub has_block : HasBlock depth symbol (filled_up depth block)
    -- and every correctly coded tree with that base has these symbols and this root
    pub only : (f : ℕ → ℕ → List ℕ) → CorrectlyCoded (hash_by (kind_bits kind)) depth (equations_of table) f → HasBlock depth f (filled_up depth block)
        → (j i : ℕ) → j < depth → i < all_symbols j → symbol j i ≡ f j i
    pub only_root : (f : ℕ → ℕ → List ℕ) → CorrectlyCoded (hash_by (kind_bits kind)) depth (equations_of table) f → HasBlock depth f (filled_up depth block) → RootOf (hash_by (kind_bits kind)) f root_after
    -- the record, byte for byte
    pub exact_record : record_after depth kind table block t m r ≡ record_bytes (kind_bits kind) depth (length block) (length (words_of table)) (sha256 table) root_after
    -- "The writer sets every mark to 1."
    pub marked : (p : ℕ) → p < tree_symbols depth → get_or (marks_after depth kind table block t m r) p 0 ≡ 1
    pub lengths : TreeLengths depth (tree_after depth kind table block t m r) (marks_after depth kind table block t m r)

abbrev pub WritesExactly : Type 0
WritesExactly = (depth : ℕ) (kind : Kind) (table block t m r : List ℕ) → (tree_written depth kind table block t m r).answer ≡ Done → Exactly depth kind table block t m r

-- whatever the lent buffers held
abbrev pub WritesTheSame : Type 0
WritesTheSame =
    (depth : ℕ) (kind : Kind) (table block t m r t' m' r' : List ℕ) → (tree_written depth kind table block t m r).answer ≡ Done → (tree_written depth kind table block t' m' r').answer ≡ Done
    → (tree_after depth kind table block t m r ≡ tree_after depth kind table block t' m' r')
    × (marks_after depth kind table block t m r ≡ marks_after depth kind table block t' m' r')
    × (record_after depth kind table block t m r ≡ record_after depth kind table block t' m' r')

-- ---- "A complete tree gives back exactly that block"

-- every mark is 1
pub record CompleteTree (depth : ℕ) (t m : List ℕ) : Type 0 where
  pub depth-right : DepthRight depth
  pub lengths : TreeLengths depth t m
  pub all_held : (p : ℕ) → p < tree_symbols depth → get_or m p 0 ≡ 1

-- of a complete tree a block is read, by every record of its depth
abbrev pub ReadsComplete : Type 0
ReadsComplete =
    (depth : ℕ) (r t m b : List ℕ) → CompleteTree depth t m → RecordLength r → HeadRight depth r → BlockLength depth b
    → (block_read depth r t m b).answer ≡ Done

-- "Reading a block back copies the base's data symbols in order; each must be marked held." 02, CR 5: "Reading back needs every base data symbol as before,
-- still lends 256·k bytes, gets the first length ones and leaves the rest."
module _ (depth : ℕ) (r t m b : List ℕ) where
  abbrev pub block_after : List ℕ
  block_after = (block_read depth r t m b).block

  pub record BaseRead : Type 0 where
    pub all_held : (i : ℕ) → i < data_symbols (depth - 1) → mark_at m (depth - 1) i ≡ 1
    pub size_fits : block_size r ≤ length b
    pub same_length : length block_after ≡ length b
    pub first_ones : (p : ℕ) → p < block_size r → get_or block_after p 0 ≡ get_or t (block_start depth + p) 0
    pub rest-left : drop (block_size r) block_after ≡ drop (block_size r) b

abbrev pub ReadsBase : Type 0
ReadsBase = (depth : ℕ) (r t m b : List ℕ) → (block_read depth r t m b).answer ≡ Done → BaseRead depth r t m b

-- the lent buffer b has exactly this block in front, and what it had behind it
pub record GivesBack (block b after : List ℕ) : Type 0 where
  pub block-is : take (length block) after ≡ block
  pub rest-left : drop (length block) after ≡ drop (length block) b

-- of a tree that was written, with its record: exactly the block
abbrev pub ReadsWritten : Type 0
ReadsWritten =
    (depth : ℕ) (kind : Kind) (table block t m r b : List ℕ) → (tree_written depth kind table block t m r).answer ≡ Done → BlockLength depth b
    → ((block_read depth (record_after depth kind table block t m r) (tree_after depth kind table block t m r) (marks_after depth kind table block t m r) b).answer ≡ Done)
    × GivesBack block b (block_after depth (record_after depth kind table block t m r) (tree_after depth kind table block t m r) (marks_after depth kind table block t m r) b)

-- two trees show, at one layer and number, two different symbols of equal hash
pub record TreesCollide (H : Hasher) (depth : ℕ) (f g : ℕ → ℕ → List ℕ) : Type 0 where
  pub layer : ℕ
  pub number : ℕ
  pub in_tree : (layer < depth) × (number < all_symbols layer)
  pub collide : Twins H layer number (f layer number) (g layer number)

-- of any tree u that agrees with the record that was written, as one that was repaired whole does: the block, or a collision of the two trees
abbrev pub ReadsOriginal : Type 0
ReadsOriginal =
    (depth : ℕ) (kind : Kind) (table block t m r : List ℕ) → (tree_written depth kind table block t m r).answer ≡ Done
    → (u w b : List ℕ) → (block_read depth (record_after depth kind table block t m r) u w b).answer ≡ Done
    → AgreesWith (hash_by (kind_bits kind)) depth (equations_of table) (root_after depth kind table block t m r) (symbol_at u)
    → GivesBack block b (block_after depth (record_after depth kind table block t m r) u w b) ⊎ TreesCollide (hash_by (kind_bits kind)) depth (symbol_at u) (symbol depth kind table block t m r)

-- of two trees that agree with a record, by one table, as those that two readers repaired whole or misfilled: the same bytes, or a collision of the two
abbrev pub ReadsAgreed : Type 0
ReadsAgreed =
    (depth : ℕ) (r : List ℕ) (tbl : List (List (List ℕ))) → TableRules depth tbl → (u w b v x c : List ℕ)
    → (block_read depth r u w b).answer ≡ Done → (block_read depth r v x c).answer ≡ Done
    → AgreesWith (hash_by (kind_no r 0)) depth tbl (root_part r) (symbol_at u) → AgreesWith (hash_by (kind_no r 0)) depth tbl (root_part r) (symbol_at v)
    → (take (block_size r) (block_after depth r u w b) ≡ take (block_size r) (block_after depth r v x c)) ⊎ TreesCollide (hash_by (kind_no r 0)) depth (symbol_at u) (symbol_at v)

-- ---- "and a sample is accepted just when its hashes lead to the root"

-- record and sample have their lengths, the record's head is right, and the base has the symbol: what is tested before the hashes
pub record SampleReady (depth i : ℕ) (r s : List ℕ) : Type 0 where
  pub depth-right : DepthRight depth
  pub record_length : RecordLength r
  pub sample-length : SampleLength depth s
  pub head-right : HeadRight depth r
  pub in_base : InBase depth i

-- and every hash in the sample leads to the root
pub record SampleRight (depth i : ℕ) (r s : List ℕ) : Type 0 where
  pub ready : SampleReady depth i r s
  pub all_lead_lem : AllHashesLead (hash_by (kind_no r 0)) depth i (root_part r) s

abbrev pub AcceptsJustWhen : Type 0
AcceptsJustWhen = (depth i : ℕ) (r s : List ℕ) → (sample_checked depth i r s ≡ Done) ↔ SampleRight depth i r s

-- of a complete tree every sample is taken
abbrev pub TakesComplete : Type 0
TakesComplete =
    (depth i : ℕ) (t m s : List ℕ) → CompleteTree depth t m → InBase depth i → SampleLength depth s → (sample_taken depth i t m s).answer ≡ Done

-- a sample s has the symbols f at its places
abbrev pub SampleHas : ℕ → ℕ → List ℕ → (ℕ → ℕ → List ℕ) → Type 0
SampleHas depth i s f = (x : ℕ) → x < 2 * depth - 1 → symbol_no s x ≡ f (sampled_layer depth x) (sampled_number depth i x)

-- a sample that was taken has the tree's
module _ (depth i : ℕ) (t m s : List ℕ) where
  abbrev pub sample_after : List ℕ
  sample_after = (sample_taken depth i t m s).sample

abbrev pub TakesExactly : Type 0
TakesExactly =
    (depth i : ℕ) (t m s : List ℕ) → (sample_taken depth i t m s).answer ≡ Done
    → SampleLength depth (sample_after depth i t m s) × SampleHas depth i (sample_after depth i t m s) (symbol_at t)

-- a sample that was taken of a tree that agrees with a record, by whichever table, is accepted
abbrev pub AcceptsTaken : Type 0
AcceptsTaken =
    (depth i : ℕ) (r t m s : List ℕ) (tbl : List (List (List ℕ))) → RecordLength r → HeadRight depth r → TableRules depth tbl
    → AgreesWith (hash_by (kind_no r 0)) depth tbl (root_part r) (symbol_at t) → (sample_taken depth i t m s).answer ≡ Done → sample_checked depth i r (sample_after depth i t m s) ≡ Done

-- an accepted sample has the symbols of every tree that agrees, or shows a collision with it
pub record SampleCollides (H : Hasher) (depth i : ℕ) (s : List ℕ) (f : ℕ → ℕ → List ℕ) : Type 0 where
  pub index : ℕ
  pub inside : index < 2 * depth - 1
  pub collide : Twins H (sampled_layer depth index) (sampled_number depth i index) (symbol_no s index) (f (sampled_layer depth index) (sampled_number depth i index))

abbrev pub AcceptedIsTrue : Type 0
AcceptedIsTrue =
    (depth i : ℕ) (r s : List ℕ) (tbl : List (List (List ℕ))) → TableRules depth tbl → sample_checked depth i r s ≡ Done
    → (f : ℕ → ℕ → List ℕ) → AgreesWith (hash_by (kind_no r 0)) depth tbl (root_part r) f → SampleHas depth i s f ⊎ SampleCollides (hash_by (kind_no r 0)) depth i s f

-- ---- the demand

pub record Demand2 : Type 0 where
  pub writes_exactly : WritesExactly
  pub writes_the_same : WritesTheSame
  pub reads_complete : ReadsComplete
  pub reads_base : ReadsBase
  pub reads_written : ReadsWritten
  pub reads_original : ReadsOriginal
  pub reads_agreed : ReadsAgreed
  pub accepts_just_when : AcceptsJustWhen
  pub takes-complete : TakesComplete
  pub takes_exactly : TakesExactly
  pub accepts-taken : AcceptsTaken
  pub accepted-is_true : AcceptedIsTrue
