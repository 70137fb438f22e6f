-- 02, CR 7: "Same bytes at another place, and recoding of old volumes." Statements only.
--
-- The hash of a symbol by the record's kind is `hash_by` (Trees.antt). Every statement about a call that is lent a record goes by the kind that this record
-- says: "A tree agrees with a record only by hashes of that record's kind", and "A kind 00 volume has the same fault promise and the same four ends of repair,
-- equal hashes meaning those of place and symbol together" (Demand2, Demand3, Refusals, FaultProofs.antt). What C reads of twins is in Results.antt. Below is
-- what else the request says.
use Rattle.std.specs.Prelude.{◌≡◌, ◌⊎◌, ◌↔◌, ◌≢◌, List, ◌++◌, ℕ, ◌+◌, ◌-◌, ◌*◌, ◌^◌, ◌≤◌, ◌<◌, length, get_or, take}
use Rattle.sha256.specs.Hash.{sha256}
use Rattle.symbol_hash.specs.SymbolHash.{symbol_hash}
use Rattle.symbol_hash.specs.declared.Kind.{Kind}
use Rattle.symbol_hash.specs.declared.Kind.TheVariants.{Placed}
use Rattle.calls.specs.Stops.{Done}
use Rattle.calls.specs.Stops.{number_of}
use Rattle.model.specs.Repair.{whole}
use Rattle.root_record.specs.Records.{kind_in}
use Rattle.volume_calls.specs.Writing.{leaves, tree_written, tree_written_by}
use Rattle.volume_calls.specs.Reading.{block_read}
use Rattle.sample_calls.specs.Checking.{sample_checked}
use Rattle.fault_calls.specs.Repairing.{ended, repair_tested, repaired}
use Rattle.recoding.specs.Recoding.{other_kind, recoded}
use Rattle.guarantees.specs.Layouts.{symbol_no, all_symbols, symbol_at, hash_for, word_bytes, kind_value, kind_no, block_size, root_part, block_room, block_start}
use Rattle.guarantees.specs.Trees.{kind_bits, place_bytes, hash_by, AgreesWith}
use Rattle.guarantees.specs.Refusals.{DepthRight, TreeLengths, RecordLength, BlockLength, HeadRight, data_of_sample}
use Rattle.guarantees.specs.Demand2.{tree_after, marks_after, record_after, symbol, root_after, CompleteTree, block_after}
use Rattle.guarantees.specs.Cases.{AreBytes}
use Rattle.guarantees.specs.Terms.{equations_of}

-- ---- "Its symbol hash covers a big-endian word (kind 01, layer in the next 6 bits, number in the low 24) and then the 256 bytes."

pub record Hashes : Type 0 where
  -- of a layer that has room in 6 bits and a number that has in 24, as those of every tree
  pub placed : (j i : ℕ) (s : List ℕ) → j < 64 → i < 2 ^ 24 → hash_by 0 j i s ≡ sha256 (word_bytes (kind_value 1 (j * 2 ^ 24 + i)) ++ s)
  pub in_tree : (d j i : ℕ) → DepthRight d → j < d → i < all_symbols j → (j < 64) × (i < 2 ^ 24)
  -- "Kind 01 records remain readable": by the bytes alone, as before there were kinds
  pub plain : (r : List ℕ) → kind_no r 0 ≡ 1 → (j i : ℕ) (s : List ℕ) → hash_by (kind_no r 0) j i s ≡ sha256 s
  -- the hash that the contracts of the calls name is this one
  pub by_kind : (kind : Kind) (j i : ℕ) (s : List ℕ) → symbol_hash kind j i s ≡ hash_by (kind_bits kind) j i s

-- ---- "Two blank pages have one hash, so a page filed at the wrong place passes for the right one."

-- two messages whose first four bytes differ have equal SHA-256
pub record MessagesCollide (m n : List ℕ) : Type 0 where
  pub differ : take 4 m ≢ take 4 n
  pub equal : sha256 m ≡ sha256 n

-- two places of a tree
pub record TwoPlaces (d j i l n : ℕ) : Type 0 where
  pub depth-right : DepthRight d
  pub first : (j < d) × (i < all_symbols j)
  pub second : (l < d) × (n < all_symbols l)
  pub apart : (j ≢ l) ⊎ (i ≢ n)

-- the hash that a record and a sample of base symbol i have for that symbol
abbrev pub base_hash : (d i : ℕ) (r s : List ℕ) → List ℕ
base_hash d i r s = hash_for (root_part r) (data_of_sample (hash_by (kind_no r 0)) d i (root_part r) s) (d - 1) i

pub record Places : Type 0 where
  -- With kind 00 two symbols at different places, the same bytes or others, have different hashes, or show a collision: a hash is that of one place, and a
  -- page that is filed or asked for by its hash passes for no other.
  pub hashes-differ : (d j i l n : ℕ) (s u : List ℕ) → TwoPlaces d j i l n → hash_by 0 j i s ≡ hash_by 0 l n u
      → MessagesCollide (place_bytes j i ++ s) (place_bytes l n ++ u)
  -- so no two places of one volume have one committed hash, or its tree shows a collision ..
  pub committed-differ : (d : ℕ) (tbl : List (List (List ℕ))) (root : List ℕ) (f : ℕ → ℕ → List ℕ) → AgreesWith (hash_by 0) d tbl root f
      → (j i l n : ℕ) → TwoPlaces d j i l n → hash_for root f j i ≡ hash_for root f l n
      → MessagesCollide (place_bytes j i ++ f j i) (place_bytes l n ++ f l n)
  -- .. as of a volume that was written ..
  pub written-differ : (d : ℕ) (table block t m r : List ℕ) → (tree_written d Placed table block t m r).answer ≡ Done → (j i l n : ℕ) → TwoPlaces d j i l n
      → hash_for (root_after d Placed table block t m r) (symbol d Placed table block t m r) j i ≡ hash_for (root_after d Placed table block t m r) (symbol d Placed table block t m r) l n
      → MessagesCollide (place_bytes j i ++ symbol d Placed table block t m r j i) (place_bytes l n ++ symbol d Placed table block t m r l n)
  -- .. and by accepted samples of two symbols, whether there is a tree or not
  pub samples_differ : (d i n : ℕ) (r s u : List ℕ) → kind_no r 0 ≡ 0 → sample_checked d i r s ≡ Done → sample_checked d n r u ≡ Done → i ≢ n
      → base_hash d i r s ≡ base_hash d n r u → MessagesCollide (place_bytes (d - 1) i ++ symbol_no s 0) (place_bytes (d - 1) n ++ symbol_no u 0)
  -- with kind 01 the same bytes have one hash at every place
  pub plain-same : (j i l n : ℕ) (s : List ℕ) → hash_by 1 j i s ≡ hash_by 1 l n s

-- ---- "A tree agrees with a record only by hashes of that record's kind."

-- a message of 260 bytes and one of 256 have equal SHA-256
pub record KindsCollide (m n : List ℕ) : Type 0 where
  pub lengths : (length m ≡ 260) × (length n ≡ 256)
  pub equal : sha256 m ≡ sha256 n

pub record OneKind : Type 0 where
  -- no trees, of whichever depth and table, agree with one root by hashes of both kinds, or all sixteen symbols of layer 0 show such messages
  pub of_trees : (d e : ℕ) (tbl tbl' : List (List (List ℕ))) (root : List ℕ) (f g : ℕ → ℕ → List ℕ) → DepthRight d → DepthRight e
      → AgreesWith (hash_by 0) d tbl root f → AgreesWith (hash_by 1) e tbl' root g → (i : ℕ) → i < 16 → KindsCollide (place_bytes 0 i ++ f 0 i) (g 0 i)
  -- no sample is accepted by records of both kinds with one root, or it shows such messages itself
  pub of_samples : (d i : ℕ) (r r' s : List ℕ) → kind_no r 0 ≡ 0 → kind_no r' 0 ≡ 1 → root_part r ≡ root_part r'
      → sample_checked d i r s ≡ Done → sample_checked d i r' s ≡ Done → KindsCollide (place_bytes (d - 1) i ++ symbol_no s 0) (symbol_no s 0)

-- ---- "and the writer is told which kind to make"

pub record Told : Type 0 where
  pub makes : (d : ℕ) (kind : Kind) (table block t m r : List ℕ) → (tree_written d kind table block t m r).answer ≡ Done
      → kind_no (record_after d kind table block t m r) 0 ≡ kind_bits kind
  -- from C by the kind's number; another number stops with 11 after 2 (`numbered_tests`, Refusals.antt)
  pub by_number : (d : ℕ) (kind : Kind) (table block t m r : List ℕ)
      → tree_written_by d (kind_bits kind) table block t m r ≡ tree_written d kind table block t m r
  pub no_other : (d number : ℕ) (table block t m r : List ℕ) → (tree_written_by d number table block t m r).answer ≡ Done → number ≤ 1
  -- the kind that a call reads in a record that it takes is the one that its first word says
  pub read : (d : ℕ) (r : List ℕ) → HeadRight d r → kind_bits (kind_in r) ≡ kind_no r 0

-- ---- "A recoder turns a complete tree of either kind into the other, block unchanged; its result is what the writer would make."

-- a call of the recoder whose source is well-formed input to a repair with this output, and whose other buffers have their lengths
pub record RecodeInput (d : ℕ) (r table t m t' m' r' o : List ℕ) : Type 0 where
  pub well_formed : repair_tested d r table t m o ≡ Done
  pub new_tree-lengths : TreeLengths d t' m'
  pub new_record-length : RecordLength r'

-- "a complete tree": every symbol is marked held, every equation holds and every hash stands in its place, and the filling is zero
pub record CompleteSource (d : ℕ) (r table t m : List ℕ) : Type 0 where
  pub complete : CompleteTree d t m
  pub agrees : AgreesWith (hash_by (kind_no r 0)) d (equations_of table) (root_part r) (symbol_at t)
  pub filling_zero : (p : ℕ) → block_size r ≤ p → p < block_room d → get_or t (block_start d + p) 0 ≡ 0

module _ (d : ℕ) (r table t m t' m' r' : List ℕ) where
  -- what a call leaves
  abbrev pub new_tree : List ℕ
  new_tree = (recoded d r table t m t' m' r').tree

  abbrev pub new_marks : List ℕ
  new_marks = (recoded d r table t m t' m' r').marks

  abbrev pub new_record : List ℕ
  new_record = (recoded d r table t m t' m' r').root_record

pub record Recoder : Type 0 where
  -- "A source tree that repair doesn't call whole without storing anything stops the recoder with 14": just when a repair of copies of it, whatever the
  -- output buffer holds, ends otherwise; 13 is not whole
  pub stops_with_14 : (d : ℕ) (r table t m t' m' r' o : List ℕ) → RecodeInput d r table t m t' m' r' o
      → (number_of (recoded d r table t m t' m' r').answer ≡ 14) ↔ ((repaired d r table t m o).answer ≢ ended 0 whole)
  pub done_just_when : (d : ℕ) (r table t m t' m' r' o : List ℕ) → RecodeInput d r table t m t' m' r' o
      → ((recoded d r table t m t' m' r').answer ≡ Done) ↔ ((repaired d r table t m o).answer ≡ ended 0 whole)
  pub complete_just_when : (d : ℕ) (r table t m t' m' r' o : List ℕ) → RecodeInput d r table t m t' m' r' o
      → ((recoded d r table t m t' m' r').answer ≡ Done) ↔ CompleteSource d r table t m
  -- what reading the source back gives, in any buffer of the right length, is what the writer is lent: answer and buffers are the writer's, of the other kind
  pub as_written : (d : ℕ) (r table t m t' m' r' : List ℕ) → (recoded d r table t m t' m' r').answer ≡ Done → (b : List ℕ) → BlockLength d b
      → ((block_read d r t m b).answer ≡ Done)
      × (recoded d r table t m t' m' r' ≡ tree_written d (other_kind (kind_in r)) table (take (block_size r) (block_after d r t m b)) t' m' r')
  -- the other kind, and the same length
  pub other_kind_lem : (d : ℕ) (r table t m t' m' r' : List ℕ) → (recoded d r table t m t' m' r').answer ≡ Done
      → (kind_no r 0 + kind_no (new_record d r table t m t' m' r') 0 ≡ 1) × (block_size (new_record d r table t m t' m' r') ≡ block_size r)
  -- "block unchanged": what is read of the new tree, by the new record, into any buffer of the right length, is what is read of the source
  pub block_unchanged : (d : ℕ) (r table t m t' m' r' b : List ℕ) → (recoded d r table t m t' m' r').answer ≡ Done → BlockLength d b
      → block_read d (new_record d r table t m t' m' r') (new_tree d r table t m t' m' r') (new_marks d r table t m t' m' r') b ≡ block_read d r t m b
  -- of a volume that was written, recoding gives what the writer makes of its block as the other kind
  pub of_written : (d : ℕ) (kind : Kind) (table block t m r u v w : List ℕ) → (tree_written d kind table block t m r).answer ≡ Done → TreeLengths d u v → RecordLength w
      → recoded d (record_after d kind table block t m r) table (tree_after d kind table block t m r) (marks_after d kind table block t m r) u v w
      ≡ tree_written d (other_kind kind) table block u v w
  -- recoding back, into any buffers of the right lengths, gives the first tree, marks and record again
  pub back_again : (d : ℕ) (r table t m t' m' r' u v w : List ℕ) → AreBytes r → (recoded d r table t m t' m' r').answer ≡ Done → TreeLengths d u v → RecordLength w
      → recoded d (new_record d r table t m t' m' r') table (new_tree d r table t m t' m' r') (new_marks d r table t m t' m' r') u v w ≡ leaves Done t m r

pub record Change7 : Type 0 where
  pub hashes : Hashes
  pub places : Places
  pub one_kind : OneKind
  pub told : Told
  pub recoder : Recoder
