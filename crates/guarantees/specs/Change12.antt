-- 02, CR 12: "More shops, never less volume." Statements only.
--
-- Of the call that repairs, by what it answers and leaves: `repaired`, which its contract names. Records are of either kind, tables any that are taken.
-- "Held" is marked 1.
use Rattle.std.specs.Prelude.{◌≡◌, ◌⊎◌, ◌↔◌, ◌≢◌, Bool, true, List, ℕ, ◌*◌, ◌≤◌, ◌<◌, get_or}
use Rattle.model.specs.Repair.{whole, fault, unavailable, twins}
use Rattle.symbol_hash.specs.declared.Kind.{Kind}
use Rattle.calls.specs.Stops.{Done}
use Rattle.volume_calls.specs.Writing.{tree_written}
use Rattle.fault_calls.specs.Repairing.{Result, ended, misfilled, RepairLeft, repair_tested, repaired}
use Rattle.guarantees.specs.Layouts.{data_symbols, all_symbols, tree_symbols, symbol_at, mark_at, kind_no, root_part}
use Rattle.guarantees.specs.Trees.{hash_by, members, AgreesWith}
use Rattle.guarantees.specs.Refusals.{TreeLengths, OutputLength}
use Rattle.guarantees.specs.Demand2.{tree_after, marks_after, record_after, symbol}
use Rattle.guarantees.specs.Demand3.{meets, EndsWhole, EndsMisfilled, EndsUnavailable}
use Rattle.guarantees.specs.Terms.{equations_of}

-- ---- "Let two repairs of well-formed input have the same record and table, with all held symbols taken from one correctly coded tree that agrees with
-- that record, and let the second hold everything the first does."

-- f is a tree that agrees, by the hashes of the record's kind and the equations of the table
abbrev pub TreeOf : (d : ℕ) (r table : List ℕ) (f : ℕ → ℕ → List ℕ) → Type 0
TreeOf d r table f = AgreesWith (hash_by (kind_no r 0)) d (equations_of table) (root_part r) f

-- each symbol that is marked 1 is f's; what stands where the mark is 0 may be anything
abbrev pub Genuine : (d : ℕ) (f : ℕ → ℕ → List ℕ) (t m : List ℕ) → Type 0
Genuine d f t m = (j i : ℕ) → j < d → i < all_symbols j → mark_at m j i ≡ 1 → symbol_at t j i ≡ f j i

pub record GenuineInput (d : ℕ) (r table : List ℕ) (f : ℕ → ℕ → List ℕ) (t m o : List ℕ) : Type 0 where
  pub agrees : TreeOf d r table f
  pub well_formed : repair_tested d r table t m o ≡ Done
  pub genuine : Genuine d f t m

-- where the marks m say 1, so do the marks n
abbrev pub HoldsAll : (d : ℕ) (m n : List ℕ) → Type 0
HoldsAll d m n = (j i : ℕ) → j < d → i < all_symbols j → mark_at m j i ≡ 1 → mark_at n j i ≡ 1

-- ---- how a repair ended, with whichever number of symbols stored

abbrev pub IsWhole : Result → Type 0
IsWhole a = (s : ℕ) × (a ≡ ended s whole)

abbrev pub IsMisfilled : Result → Type 0
IsMisfilled a = (s : ℕ) × (a ≡ misfilled s)

-- a full tree: whole, or with 13, which counts as whole here
abbrev pub Completes : Result → Type 0
Completes a = IsWhole a ⊎ IsMisfilled a

abbrev pub StopsIn : (layer : ℕ) → Result → Type 0
StopsIn j a = (s : ℕ) × (a ≡ ended s (unavailable j))

-- ---- one such repair

pub record GenuineEnds (d : ℕ) (r table : List ℕ) (f : ℕ → ℕ → List ℕ) (t m o : List ℕ) : Type 0 where
  -- it ends whole, with 13, or unavailable ..
  pub ends : EndsWhole d r table t m o ⊎ (EndsMisfilled d r table t m o ⊎ EndsUnavailable d r table t m o)
  -- .. and so neither with a fault nor with twins
  pub no_fault_lem : (s j e x n : ℕ) → (repaired d r table t m o).answer ≢ ended s (fault j e x n)
  pub no_twins : (s j x : ℕ) → (repaired d r table t m o).answer ≢ ended s (twins j x)
  -- what it was lent held it still holds, and all that it holds is f's
  pub still_held : HoldsAll d m (repaired d r table t m o).marks
  pub still_genuine : Genuine d f (repaired d r table t m o).tree (repaired d r table t m o).marks

-- ---- two of them, by what they answer and leave

pub record NeverLess (d : ℕ) (first second : RepairLeft Result) : Type 0 where
  -- "If the first ends whole, so does the second.": whole or with 13, as the first does, and with the same tree, byte for byte
  pub whole_too : IsWhole first.answer → IsWhole second.answer
  pub misfilled_too : IsMisfilled first.answer → IsMisfilled second.answer
  pub same-tree : Completes first.answer → second.tree ≡ first.tree
  -- "The second never stops in a layer nearer the root"
  pub never_nearer : (j l : ℕ) → StopsIn j first.answer → StopsIn l second.answer → j ≤ l
  -- "and where both stop in one layer its unavailable symbols are among the first's."
  pub among : (j : ℕ) → StopsIn j first.answer → StopsIn j second.answer
      → (i : ℕ) → i < all_symbols j → mark_at second.marks j i ≡ 0 → mark_at first.marks j i ≡ 0
  -- in every layer, entered or not, the second then holds everything that the first does
  pub holds-all : HoldsAll d first.marks second.marks

-- ---- which symbols come back, by the table and the held places alone

-- a set of symbols of layer j that "no equation meets exactly once"
abbrev pub MetNever : List (List (List ℕ)) → ℕ → (ℕ → Bool) → Type 0
MetNever tbl j s = (e : ℕ) → e < 3 * data_symbols j → meets s (members tbl j e) ≢ 1

-- symbol i of layer j is stuck: it is in a set of symbols, all with mark 0, that no equation meets exactly once
pub record Stuck (table m : List ℕ) (j i : ℕ) : Type 0 where
  pub in_layer_lem : i < all_symbols j
  pub set : ℕ → Bool
  pub in_set : set i ≡ true
  pub marked_0 : (x : ℕ) → x < all_symbols j → set x ≡ true → mark_at m j x ≡ 0
  pub never_once : MetNever (equations_of table) j set

abbrev pub NoneStuck : (table m : List ℕ) (j : ℕ) → Type 0
NoneStuck table m j = (i : ℕ) → Stuck table m j i → ⊥

-- layer j is the first with such a symbol
pub record FirstStuck (d : ℕ) (table m : List ℕ) (j : ℕ) : Type 0 where
  pub in_depth : j < d
  pub some_stuck : (i : ℕ) × Stuck table m j i
  pub none_above : (l : ℕ) → l < j → NoneStuck table m l

-- The marks m were lent. Neither the record nor a byte of the tree has a part in it, but for whole or 13.
pub record ByPlaces (d : ℕ) (table m : List ℕ) (left : RepairLeft Result) : Type 0 where
  pub completes_just_when : Completes left.answer ↔ ((j : ℕ) → j < d → NoneStuck table m j)
  pub stops_just_when : (j : ℕ) → StopsIn j left.answer ↔ FirstStuck d table m j
  pub missing_just_when : (j : ℕ) → StopsIn j left.answer → (i : ℕ) → i < all_symbols j → (mark_at left.marks j i ≡ 0) ↔ Stuck table m j i

-- ---- two that end alike, the number stored apart

pub record EndsAlike (first second : RepairLeft Result) : Type 0 where
  pub both_whole : IsWhole first.answer ↔ IsWhole second.answer
  pub both_misfilled : IsMisfilled first.answer ↔ IsMisfilled second.answer
  pub both_stop : (j : ℕ) → StopsIn j first.answer ↔ StopsIn j second.answer
  pub same-marks : first.marks ≡ second.marks

-- ---- a volume that was written

module _ (d : ℕ) (kind : Kind) (table block t m r : List ℕ) where
  -- a repair of its symbols, by its record
  abbrev pub WrittenInput : (u w o : List ℕ) → Type 0
  WrittenInput u w o = GenuineInput d (record_after d kind table block t m r) table (symbol d kind table block t m r) u w o

  abbrev pub written_left : (u w o : List ℕ) → RepairLeft Result
  written_left u w o = repaired d (record_after d kind table block t m r) table u w o

  pub record OfWritten : Type 0 where
    -- it has such a tree, its own: whichever of its symbols come back
    pub genuine_input : (u w o : List ℕ) → TreeLengths d u w → OutputLength d o → ((p : ℕ) → p < tree_symbols d → get_or w p 0 ≤ 1)
        → Genuine d (symbol d kind table block t m r) u w → WrittenInput u w o
    -- a full tree is the one that was written, byte for byte, never with 13: so it reads back as the block (`ReadsWritten`, Demand2.antt)
    pub never_misfilled : (u w o : List ℕ) → WrittenInput u w o → IsMisfilled (written_left u w o).answer → ⊥
    pub comes_back : (u w o : List ℕ) → WrittenInput u w o → IsWhole (written_left u w o).answer
        → ((written_left u w o).tree ≡ tree_after d kind table block t m r) × ((written_left u w o).marks ≡ marks_after d kind table block t m r)

-- ---- the request

pub record Change12 : Type 0 where
  pub one-repair : (d : ℕ) (r table : List ℕ) (f : ℕ → ℕ → List ℕ) (t m o : List ℕ) → GenuineInput d r table f t m o → GenuineEnds d r table f t m o
  -- t, m and o are lent to the first, u, n and p to the second
  pub two-repairs : (d : ℕ) (r table : List ℕ) (f : ℕ → ℕ → List ℕ) (t m o u n p : List ℕ) → GenuineInput d r table f t m o → GenuineInput d r table f u n p
      → HoldsAll d m n → NeverLess d (repaired d r table t m o) (repaired d r table u n p)
  pub by_places : (d : ℕ) (r table : List ℕ) (f : ℕ → ℕ → List ℕ) (t m o : List ℕ) → GenuineInput d r table f t m o → ByPlaces d table m (repaired d r table t m o)
  -- with the same record, table, tree and marks, whatever stands under a mark 0 and in the output: the same answer, the number stored too, and the same marks
  pub same-places : (d : ℕ) (r table : List ℕ) (f : ℕ → ℕ → List ℕ) (t m o u p : List ℕ) → GenuineInput d r table f t m o → GenuineInput d r table f u m p
      → ((repaired d r table t m o).answer ≡ (repaired d r table u m p).answer) × ((repaired d r table t m o).marks ≡ (repaired d r table u m p).marks)
  -- What a repair leaves can be repaired again, and where a second one is lent what the first was, and besides that only what the first gave back, both end
  -- alike: so it is all one whether pages come at once or in turns, with repairs in between.
  pub repaired_again : (d : ℕ) (r table : List ℕ) (f : ℕ → ℕ → List ℕ) (t m o p : List ℕ) → GenuineInput d r table f t m o → OutputLength d p
      → GenuineInput d r table f (repaired d r table t m o).tree (repaired d r table t m o).marks p
  pub in_turns : (d : ℕ) (r table : List ℕ) (f : ℕ → ℕ → List ℕ) (t m o u n p : List ℕ) → GenuineInput d r table f t m o → GenuineInput d r table f u n p
      → HoldsAll d m n → HoldsAll d n (repaired d r table t m o).marks → EndsAlike (repaired d r table t m o) (repaired d r table u n p)
  pub of_written : (d : ℕ) (kind : Kind) (table block t m r : List ℕ) → (tree_written d kind table block t m r).answer ≡ Done → OfWritten d kind table block t m r
