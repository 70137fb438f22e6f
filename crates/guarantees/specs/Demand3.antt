-- Demand 3. Statements only. The tree is 01's (Trees.antt), with hashes of the record's kind, 02's CR 7: "A kind 00 volume has the same fault promise and the
-- same four ends of repair, equal hashes meaning those of place and symbol together". The equations are those that the table's words say.
use Rattle.std.specs.Prelude.{◌≡◌, ◌⊎◌, ◌↔◌, ◌≢◌, Bool, true, false, List, [], ◌∷◌, ◌++◌, ℕ, zero, suc, ◌+◌, ◌*◌, ◌≤◌, ◌<◌, length, get_or, take, drop, replicate}
use Rattle.octets.specs.Choice.{pick}
use Rattle.model.specs.Repair.{whole, fault, unavailable, twins, St}
use Rattle.calls.specs.declared.Stop.{Stop}
use Rattle.calls.specs.Stops.{Done, Stopped}
use Rattle.fault_calls.specs.Checking.{proof_checked}
use Rattle.fault_calls.specs.Repairing.{Result, repair_tested, repair_of, repaired, ended, misfilled, stopped}
use Rattle.guarantees.specs.Layouts.{symbol_no, data_symbols, all_symbols, tree_symbols, symbol_at, mark_at, hash_for, XorOf, kind_no, block_size, root_part, block_room, block_start}
use Rattle.guarantees.specs.Tables.{IsMember}
use Rattle.guarantees.specs.Trees.{Hasher, hash_by, members, EquationHolds, AgreesWith, Twins}
use Rattle.guarantees.specs.Refusals.{TreeLengths}
use Rattle.guarantees.specs.FaultProofs.{Named, Holds, Written}
use Rattle.guarantees.specs.Terms.{equations_of}

-- ---- "For every root and table, every correctly coded tree that agrees with them, and whatever bytes anyone sends as a fault proof, the
-- checker accepts the bytes for that root and table only when proof and tree hold, at one layer and number, two different symbols of equal
-- SHA-256."

pub record ProofCollides (H : Hasher) (depth : ℕ) (table b : List ℕ) (f : ℕ → ℕ → List ℕ) : Type 0 where
  pub named : Named depth (equations_of table) b
  pub layer : ℕ
  pub number : ℕ
  pub held : List ℕ
  pub holds : Holds named layer number held
  pub in_tree : (layer < depth) × (number < all_symbols layer)
  pub collide : Twins H layer number held (f layer number)

abbrev pub Checker : Type 0
Checker =
    (depth : ℕ) (r table : List ℕ) (f : ℕ → ℕ → List ℕ) → AgreesWith (hash_by (kind_no r 0)) depth (equations_of table) (root_part r) f
    → (b : List ℕ) → proof_checked depth r table b ≡ Done → ProofCollides (hash_by (kind_no r 0)) depth table b f

-- ---- "And whatever symbols and marks the shops send back, right, wrong or none, every repair of well-formed input .."

-- how many of the n numbers from 0 on pass, of the members pass, and of the symbols of the d topmost layers
unfoldable pub how_many : (ℕ → Bool) → ℕ → ℕ
how_many p zero = 0
how_many p (suc n) = pick (p n) 1 0 + how_many p n

unfoldable pub meets : (ℕ → Bool) → List ℕ → ℕ
meets p [] = 0
meets p (x ∷ xs) = pick (p x) 1 0 + meets p xs

unfoldable pub in_layers : (ℕ → ℕ → Bool) → ℕ → ℕ
in_layers p zero = 0
in_layers p (suc l) = how_many (p l) (all_symbols l) + in_layers p l

-- ---- 01 (b), by the members of a layer's equations and its symbols as they are left; a symbol that is held doesn't change any more

module _ (symbol : ℕ → List ℕ) (equation : ℕ → List ℕ) where
  -- Where the symbols of a set are absent, equation q isn't taken: it is complete and was used, so that it holds, or has two absent members.
  abbrev pub NotTaken : (ℕ → Bool) → ℕ → Type 0
  NotTaken absent q =
      (((x : ℕ) → IsMember x (equation q) → absent x ≡ false) × EquationHolds symbol (equation q))
      ⊎ ((x : ℕ) × (y : ℕ) × IsMember x (equation q) × IsMember y (equation q) × (x < y) × (absent x ≡ true) × (absent y ≡ true))

-- "Take the lowest unused equation with at most one absent member. One absent: form it from the others; if its hash fits, store and mark it": from the
-- gaps to the symbols that are absent at last, one stored after the other
pub data Peeled (symbols equations : ℕ) (Gap : ℕ → Type 0) (symbol : ℕ → List ℕ) (equation : ℕ → List ℕ) : (ℕ → Bool) → Type 0 where
  none-stored : {absent : ℕ → Bool} → ((x : ℕ) → x < symbols → (absent x ≡ true) ↔ Gap x) → Peeled symbols equations Gap symbol equation absent
  stores : {before after : ℕ → Bool} → Peeled symbols equations Gap symbol equation before → (e x : ℕ) → e < equations
      → IsMember x (equation e) → before x ≡ true → ((y : ℕ) → IsMember y (equation e) → y ≢ x → before y ≡ false) → EquationHolds symbol (equation e)
      → ((q : ℕ) → q < e → NotTaken symbol equation before q)
      → ((y : ℕ) → y < symbols → (after y ≡ true) ↔ ((before y ≡ true) × (y ≢ x))) → Peeled symbols equations Gap symbol equation after

module _ (depth : ℕ) (r table t m o : List ℕ) where
  -- what 01's steps of repair make of the tree t, the marks m and the output o
  abbrev pub steps : St
  steps = repair_of r table t m o

  -- what the call answers
  abbrev pub answer : Result
  answer = (repaired depth r table t m o).answer

  -- ".. gives the end, the reported numbers and every lent byte as 01's steps of repair do .."; 02, CR 5: ".. ends with 13 in place of whole"
  pub record AsTheSteps : Type 0 where
    pub reports : (answer ≡ ended steps.stored steps.end) ⊎ ((steps.end ≡ whole) × (answer ≡ misfilled steps.stored))
    pub tree-left : (repaired depth r table t m o).tree ≡ steps.tree
    pub marks-left : (repaired depth r table t m o).marks ≡ steps.marks
    pub out-left : (repaired depth r table t m o).out ≡ steps.out

  -- symbol i of layer j, and its mark, as the call leaves them, and the members of equation e
  abbrev pub symbol : ℕ → ℕ → List ℕ
  symbol = symbol_at steps.tree

  abbrev pub mark : ℕ → ℕ → ℕ
  mark = mark_at steps.marks

  abbrev pub equation : ℕ → ℕ → List ℕ
  equation = members (equations_of table)

  -- the hash of a symbol of the record's kind
  abbrev pub hash : Hasher
  hash = hash_by (kind_no r 0)

  -- "The committed hash of a symbol is the one that the root, or the layer above as the call leaves it, has for it."
  abbrev pub committed : ℕ → ℕ → List ℕ
  committed = hash_for (root_part r) symbol

  -- "The gaps of an entered layer are the places lent with mark 0 or with a symbol of another hash than the committed one"
  abbrev pub Gap : ℕ → ℕ → Type 0
  Gap j i = (mark_at m j i ≡ 0) ⊎ (hash j i (symbol_at t j i) ≢ committed j i)

  -- "no equation meets [the set] exactly once"
  abbrev pub NeverOnce : ℕ → (ℕ → Bool) → Type 0
  NeverOnce j s = (e : ℕ) → e < 3 * data_symbols j → meets s (equation j e) ≢ 1

  -- a test tells which symbols of layer j are now marked 0
  abbrev pub Tells : ℕ → (ℕ → Bool) → Type 0
  Tells j absent = (i : ℕ) → i < all_symbols j → (absent i ≡ true) ↔ (mark j i ≡ 0)

  -- ---- 01, "Repair", of every end; `steps.entered` layers were entered

  pub record EveryEnd : Type 0 where
    pub in_depth : steps.entered ≤ depth
    pub lengths : TreeLengths depth steps.tree steps.marks
    -- "Layers below the last one entered are not touched."
    pub tree-below : drop (256 * tree_symbols steps.entered) steps.tree ≡ drop (256 * tree_symbols steps.entered) t
    pub marks-below : drop (tree_symbols steps.entered) steps.marks ≡ drop (tree_symbols steps.entered) m
    -- every mark is 0 or 1; "absent places are zeroed"
    pub zeroed : (j i : ℕ) → j < steps.entered → i < all_symbols j → mark j i ≢ 1 → (mark j i ≡ 0) × (symbol j i ≡ replicate 256 0)
    -- what is no gap is held and stays
    pub kept : (j i : ℕ) → j < steps.entered → i < all_symbols j → (Gap j i → ⊥) → (mark j i ≡ 1) × (symbol j i ≡ symbol_at t j i)
    -- "each symbol then marked held in an entered layer has the committed hash"
    pub held : (j i : ℕ) → j < steps.entered → i < all_symbols j → mark j i ≡ 1 → hash j i (symbol j i) ≡ committed j i
    -- "every layer above the last one entered is complete, all its equations holding"
    pub above-complete : (j i : ℕ) → suc j < steps.entered → i < all_symbols j → mark j i ≡ 1
    pub above_holds : (j e : ℕ) → suc j < steps.entered → e < 3 * data_symbols j → EquationHolds (symbol j) (equation j e)
    -- the number stored "equals the gaps of entered layers now marked 1", which this test tells
    pub was_stored : ℕ → ℕ → Bool
    pub tells-stored : (j i : ℕ) → j < steps.entered → i < all_symbols j → (was_stored j i ≡ true) ↔ (Gap j i × (mark j i ≡ 1))
    pub counted : steps.stored ≡ in_layers was_stored steps.entered
    -- (b), in every entered layer
    pub absent : ℕ → ℕ → Bool
    pub tells-absent : (j : ℕ) → j < steps.entered → Tells j (absent j)
    pub peeled : (j : ℕ) → j < steps.entered → Peeled (all_symbols j) (3 * data_symbols j) (Gap j) (symbol j) (equation j) (absent j)

  -- ---- ".. and ends in one of these four ways: with every symbol marked held in a correctly coded tree that agrees with that root and table; .."

  pub record WholeTree : Type 0 where
    pub is-end : steps.end ≡ whole
    pub last : steps.entered ≡ depth
    pub all_held : (j i : ℕ) → j < depth → i < all_symbols j → mark j i ≡ 1
    pub agrees : AgreesWith hash depth (equations_of table) (root_part r) symbol
    pub out-untouched : steps.out ≡ o

  -- byte p of the base's data symbols, from the block's length on: the filling
  abbrev pub Filling : ℕ → Type 0
  Filling p = (block_size r ≤ p) × (p < block_room depth)

  abbrev pub base_byte : ℕ → ℕ
  base_byte p = get_or steps.tree (block_start depth + p) 0

  pub record EndsWhole : Type 0 where
    pub reported : answer ≡ ended steps.stored whole
    pub whole-tree : WholeTree
    pub filling_zero : (p : ℕ) → Filling p → base_byte p ≡ 0

  -- ---- 02, CR 5: "a tree repaired whole whose filling isn't zero ends with 13 in place of whole, the tree filled and correctly coded as for whole"

  pub record EndsMisfilled : Type 0 where
    pub reported : answer ≡ misfilled steps.stored
    pub whole-tree : WholeTree
    pub byte : ℕ
    pub in_filling : Filling byte
    pub not_zero : base_byte byte ≢ 0

  -- 01 (b), "Take the lowest unused equation with at most one absent member": at layer j equation e was taken, x being the member that is withheld

  pub record Took (j e x : ℕ) : Type 0 where
    pub last : steps.entered ≡ suc j
    pub in_table : (j < depth) × (e < 3 * data_symbols j)
    pub member : IsMember x (equation j e)
    pub others-held : (y : ℕ) → IsMember y (equation j e) → y ≢ x → mark j y ≡ 1
    pub absent : ℕ → Bool
    pub tells : Tells j absent
    pub lowest : (q : ℕ) → q < e → NotTaken (symbol j) (equation j) absent q

  -- "One absent: form it from the others; [..] None absent and the equation fails: withhold the last member"
  abbrev pub LastOfFailing : ℕ → ℕ → ℕ → Type 0
  LastOfFailing j e x = (mark j x ≡ 1) × (x ≡ data_symbols j + e) × (EquationHolds (symbol j) (equation j e) → ⊥)

  -- ---- ".. with a fault proof that the checker accepts for them; .."

  -- The proof is the first `size` bytes of the output, of these symbols; the rest of it is untouched.
  pub record EndsFault : Type 0 where
    pub layer : ℕ
    pub equation_no : ℕ
    pub withheld : ℕ
    pub size : ℕ
    pub is-end : steps.end ≡ fault layer equation_no withheld size
    pub reported : answer ≡ ended steps.stored (fault layer equation_no withheld size)
    pub took : Took layer equation_no withheld
    pub why : (mark layer withheld ≡ 0) ⊎ LastOfFailing layer equation_no withheld
    pub accepted : proof_checked depth r table (take size steps.out) ≡ Done
    pub proof : Written depth (equations_of table) symbol layer equation_no withheld (take size steps.out)
    pub exact : length (take size steps.out) ≡ size
    pub out-rest : drop size steps.out ≡ drop size o

  -- ---- ".. with the missing symbols of the first incomplete layer, which are the largest set within its gaps that no equation meets exactly once,
  -- so that every other such set lies inside it; .."

  pub record EndsUnavailable : Type 0 where
    pub layer : ℕ
    pub is-end : steps.end ≡ unavailable layer
    pub reported : answer ≡ ended steps.stored (unavailable layer)
    pub last : steps.entered ≡ suc layer
    -- the topmost with a mark 0
    pub incomplete : (i : ℕ) × (i < all_symbols layer) × (mark layer i ≡ 0)
    pub first : (j i : ℕ) → j < layer → i < all_symbols j → mark j i ≡ 1
    -- the missing symbols, which this test tells, are a set within the layer's gaps that no equation meets exactly once
    pub absent : ℕ → Bool
    pub tells : Tells layer absent
    pub within_gaps : (i : ℕ) → i < all_symbols layer → mark layer i ≡ 0 → Gap layer i
    pub never_once : NeverOnce layer absent
    -- and every other such set lies inside them
    pub largest : (s : ℕ → Bool) → ((i : ℕ) → i < all_symbols layer → s i ≡ true → Gap layer i) → NeverOnce layer s
        → (i : ℕ) → i < all_symbols layer → s i ≡ true → mark layer i ≡ 0
    -- "When none can be taken": every equation is complete and holds, or has two absent members
    pub none-taken : (e : ℕ) → e < 3 * data_symbols layer → NotTaken (symbol layer) (equation layer) absent e
    pub out-untouched : steps.out ≡ o

  -- ---- ".. or with two different symbols of equal SHA-256, shown."

  -- They are the first two symbols of the output: the last member of an equation, and the exclusive-or of the others; the rest of it is untouched.
  pub record EndsTwins : Type 0 where
    pub layer : ℕ
    pub equation_no : ℕ
    pub number : ℕ
    pub is-end : steps.end ≡ twins layer number
    pub reported : answer ≡ ended steps.stored (twins layer number)
    pub took : Took layer equation_no number
    pub why : LastOfFailing layer equation_no number
    pub shown : Twins hash layer number (symbol_no steps.out 0) (symbol_no steps.out 1)
    pub first-is : symbol_no steps.out 0 ≡ symbol layer number
    pub front : List ℕ
    pub splits : equation layer equation_no ≡ front ++ (number ∷ [])
    pub second_is : XorOf (λ q. symbol layer (get_or front q 0)) (length front) (symbol_no steps.out 1)
    pub is-committed : hash layer number (symbol_no steps.out 0) ≡ committed layer number
    pub out-rest : drop 512 steps.out ≡ drop 512 o

  -- the sentence, of a repair whose input no numbered test turns away; 13 counts as the first of the demand's four ways
  pub record Repair : Type 0 where
    pub as_the_steps : AsTheSteps
    pub one_of_five : EndsWhole ⊎ (EndsMisfilled ⊎ (EndsFault ⊎ (EndsUnavailable ⊎ EndsTwins)))
    pub one_of_four : WholeTree ⊎ (EndsFault ⊎ (EndsUnavailable ⊎ EndsTwins))
    pub every-end : EveryEnd
    -- 13 comes just where the steps end whole and a byte of the filling isn't zero
    pub misfilled_just_when : (s : ℕ) → (answer ≡ misfilled s) ↔ ((steps.end ≡ whole) × (s ≡ steps.stored) × ((p : ℕ) × Filling p × (base_byte p ≢ 0)))

-- "Input to a repair is well-formed when no numbered test turns it away before layer 0 is entered": just when, is in Refusals.antt.
abbrev pub Repairs : Type 0
Repairs = (depth : ℕ) (r table t m o : List ℕ) → repair_tested depth r table t m o ≡ Done → Repair depth r table t m o

-- a repair stops just where a numbered test turns its input away, with what that test says
abbrev pub StopsJustWhen : Type 0
StopsJustWhen = (depth : ℕ) (r table t m o : List ℕ) (s : Stop) → (answer depth r table t m o ≡ stopped s) ↔ (repair_tested depth r table t m o ≡ Stopped s)

-- ---- the demand

pub record Demand3 : Type 0 where
  pub checker : Checker
  pub repairs : Repairs
  pub stops_just_when : StopsJustWhen
