-- 01, "Cases at depth 1, house table": the starred cases as rows of one table. What a row says is `Holds`; that all hold is one theorem,
-- `cases_hold` of proofs/Cases.antt, of volumes of either kind. Statements only.
use Rattle.std.specs.Prelude.{◌≡◌, ◌↔◌, true, false, List, [], ◌∷◌, ◌++◌, ℕ, suc, ◌+◌, ◌-◌, ◌*◌, ◌≤◌, ◌<◌, length, take, drop, set, replicate, ltb}
use Rattle.octets.specs.BigEndian.{bytes_of}
use Rattle.sha256.specs.Hash.{sha256}
use Rattle.parity_table.specs.Members.{every, last_of}
use Rattle.parity_table.specs.Table.{equation_of}
use Rattle.house_table.specs.House.{house_table, house_words}
use Rattle.symbol_hash.specs.SymbolHash.{symbol_hash}
use Rattle.symbol_hash.specs.declared.Kind.{Kind}
use Rattle.model.specs.Shape.{tree, places}
use Rattle.model.specs.Symbols.{zeros, sym_at, put_at}
use Rattle.model.specs.Fault.{proof_length}
use Rattle.model.specs.Repair.{End, working, whole, unavailable, St, absent_at, lowest_eq, step, enter}
use Rattle.calls.specs.Stops.{Done}
use Rattle.calls.specs.Stops.{number_of}
use Rattle.calls.specs.Tests.{read_answer}
use Rattle.volume_calls.specs.Writing.{tree_written}
use Rattle.fault_calls.specs.Checking.{proof_checked}
use Rattle.fault_calls.specs.Repairing.{Result, ended, misfilled, RepairLeft, repaired}
use Rattle.guarantees.specs.Layouts.{data_symbols, symbol_at, kind_value, kind_no, record_bytes, root_part}
use Rattle.guarantees.specs.Trees.{Hasher, kind_bits, CorrectlyCoded}
use Rattle.guarantees.specs.Terms.{equations_of}
use Rattle.guarantees.specs.Demand2.{tree_after, record_after}
use Rattle.guarantees.specs.Before.{Calls, now}

-- ---- the tree of the cases

-- "Block: 256 bytes each of 01, 02, 04, 08."
unfoldable pub block : List ℕ
block = replicate 256 0x01 ++ replicate 256 0x02 ++ replicate 256 0x04 ++ replicate 256 0x08

-- the house table of depth 1 as the calls are lent it
unfoldable pub house_bytes : List ℕ
house_bytes = bytes_of (house_words 1)

-- the tree and the record that the call of the writer leaves, in buffers that held zeros
unfoldable pub coded : Kind → List ℕ
coded kind = tree_after 1 kind house_bytes block (replicate 4096 0) (replicate 16 0) (replicate 556 0)

unfoldable pub coded_record : Kind → List ℕ
coded_record kind = record_after 1 kind house_bytes block (replicate 4096 0) (replicate 16 0) (replicate 556 0)

-- the marks of all sixteen symbols but these, and the tree with zeros for these
unfoldable pub marks_but : List ℕ → List ℕ
marks_but [] = replicate 16 1
marks_but (x ∷ xs) = set (marks_but xs) x 0

unfoldable pub tree_but : Kind → List ℕ → List ℕ
tree_but kind [] = coded kind
tree_but kind (x ∷ xs) = put_at tree (tree_but kind xs) 0 x zeros

-- ---- a repair of it with these symbols absent, lent the output o

-- what the call answers and leaves
unfoldable pub left : Kind → List ℕ → List ℕ → RepairLeft Result
left kind absent o = repaired 1 (coded_record kind) house_bytes (coded kind) (marks_but absent) o

-- layer 0 once it is entered: (a) is done
unfoldable pub entered : Kind → List ℕ → List ℕ → St
entered kind absent o =
    enter tree (symbol_hash kind) (root_part (coded_record kind)) (equations_of house_bytes) 0
    (record { tree = coded kind; marks = marks_but absent; out = o; used = []; stored = 0; entered = 0; end = working })

-- a turn of (b)
unfoldable pub turn : Kind → St → St
turn kind st = step tree (symbol_hash kind) (root_part (coded_record kind)) (equations_of house_bytes) 0 st

-- the turn takes equation e, which gives symbol x
pub record Gives (kind : Kind) (e x : ℕ) (st : St) : Type 0 where
  pub takes : lowest_eq tree (equations_of house_bytes) 0 st ≡ e
  pub was_absent : absent_at tree st.marks 0 x ≡ true
  pub now-held : absent_at tree (turn kind st).marks 0 x ≡ false
  pub symbol : sym_at tree (turn kind st).tree 0 x ≡ sym_at tree (coded kind) 0 x
  pub counted : (turn kind st).stored ≡ suc st.stored

-- the next turns take these equations, each giving its symbol
abbrev pub Turns : Kind → List (ℕ × ℕ) → St → Type 0
Turns kind [] st = Unit {0}
Turns kind (g ∷ gs) st = Gives kind g.0 g.1 st × Turns kind gs (turn kind st)

-- the call reports this end and this number stored, and leaves these symbols missing (marked 0 and zeroed) and every other one held
pub record Leaves (kind : Kind) (absent : List ℕ) (end : End) (missing : List ℕ) (stored : ℕ) (o : List ℕ) : Type 0 where
  pub reports : (left kind absent o).answer ≡ ended stored end
  pub marks-are : (left kind absent o).marks ≡ marks_but missing
  pub tree_is : (left kind absent o).tree ≡ tree_but kind missing
  pub out-untouched : (left kind absent o).out ≡ o

-- ---- a repair of it by a record that says another length

-- the record of the same table and root that says so many bytes
unfoldable pub record_saying : Kind → ℕ → List ℕ
record_saying kind size = record_bytes (kind_bits kind) 1 size 61 (sha256 house_bytes) (root_part (coded_record kind))

-- the call by it reports 13 and this number stored, and leaves every symbol held
pub record Misfills (kind : Kind) (absent : List ℕ) (size stored : ℕ) (o : List ℕ) : Type 0 where
  pub reports : (repaired 1 (record_saying kind size) house_bytes (coded kind) (marks_but absent) o).answer ≡ misfilled stored
  pub marks-are : (repaired 1 (record_saying kind size) house_bytes (coded kind) (marks_but absent) o).marks ≡ marks_but []
  pub tree_is : (repaired 1 (record_saying kind size) house_bytes (coded kind) (marks_but absent) o).tree ≡ coded kind
  pub out-untouched : (repaired 1 (record_saying kind size) house_bytes (coded kind) (marks_but absent) o).out ≡ o

-- ---- other claims

-- what holds of the number that every one of these calls gives at this depth, whatever else it is lent
pub record EveryCall (calls : Calls) (depth : ℕ) (P : ℕ → Type 0) : Type 0 where
  pub table-words : (ws : List ℕ) → P (number_of (calls.table-words depth ws))
  pub table-bytes : (b : List ℕ) → P (number_of (calls.table-bytes depth b))
  pub house-words : (n : ℕ) → P (number_of (read_answer (calls.house depth n (length (house_words depth)))))
  pub house-bytes : (n : ℕ) → P (number_of (read_answer (calls.house depth n (length (house_words depth) * 4))))
  pub tree_writer : (kind : Kind) (table b t m r : List ℕ) → P (number_of (calls.tree_writer depth kind table b t m r).answer)
  pub tree_writer_by : (number : ℕ) (table b t m r : List ℕ) → P (number_of (calls.tree_writer_by depth number table b t m r).answer)
  pub block_reader : (r t m b : List ℕ) → P (number_of (calls.block_reader depth r t m b).answer)
  pub sampler : (i : ℕ) (t m s : List ℕ) → P (number_of (calls.sampler depth i t m s).answer)
  pub sample-checker : (i : ℕ) (r s : List ℕ) → P (number_of (calls.sample-checker depth i r s))
  pub proof-checker : (r table b : List ℕ) → P (number_of (calls.proof-checker depth r table b))
  pub repairer : (r table t m o : List ℕ) → P (number_of (calls.repair_tests_lem depth r table t m o))
  pub recoder : (r table t m t' m' r' : List ℕ) → P (number_of (calls.recoder depth r table t m t' m' r').answer)

-- it is 1 just when the depth isn't `least` to `most`
abbrev pub Depths : ℕ → ℕ → Type 0
Depths least most = (depth : ℕ) → EveryCall now depth (λ number. (number ≡ 1) ↔ (((least ≤ depth) × (depth ≤ most)) → ⊥))

-- With the house table and a block that fits, the writer is done just when it is lent a tree of so many symbols, a mark for each, and a record.
pub record Has (depth symbols : ℕ) : Type 0 where
  pub in_all : places tree depth ≡ symbols
  pub writes : (kind : Kind) (b t m r : List ℕ) → length b ≤ 256 * data_symbols (depth - 1)
      → ((tree_written depth kind (bytes_of (house_words depth)) b t m r).answer ≡ Done) ↔ ((length t ≡ 256 * symbols) × (length m ≡ symbols) × (length r ≡ 556))

-- each of these is a byte
abbrev pub AreBytes : List ℕ → Type 0
AreBytes b = every (λ x. ltb x 256) b ≡ true

-- a proof of this many bytes that is accepted, with a record of this kind and a table
pub record AcceptedOf (kind : Kind) (depth bytes : ℕ) : Type 0 where
  pub root_record : List ℕ
  pub table : List ℕ
  pub proof : List ℕ
  pub kind_is : kind_no root_record 0 ≡ kind_bits kind
  pub are-bytes : AreBytes root_record × AreBytes table × AreBytes proof
  pub accepts : proof_checked depth root_record table proof ≡ Done
  pub sized : length proof ≡ bytes

-- the longest proof: of an equation of the base with 8 members; none of any layer and of at most 8 members is longer; one of that length, of a volume of
-- this kind, is accepted, and no longer one is, of either kind
pub record Longest (kind : Kind) (depth bytes : ℕ) : Type 0 where
  pub reached : proof_length (depth - 1) 8 ≡ bytes
  pub none_longer : (j d : ℕ) → j < depth → d ≤ 8 → proof_length j d ≤ bytes
  pub some-accepted : AcceptedOf kind depth bytes
  pub none-accepted : (r table b : List ℕ) → proof_checked depth r table b ≡ Done → length b ≤ bytes

-- In every correctly coded tree of this depth the hash of base symbol i stands in data symbol s of the layer above, in these bytes.
pub record Stands (depth i s from upto : ℕ) : Type 0 where
  pub bytes : upto ≡ from + 31
  pub stands : (H : Hasher) (tbl : List (List (List ℕ))) (f : ℕ → ℕ → List ℕ) → CorrectlyCoded H depth tbl f
      → take 32 (drop from (f (depth - 2) s)) ≡ H (depth - 1) i (f (depth - 1) i)

-- ---- the table

-- one constructor for each kind of claim
pub data Case : Type 0 where
  equation_is : (e : ℕ) (members : List ℕ) → Case
  table_has : (words value : ℕ) → Case
  symbol_is : (i byte : ℕ) → Case
  repair_gives : (absent : List ℕ) (gives : List (ℕ × ℕ)) → Case
  repair_leaves : (absent : List ℕ) (end : End) (missing : List ℕ) (stored : ℕ) → Case
  repair_misfills : (absent : List ℕ) (size stored : ℕ) → Case
  depth_stops : (depth : ℕ) → Case
  depths_are : (least most : ℕ) → Case
  depth_has : (depth symbols : ℕ) → Case
  longest_proof : (depth bytes : ℕ) → Case
  hash_stands : (depth i s from upto : ℕ) → Case

-- what a row says of volumes of this kind
abbrev pub Holds : Kind → Case → Type 0
Holds kind (equation_is e ms) = equation_of (house_table 1) 0 e ≡ ms
Holds kind (table_has n v) = (length (house_words 1) ≡ n) × (last_of (house_words 1) 0 ≡ kind_value 3 v)
Holds kind (symbol_is i b) = symbol_at (coded kind) 0 i ≡ replicate 256 b
Holds kind (repair_gives absent gs) = (o : List ℕ) → Turns kind gs (entered kind absent o)
Holds kind (repair_leaves absent z missing n) = (o : List ℕ) → length o ≡ 12 + 256 * (8 * 1 - 1) → Leaves kind absent z missing n o
Holds kind (repair_misfills absent size n) = (o : List ℕ) → length o ≡ 12 + 256 * (8 * 1 - 1) → Misfills kind absent size n o
Holds kind (depth_stops d) = EveryCall now d (λ number. number ≡ 1)
Holds kind (depths_are a b) = Depths a b
Holds kind (depth_has d n) = Has d n
Holds kind (longest_proof d n) = Longest kind d n
Holds kind (hash_stands d i s a b) = Stands d i s a b

abbrev pub cases : List Case
cases =
    -- 1. "Equation 0 is {0,1,4}; 3 is {0,3,6,7}; 9 is {0,1,12,13}."
    equation_is 0 (0 ∷ 1 ∷ 4 ∷ [])
    ∷ equation_is 3 (0 ∷ 3 ∷ 6 ∷ 7 ∷ [])
    ∷ equation_is 9 (0 ∷ 1 ∷ 12 ∷ 13 ∷ [])
    -- 2. "The table has 61 words; its end word's value is 60."
    ∷ table_has 61 60
    -- 3. "Symbol 5 is all 05, symbol 7 all 00, symbol 9 all 0F."
    ∷ symbol_is 5 0x05
    ∷ symbol_is 7 0x00
    ∷ symbol_is 9 0x0F
    -- 4. "0 and 1 absent: equation 1 gives symbol 1, then equation 0 gives 0; whole, stored 2."
    ∷ repair_gives (0 ∷ 1 ∷ []) ((1, 1) ∷ (0, 0) ∷ [])
    ∷ repair_leaves (0 ∷ 1 ∷ []) whole [] 2
    -- 5. "0,4,5,6,8,9,12,15 absent: 15 is stored; unavailable {0,4,5,6,8,9,12}, stored 1."
    ∷ repair_leaves (0 ∷ 4 ∷ 5 ∷ 6 ∷ 8 ∷ 9 ∷ 12 ∷ 15 ∷ []) (unavailable 0) (0 ∷ 4 ∷ 5 ∷ 6 ∷ 8 ∷ 9 ∷ 12 ∷ []) 1
    -- 6. "All absent: unavailable, all sixteen, stored 0."
    ∷ repair_leaves (0 ∷ 1 ∷ 2 ∷ 3 ∷ 4 ∷ 5 ∷ 6 ∷ 7 ∷ 8 ∷ 9 ∷ 10 ∷ 11 ∷ 12 ∷ 13 ∷ 14 ∷ 15 ∷ []) (unavailable 0)
    (0 ∷ 1 ∷ 2 ∷ 3 ∷ 4 ∷ 5 ∷ 6 ∷ 7 ∷ 8 ∷ 9 ∷ 10 ∷ 11 ∷ 12 ∷ 13 ∷ 14 ∷ 15 ∷ []) 0
    -- 02, CR 5: "a tree repaired whole whose filling isn't zero ends with 13 in place of whole, the tree filled and correctly coded as for whole". Case 4 by a
    -- record that says 1,023 bytes: byte 1,023 of the block is 08.
    ∷ repair_misfills (0 ∷ 1 ∷ []) 1023 2
    -- 8. "Depth 0 and depth 6: 1. Depth 5 has 496 symbols." "Depth D is 1 to 5." 02, CR 6: "Depth up to 9. [..] That makes 8,176 symbols [..] Depth 10 stops
    -- with 1; case 8's depth 6 is accepted."
    ∷ depth_stops 0
    ∷ depth_stops 10
    ∷ depths_are 1 9
    ∷ depth_has 5 496
    ∷ depth_has 9 8176
    -- 9. "At depth 5 the longest proof is 9,996 bytes." 02, CR 6: "a proof of up to 18,188 bytes"
    ∷ longest_proof 5 9996
    ∷ longest_proof 9 18188
    -- 10. "At depth 2, base symbol 31's hash is in layer 0's data symbol 3, bytes 224 to 255."
    ∷ hash_stands 2 31 3 224 255
    ∷ []

-- every row holds
infixr 40 ◌also◌
pub data Every (P : Case → Type 0) : List Case → Type 0 where
  none : Every P []
  ◌also◌ : {c : Case} {cs : List Case} → P c → Every P cs → Every P (c ∷ cs)

abbrev pub CasesHold : Type 0
CasesHold = (kind : Kind) → Every (Holds kind) cases
