-- Fault proofs, their writer and their checker: 01, "Sample and fault proof". Definitions only.
use Rattle.std.specs.Prelude.{◌≡◌, ◌⊎◌, Bool, not, ◌&&◌, List, [], ◌∷◌, ◌++◌, ℕ, zero, suc, ◌+◌, ◌-◌, ◌*◌, ◌/◌, ◌%◌, ◌≤◌, length, drop, leb, ltb, eqb}
use Rattle.octets.specs.Choice.{pick}
use Rattle.parity_table.specs.Table.{layer_of, equation_of}
use Rattle.heads.specs.Heads.{head, kind_at, value_at}
use Rattle.model.specs.Shape.{Shape}
use Rattle.octets.specs.ByteLists.{same, xors}
use Rattle.model.specs.Symbols.{joined, symbol_in, zeros, others, count, slot, committed}
use Rattle.model.specs.Climb.{Climb, leads, climb, Ways, all_lead, break_at, first_break}

-- ---- the way up from a symbol: that symbol, then its path

module _ (S : Shape) where
  -- The way up from symbol i of layer j has at layer j−x this number: "from symbol i to data symbol (i mod s) of the layer above".
  unfoldable pub reached : ℕ → ℕ → ℕ → ℕ
  reached j i zero = i
  reached j i (suc x) = reached j i x % S.k (j - suc x)

  -- symbol i of layer j with its path: "the whole data symbol of each layer from j−1 to 0 on the way up"
  unfoldable pub way_bytes : (ℕ → ℕ → List ℕ) → ℕ → ℕ → List ℕ
  way_bytes f j i = joined (λ x. f (j - x) (reached j i x)) 0 (suc j)

  -- ---- the writer; f gives the tree's symbols

  -- members of layer j, each with its path
  unfoldable pub given_bytes : (ℕ → ℕ → List ℕ) → ℕ → List ℕ → List ℕ
  given_bytes f j [] = []
  given_bytes f j (y ∷ ys) = way_bytes f j y ++ given_bytes f j ys

  -- the path of symbol i of layer j
  unfoldable pub path_bytes : (ℕ → ℕ → List ℕ) → ℕ → ℕ → List ℕ
  path_bytes f zero i = []
  path_bytes f (suc j) i = way_bytes f j (i % S.k j)

  -- "three big-endian words: kind 01 with the layer j, 10 with the equation, 11 with the withheld member's number. Then each other member,
  -- ascending, with its path; then the withheld member's path."
  unfoldable pub proof_bytes : (ℕ → ℕ → List ℕ) → ℕ → ℕ → ℕ → List ℕ → List ℕ
  proof_bytes f j e x ms = head 1 j e x ++ (given_bytes f j (others x ms) ++ path_bytes f j x)

-- ---- what the checker reads

unfoldable pub proof_layer : List ℕ → ℕ
proof_layer b = value_at b 0

unfoldable pub proof_equation : List ℕ → ℕ
proof_equation b = value_at b 1

unfoldable pub proof_withheld : List ℕ → ℕ
proof_withheld b = value_at b 2

-- "For d members the length is 12+256·((d−1)(j+1)+j)."
unfoldable pub proof_length : ℕ → ℕ → ℕ
proof_length j d = 12 + 256 * ((d - 1) * suc j + j)

-- what follows the head, and what follows the first given member and its path
unfoldable pub body : List ℕ → List ℕ
body b = drop 12 b

unfoldable pub next : ℕ → List ℕ → List ℕ
next j c = drop (256 * suc j) c

-- the exclusive-or of the given members, and what follows them: the withheld member's path
unfoldable pub given_xor : ℕ → List ℕ → List ℕ → List ℕ
given_xor j [] c = zeros
given_xor j (y ∷ ys) c = xors (symbol_in c 0) (given_xor j ys (next j c))

unfoldable pub after_given : ℕ → List ℕ → List ℕ → List ℕ
after_given j [] c = c
after_given j (y ∷ ys) c = after_given j ys (next j c)

module _ (tbl : List (List (List ℕ))) where
  -- the members of the table's equation, and those that are given
  unfoldable pub proof_members : List ℕ → List ℕ
  proof_members b = equation_of tbl (proof_layer b) (proof_equation b)

  unfoldable pub proof_given : List ℕ → List ℕ
  proof_given b = others (proof_withheld b) (proof_members b)

  -- "proof head: wrong kind, layer, equation, or no member"
  unfoldable pub layer_ok : List ℕ → Bool
  layer_ok b = eqb (kind_at b 0) 1 && ltb (proof_layer b) (length tbl)

  unfoldable pub equation_ok : List ℕ → Bool
  equation_ok b = eqb (kind_at b 1) 2 && ltb (proof_equation b) (length (layer_of tbl (proof_layer b)))

  unfoldable pub member_ok : List ℕ → Bool
  member_ok b = eqb (kind_at b 2) 3 && leb 1 (count (λ y. eqb y (proof_withheld b)) (proof_members b))

  unfoldable pub head_ok : List ℕ → Bool
  head_ok b = layer_ok b && (equation_ok b && member_ok b)

-- ---- the checker

-- what a proof is found to be, once it has 12 bytes and the table is taken
pub data Verdict : Type 0 where
  accepted : Verdict
  wrong_head : Verdict
  wrong_length : Verdict
  broken : (layer position : ℕ) → Verdict
  no_fault : Verdict

-- tests 7 and 8
unfoldable pub ruling : Ways → Bool → Verdict
ruling (break_at l p) fits = broken l p
ruling all_lead fits = pick fits no_fault accepted

-- the hash that the path c of symbol i of layer j, or the root, has for that symbol
unfoldable pub path_hash : Shape → List ℕ → ℕ → ℕ → List ℕ → List ℕ
path_hash S root zero i c = slot root i
path_hash S root (suc j) i c = slot (symbol_in c 0) (i / S.k j)

module _ (S : Shape) (H : ℕ → ℕ → List ℕ → List ℕ) (root : List ℕ) where
  -- symbol x of the way c up from symbol i of layer j has the hash that the next symbol up, or the root, has for it
  unfoldable pub way_fits : ℕ → ℕ → List ℕ → ℕ → Bool
  way_fits j i c x = same (H (j - x) (reached S j i x) (symbol_in c x)) (committed S root (λ l m. symbol_in c (j - l)) (j - x) (reached S j i x))

  unfoldable pub way_check : ℕ → ℕ → List ℕ → Climb
  way_check j i c = climb (way_fits j i c) (λ x. j - x) 0 (suc j)

  -- the path c of symbol i of layer j, which starts at layer j−1; of a symbol of layer 0 the hash stands in the root
  unfoldable pub path_check : ℕ → ℕ → List ℕ → Climb
  path_check zero i c = leads
  path_check (suc j) i c = way_check j (i % S.k j) c

  -- "the position of the first such member in proof order, the withheld one counting last": the given members, from position p on, with their paths,
  -- then the path of the withheld one x
  unfoldable pub ways_check : ℕ → ℕ → ℕ → List ℕ → List ℕ → Ways
  ways_check j x p [] c = first_break p (path_check j x c) all_lead
  ways_check j x p (y ∷ ys) c = first_break p (way_check j y c) (ways_check j x (suc p) ys (next j c))

  module _ (tbl : List (List (List ℕ))) where
    -- "every hash leads to the root"
    unfoldable pub proof_check : List ℕ → Ways
    proof_check b = ways_check (proof_layer b) (proof_withheld b) 0 (proof_given tbl b) (body b)

    -- "the hash of the exclusive-or of the given members" is "the hash committed for the withheld one"
    unfoldable pub withheld_fits : List ℕ → Bool
    withheld_fits b =
        same (H (proof_layer b) (proof_withheld b) (given_xor (proof_layer b) (proof_given tbl b) (body b)))
        (path_hash S root (proof_layer b) (proof_withheld b) (after_given (proof_layer b) (proof_given tbl b) (body b)))

    -- tests 6, 2, 7, 8
    unfoldable pub verdict : List ℕ → Verdict
    verdict b =
        pick (not (head_ok tbl b)) wrong_head
        (pick (not (eqb (length b) (proof_length (proof_layer b) (length (proof_members tbl b))))) wrong_length
        (ruling (proof_check b) (withheld_fits b)))

-- ---- "A proof holds each given member at layer j under its own number, and each path symbol at its layer under the number the path reaches there":
-- s at layer l under number m

module _ (S : Shape) where
  -- on the way c up from symbol i of layer j
  unfoldable pub InWay : ℕ → ℕ → List ℕ → ℕ → ℕ → List ℕ → Type 0
  InWay j i c l m s = (x : ℕ) × (x ≤ j) × (l ≡ j - x) × (m ≡ reached S j i x) × (s ≡ symbol_in c x)

  unfoldable pub InGiven : ℕ → List ℕ → List ℕ → ℕ → ℕ → List ℕ → Type 0
  InGiven j [] c l m s = ⊥
  InGiven j (y ∷ ys) c l m s = InWay j y c l m s ⊎ InGiven j ys (next j c) l m s

  unfoldable pub InPath : ℕ → ℕ → List ℕ → ℕ → ℕ → List ℕ → Type 0
  InPath zero i c l m s = ⊥
  InPath (suc j) i c l m s = InWay j (i % S.k j) c l m s

  unfoldable pub ProofHolds : List (List (List ℕ)) → List ℕ → ℕ → ℕ → List ℕ → Type 0
  ProofHolds tbl b l m s =
      InGiven (proof_layer b) (proof_given tbl b) (body b) l m s
      ⊎ InPath (proof_layer b) (proof_withheld b) (after_given (proof_layer b) (proof_given tbl b) (body b)) l m s
