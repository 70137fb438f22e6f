-- Fault proofs by their bytes: 01, "Sample and fault proof". Statements only.
use Rattle.std.specs.Prelude.{◌≡◌, ◌⊎◌, ◌↔◌, List, ◌∷◌, ◌++◌, ℕ, ◌+◌, ◌-◌, ◌*◌, ◌≤◌, ◌<◌, length, get_or}
use Rattle.table_bytes.specs.Bytes.{words_of}
use Rattle.model.specs.Shape.{tree}
use Rattle.model.specs.Fault.{proof_bytes, ProofHolds}
use Rattle.calls.specs.Stops.{Done}
use Rattle.fault_calls.specs.Checking.{proof_checked}
use Rattle.guarantees.specs.Layouts.{bytes_from, data_symbols, all_symbols, hash_for, XorOf, up_from, word_no, kind_value, kind_no, root_part}
use Rattle.guarantees.specs.Tables.{TableRules, TableRight, AllInTwo}
use Rattle.guarantees.specs.Trees.{Hasher, hash_by, members}
use Rattle.guarantees.specs.Refusals.{DepthRight, TableLength, RecordLength, HeadRight, NamesTable, takes_named}
use Rattle.guarantees.specs.Answers.{Answered, done, test, unless, two, Just}
use Rattle.guarantees.specs.Terms.{equations_of}

-- ---- the bytes of a proof

-- "Then each other member, ascending, with its path": of given member number p of a proof of layer j, the symbol u layers up; u = 0 is the member
-- itself. "A path is the whole data symbol of each layer from j−1 to 0 on the way up."
unfoldable pub given_symbol : List ℕ → ℕ → ℕ → ℕ → List ℕ
given_symbol b j p u = bytes_from b (12 + 256 * (p * (j + 1) + u)) 256

-- "then the withheld member's path": the symbol u layers up from it, u being 1 or more, where g members are given
unfoldable pub withheld_symbol : List ℕ → ℕ → ℕ → ℕ → List ℕ
withheld_symbol b j g u = bytes_from b (12 + 256 * (g * (j + 1) + (u - 1))) 256

-- "three big-endian words: kind 01 with the layer j, 10 with the equation, 11 with the withheld member's number"
pub record Head (b : List ℕ) (j e x : ℕ) : Type 0 where
  pub layer-word : word_no b 0 ≡ kind_value 1 j
  pub equation-word : word_no b 1 ≡ kind_value 2 e
  pub withheld-word : word_no b 2 ≡ kind_value 3 x

-- ---- what a head names in a table of this depth

-- The equation's members are those before the withheld one, that one, and those after it: the given ones are `front ++ back`.
pub record Named (depth : ℕ) (tbl : List (List (List ℕ))) (b : List ℕ) : Type 0 where
  pub layer : ℕ
  pub equation : ℕ
  pub withheld : ℕ
  pub front : List ℕ
  pub back : List ℕ
  pub head : Head b layer equation withheld
  pub has_layer : layer < depth
  pub has_equation : equation < 3 * data_symbols layer
  pub has_member : members tbl layer equation ≡ front ++ (withheld ∷ back)

module _ {depth : ℕ} {tbl : List (List (List ℕ))} {b : List ℕ} (h : Named depth tbl b) where
  abbrev pub given : List ℕ
  given = h.front ++ h.back

  -- "For d members the length is 12+256·((d−1)(j+1)+j)."
  abbrev pub Exact : Type 0
  Exact = length b ≡ 12 + 256 * ((length (members tbl h.layer h.equation) - 1) * (h.layer + 1) + h.layer)

-- "the first layer, going up from the given symbol, whose hash isn't the committed one" (02, CR 4): a way goes up from layer `from`, and its symbol at
-- layer i has the committed hash when `fits i`. It has in every layer below l, and not in l.
pub record BreaksAt (fits : ℕ → Type 0) (from l : ℕ) : Type 0 where
  pub on_way_lem : l ≤ from
  pub lead_below : (i : ℕ) → l < i → i ≤ from → fits i
  pub broken : fits l → ⊥

module _ {depth : ℕ} {tbl : List (List (List ℕ))} {b : List ℕ} (H : Hasher) (root : List ℕ) (h : Named depth tbl b) where
  -- "every hash leads to the root": each symbol has the hash that the next symbol up, or the root, has for it; on the way up from given member
  -- number p, and above the withheld one
  abbrev pub GivenFits : ℕ → ℕ → Type 0
  GivenFits p u =
      H (h.layer - u) (up_from h.layer (get_or (given h) p 0) u) (given_symbol b h.layer p u)
      ≡ hash_for root (λ l m. given_symbol b h.layer p (h.layer - l)) (h.layer - u) (up_from h.layer (get_or (given h) p 0) u)

  abbrev pub GivenLeads : ℕ → Type 0
  GivenLeads p = (u : ℕ) → u ≤ h.layer → GivenFits p u

  -- the withheld member's path, by layers
  abbrev pub path : ℕ → ℕ → List ℕ
  path l m = withheld_symbol b h.layer (length (given h)) (h.layer - l)

  abbrev pub PathFits : ℕ → Type 0
  PathFits u =
      H (h.layer - u) (up_from h.layer h.withheld u) (withheld_symbol b h.layer (length (given h)) u)
      ≡ hash_for root path (h.layer - u) (up_from h.layer h.withheld u)

  abbrev pub WithheldLeads : Type 0
  WithheldLeads = (u : ℕ) → 1 ≤ u → u ≤ h.layer → PathFits u

  pub record AllLead : Type 0 where
    pub given_lead : (p : ℕ) → p < length (given h) → GivenLeads p
    pub withheld-leads : WithheldLeads

  -- "7 comes back with that layer, and for a proof also with the position of the first such member in proof order, the withheld one counting last and its
  -- path starting at layer j−1" (02, CR 4): the members before position p lead to the root, and that one breaks at layer l
  pub record ProofBreaks (l p : ℕ) : Type 0 where
    pub lead_before : (q : ℕ) → q < p → GivenLeads q
    pub breaks :
        ((p < length (given h)) × BreaksAt (λ i. GivenFits p (h.layer - i)) h.layer l)
        ⊎ ((p ≡ length (given h)) × (1 ≤ h.layer) × BreaksAt (λ i. PathFits (h.layer - i)) (h.layer - 1) l)

  -- "the hash of the exclusive-or of the given members" is "the hash committed for the withheld one"
  abbrev pub Fits : Type 0
  Fits =
      (s : List ℕ) → XorOf (λ p. given_symbol b h.layer p 0) (length (given h)) s → H h.layer h.withheld s ≡ hash_for root path h.layer h.withheld

-- ---- the checker

-- 2: "a buffer's length wrong, [..] proof under 12 bytes"
pub record ProofLengths (r table b : List ℕ) : Type 0 where
  pub record_length : RecordLength r
  pub table-length : TableLength table
  pub head_there : 12 ≤ length b

-- what is tested before the hashes
pub record ProofReady (depth : ℕ) (r table b : List ℕ) : Type 0 where
  pub depth-right : DepthRight depth
  pub lengths-right : ProofLengths r table b
  pub head-right : HeadRight depth r
  pub table-right : TableRight depth (words_of table)
  pub table_covered : AllInTwo depth (equations_of table)
  pub table-named : NamesTable r table
  pub named : Named depth (equations_of table) b
  pub exact : Exact named

-- "It is accepted when every hash leads to the root and the hash of the exclusive-or of the given members differs from the hash committed for
-- the withheld one."
pub record ProofRight (depth : ℕ) (r table b : List ℕ) : Type 0 where
  pub ready : ProofReady depth r table b
  pub all_lead_lem : AllLead (hash_by (kind_no r 0)) (root_part r) ready.named
  pub differs : Fits (hash_by (kind_no r 0)) (root_part r) ready.named → ⊥

abbrev pub AcceptsProofJustWhen : Type 0
AcceptsProofJustWhen = (depth : ℕ) (r table b : List ℕ) → (proof_checked depth r table b ≡ Done) ↔ ProofRight depth r table b

-- "A proof is tested 1, 2, 3, 6, then 2 again for the length its head demands, 7, 8", 10 "right after 3", "11 after 2", and "12 after 10"
abbrev pub proof_tests : ℕ → List ℕ → List ℕ → List ℕ → Answered
proof_tests depth r table b =
    test 1 (unless (DepthRight depth))
    (test 2 (unless (ProofLengths r table b))
    (takes_named depth r table
    (test 6 (unless (Named depth (equations_of table) b))
    (test 2 (unless ((h : Named depth (equations_of table) b) × Exact h))
    (test 7 (two (λ l p. (h : Named depth (equations_of table) b) × ProofBreaks (hash_by (kind_no r 0)) (root_part r) h l p))
    (test 8 (unless ((h : Named depth (equations_of table) b) × (Fits (hash_by (kind_no r 0)) (root_part r) h → ⊥))) done))))))

abbrev pub ProofCheckerAnswers : Type 0
ProofCheckerAnswers =
    (depth : ℕ) (r table b : List ℕ)
    → Just (proof_checked depth r table b) (proof_tests depth r table b)

-- ---- "A proof holds each given member at layer j under its own number, and each path symbol at its layer under the number the path reaches
-- there: from symbol i to data symbol (i mod s) of the layer above."

-- m is the number, at layer l, that is u layers up from symbol i of layer j
abbrev pub Up : ℕ → ℕ → ℕ → ℕ → ℕ → Type 0
Up j i u l m = (u ≤ j) × (l ≡ j - u) × (m ≡ up_from j i u)

module _ {depth : ℕ} {tbl : List (List (List ℕ))} {b : List ℕ} (h : Named depth tbl b) where
  -- a given member or a symbol of a path has number m at layer l
  abbrev pub OnPath : ℕ → ℕ → Type 0
  OnPath l m =
      ((p : ℕ) × (u : ℕ) × (p < length (given h)) × Up h.layer (get_or (given h) p 0) u l m)
      ⊎ ((u : ℕ) × (1 ≤ u) × Up h.layer h.withheld u l m)

  -- .. and it is s
  abbrev pub Holds : ℕ → ℕ → List ℕ → Type 0
  Holds l m s =
      ((p : ℕ) × (u : ℕ) × (p < length (given h)) × Up h.layer (get_or (given h) p 0) u l m × (s ≡ given_symbol b h.layer p u))
      ⊎ ((u : ℕ) × (1 ≤ u) × Up h.layer h.withheld u l m × (s ≡ withheld_symbol b h.layer (length (given h)) u))

  -- the proof has the symbols f in their places
  pub record Layout (f : ℕ → ℕ → List ℕ) : Type 0 where
    pub exact : Exact h
    pub given-symbols : (p u : ℕ) → p < length (given h) → u ≤ h.layer
        → given_symbol b h.layer p u ≡ f (h.layer - u) (up_from h.layer (get_or (given h) p 0) u)
    pub path-symbols : (u : ℕ) → 1 ≤ u → u ≤ h.layer
        → withheld_symbol b h.layer (length (given h)) u ≡ f (h.layer - u) (up_from h.layer h.withheld u)

-- What demand 3 says that a proof holds is this, of every proof whose head names an equation and a member of the table. The depth is one that a call
-- takes: a layer's number has to fit a word's value.
abbrev pub HoldsExactly : Type 0
HoldsExactly =
    (depth : ℕ) (tbl : List (List (List ℕ))) (b : List ℕ) → depth ≤ 9 → TableRules depth tbl → (h : Named depth tbl b)
    → (l m : ℕ) (s : List ℕ) → ProofHolds tree tbl b l m s ↔ Holds h l m s

-- so a proof that has the symbols f holds just these, and only where a given member or a path is
abbrev pub HoldsItsSymbols : Type 0
HoldsItsSymbols =
    (depth : ℕ) (tbl : List (List (List ℕ))) (b : List ℕ) → depth ≤ 9 → TableRules depth tbl → (h : Named depth tbl b)
    → (f : ℕ → ℕ → List ℕ) → Layout h f → (l m : ℕ) (s : List ℕ) → ProofHolds tree tbl b l m s ↔ (OnPath h l m × (s ≡ f l m))

-- a proof that is written for the symbols f has them in their places, under a head that names its equation and its withheld member
pub record Written (depth : ℕ) (tbl : List (List (List ℕ))) (f : ℕ → ℕ → List ℕ) (j e x : ℕ) (b : List ℕ) : Type 0 where
  pub named : Named depth tbl b
  pub layer-is : named.layer ≡ j
  pub equation-is : named.equation ≡ e
  pub withheld-is : named.withheld ≡ x
  pub layout : Layout named f

abbrev pub WritesLayout : Type 0
WritesLayout =
    (depth : ℕ) (tbl : List (List (List ℕ))) → depth ≤ 9 → TableRules depth tbl
    → (f : ℕ → ℕ → List ℕ) → ((l m : ℕ) → l < depth → m < all_symbols l → length (f l m) ≡ 256)
    → (j e x : ℕ) (front back : List ℕ) → j < depth → e < 3 * data_symbols j → members tbl j e ≡ front ++ (x ∷ back)
    → Written depth tbl f j e x (proof_bytes tree f j e x (members tbl j e))

-- ---- all of it

pub record FaultProofs : Type 0 where
  pub accepts_just_when : AcceptsProofJustWhen
  pub checker-answers : ProofCheckerAnswers
  pub holds_exactly : HoldsExactly
  pub holds_its_symbols : HoldsItsSymbols
  pub writes-layout : WritesLayout
