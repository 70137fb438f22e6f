-- 02, CR 4: "Where a path breaks." Statements only.
--
-- `SampleBreaks` and `ProofBreaks` say where: they are test 7 of the two checkers (Refusals.antt, FaultProofs.antt), whose other answers are as they were.
use Rattle.std.specs.Prelude.{◌≡◌, ◌⊎◌, ◌↔◌, ◌≢◌, List, ℕ, suc, ◌-◌, ◌*◌, ◌%◌, ◌≤◌, ◌<◌, length, get_or}
use Rattle.calls.specs.Stops.{number_of}
use Rattle.sample_calls.specs.Checking.{sample_checked}
use Rattle.fault_calls.specs.Checking.{proof_checked}
use Rattle.guarantees.specs.Layouts.{symbol_no, data_symbols, sampled_layer, sampled_number, up_from, kind_no, root_part}
use Rattle.guarantees.specs.Trees.{Hasher, hash_by, AgreesWith}
use Rattle.guarantees.specs.Refusals.{SampleFits, SampleBreaks}
use Rattle.guarantees.specs.FaultProofs.{given_symbol, withheld_symbol, Named, given, GivenFits, PathFits, AllLead, ProofBreaks, ProofReady}
use Rattle.guarantees.specs.Demand2.{SampleReady, SampleCollides}
use Rattle.guarantees.specs.Demand3.{ProofCollides}
use Rattle.guarantees.specs.Terms.{equations_of}
use Rattle.guarantees.specs.Answers.{Answers}

-- ---- which page to ask for again; f is a tree that agrees with the root, by whichever table

-- A page that has another hash than the page above, or the root, has for it, or that page above, is not the tree's: so it is where 7 names a layer. And
-- where each page above it has the hash that the next one, or the root, has for it, so that it is the topmost that hasn't, it is not the tree's, or the two
-- hold, at one layer and number, two different symbols of equal hash.

-- symbol number x of a sample, and the sample's data symbol of the layer above, are f's
pub record SampleHasThere (d i : ℕ) (s : List ℕ) (f : ℕ → ℕ → List ℕ) (x : ℕ) : Type 0 where
  pub here : symbol_no s x ≡ f (sampled_layer d x) (sampled_number d i x)
  pub above : (u : ℕ) → suc u ≡ sampled_layer d x → symbol_no s (2 * (d - 1 - u) - 1) ≡ f u (i % data_symbols u)

pub record SamplePage (H : Hasher) (d i : ℕ) (root s : List ℕ) (f : ℕ → ℕ → List ℕ) : Type 0 where
  pub one_of_two : (x : ℕ) → x < 2 * d - 1 → (SampleFits H d i root s x → ⊥) → SampleHasThere d i s f x → ⊥
  pub topmost : (x : ℕ) → x < 2 * d - 1 → (SampleFits H d i root s x → ⊥) → ((u : ℕ) → u < sampled_layer d x → SampleFits H d i root s (2 * (d - 1 - u) - 1))
      → (symbol_no s x ≢ f (sampled_layer d x) (sampled_number d i x)) ⊎ SampleCollides H d i s f

-- on a way up from symbol y of layer j, whose symbol x layers up is s x, that of layer l and the one above it are f's
pub record WayHasThere (j y : ℕ) (s : ℕ → List ℕ) (f : ℕ → ℕ → List ℕ) (l : ℕ) : Type 0 where
  pub here : s (j - l) ≡ f l (up_from j y (j - l))
  pub above : (u : ℕ) → suc u ≡ l → s (j - u) ≡ f u (up_from j y (j - u))

-- of such a way, whose symbol has the committed hash at layer l when `fits l`
pub record WayPage (j y : ℕ) (s : ℕ → List ℕ) (fits : ℕ → Type 0) (f : ℕ → ℕ → List ℕ) (collides : Type 0) (l : ℕ) : Type 0 where
  pub one_of_two : (fits l → ⊥) → WayHasThere j y s f l → ⊥
  pub topmost : (fits l → ⊥) → ((i : ℕ) → i < l → fits i) → (s (j - l) ≢ f l (up_from j y (j - l))) ⊎ collides

module _ {d : ℕ} {b : List ℕ} (H : Hasher) (root table : List ℕ) (h : Named d (equations_of table) b) (f : ℕ → ℕ → List ℕ) where
  pub record ProofPage : Type 0 where
    pub given_page : (p l : ℕ) → p < length (given h) → l ≤ h.layer
        → WayPage h.layer (get_or (given h) p 0) (given_symbol b h.layer p) (λ i. GivenFits H root h p (h.layer - i)) f (ProofCollides H d table b f) l
    pub withheld_page : (l : ℕ) → l < h.layer
        → WayPage h.layer h.withheld (withheld_symbol b h.layer (length (given h))) (λ i. PathFits H root h (h.layer - i)) f (ProofCollides H d table b f) l

-- ---- the request

pub record Change4 : Type 0 where
  -- "The path test now answers with the first layer, going up from the given symbol, whose hash isn't the committed one; in a sample either symbol of a
  -- layer counts. [..] 7 comes back with that layer": both directions, with no second value
  pub sample_stops : (d i : ℕ) (r s : List ℕ) (l p : ℕ)
      → Answers (sample_checked d i r s) 7 (l, p) ↔ (SampleReady d i r s × SampleBreaks (hash_by (kind_no r 0)) d i (root_part r) s l × (p ≡ 0))
  -- ".. and for a proof also with the position of the first such member in proof order, the withheld one counting last and its path starting at layer j−1"
  pub proof_stops : (d : ℕ) (r table b : List ℕ) (l p : ℕ)
      → Answers (proof_checked d r table b) 7 (l, p) ↔ ((k : ProofReady d r table b) × ProofBreaks (hash_by (kind_no r 0)) (root_part r) k.named l p)
  -- accepted, or 8, just when no member breaks
  pub proof-leads : (d : ℕ) (r table b : List ℕ)
      → ((number_of (proof_checked d r table b) ≡ 0) ⊎ (number_of (proof_checked d r table b) ≡ 8)) ↔ ((k : ProofReady d r table b) × AllLead (hash_by (kind_no r 0)) (root_part r) k.named)
  -- in a proof of layer 0 the withheld one can't break, since its hash stands in the root
  pub proof_of_top : (d : ℕ) (r table b : List ℕ) (l p : ℕ) → Answers (proof_checked d r table b) 7 (l, p)
      → (h : Named d (equations_of table) b) → h.layer ≡ 0 → (l ≡ 0) × (p < length (given h))
  -- "The bench must know which shop's page to ask for again"
  pub sample_page : (d i : ℕ) (r s : List ℕ) → SampleReady d i r s
      → (tbl : List (List (List ℕ))) (f : ℕ → ℕ → List ℕ) → AgreesWith (hash_by (kind_no r 0)) d tbl (root_part r) f → SamplePage (hash_by (kind_no r 0)) d i (root_part r) s f
  pub proof_page : (d : ℕ) (r table b : List ℕ) (k : ProofReady d r table b)
      → (tbl : List (List (List ℕ))) (f : ℕ → ℕ → List ℕ) → AgreesWith (hash_by (kind_no r 0)) d tbl (root_part r) f → ProofPage (hash_by (kind_no r 0)) (root_part r) table k.named f
