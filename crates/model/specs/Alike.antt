-- Ends of repairs compared. Statements only.
use Rattle.std.specs.Prelude.{◌≡◌, ◌≢◌, List, ℕ, ◌<◌, length, get_or}
use Rattle.model.specs.Shape.{Shape, place}
use Rattle.model.specs.Symbols.{sym_at}
use Rattle.model.specs.Repair.{End, working, whole, fault, unavailable, twins, St}

-- the kind of an end, fault and twins counting as one kind, and its layer
pub data Kind : Type 0 where
  unfinished : Kind
  complete : Kind
  missing : (layer : ℕ) → Kind
  refuted : (layer : ℕ) → Kind

abbrev pub kind_of : End → Kind
kind_of working = unfinished
kind_of whole = complete
kind_of (fault j e x n) = refuted j
kind_of (unavailable j) = missing j
kind_of (twins j x) = refuted j

module _ (S : Shape) (tbl : List (List (List ℕ))) where
  -- layer l has the same marks and the same symbols in two trees
  pub record SameLayer (t m t' m' : List ℕ) (l : ℕ) : Type 0 where
    pub marks : (i : ℕ) → i < S.n l → get_or m (place S l i) 0 ≡ get_or m' (place S l i) 0
    pub symbols : (i : ℕ) → i < S.n l → sym_at S t l i ≡ sym_at S t' l i

  -- the same tree and marks were lent
  abbrev pub SameLent : List ℕ → List ℕ → List ℕ → List ℕ → Type 0
  SameLent t₀ m₀ t₁ m₁ = (l : ℕ) → l < length tbl → SameLayer t₀ m₀ t₁ m₁ l

  -- two ends are alike: the same kind of end, with the same missing and the same held symbols in each layer without a fault or twins
  pub record Alike (a b : St) : Type 0 where
    pub kinds : kind_of a.end ≡ kind_of b.end
    pub layers-entered : a.entered ≡ b.entered
    pub layers : (l : ℕ) → l < length tbl → kind_of a.end ≢ refuted l → SameLayer a.tree a.marks b.tree b.marks l
    -- the same number stored, where no layer has a fault or twins
    pub stored_same : ((l : ℕ) → kind_of a.end ≢ refuted l) → a.stored ≡ b.stored
