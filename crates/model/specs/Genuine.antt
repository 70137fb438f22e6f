-- Repairs of genuine symbols: 02, CR 12, "More shops, never less volume". Statements only.
use Rattle.std.specs.Prelude.{◌≡◌, ◌≢◌, false, List, ℕ, ◌<◌}
use Rattle.model.specs.Shape.{Shape}
use Rattle.model.specs.Symbols.{sym_at}
use Rattle.model.specs.Coded.{InTree}
use Rattle.model.specs.Repair.{St, absent_at}
use Rattle.model.specs.Ends.{Largest, gap_at}
use Rattle.model.specs.Alike.{refuted, kind_of}
use Rattle.model.specs.Finals.{Final}

module _ (S : Shape) (tbl : List (List (List ℕ))) where
  -- "all held symbols taken from one [..] tree": those of t that the marks m say are held are those of f
  abbrev pub Genuine : (ℕ → ℕ → List ℕ) → List ℕ → List ℕ → Type 0
  Genuine f t m = (l i : ℕ) → InTree S tbl l i → absent_at S m l i ≡ false → sym_at S t l i ≡ f l i

  -- "let the second hold everything the first does"
  abbrev pub HoldsAll : List ℕ → List ℕ → Type 0
  HoldsAll m₁ m₂ = (l i : ℕ) → InTree S tbl l i → absent_at S m₁ l i ≡ false → absent_at S m₂ l i ≡ false

  -- A repair has ended that was lent the tree t₀ with the marks m₀, all held symbols being those of f.
  pub record GenuineEnd (H : ℕ → ℕ → List ℕ → List ℕ) (root : List ℕ) (f : ℕ → ℕ → List ℕ) (t₀ m₀ : List ℕ) (st : St) : Type 0 where
    pub final : Final S H root tbl t₀ m₀ st
    -- what was held is held still, all that is held is f's, and no layer has a fault or twins
    pub kept : HoldsAll m₀ st.marks
    pub genuine : Genuine f st.tree st.marks
    pub unrefuted : (l : ℕ) → kind_of st.end ≢ refuted l
    -- the gaps of a layer that was entered are what was lent absent, and what is absent now is the largest stopping set within that
    pub gaps : (l i : ℕ) → l < st.entered → i < S.n l → gap_at S H root t₀ m₀ st.tree l i ≡ absent_at S m₀ l i
    pub largest : (l : ℕ) → l < st.entered → Largest S tbl l (absent_at S m₀ l) (absent_at S st.marks l)
