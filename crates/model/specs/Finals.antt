-- Final states: what holds where a repair has ended, said of the state and of what was lent, not of the turns that led there. Statements only.
use Rattle.std.specs.Prelude.{◌≡◌, ◌⊎◌, ◌≢◌, Bool, true, List, ℕ, suc, ◌<◌, length}
use Rattle.parity_table.specs.Table.{layer_of, equation_of}
use Rattle.model.specs.Shape.{Shape}
use Rattle.model.specs.Symbols.{count, first_of, others, xor_of, zeros, sym_at, committed}
use Rattle.model.specs.Repair.{St, absent_at}
use Rattle.model.specs.Ends.{Within, Closed, gap_at, Intact, Always}
use Rattle.model.specs.Alike.{Kind, unfinished, complete, missing, refuted, kind_of}

module _ (S : Shape) (H : ℕ → ℕ → List ℕ → List ℕ) (root : List ℕ) (tbl : List (List (List ℕ))) where
  -- layer j has grown from what was lent: every set of its gaps is absent still that no equation which is complete and holds meets exactly once
  abbrev pub Grown : List ℕ → List ℕ → List ℕ → List ℕ → ℕ → Type 0
  Grown t₀ m₀ t m j =
      (s : ℕ → Bool) → Within (S.n j) s (gap_at S H root t₀ m₀ t j)
      → ((e : ℕ) → e < length (layer_of tbl j) → count (absent_at S m j) (equation_of tbl j e) ≡ 0 → xor_of (sym_at S t j) (equation_of tbl j e) ≡ zeros → count s (equation_of tbl j e) ≢ 1)
      → Within (S.n j) s (absent_at S m j)

  -- symbol x, formed from the other members ms of its equation, doesn't have the committed hash
  abbrev pub Unfit : List ℕ → ℕ → List ℕ → ℕ → Type 0
  Unfit t j ms x = H j x (xor_of (sym_at S t j) (others x ms)) ≢ committed S root (sym_at S t) j x

  -- layer j is refuted by one of its equations: it is complete and fails, or gives for its one absent member a symbol that doesn't fit
  pub record Refuted (t m : List ℕ) (j : ℕ) : Type 0 where
    pub equation : ℕ
    pub in_table : equation < length (layer_of tbl j)
    pub fails :
        ((count (absent_at S m j) (equation_of tbl j equation) ≡ 0) × (xor_of (sym_at S t j) (equation_of tbl j equation) ≢ zeros))
        ⊎ ((count (absent_at S m j) (equation_of tbl j equation) ≡ 1) × Unfit t j (equation_of tbl j equation) (first_of (absent_at S m j) (equation_of tbl j equation)))

  -- what holds of the last layer entered, by the kind of the end
  abbrev pub LastLayer : St → Kind → Type 0
  LastLayer st unfinished = ⊥
  LastLayer st complete = (st.entered ≡ length tbl) × Intact S H root tbl st.tree st.marks
  LastLayer st (missing j) =
      (st.entered ≡ suc j) × Closed S tbl st.tree j (absent_at S st.marks j) × ((i : ℕ) × (i < S.n j) × (absent_at S st.marks j i ≡ true))
  LastLayer st (refuted j) = (st.entered ≡ suc j) × Refuted st.tree st.marks j

  -- a repair of the tree t₀ with the marks m₀ has ended
  pub record Final (t₀ m₀ : List ℕ) (st : St) : Type 0 where
    pub always : Always S H root tbl t₀ m₀ st.tree st.marks st.stored st.entered
    pub grown : (l : ℕ) → suc l ≡ st.entered → Grown t₀ m₀ st.tree st.marks l
    pub last : LastLayer st (kind_of st.end)
