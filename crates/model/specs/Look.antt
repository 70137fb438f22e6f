-- A tree that is only looked at: whether a repair would end whole with nothing stored. Definitions only.
use Rattle.std.specs.Prelude.{Bool, true, false, not, ◌&&◌, List, ℕ, zero, suc, length, eqb}
use Rattle.parity_table.specs.Table.{layer_of, equation_of}
use Rattle.octets.specs.ByteLists.{same}
use Rattle.model.specs.Shape.{Shape}
use Rattle.model.specs.Symbols.{xor_of, zeros, sym_at}
use Rattle.model.specs.Repair.{End, working, whole, fault, unavailable, twins, St}
use Rattle.model.specs.Ends.{gap_at}

-- ---- a repair's outcome

abbrev pub is_whole : End → Bool
is_whole working = false
is_whole whole = true
is_whole (fault j e x n) = false
is_whole (unavailable j) = false
is_whole (twins j x) = false

-- a repair has ended whole "without storing anything"
abbrev pub whole_as_lent : St → Bool
whole_as_lent st = is_whole st.end && eqb st.stored 0

-- ---- the look

-- every number below n passes the test
unfoldable pub all : (ℕ → Bool) → ℕ → Bool
all p zero = true
all p (suc n) = p n && all p n

module _ (S : Shape) (tbl : List (List (List ℕ))) where
  -- each equation of layer l holds
  unfoldable pub all_hold : List ℕ → ℕ → Bool
  all_hold t l = all (λ e. same (xor_of (sym_at S t l) (equation_of tbl l e)) zeros) (length (layer_of tbl l))

module _ (S : Shape) (H : ℕ → ℕ → List ℕ → List ℕ) (root : List ℕ) where
  -- no symbol of layer l is a gap
  unfoldable pub no_gaps : List ℕ → List ℕ → ℕ → Bool
  no_gaps t m l = all (λ i. not (gap_at S H root t m t l i)) (S.n l)

  module _ (tbl : List (List (List ℕ))) where
    unfoldable pub is_complete : List ℕ → List ℕ → ℕ → Bool
    is_complete t m l = no_gaps t m l && all_hold S tbl t l

    unfoldable pub intact : List ℕ → List ℕ → Bool
    intact t m = all (is_complete t m) (length tbl)
