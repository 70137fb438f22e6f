-- When a table that keeps the old rules is taken: 02, CR 1. Definitions only.
use Rattle.std.specs.Prelude.{◌≡◌, ◌≢◌, List, ℕ, ◌*◌, ◌<◌}
use Rattle.parity_table.specs.Shape.{k_of}
use Rattle.parity_table.specs.Members.{IsMember}
use Rattle.parity_table.specs.Table.{equation_of}

-- equation e of layer j has symbol i as a member
abbrev pub Mentions : List (List (List ℕ)) → ℕ → ℕ → ℕ → Type 0
Mentions tbl j e i = IsMember i (equation_of tbl j e)

-- ".. is also a member of at least two equations of that layer"
pub record InTwo (tbl : List (List (List ℕ))) (j i : ℕ) : Type 0 where
  pub one : ℕ
  pub other : ℕ
  pub different : one ≢ other
  pub one_there : one < 3 * k_of j
  pub other_there : other < 3 * k_of j
  pub in_one : Mentions tbl j one i
  pub in_other : Mentions tbl j other i

-- "A table is now taken only when every data symbol of every layer is also a member of at least two equations of that layer."
abbrev pub Covered : ℕ → List (List (List ℕ)) → Type 0
Covered d tbl = (j i : ℕ) → j < d → i < k_of j → InTwo tbl j i

-- "A table that keeps the old rules but breaks this stops with 10, [..] with the first such layer and its lowest such symbol": data symbol i of
-- layer j is in at most one equation, every lower one and every layer before it is covered
pub record FirstUncovered (d : ℕ) (tbl : List (List (List ℕ))) (j i : ℕ) : Type 0 where
  pub layer : j < d
  pub symbol : i < k_of j
  pub before : Covered j tbl
  pub lower : (x : ℕ) → x < i → InTwo tbl j x
  pub at_most_one : (e f : ℕ) → e < 3 * k_of j → f < 3 * k_of j → Mentions tbl j e i → Mentions tbl j f i → e ≡ f
