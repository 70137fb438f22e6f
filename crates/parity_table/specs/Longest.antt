-- The fullest table of a depth: no well-formed table of that depth has more words. Definitions only.
use Rattle.std.specs.Prelude.{List, [], ◌∷◌, ◌++◌, ℕ, zero, suc, ◌+◌, ◌*◌, min, length}
use Rattle.parity_table.specs.Shape.{k_of}
use Rattle.parity_table.specs.Table.{table_words}

-- n numbers, each one more than that before it, the first being lo
unfoldable pub numbers_from : ℕ → ℕ → List ℕ
numbers_from lo zero = []
numbers_from lo (suc n) = lo ∷ numbers_from (suc lo) n

-- equation e of layer j with as many members as it may have: the lowest numbers below k+e, seven or all there are, and then k+e
unfoldable pub full_equation : ℕ → ℕ → List ℕ
full_equation j e = numbers_from 0 (min 7 (k_of j + e)) ++ ((k_of j + e) ∷ [])

-- n equations of layer j, the first being number e
unfoldable pub full_equations : ℕ → ℕ → ℕ → List (List ℕ)
full_equations j e zero = []
full_equations j e (suc n) = full_equation j e ∷ full_equations j (suc e) n

-- n layers, the first being number j
unfoldable pub full_layers : ℕ → ℕ → List (List (List ℕ))
full_layers j zero = []
full_layers j (suc n) = full_equations j 0 (3 * k_of j) ∷ full_layers (suc j) n

-- the fullest table of depth d
unfoldable pub full_table : ℕ → List (List (List ℕ))
full_table d = full_layers 0 d

-- the most words that a well-formed table of depth d has
unfoldable pub longest : ℕ → ℕ
longest d = length (table_words (full_table d))
