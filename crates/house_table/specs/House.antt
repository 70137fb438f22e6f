-- The house table, by its formula: 01, "House table". Definitions only.
use Rattle.std.specs.Prelude.{List, [], ◌∷◌, ◌++◌, ℕ, zero, suc, ◌+◌, ◌*◌, ◌/◌, ◌%◌, min, max, eqb, Ok, Err}
use Rattle.octets.specs.Choice.{pick}
use Rattle.parity_table.specs.Shape.{depth_fits, k_of}
use Rattle.parity_table.specs.Table.{layer_word, equation_word, equations_words, table_words}
use Rattle.parity_table.specs.Reader.{Answer, Depth, Length, Whole}

-- "equation e has data members e mod k and (e+1+⌊e/k⌋) mod k"
abbrev pub data_one : ℕ → ℕ → ℕ
data_one k e = e % k

abbrev pub data_two : ℕ → ℕ → ℕ
data_two k e = (e + 1 + e / k) % k

-- "symbol k+e−1 if e > 0"
abbrev pub parity_before : ℕ → ℕ → List ℕ
parity_before k zero = []
parity_before k (suc e) = (k + e) ∷ []

-- ".. and k+e, written ascending"
unfoldable pub house_equation : ℕ → ℕ → List ℕ
house_equation k e = min (data_one k e) (data_two k e) ∷ max (data_one k e) (data_two k e) ∷ parity_before k e ++ ((k + e) ∷ [])

-- n equations, the first being number e
unfoldable pub house_equations : ℕ → ℕ → ℕ → List (List ℕ)
house_equations k e zero = []
house_equations k e (suc n) = house_equation k e ∷ house_equations k (suc e) n

-- n layers, the first being number j
unfoldable pub house_layers : ℕ → ℕ → List (List (List ℕ))
house_layers j zero = []
house_layers j (suc n) = house_equations (k_of j) 0 (3 * k_of j) ∷ house_layers (suc j) n

-- the house table of depth d, and its words
unfoldable pub house_table : ℕ → List (List (List ℕ))
house_table d = house_layers 0 d

unfoldable pub house_words : ℕ → List ℕ
house_words d = table_words (house_table d)

-- ---- the writer of a house table

-- what it answers for depth d, lent a buffer of n entries where the table has m
unfoldable pub house_answer : ℕ → ℕ → ℕ → Answer
house_answer d n m = pick (depth_fits d) (pick (eqb n m) Whole Length) Depth

-- what the buffer holds afterwards
abbrev pub house_out : Answer → List ℕ → List ℕ → List ℕ
house_out (Ok _) table lent = table
house_out (Err e) table lent = lent

-- the words that it writes one after the other: an equation, and a layer
abbrev pub house_row : ℕ → ℕ → List ℕ
house_row k e = equation_word e ∷ house_equation k e

abbrev pub house_layer : ℕ → ℕ → List ℕ
house_layer j k = layer_word j ∷ equations_words 0 (house_equations k 0 (3 * k))
