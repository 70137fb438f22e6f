-- What a well-formed parity table is, and what its first wrong word: 01, "Parity table". Definitions only.
use Rattle.std.specs.Prelude.{◌≡◌, true, List, [], ◌∷◌, ◌++◌, ℕ, suc, ◌+◌, ◌*◌, ◌^◌, ◌≤◌, ◌<◌, length, get_or, take}
use Rattle.parity_table.specs.Shape.{k_of}
use Rattle.parity_table.specs.Members.{ascending, last_of}

-- ---- a table: its layers, their equations, the numbers of the members of each

-- the equations of layer j
unfoldable pub layer_of : List (List (List ℕ)) → ℕ → List (List ℕ)
layer_of tbl j = get_or tbl j []

-- the members of equation e of layer j
unfoldable pub equation_of : List (List (List ℕ)) → ℕ → ℕ → List ℕ
equation_of tbl j e = get_or (layer_of tbl j) e []

-- equation e of layer j: "2 to 8 members, strictly ascending, the last being k+e for equation e"
pub record EquationOk (j e : ℕ) (ms : List ℕ) : Type 0 where
  pub some : 2 ≤ length ms
  pub few : length ms ≤ 8
  pub ascend : ascending ms ≡ true
  pub final : last_of ms 0 ≡ k_of j + e

-- the rules of a table of depth d: "Layers come in order, each with equations 0 to 3k−1 in order"
pub record TableOk (d : ℕ) (tbl : List (List (List ℕ))) : Type 0 where
  pub depth : length tbl ≡ d
  pub equations : (j : ℕ) → j < d → length (layer_of tbl j) ≡ 3 * k_of j
  pub members : (j e : ℕ) → j < d → e < 3 * k_of j → EquationOk j e (equation_of tbl j e)

-- ---- the words of a table

-- "the top two bits are the kind, the low 30 a value"
abbrev pub word : ℕ → ℕ → ℕ
word kind v = kind * 2 ^ 30 + v

-- "Kind 01 opens a layer (its number), 10 opens an equation (its number in the layer), 00 is a member (a symbol number),
-- 11 ends the list (the number of words before it)". A member's word is its number.
abbrev pub layer_word : ℕ → ℕ
layer_word j = word 1 j

abbrev pub equation_word : ℕ → ℕ
equation_word e = word 2 e

abbrev pub end_word : ℕ → ℕ
end_word n = word 3 n

-- the words of equations, the first being number e
unfoldable pub equations_words : ℕ → List (List ℕ) → List ℕ
equations_words e [] = []
equations_words e (ms ∷ es) = equation_word e ∷ (ms ++ equations_words (suc e) es)

-- the words of layers, the first being number j
unfoldable pub layers_words : ℕ → List (List (List ℕ)) → List ℕ
layers_words j [] = []
layers_words j (es ∷ ls) = layer_word j ∷ (equations_words 0 es ++ layers_words (suc j) ls)

-- "Nothing follows the end word"
unfoldable pub table_words : List (List (List ℕ)) → List ℕ
table_words tbl = layers_words 0 tbl ++ (end_word (length (layers_words 0 tbl)) ∷ [])

-- ---- well-formed lists of words, and the first wrong word

pub record WellFormed (d : ℕ) (ws : List ℕ) : Type 0 where
  pub table : List (List (List ℕ))
  pub rules : TableOk d table
  pub written : ws ≡ table_words table

-- some well-formed table of depth d begins with these words
pub record Begins (d : ℕ) (ws : List ℕ) : Type 0 where
  pub more : List ℕ
  pub formed : WellFormed d (ws ++ more)

-- "A word is wrong when no well-formed table of that depth begins with the list up to and including it."
abbrev pub WrongWord : ℕ → List ℕ → ℕ → Type 0
WrongWord d ws i = Begins d (take (suc i) ws) → ⊥

-- Place i of a list that is no well-formed table: its first wrong word; or, where no word is wrong, the number of its words ("its end if short").
pub record FirstWrong (d : ℕ) (ws : List ℕ) (i : ℕ) : Type 0 where
  pub within : i ≤ length ws
  pub before : (n : ℕ) → n ≤ i → Begins d (take n ws)
  pub wrong : i < length ws → WrongWord d ws i
  pub refused : WellFormed d ws → ⊥
