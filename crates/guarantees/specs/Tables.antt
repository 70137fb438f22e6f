-- Parity tables in the papers' own words and numbers: 01, "Parity table", and 02, CR 1. Definitions only.
use Rattle.std.specs.Prelude.{◌≡◌, ◌≢◌, List, [], ◌∷◌, ◌++◌, ℕ, suc, ◌+◌, ◌-◌, ◌*◌, ◌≤◌, ◌<◌, length, get_or, take}
use Rattle.guarantees.specs.Layouts.{data_symbols, kind_value}

-- ---- a table, by its layers, their equations and the members of each

-- equation e of layer j: "2 to 8 members, strictly ascending, the last being k+e for equation e"
pub record EquationRules (j e : ℕ) (members : List ℕ) : Type 0 where
  pub two : 2 ≤ length members
  pub eight : length members ≤ 8
  pub ascending : (q : ℕ) → suc q < length members → get_or members q 0 < get_or members (suc q) 0
  pub last : get_or members (length members - 1) 0 ≡ data_symbols j + e

-- "Layers come in order, each with equations 0 to 3k−1 in order"
pub record TableRules (d : ℕ) (tbl : List (List (List ℕ))) : Type 0 where
  pub layers : length tbl ≡ d
  pub equations : (j : ℕ) → j < d → length (get_or tbl j []) ≡ 3 * data_symbols j
  pub rules : (j e : ℕ) → j < d → e < 3 * data_symbols j → EquationRules j e (get_or (get_or tbl j []) e [])

-- ---- its words

-- "Kind 01 opens a layer (its number), 10 opens an equation (its number in the layer), 00 is a member (a symbol number), 11 ends the list (the
-- number of words before it)": equations from number e on, and layers from number j on
unfoldable pub equations_listed : ℕ → List (List ℕ) → List ℕ
equations_listed e [] = []
equations_listed e (members ∷ es) = (kind_value 2 e ∷ members) ++ equations_listed (suc e) es

unfoldable pub layers_listed : ℕ → List (List (List ℕ)) → List ℕ
layers_listed j [] = []
layers_listed j (es ∷ ls) = (kind_value 1 j ∷ equations_listed 0 es) ++ layers_listed (suc j) ls

unfoldable pub listed : List (List (List ℕ)) → List ℕ
listed tbl = layers_listed 0 tbl ++ (kind_value 3 (length (layers_listed 0 tbl)) ∷ [])

-- the words of a well-formed table of depth d, and words that one begins with
pub record TableRight (d : ℕ) (ws : List ℕ) : Type 0 where
  pub table : List (List (List ℕ))
  pub by_rules : TableRules d table
  pub is-listed : ws ≡ listed table

abbrev pub BeginsOne : ℕ → List ℕ → Type 0
BeginsOne d ws = (more : List ℕ) × TableRight d (ws ++ more)

-- "first wrong word (its end if short)": "A word is wrong when no well-formed table of that depth begins with the list up to and including it."
pub record FirstWrongWord (d : ℕ) (ws : List ℕ) (i : ℕ) : Type 0 where
  pub not_right : TableRight d ws → ⊥
  pub inside : i ≤ length ws
  pub right-before : (n : ℕ) → n ≤ i → BeginsOne d (take n ws)
  pub wrong_there : i < length ws → BeginsOne d (take (suc i) ws) → ⊥

-- ---- data symbols in equations: 02, CR 1

-- x is one of the members
abbrev pub IsMember : ℕ → List ℕ → Type 0
IsMember x members = (q : ℕ) × (q < length members) × (get_or members q 0 ≡ x)

-- equation e of layer j is one of the table's, and has symbol i as a member
abbrev pub Mentioned : List (List (List ℕ)) → ℕ → ℕ → ℕ → Type 0
Mentioned tbl j i e = (e < 3 * data_symbols j) × IsMember i (get_or (get_or tbl j []) e [])

-- symbol i of layer j "is also a member of at least two equations of that layer"
abbrev pub InTwoEquations : List (List (List ℕ)) → ℕ → ℕ → Type 0
InTwoEquations tbl j i = (e : ℕ) × (f : ℕ) × (e ≢ f) × Mentioned tbl j i e × Mentioned tbl j i f

-- "every data symbol of every layer" is
abbrev pub AllInTwo : ℕ → List (List (List ℕ)) → Type 0
AllInTwo d tbl = (j i : ℕ) → j < d → i < data_symbols j → InTwoEquations tbl j i

-- "the first such layer and its lowest such symbol": data symbol i of layer j is in one equation or in none; of the layers before it every data symbol is
-- in two, and of its own every lower one
pub record FirstNotInTwo (d : ℕ) (tbl : List (List (List ℕ))) (j i : ℕ) : Type 0 where
  pub layer : j < d
  pub data_symbol : i < data_symbols j
  pub one_or_none : (e f : ℕ) → Mentioned tbl j i e → Mentioned tbl j i f → e ≡ f
  pub earlier : AllInTwo j tbl
  pub lower : (x : ℕ) → x < i → InTwoEquations tbl j x
