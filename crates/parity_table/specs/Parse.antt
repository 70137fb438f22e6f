-- The table that a list of words says, and where its equations stand. Definitions only.
use Rattle.std.specs.Prelude.{◌≡◌, Bool, ◌&&◌, List, [], ◌∷◌, ◌++◌, ℕ, suc, ◌+◌, ◌-◌, ◌*◌, ◌≤◌, ◌<◌, length, take, drop, leb, ltb}
use Rattle.octets.specs.Choice.{pick}
use Rattle.parity_table.specs.Shape.{k_of}
use Rattle.parity_table.specs.Table.{equation_of, layer_word, equation_word, end_word}
use Rattle.parity_table.specs.Reader.{Whole, read_of}

-- ---- the table, by the kinds of the words alone

-- what the words from a place on say: members before the first opener, equations before the first layer, layers
pub record Parts : Type 0 where
  pub members : List ℕ
  pub equations : List (List ℕ)
  pub layers : List (List (List ℕ))

abbrev pub parts : List ℕ → List (List ℕ) → List (List (List ℕ)) → Parts
parts ms es ls = record { members = ms; equations = es; layers = ls }

-- one word more in front
unfoldable pub add_word : ℕ → Parts → Parts
add_word w p =
    pick (ltb w (layer_word 0)) (parts (w ∷ p.members) p.equations p.layers)
    (pick (ltb w (equation_word 0)) (parts [] [] (p.equations ∷ p.layers))
    (pick (ltb w (end_word 0)) (parts [] (p.members ∷ p.equations) p.layers) (parts [] [] [])))

unfoldable pub parts_of : List ℕ → Parts
parts_of [] = parts [] [] []
parts_of (w ∷ ws) = add_word w (parts_of ws)

-- the layers, equations and members that the words say
unfoldable pub table_of : List ℕ → List (List (List ℕ))
table_of ws = (parts_of ws).layers

-- ---- the places of the equations

-- the members that stand in front
unfoldable pub members_of : List ℕ → List ℕ
members_of [] = []
members_of (w ∷ ws) = pick (ltb w (layer_word 0)) (w ∷ members_of ws) []

unfoldable pub opens_equation : ℕ → Bool
opens_equation w = leb (equation_word 0) w && ltb w (end_word 0)

-- where the members of each equation start, in words of which the first is number i
unfoldable pub starts_from : ℕ → List ℕ → List ℕ
starts_from i [] = []
starts_from i (w ∷ ws) = pick (opens_equation w) (suc i ∷ starts_from (suc i) ws) (starts_from (suc i) ws)

-- the index: where the members of each equation start
abbrev pub index_of : List ℕ → List ℕ
index_of ws = starts_from 0 ws

-- what a lent list holds once xs is written to its front
abbrev pub over : List ℕ → List ℕ → List ℕ
over xs lent = xs ++ drop (length xs) lent

-- the equations of all layers above layer j: 3k each, 3 (4 + 8 + ..)
unfoldable pub equations_above : ℕ → ℕ
equations_above j = 3 * (k_of j - k_of 0)

-- the number of equation e of layer j among all equations
unfoldable pub number_in : ℕ → ℕ → ℕ
number_in j e = equations_above j + e

-- starts holds the index of the words of a table of depth d, in front
pub record Indexed (d : ℕ) (ws starts : List ℕ) : Type 0 where
  pub accepted : read_of d ws ≡ Whole
  pub index : take (length (index_of ws)) starts ≡ index_of ws

-- .. and equation e of layer j is one of that table
pub record HasEquation (ws starts : List ℕ) (j e : ℕ) : Type 0 where
  pub depth : ℕ
  pub indexed : Indexed depth ws starts
  pub layer : j < depth
  pub equation : e < 3 * k_of j

-- the members of equation e of layer j are the `size` words from word `at` on
pub record Located (ws : List ℕ) (j e at size : ℕ) : Type 0 where
  pub inside : at + size ≤ length ws
  pub members : take size (drop at ws) ≡ equation_of (table_of ws) j e
