-- What the test of a table's coverage answers, as a definition that computes. Its answer is the right one by `Covered` and `FirstUncovered` of
-- parity_table, and no other is: `coverage_right`, `right_unique` of proofs/Right.antt. Definitions only.
use Rattle.std.specs.Prelude.{Bool, List, [], ◌∷◌, ℕ, ◌+◌, ltb, eqb, Result, Ok, Err}
use Rattle.octets.specs.Choice.{pick}
use Rattle.parity_table.specs.Shape.{k_of}
use Rattle.parity_table.specs.Table.{layer_of}
use Rattle.parity_table.specs.Coverage as told
use Rattle.model.specs.Symbols.{count, lowest}
use Rattle.coverage.specs.declared.Uncovered.{Uncovered}

-- ---- what is found of a table

abbrev pub Coverage : Type 0
Coverage = Result Unit Uncovered

abbrev pub Covered : Coverage
Covered = Ok tt

-- the first layer with a data symbol in fewer than two of its equations, and the lowest such symbol
abbrev pub UncoveredAt : ℕ → ℕ → Coverage
UncoveredAt j i = Err (record { layer = j; symbol = i })

-- ---- what the test computes

-- how often number i is a member of these equations
unfoldable pub times : ℕ → List (List ℕ) → ℕ
times i [] = 0
times i (ms ∷ es) = count (λ x. eqb x i) ms + times i es

-- the lowest data symbol of layer j that is a member of fewer than two of its equations, k where there is none
unfoldable pub lowest_thin : List (List (List ℕ)) → ℕ → ℕ
lowest_thin tbl j = lowest (λ i. ltb (times i (layer_of tbl j)) 2) 0 (k_of j)

unfoldable pub has_thin : List (List (List ℕ)) → ℕ → Bool
has_thin tbl j = ltb (lowest_thin tbl j) (k_of j)

-- the first layer that has such a symbol, d where there is none
unfoldable pub first_thin : ℕ → List (List (List ℕ)) → ℕ
first_thin d tbl = lowest (has_thin tbl) 0 d

unfoldable pub coverage_of : ℕ → List (List (List ℕ)) → Coverage
coverage_of d tbl = pick (ltb (first_thin d tbl) d) (UncoveredAt (first_thin d tbl) (lowest_thin tbl (first_thin d tbl))) Covered

-- what is right of an answer
abbrev pub Right : ℕ → List (List (List ℕ)) → Coverage → Type 0
Right d tbl (Ok _) = told.Covered d tbl
Right d tbl (Err u) = told.FirstUncovered d tbl u.layer u.symbol
