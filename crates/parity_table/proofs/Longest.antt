-- The fullest table of a depth is well-formed, no well-formed table of that depth has more words, and how many it has.
use mathlib.Core.Path.{◌≡◌, refl, ap}
use mathlib.Core.List.{List, [], ◌∷◌, ◌++◌}
use Prim.Native.Nat.{ℕ, zero, suc, ◌+◌, ◌-◌, ◌*◌, ◌≤◌, ◌<◌, min}
use native.Mathlib.Nat.{add-zero}
use native.Mathlib.Omega.{arith}
use lib.ListN.{length, length-append}
use Rattle.parity_table.specs.Shape.{k_of}
use Rattle.parity_table.specs.Table.{EquationOk, TableOk, equations_words, layers_words, table_words, WellFormed}
use Rattle.parity_table.specs.Parse.{equations_above}
use Rattle.parity_table.specs.Longest.{numbers_from, full_equation, full_equations, full_layers, full_table, longest}
use Rattle.parity_table.proofs.Shape.{k_zero, k_pos, k_grows, k_double}
use Rattle.parity_table.proofs.Chain.{Chain, chain_cons, equation_chain, chain_equation}
use Rattle.parity_table.proofs.Rules.{EquationsOk, LayersOk, layers-table, table-layers}

-- ---- the fullest table is well-formed

numbers_length : (lo n : ℕ) → length (numbers_from lo n) ≡ n
unfolding numbers_from
numbers_length lo zero = refl
numbers_length lo (suc n) = ap suc (numbers_length (suc lo) n)

-- numbers from lo on, and then z above them
numbers_chain : (lo n z : ℕ) → lo + n ≤ z → Chain lo z (numbers_from lo n ++ (z ∷ []))
unfolding numbers_from
numbers_chain lo zero z h = (omega arith, refl)
numbers_chain lo (suc n) z h =
    chain_cons lo lo z (numbers_from (suc lo) n ++ (z ∷ [])) (omega arith) (numbers_chain (suc lo) n z (omega arith))

-- how many members a full equation has
full-members : (j e : ℕ) → length (full_equation j e) ≡ min 7 (k_of j + e) + 1
unfolding full_equation
full-members j e =
    let n = min 7 (k_of j + e) in omega (arith, length-append (numbers_from 0 n) ((k_of j + e) ∷ []), numbers_length 0 n)

full-equation : (j e : ℕ) → EquationOk j e (full_equation j e)
unfolding full_equation
full-equation j e =
    chain_equation j e (full_equation j e) (numbers_chain 0 (min 7 (k_of j + e)) (k_of j + e) (omega arith))
    (omega (arith, full-members j e, k_pos j)) (omega (arith, full-members j e))

full-equations : (j e n : ℕ) → EquationsOk j e (full_equations j e n)
unfolding full_equations
full-equations j e zero = tt
full-equations j e (suc n) = (full-equation j e, full-equations j (suc e) n)

full-count : (j e n : ℕ) → length (full_equations j e n) ≡ n
unfolding full_equations
full-count j e zero = refl
full-count j e (suc n) = ap suc (full-count j (suc e) n)

full-layers : (j n : ℕ) → LayersOk j (full_layers j n)
unfolding full_layers
full-layers j zero = tt
full-layers j (suc n) = (full-count j 0 (3 * k_of j), full-equations j 0 (3 * k_of j), full-layers (suc j) n)

full-depth : (j n : ℕ) → length (full_layers j n) ≡ n
unfolding full_layers
full-depth j zero = refl
full-depth j (suc n) = ap suc (full-depth (suc j) n)

-- the fullest table keeps the rules
pub full-rules : (d : ℕ) → TableOk d (full_table d)
unfolding full_table
full-rules d = layers-table d (full_table d) (full-depth 0 d) (full-layers 0 d)

pub full-formed : (d : ℕ) → WellFormed d (table_words (full_table d))
full-formed d = record { table = full_table d; rules = full-rules d; written = refl }

-- ---- none is longer

-- from lo to z there are no more numbers than this
chain_length : (lo z : ℕ) (xs : List ℕ) → Chain lo z xs → lo + length xs ≤ z + 1
chain_length lo z [] c = absurd c
chain_length lo z (x ∷ []) c = omega arith
chain_length lo z (x ∷ y ∷ ys) c = omega (arith, chain_length (suc x) z (y ∷ ys) c.1)

-- no equation has more members than the full one
members-most : (j e : ℕ) (ms : List ℕ) → EquationOk j e ms → length ms ≤ length (full_equation j e)
members-most j e ms o = omega (arith, o.few, full-members j e, chain_length 0 (k_of j + e) ms (equation_chain j e ms o))

-- how many words n full equations of layer j have, the first being equation e
abbrev equations_size : ℕ → ℕ → ℕ → ℕ
equations_size j e n = length (equations_words e (full_equations j e n))

equations-more : (j e n : ℕ) → equations_size j e (suc n) ≡ 1 + length (full_equation j e) + equations_size j (suc e) n
unfolding equations_words full_equations
equations-more j e n = omega (arith, length-append (full_equation j e) (equations_words (suc e) (full_equations j (suc e) n)))

-- no equations have more words than as many full ones
equations-most : (j e : ℕ) (es : List (List ℕ)) → EquationsOk j e es → length (equations_words e es) ≤ equations_size j e (length es)
unfolding equations_words
equations-most j e [] o = omega arith
equations-most j e (ms ∷ es) o =
    omega
    (arith, length-append ms (equations_words (suc e) es), members-most j e ms o.0, equations-most j (suc e) es o.1, equations-more j e (length es))

-- how many words n full layers have, the first being layer j
abbrev layers_size : ℕ → ℕ → ℕ
layers_size j n = length (layers_words j (full_layers j n))

layers-more : (j n : ℕ) → layers_size j (suc n) ≡ 1 + equations_size j 0 (3 * k_of j) + layers_size (suc j) n
unfolding layers_words full_layers
layers-more j n = omega (arith, length-append (equations_words 0 (full_equations j 0 (3 * k_of j))) (layers_words (suc j) (full_layers (suc j) n)))

-- no layers have more words than as many full ones
layers-most : (j : ℕ) (ls : List (List (List ℕ))) → LayersOk j ls → length (layers_words j ls) ≤ layers_size j (length ls)
unfolding layers_words
layers-most j [] o = omega arith
layers-most j (es ∷ ls) o =
    omega
    (arith, length-append (equations_words 0 es) (layers_words (suc j) ls), equations-most j 0 es o.1, ap (equations_size j 0) o.0, layers-most (suc j) ls o.2, layers-more j (length ls))

table-length : (tbl : List (List (List ℕ))) → length (table_words tbl) ≡ length (layers_words 0 tbl) + 1
unfolding table_words
table-length tbl = length-append (layers_words 0 tbl) _

longest-layers : (d : ℕ) → longest d ≡ layers_size 0 d + 1
unfolding longest full_table
longest-layers d = table-length (full_table d)

-- no well-formed table has more words than the fullest
pub none_longer : (d : ℕ) (ws : List ℕ) → WellFormed d ws → length ws ≤ longest d
none_longer d ws f =
    let tbl = f.table in
    omega
    (arith, ap length f.written, table-length tbl, layers-most 0 tbl (table-layers d tbl f.rules), ap (layers_size 0) f.rules.depth, longest-layers d)

-- ---- how many words the fullest has

-- from where an equation has seven numbers below its last, each has nine words
equations-size : (j e n : ℕ) → 7 ≤ k_of j + e → equations_size j e n ≡ 9 * n
unfolding equations_words full_equations
equations-size j e zero h = refl
equations-size j e (suc n) h = omega (arith, equations-more j e n, full-members j e, equations-size j (suc e) n (omega arith))

-- below the top each layer has nine words for an equation, and one more
layers-size : (j n : ℕ) → 7 ≤ k_of j → layers_size j n + 27 * k_of j ≡ 27 * k_of (j + n) + n
unfolding layers_words full_layers
layers-size j zero h = omega (arith, ap k_of (add-zero j))
layers-size j (suc n) h =
    let same : k_of (j + suc n) ≡ k_of (suc j + n) = ap k_of (omega arith) in
    omega (arith, layers-more j n, equations-size j 0 (3 * k_of j) (omega arith), layers-size (suc j) n (omega (arith, k_double j)), k_double j)

-- at the top three equations have fewer than eight members: 5, 6 and 7
top-size : equations_size 0 0 (3 * k_of 0) ≡ 102
unfolding equations_words full_equations full_equation numbers_from k_of
top-size = refl

-- nine words for each equation, one for each layer and the end word, but for six at the top
pub longest-is : (d : ℕ) → 1 ≤ d → longest d + 6 ≡ 9 * equations_above d + d + 1
unfolding equations_above
longest-is zero h = absurd (omega arith)
longest-is (suc d) h =
    let same : k_of (1 + d) ≡ k_of (suc d) = ap k_of (omega arith) in
    omega
    (arith, longest-layers (suc d), layers-more 0 d, top-size, layers-size 1 d (omega (arith, k_double 0, k_zero)), k_double 0, k_zero, k_grows 1 d)

-- the longest table of a deeper tree is no shorter
pub longest_grows : (a b : ℕ) → 1 ≤ a → a ≤ b → longest a ≤ longest b
unfolding equations_above
longest_grows a b h g =
    let same : k_of (a + (b - a)) ≡ k_of b = ap k_of (omega arith) in
    omega (arith, longest-is a h, longest-is b (omega arith), k_grows a (b - a))

-- so a buffer with that many words, for depth b, has more than any table of a depth up to b
pub longest-room : (d b w : ℕ) → 1 ≤ d → d ≤ b → 9 * equations_above b + b + 1 ≤ w → longest d < w
longest-room d b w h g r = omega (arith, longest_grows d b h g, longest-is b (omega arith))

pub longest_nine : longest 9 ≡ 55192
unfolding equations_above k_of
longest_nine = omega (arith, longest-is 9 (omega arith))

pub longest_five : longest 5 ≡ 3348
unfolding equations_above k_of
longest_five = omega (arith, longest-is 5 (omega arith))
