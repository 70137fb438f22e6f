-- The house table is well-formed at every depth, and has 5·12·(2^d - 1) + 1 words.
use mathlib.Core.Path.{◌≡◌, refl, sym, ap, ◌∙◌}
use mathlib.Core.List.{List, [], ◌∷◌}
use Prim.Native.Nat.{ℕ, zero, suc, ◌+◌, ◌-◌, ◌*◌, ◌/◌, ◌%◌, ◌^◌, ◌≤◌, ◌<◌, min, max}
use native.Mathlib.Nat.{add-zero, zero-add, mod-lt, mod-eq_of_lt, mod-eq-sub-mod, mod-add-div, add-mul-mod_self_left, div-lt_iff_lt-mul}
use native.Mathlib.Omega.{arith}
use lib.ListN.{length, get_or, length-append}
use lib.Dec.{ltb}
use borrow.Author.Tests.{ltb-true, ltb-false}
use Rattle.parity_table.specs.Shape.{max_depth, k_of}
use Rattle.parity_table.specs.Parse.{table_of}
use Rattle.octets.proofs.Choice.{by_test}
use Rattle.parity_table.specs.Table.{layer_of, equation_of, word, EquationOk, TableOk, equations_words, layers_words, table_words, WellFormed}
use Rattle.house_table.specs.House.{data_one, data_two, house_equation, house_equations, house_layers, house_table, house_words}
use Rattle.parity_table.proofs.Rules.{EquationsOk, LayersOk, layers-table}
use Rattle.parity_table.proofs.Chain.{Chain, chain_equation}
use Rattle.parity_table.proofs.Shape.{k_pos, k_double}
use Rattle.parity_table.proofs.Parse.{table_of-words}

-- the two data members differ
module _ (k e : ℕ) (big : 4 ≤ k) (small : e < 3 * k) where
  few : e / k < 3
  few = (div-lt_iff_lt-mul {k = k} {x = e} {y = 3} (omega arith)).1 small

  second : data_two k e ≡ (e % k + 1 + e / k) % k
  second =
      ap (λ (n : ℕ). n % k) (omega (arith, mod-add-div e k))
      ∙ add-mul-mod_self_left (e % k + 1 + e / k) k (e / k)

  pub data_differ : data_one k e ≡ data_two k e → ⊥
  data_differ q =
      by_test (ltb (e % k + 1 + e / k) k)
      (λ t. omega (arith, second, mod-eq_of_lt {n = e % k + 1 + e / k} {m = k} (ltb-true (e % k + 1 + e / k) k t)))
      (λ t.
      let r : e % k < k = mod-lt e (omega arith) in
      let f = few in
      let g : k ≤ e % k + 1 + e / k = ltb-false (e % k + 1 + e / k) k t in
      let l : e % k + 1 + e / k - k < k = omega arith in
      omega (arith, second, mod-eq-sub-mod {n = e % k + 1 + e / k} {m = k} g, mod-eq_of_lt {n = e % k + 1 + e / k - k} {m = k} l))

  one_lt : data_one k e < k
  one_lt = mod-lt e (omega arith)

  two_lt : data_two k e < k
  two_lt = mod-lt (e + 1 + e / k) (omega arith)

  pub low_high : min (data_one k e) (data_two k e) < max (data_one k e) (data_two k e)
  low_high = by_test (ltb (data_one k e) (data_two k e))
      (λ t. omega (arith, ltb-true (data_one k e) (data_two k e) t))
      (λ t. by_test (ltb (data_two k e) (data_one k e)) (λ u. omega (arith, ltb-true (data_two k e) (data_one k e) u))
      (λ u. absurd (data_differ (omega (arith, ltb-false (data_one k e) (data_two k e) t, ltb-false (data_two k e) (data_one k e) u)))))

  pub high_lt : max (data_one k e) (data_two k e) < k
  high_lt = omega (arith, one_lt, two_lt)

house_chain : (k e : ℕ) → 4 ≤ k → e < 3 * k → Chain 0 (k + e) (house_equation k e)
unfolding house_equation
house_chain k zero big small = (omega arith, (low_high k 0 big small, (omega (arith, high_lt k 0 big small), refl)))
house_chain k (suc e) big small =
    (omega arith, (low_high k (suc e) big small, (omega (arith, high_lt k (suc e) big small), (omega arith, refl))))

house-length : (k e : ℕ) → length (house_equation k (suc e)) ≡ 4
unfolding house_equation
house-length k e = refl

house-first : (k : ℕ) → length (house_equation k 0) ≡ 3
unfolding house_equation
house-first k = refl

house-equation : (j e : ℕ) → e < 3 * k_of j → EquationOk j e (house_equation (k_of j) e)
house-equation j zero h =
    chain_equation j 0 (house_equation (k_of j) 0) (house_chain (k_of j) 0 (k_pos j) h) (omega (arith, house-first (k_of j)))
    (omega (arith, house-first (k_of j)))
house-equation j (suc e) h =
    chain_equation j (suc e) (house_equation (k_of j) (suc e)) (house_chain (k_of j) (suc e) (k_pos j) h) (omega (arith, house-length (k_of j) e)) (omega (arith, house-length (k_of j) e))

house-equations : (j e n : ℕ) → e + n ≡ 3 * k_of j → EquationsOk j e (house_equations (k_of j) e n)
unfolding house_equations
house-equations j e zero h = tt
house-equations j e (suc n) h = (house-equation j e (omega arith), house-equations j (suc e) n (omega arith))

equations-count : (k e n : ℕ) → length (house_equations k e n) ≡ n
unfolding house_equations
equations-count k e zero = refl
equations-count k e (suc n) = ap suc (equations-count k (suc e) n)

house-layers : (j n : ℕ) → LayersOk j (house_layers j n)
unfolding house_layers
house-layers j zero = tt
house-layers j (suc n) = (equations-count (k_of j) 0 (3 * k_of j), house-equations j 0 (3 * k_of j) (omega arith), house-layers (suc j) n)

layers-count : (j n : ℕ) → length (house_layers j n) ≡ n
unfolding house_layers
layers-count j zero = refl
layers-count j (suc n) = ap suc (layers-count (suc j) n)

-- the house table is by the rules, and well-formed, at every depth
pub house-rules : (d : ℕ) → TableOk d (house_table d)
unfolding house_table
house-rules d = layers-table d (house_layers 0 d) (layers-count 0 d) (house-layers 0 d)

pub house-words_of : (d : ℕ) → house_words d ≡ table_words (house_table d)
unfolding house_words
house-words_of d = refl

pub house-formed : (d : ℕ) → WellFormed d (house_words d)
unfolding house_words
house-formed d = record { table = house_table d; rules = house-rules d; written = refl }

-- ---- the number of words

words_later : (k e n : ℕ) → length (equations_words (suc e) (house_equations k (suc e) n)) ≡ 5 * n
unfolding equations_words house_equations
words_later k e zero = refl
words_later k e (suc n) =
    omega
    (arith, length-append (house_equation k (suc e)) (equations_words (suc (suc e)) (house_equations k (suc (suc e)) n)), house-length k e, words_later k (suc e) n)

words-layer : (k n : ℕ) → length (equations_words 0 (house_equations k 0 (suc n))) ≡ 5 * n + 4
unfolding equations_words house_equations
words-layer k n = omega (arith, length-append (house_equation k 0) (equations_words 1 (house_equations k 1 n)), house-first k, words_later k 0 n)

words-all : (k m : ℕ) → 0 < m → length (equations_words 0 (house_equations k 0 m)) + 1 ≡ 5 * m
words-all k zero h = absurd (omega arith)
words-all k (suc n) h = omega (arith, words-layer k n)

words-layers : (j n : ℕ) → length (layers_words j (house_layers j n)) + 15 * k_of j ≡ 15 * k_of (j + n)
unfolding layers_words house_layers
words-layers j zero = omega (arith, ap (λ (x : ℕ). k_of x) (add-zero j))
words-layers j (suc n) =
    let same : k_of (j + suc n) ≡ k_of (suc j + n) = ap k_of (omega arith) in
    let four = k_pos j in
    omega (
      arith,
      words-all (k_of j) (3 * k_of j) (omega arith),
      words-layers (suc j) n,
      k_double j,
      length-append (equations_words 0 (house_equations (k_of j) 0 (3 * k_of j))) (layers_words (suc j) (house_layers (suc j) n)),
    )

pub house-count : (d : ℕ) → length (house_words d) ≡ 5 * 12 * (2 ^ d - 1) + 1
unfolding house_words house_table table_words k_of
house-count d =
    omega (
      arith,
      length-append (layers_words 0 (house_layers 0 d)) (word 3 (length (layers_words 0 (house_layers 0 d))) ∷ []),
      words-layers 0 d,
      lib.Pow.pow_pos d,
      ap (λ (x : ℕ). 2 ^ x) (zero-add d),
    )

-- ---- the members of each equation

equation_in : (k e n q : ℕ) → q < n → get_or (house_equations k e n) q [] ≡ house_equation k (e + q)
unfolding house_equations
equation_in k e zero q h = absurd (omega arith)
equation_in k e (suc n) zero h = ap (house_equation k) (sym (add-zero e))
equation_in k e (suc n) (suc q) h = equation_in k (suc e) n q (omega arith) ∙ ap (house_equation k) (omega arith)

layer_in : (j n t : ℕ) → t < n → get_or (house_layers j n) t [] ≡ house_equations (k_of (j + t)) 0 (3 * k_of (j + t))
unfolding house_layers
layer_in j zero t h = absurd (omega arith)
layer_in j (suc n) zero h = ap (λ (i : ℕ). house_equations (k_of i) 0 (3 * k_of i)) (sym (add-zero j))
layer_in j (suc n) (suc t) h =
    layer_in (suc j) n t (omega arith) ∙ ap (λ (i : ℕ). house_equations (k_of i) 0 (3 * k_of i)) (omega arith)

-- equation e of layer j has the members that the formula names
pub house-members : (d j e : ℕ) → j < d → e < 3 * k_of j → equation_of (house_table d) j e ≡ house_equation (k_of j) e
unfolding equation_of layer_of house_table
house-members d j e h g =
    ap (λ (l : List (List ℕ)). get_or l e [])
    (layer_in 0 d j h ∙ ap (λ (i : ℕ). house_equations (k_of i) 0 (3 * k_of i)) (zero-add j))
    ∙ equation_in (k_of j) 0 (3 * k_of j) e g
    ∙ ap (house_equation (k_of j)) (zero-add e)

-- its words say the table
pub house_parsed : (d : ℕ) → d ≤ max_depth → table_of (house_words d) ≡ house_table d
unfolding house_words
house_parsed d h = table_of-words d (house_table d) (house-rules d) h
