-- The house table's words, part after part as they are written.
use mathlib.Core.Path.{◌≡◌, refl, sym, ap, ◌∙◌}
use mathlib.Core.List.{List, [], ◌∷◌, ◌++◌, append_assoc}
use Prim.Native.Nat.{ℕ, zero, suc, ◌+◌, ◌-◌, ◌*◌, ◌%◌, ◌^◌, ◌≤◌, ◌<◌, min, max}
use native.Mathlib.Nat.{add-zero}
use native.Mathlib.Numerals.{add-one}
use native.Mathlib.Omega.{arith}
use lib.ListN.{length, set, length-set, length-append}
use lib.Seq.{sets}
use lib.Dec.{eqb}
use lib.Pow.{pow_mono}
use borrow.Author.Tests.{eq-eqb, ne_eqb}
use mathlib.Core.Bool.{true, false}
use Rattle.octets.specs.Choice.{pick}
use Rattle.parity_table.specs.Reader.{Answer, Depth, Length, Wrong, Whole}
use Rattle.parity_table.specs.Shape.{max_depth, depth_fits, k_of}
use Rattle.parity_table.specs.Table.{word, equations_words, layers_words, table_words}
use Rattle.house_table.specs.House.{data_one, data_two, house_equation, house_equations, house_layers, house_table, house_words, house_row, house_layer, house_answer}
use Rattle.octets.proofs.Choice.{pick_yes, pick_no, pick_ind}
use Rattle.parity_table.proofs.Shape.{shift_is, shift_small}
use Rattle.house_table.proofs.HouseRules.{house-count}
use Rattle.octets.proofs.Writes.{Putting, sets-whole}

-- ---- a row

pub row_first : (k e l h : ℕ) → e ≡ 0 → l ≡ min (data_one k e) (data_two k e) → h ≡ max (data_one k e) (data_two k e)
    → (word 2 e ∷ l ∷ h ∷ k ∷ []) ≡ house_row k e
unfolding house_equation
row_first k zero l h q a b =
    ap (λ (n : ℕ). word 2 0 ∷ n ∷ h ∷ k ∷ []) a
    ∙ ap (λ (n : ℕ). word 2 0 ∷ min (data_one k 0) (data_two k 0) ∷ n ∷ k ∷ []) b
    ∙ ap (λ (n : ℕ). word 2 0 ∷ min (data_one k 0) (data_two k 0) ∷ max (data_one k 0) (data_two k 0) ∷ n ∷ []) (sym (add-zero k))
row_first k (suc e) l h q a b = absurd (omega arith)

pub row_later : (k e l h : ℕ) → (e ≡ 0 → ⊥) → l ≡ min (data_one k e) (data_two k e) → h ≡ max (data_one k e) (data_two k e)
    → (word 2 e ∷ l ∷ h ∷ (k + e - 1) ∷ (k + e) ∷ []) ≡ house_row k e
unfolding house_equation
row_later k zero l h q a b = absurd (q refl)
row_later k (suc e) l h q a b =
    ap (λ (n : ℕ). word 2 (suc e) ∷ n ∷ h ∷ (k + suc e - 1) ∷ (k + suc e) ∷ []) a
    ∙ ap (λ (n : ℕ). word 2 (suc e) ∷ min (data_one k (suc e)) (data_two k (suc e)) ∷ n ∷ (k + suc e - 1) ∷ (k + suc e) ∷ []) b
    ∙ ap
    (λ (n : ℕ). word 2 (suc e) ∷ min (data_one k (suc e)) (data_two k (suc e)) ∷ max (data_one k (suc e)) (data_two k (suc e)) ∷ n ∷ (k + suc e) ∷ [])
    (omega arith)

pub row_short : (k e : ℕ) → 4 ≤ length (house_row k e)
unfolding house_equation
row_short k zero = omega arith
row_short k (suc e) = omega arith

pub four : (o : List ℕ) (i a b c d : ℕ) → set (set (set (set o i a) (i + 1) b) (i + 2) c) (i + 3) d ≡ sets o i (a ∷ b ∷ c ∷ d ∷ [])
four o i a b c d =
    ap (λ (n : ℕ). set (set (set (set o i a) n b) (i + 2) c) (i + 3) d) (omega arith)
    ∙ ap (λ (n : ℕ). set (set (set (set o i a) (suc i) b) n c) (i + 3) d) (omega arith)
    ∙ ap (λ (n : ℕ). set (set (set (set o i a) (suc i) b) (suc (suc i)) c) n d) (omega arith)

-- ---- what is left of a layer, and of the table

abbrev pub rows_left : ℕ → ℕ → List ℕ
rows_left k e = equations_words e (house_equations k e (3 * k - e))

pub rows_turn : (k e : ℕ) → e < 3 * k → rows_left k e ≡ house_row k e ++ rows_left k (e + 1)
unfolding equations_words house_equations
rows_turn k e h =
    let n : 3 * k - e ≡ suc (3 * k - suc e) = omega arith in
    ap (λ (n : ℕ). equations_words e (house_equations k e n)) n
    ∙ ap (λ (m : ℕ). house_row k e ++ rows_left k m) (sym (add-one e))

pub rows_none : (k e : ℕ) → 3 * k ≤ e → rows_left k e ≡ []
unfolding equations_words house_equations
rows_none k e h = let n : 3 * k - e ≡ 0 = omega arith in ap (λ (n : ℕ). equations_words e (house_equations k e n)) n

abbrev pub layers_left : ℕ → ℕ → List ℕ
layers_left d j = layers_words j (house_layers j (d - j)) ++ (word 3 (length (layers_words 0 (house_layers 0 d))) ∷ [])

pub layers-turn : (d j : ℕ) → j < d → layers_left d j ≡ house_layer j (k_of j) ++ layers_left d (j + 1)
unfolding layers_words house_layers
layers-turn d j h =
    let n : d - j ≡ suc (d - suc j) = omega arith in
    ap (λ (n : ℕ). layers_words j (house_layers j n) ++ (word 3 (length (layers_words 0 (house_layers 0 d))) ∷ [])) n
    ∙ append_assoc (house_layer j (k_of j)) (layers_words (suc j) (house_layers (suc j) (d - suc j)))
    (word 3 (length (layers_words 0 (house_layers 0 d))) ∷ [])
    ∙ ap (λ (m : ℕ). house_layer j (k_of j) ++ layers_left d m) (sym (add-one j))

layers-end : (d j : ℕ) → d ≤ j → layers_left d j ≡ word 3 (length (layers_words 0 (house_layers 0 d))) ∷ []
unfolding layers_words house_layers
layers-end d j h =
    let n : d - j ≡ 0 = omega arith in
    ap (λ (n : ℕ). layers_words j (house_layers j n) ++ (word 3 (length (layers_words 0 (house_layers 0 d))) ∷ [])) n

pub layers-all : (d : ℕ) → layers_left d 0 ≡ house_words d
unfolding house_words house_table table_words
layers-all d = ap (λ (n : ℕ). layers_words 0 (house_layers 0 n) ++ (word 3 (length (layers_words 0 (house_layers 0 d))) ∷ [])) (omega arith)

-- ---- a layer

pub rows_all : (k : ℕ) → rows_left k 0 ≡ equations_words 0 (house_equations k 0 (3 * k))
rows_all k = ap (λ (n : ℕ). equations_words 0 (house_equations k 0 n)) (omega arith)

-- the rows of a layer have room behind its opener
pub rows_room : (o : List ℕ) (at j k w : ℕ) → at + length (house_layer j k) ≤ length o → at + 1 + length (rows_left k 0) ≤ length (set o at w)
rows_room o at j k w h = omega (arith, length-set o at w, ap length (rows_all k))

-- a layer is its opener and its rows
pub layer-whole : (o : List ℕ) (at j k : ℕ) → sets (set o at (word 1 j)) (at + 1) (rows_left k 0) ≡ sets o at (house_layer j k)
layer-whole o at j k =
    ap (λ (n : ℕ). sets (set o at (word 1 j)) n (rows_left k 0)) (add-one at) ∙ ap (sets (set o at (word 1 j)) (suc at)) (rows_all k)

-- ---- the whole table

pub size_is : (d : ℕ) → d ≤ max_depth → 60 * ((1 * 2 ^ d) % 18446744073709551616 - 1) + 1 ≡ length (house_words d)
size_is d h = omega (arith, shift_is d h, house-count d)

pub layers-room : (d : ℕ) (o : List ℕ) → length o ≡ length (house_words d) → 0 + length (layers_left d 0) ≤ length o
layers-room d o h = omega (arith, ap length (layers-all d))

pub record Closed (d : ℕ) (o : List ℕ) (i : ℕ) : Type 0 where
  pub inside : i < length o
  pub last : i + 1 ≡ length (house_words d)
  pub whole : set o i (word 3 i) ≡ house_words d

-- the end word closes the table
pub closed : (d j : ℕ) (o₀ o : List ℕ) (i : ℕ) → d ≤ j → length o₀ ≡ length (house_words d) → Putting o₀ 0 (layers_left d 0) o i (layers_left d j)
    → Closed d o i
unfolding house_words house_table table_words
closed d j o₀ o i h q p =
    let L : ℕ = length (layers_words 0 (house_layers 0 d)) in
    let E = layers-end d j h in
    let A = layers-all d in
    let at : i ≡ L = omega (arith, p.ends, ap length E, ap length A, length-append (layers_words 0 (house_layers 0 d)) (word 3 L ∷ [])) in
    record {
      inside = omega (arith, p.long, p.ends, ap length E, ap length A);
      last = omega (arith, p.ends, ap length E, ap length A);
      whole =
          ap (λ (n : ℕ). set o i (word 3 n)) at
          ∙ ap (sets o i) (sym E)
          ∙ p.gives
          ∙ sets-whole (layers_left d 0) o₀ (q ∙ ap length (sym A))
          ∙ A;
    }

-- ---- the writer's answer

pub answer-depth : (d n m : ℕ) → depth_fits d ≡ false → Depth ≡ house_answer d n m
unfolding house_answer
answer-depth d n m t = sym (pick_no (depth_fits d) _ _ t)

answer_by : (d n m : ℕ) → depth_fits d ≡ true → house_answer d n m ≡ pick (eqb n m) Whole Length
unfolding house_answer
answer_by d n m t = pick_yes (depth_fits d) _ _ t

pub answer-length : (d n m : ℕ) → depth_fits d ≡ true → (n ≡ m → ⊥) → Length ≡ house_answer d n m
answer-length d n m t q = sym (answer_by d n m t ∙ pick_no (eqb n m) Whole Length (ne_eqb n m q))

pub answer-whole : (d n m : ℕ) → depth_fits d ≡ true → n ≡ m → Whole ≡ house_answer d n m
answer-whole d n m t q = sym (answer_by d n m t ∙ pick_yes (eqb n m) Whole Length (eq-eqb n m q))

-- the house table has few words
pub house_small : (d : ℕ) → d ≤ max_depth → length (house_words d) ≤ 60 * (2 ^ max_depth - 1) + 1
house_small d h = omega (arith, size_is d h, shift_small d h)

-- .. no more than one of depth b, where its depth is at most that
pub house-room : (d b : ℕ) → (depth_fits d ≡ true → d ≤ b) → b ≤ max_depth → depth_fits d ≡ true → length (house_words d) ≤ 60 * (2 ^ b - 1) + 1
house-room d b up_to_lem h f =
    let g = up_to_lem f in
    let p : 2 ^ d ≤ 2 ^ b = pow_mono {i = d} {j = b} g in
    omega (arith, size_is d (omega arith), shift_is d (omega arith))

pub answer_not_wrong : (d n m i : ℕ) → house_answer d n m ≡ Wrong i → ⊥
unfolding house_answer
answer_not_wrong d n m i =
    pick_ind (λ (a : Answer). a ≡ Wrong i → ⊥) (depth_fits d)
    (λ t. pick_ind (λ (a : Answer). a ≡ Wrong i → ⊥) (eqb n m) (λ u q. let z : ◌≡◌ {A = ℕ} 0 1 = cc in omega arith) (λ u q. let z : ◌≡◌ {A = ℕ} 0 1 = cc in omega arith))
    (λ t q. let z : ◌≡◌ {A = ℕ} 0 1 = cc in omega arith)
