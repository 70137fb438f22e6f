-- A list of words goes to bytes and back unchanged, so a table's bytes say that table.
use mathlib.Core.Path.{◌≡◌, refl, sym, ap, ◌∙◌}
use mathlib.Core.Bool.{Bool, true}
use mathlib.Core.List.{List, [], ◌∷◌, ◌++◌}
use Prim.Native.Nat.{ℕ, zero, suc, ◌+◌, ◌*◌, ◌/◌, ◌%◌, ◌^◌, ◌≤◌, ◌<◌}
use native.Mathlib.Omega.{arith}
use lib.ListN.{length, get_or, take, length-append}
use lib.Seq.{take-suc, take-length}
use lib.Dec.{ltb}
use borrow.Author.Tests.{ltb-true, lt-ltb, le-leb, eq-eqb}
use Rattle.octets.specs.BigEndian.{be, word_at, words, bytes_of}
use Rattle.octets.proofs.Bytes.{be-read, length-bytes_of}
use Rattle.parity_table.specs.Shape.{max_depth, depth_fits, k_of}
use Rattle.parity_table.specs.Members.{every}
use Rattle.parity_table.specs.Table.{TableOk, layer_word, equation_word, end_word, equations_words, layers_words, table_words}
use Rattle.parity_table.specs.Reader.{Whole, read_of}
use Rattle.table_bytes.specs.Bytes.{max_bytes, length_fits, words_of}
use Rattle.parity_table.specs.Parse.{table_of}
use Rattle.octets.proofs.Choice.{and_yes, yes_and}
use Rattle.parity_table.proofs.Chain.{equation_chain, chain_within}
use Rattle.parity_table.proofs.Rules.{EquationsOk, LayersOk, table-layers}
use Rattle.parity_table.proofs.Parse.{table_of-words}
use Rattle.parity_table.proofs.Shape.{depth_is, k_small}
use Rattle.parity_table.proofs.Accepts.{formed-accepted}

-- the words are of 32 bits
abbrev pub Words : List ℕ → Type 0
Words ws = every (λ x. ltb x (2 ^ 32)) ws ≡ true

word_first : (x : ℕ) (b : List ℕ) → x < 2 ^ 32 → word_at (be 4 x ++ b) 0 ≡ x
unfolding word_at be
word_first x b h = be-read x h

past_four : (a b c d : ℕ) (l : List ℕ) (n m : ℕ) → n ≡ 4 + m → get_or (a ∷ b ∷ c ∷ d ∷ l) n 0 ≡ get_or l m 0
past_four a b c d l n m h =
    let e : n ≡ suc (suc (suc (suc m))) = omega arith in
    ap (λ (k : ℕ). get_or (a ∷ b ∷ c ∷ d ∷ l) k 0) e

word_later : (x : ℕ) (b : List ℕ) (i : ℕ) → word_at (be 4 x ++ b) (suc i * 4) ≡ word_at b (i * 4)
unfolding word_at be
word_later x b i =
    let g : (n m : ℕ) → n ≡ 4 + m → get_or (be 4 x ++ b) n 0 ≡ get_or b m 0 = past_four (x / 16777216 % 256) (x / 65536 % 256) (x / 256 % 256) (x / 1 % 256) b in
    omega
    (arith, g (suc i * 4) (i * 4) (omega arith), g (suc i * 4 + 1) (i * 4 + 1) (omega arith), g (suc i * 4 + 2) (i * 4 + 2) (omega arith), g (suc i * 4 + 3) (i * 4 + 3) (omega arith))

-- word number i of the bytes of a list
word_at_lem : (ws : List ℕ) (i : ℕ) → Words ws → i < length ws → word_at (bytes_of ws) (i * 4) ≡ get_or ws i 0
unfolding bytes_of every
word_at_lem [] i s h = absurd (omega arith)
word_at_lem (x ∷ ws) zero s h = word_first x (bytes_of ws) (ltb-true x (2 ^ 32) (and_yes (ltb x (2 ^ 32)) (every (λ x. ltb x (2 ^ 32)) ws) s).0)
word_at_lem (x ∷ ws) (suc i) s h =
    word_later x (bytes_of ws) i ∙ word_at_lem ws i (and_yes (ltb x (2 ^ 32)) (every (λ x. ltb x (2 ^ 32)) ws) s).1 (omega arith)

words_of_lem : (ws : List ℕ) (n : ℕ) → Words ws → n ≤ length ws → words (bytes_of ws) n ≡ take n ws
unfolding words
words_of_lem ws zero s h = refl
words_of_lem ws (suc n) s h =
    ap (λ (l : List ℕ). l ++ (word_at (bytes_of ws) (n * 4) ∷ [])) (words_of_lem ws n s (omega arith))
    ∙ ap (λ (x : ℕ). take n ws ++ (x ∷ [])) (word_at_lem ws n s h)
    ∙ sym (take-suc ws n 0 h)

pub words-bytes : (ws : List ℕ) → Words ws → words_of (bytes_of ws) ≡ ws
unfolding words_of
words-bytes ws s =
    let n : length (bytes_of ws) / 4 ≡ length ws = omega (arith, length-bytes_of ws) in
    ap (words (bytes_of ws)) n ∙ words_of_lem ws (length ws) s (omega arith) ∙ take-length ws

-- as bytes they have a length that fits, where they are not too many
pub bytes_fit : (ws : List ℕ) → length ws * 4 ≤ max_bytes → length_fits (length (bytes_of ws)) ≡ true
unfolding length_fits
bytes_fit ws h =
    let n = length-bytes_of ws in
    yes_and (le-leb (length (bytes_of ws)) max_bytes (omega arith)) (eq-eqb (length (bytes_of ws) % 4) 0 (omega arith))

-- ---- the words of a table are of 32 bits

pub every_append : (p : ℕ → Bool) (xs ys : List ℕ) → every p xs ≡ true → every p ys ≡ true → every p (xs ++ ys) ≡ true
unfolding every
every_append p [] ys a b = b
every_append p (x ∷ xs) ys a b = let (u, v) = and_yes (p x) (every p xs) a in yes_and u (every_append p xs ys v b)

words_append : (xs ys : List ℕ) → Words xs → Words ys → Words (xs ++ ys)
words_append = every_append (λ x. ltb x (2 ^ 32))

words_cons : (x : ℕ) (xs : List ℕ) → x < 2 ^ 32 → Words xs → Words (x ∷ xs)
unfolding every
words_cons x xs h a = yes_and (lt-ltb x (2 ^ 32) h) a

words-equations : (j e : ℕ) (es : List (List ℕ)) → j < max_depth → EquationsOk j e es → e + length es ≤ 3 * k_of j → Words (equations_words e es)
unfolding equations_words every
words-equations j e [] h o n = refl
words-equations j e (ms ∷ es) h o n =
    let k = k_small j h in
    words_cons (equation_word e) (ms ++ equations_words (suc e) es) (omega (arith, k))
    (words_append ms (equations_words (suc e) es) (chain_within 0 (k_of j + e) (2 ^ 32) ms (omega (arith, k)) (equation_chain j e ms o.0))
    (words-equations j (suc e) es h o.1 (omega arith)))

words-layers : (j : ℕ) (ls : List (List (List ℕ))) → j + length ls ≤ max_depth → LayersOk j ls → Words (layers_words j ls)
unfolding layers_words every
words-layers j [] h o = refl
words-layers j (es ∷ ls) h o =
    words_cons (layer_word j) (equations_words 0 es ++ layers_words (suc j) ls) (omega arith)
    (words_append (equations_words 0 es) (layers_words (suc j) ls) (words-equations j 0 es (omega arith) o.1 (omega (arith, o.0)))
    (words-layers (suc j) ls (omega arith) o.2))

pub table-words : (d : ℕ) (tbl : List (List (List ℕ))) → TableOk d tbl → d ≤ max_depth → length (table_words tbl) ≤ 2 ^ 30 → Words (table_words tbl)
unfolding table_words every
table-words d tbl o h n =
    let m = length (layers_words 0 tbl) in
    words_append (layers_words 0 tbl) (end_word m ∷ []) (words-layers 0 tbl (omega (arith, o.depth)) (table-layers d tbl o))
    (words_cons (end_word m) [] (omega (arith, length-append (layers_words 0 tbl) (end_word m ∷ []))) refl)

-- a table by the rules that isn't too long has a length that fits as bytes; they say that table, and their words are accepted
module _ (d : ℕ) (tbl : List (List (List ℕ))) (o : TableOk d tbl) (t : depth_fits d ≡ true) (short : length (table_words tbl) * 4 ≤ max_bytes) where
  table-word : Words (table_words tbl)
  table-word = table-words d tbl o (depth_is d t).1 (omega arith)

  pub table-bytes_fit : length_fits (length (bytes_of (table_words tbl))) ≡ true
  table-bytes_fit = bytes_fit (table_words tbl) short

  pub table-bytes-accepted : read_of d (words_of (bytes_of (table_words tbl))) ≡ Whole
  table-bytes-accepted =
      ap (read_of d) (words-bytes (table_words tbl) table-word) ∙ formed-accepted d (table_words tbl) t (record { table = tbl; rules = o; written = refl })

  pub table-bytes_say : table_of (words_of (bytes_of (table_words tbl))) ≡ tbl
  table-bytes_say = ap table_of (words-bytes (table_words tbl) table-word) ∙ table_of-words d tbl o (depth_is d t).1
