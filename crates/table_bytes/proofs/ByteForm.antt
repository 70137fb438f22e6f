-- Words as bytes and back: the loops between the two forms, and the tests of a length.
use mathlib.Core.Path.{◌≡◌, refl, sym, ap, ◌∙◌}
use mathlib.Core.Bool.{true}
use mathlib.Core.List.{List, [], ◌∷◌, ◌++◌, append_assoc, append-nil}
use Prim.Native.Nat.{ℕ, zero, suc, ◌+◌, ◌*◌, ◌/◌, ◌%◌, ◌≤◌, ◌<◌, min}
use native.Mathlib.Numerals.{add-one}
use native.Mathlib.Decide.{dec_lt}
use native.Mathlib.Omega.{arith}
use lib.ListN.{length, get_or, take, drop, set, drop_of_length-le}
use lib.Seq.{drop-cons, set-append_seam, take_all, take-append_seam, take_at, take-take}
use lib.Dec.{leb, eqb}
use borrow.Author.Tests.{eqb-false, eqb-true, leb-true}
use Rattle.octets.specs.BigEndian.{be, word_at, words, bytes_of}
use Rattle.octets.proofs.Bytes.{length-words}
use Rattle.parity_table.specs.Parse.{over}
use Rattle.table_bytes.specs.Bytes.{max_bytes, length_fits, words_of, front_words}
use Rattle.octets.proofs.Choice.{and_yes, by_test}

-- ---- words of bytes

pub words_start : (b lent : List ℕ) → lent ≡ words b 0 ++ drop 0 lent
unfolding words
words_start b lent = refl

pub words-next : (b lent : List ℕ) (i : ℕ) → i < length lent
    → set (words b i ++ drop i lent) i (word_at b (i * 4)) ≡ words b (i + 1) ++ drop (i + 1) lent
unfolding words
words-next b lent i h =
    ap (λ (l : List ℕ). set (words b i ++ l) i (word_at b (i * 4))) (drop-cons lent i 0 h)
    ∙ ap (λ (n : ℕ). set (words b i ++ (get_or lent i 0 ∷ drop (suc i) lent)) n (word_at b (i * 4))) (sym (length-words b i))
    ∙ set-append_seam (words b i) (get_or lent i 0) (drop (suc i) lent) (word_at b (i * 4))
    ∙ sym (append_assoc (words b i) (word_at b (i * 4) ∷ []) (drop (suc i) lent))
    ∙ ap (λ (n : ℕ). words b n ++ drop n lent) (sym (add-one i))

-- none is left
pub words-filled : (b lent : List ℕ) (i : ℕ) → length lent ≤ i → words b i ++ drop i lent ≡ words b i
words-filled b lent i h = rw (drop_of_length-le lent {i = i} h, append-nil)

-- the first n words, where there are so many
words_take : (b : List ℕ) (m n : ℕ) → m ≤ n → take m (words b n) ≡ words b m
unfolding words
words_take b m zero h = let z : m ≡ 0 = omega arith in ap (λ (q : ℕ). take q []) z ∙ ap (words b) (sym z)
words_take b m (suc n) h =
    by_test (eqb m (suc n))
    (λ t.
    let e = eqb-true m (suc n) t in
    take_all m (words b (suc n)) (omega (arith, length-words b (suc n))) ∙ ap (words b) (sym e))
    (λ t.
    let l : m ≤ n = omega (arith, eqb-false m (suc n) t) in
    sym (take-take m (length (words b n)) (words b n ++ (word_at b (n * 4) ∷ [])) (omega (arith, length-words b n)))
    ∙ ap (take m) (take-append_seam (words b n) (word_at b (n * 4) ∷ [])) ∙ words_take b m n l)

pub front-words : (b : List ℕ) (n : ℕ) → front_words b n ≡ words b (min (length b / 4) n)
unfolding words_of
front-words b n =
    elim (dec_lt n (length b / 4)) [
      | yes h ↦ words_take b n (length b / 4) (omega arith) ∙ ap (words b) (omega arith)
      | no h ↦ take_all n (words b (length b / 4)) (omega (arith, length-words b (length b / 4))) ∙ ap (words b) (omega arith)
    ]

pub words-all : (b lent : List ℕ) (i n : ℕ) → i ≡ min (length b / 4) n → words b i ++ drop i lent ≡ over (front_words b n) lent
words-all b lent i n h =
    let e : words b i ≡ front_words b n = ap (words b) h ∙ sym (front-words b n) in
    ap (λ (m : ℕ). words b i ++ drop m lent) (sym (length-words b i)) ∙ ap (λ (l : List ℕ). over l lent) e

-- ---- bytes of words

pub bytes_next : (ws : List ℕ) (i : ℕ) → i < length ws → bytes_of (drop i ws) ≡ be 4 (get_or ws i 0) ++ bytes_of (drop (i + 1) ws)
unfolding bytes_of
bytes_next ws i h = ap bytes_of (drop-cons ws i 0 h) ∙ ap (λ (n : ℕ). be 4 (get_or ws i 0) ++ bytes_of (drop n ws)) (sym (add-one i))

pub bytes-none : (ws : List ℕ) (i : ℕ) → length ws ≤ i → bytes_of (drop i ws) ≡ []
unfolding bytes_of
bytes-none ws i h = ap bytes_of (drop_of_length-le ws {i = i} h)

length_most : (n : ℕ) → length_fits n ≡ true → n ≤ max_bytes
unfolding length_fits
length_most n t = leb-true n max_bytes (and_yes (leb n max_bytes) (eqb (n % 4) 0) t).0

pub words_of-length : (b : List ℕ) → length (words_of b) ≡ length b / 4
unfolding words_of
words_of-length b = length-words b (length b / 4)

-- as many as there are, or as many as are asked for
pub front_length : (b : List ℕ) (n : ℕ) → length (front_words b n) ≡ min (length b / 4) n
front_length b n = ap length (front-words b n) ∙ length-words b (min (length b / 4) n)

-- the words in front of that buffer
pub words-front : (ws lent v : List ℕ) → v ≡ over ws lent → take (length ws) v ≡ ws
words-front ws lent v h = ap (take (length ws)) h ∙ take_at ws (drop (length ws) lent) (length ws) refl

-- a table that may come has no more words than this
pub quarter_most : (n : ℕ) → length_fits n ≡ true → n / 4 ≤ max_bytes / 4
quarter_most n t = omega (arith, length_most n t)
