-- The sixteen words of a block, word by word.
use Rattle.std.proofs.Common.{◌≡◌, ℕ, ◌+◌, ◌*◌, ◌<◌, ◌≤◌, List, [], ◌∷◌, ◌++◌, length, get_or, take, drop, set, sym, refl, ap, ◌∙◌, add-one, arith, get_or-drop, take_all, get_or-take, take-suc-set}
use Rattle.octets.specs.BigEndian.{word_at, words}
use Rattle.sha256.specs.Padding.{block}

-- a list up to its element t, which is set last
pub take_more : (w : List ℕ) (t v : ℕ) → t < length w → take (t + 1) (set w t v) ≡ take t w ++ (v ∷ [])
take_more w t v h = rw (add-one, take-suc-set)

module _ (p : List ℕ) (i : ℕ) where
  in_block : (n k : ℕ) → n < 64 → k ≡ i * 64 + n → get_or (take 64 (drop (i * 64) p)) n 0 ≡ get_or p k 0
  in_block n k h e = get_or-take 64 (drop (i * 64) p) n 0 h ∙ get_or-drop (i * 64) p n 0 ∙ ap (λ k. get_or p k 0) (sym e)

  word_at-block : (n : ℕ) → n + 4 ≤ 64 → word_at (take 64 (drop (i * 64) p)) n ≡ word_at p (i * 64 + n)
  unfolding word_at
  word_at-block n h =
      rw (
        in_block n (i * 64 + n) (omega arith) refl,
        in_block (n + 1) (i * 64 + n + 1) (omega arith) (omega arith),
        in_block (n + 2) (i * 64 + n + 2) (omega arith) (omega arith),
        in_block (n + 3) (i * 64 + n + 3) (omega arith) (omega arith),
      )

  -- a word more
  pub words_more : (b : List ℕ) (t v : ℕ) → t < 16 → length b ≡ 16 → take t b ≡ words (take 64 (drop (i * 64) p)) t → v ≡ word_at p (i * 64 + t * 4)
      → take (t + 1) (set b t v) ≡ words (take 64 (drop (i * 64) p)) (t + 1)
  unfolding words
  words_more b t v h l e ev = take_more b t v (omega arith) ∙ rw (add-one, e, ev, word_at-block (t * 4) (omega arith))

  pub words-all : (b : List ℕ) (t : ℕ) → t ≡ 16 → length b ≡ 16 → take t b ≡ words (take 64 (drop (i * 64) p)) t → b ≡ block p i
  unfolding block
  words-all b t et l e = sym (take_all 16 b (omega arith)) ∙ rw et at e
