-- The blocks of the padded message, one after the other: first the message's own, then the end.
use Rattle.std.proofs.Common.{◌≡◌, ℕ, zero, suc, ◌+◌, ◌-◌, ◌*◌, ◌/◌, ◌≤◌, List, [], ◌++◌, length, take, drop, sym, refl, ap, ◌∙◌, ap₂, append_assoc, append-nil, add-zero, add-suc, add-one, arith, length-append, length-drop, take-append-drop, drop_of_length-le, length-take-le, drop-drop, drop_at}
use lib.Seq.{take-append-le, drop-append-le, take-length, sets, length-sets, paste}
use Rattle.octets.specs.BigEndian.{be, words}
use Rattle.octets.proofs.Bytes.{length-be}
use Rattle.octets.proofs.Stores.{take-sets}
use Rattle.sha256.specs.Padding.{pad, pad_tail, block}
use Rattle.sha256.specs.Initial.{initial}
use Rattle.sha256.specs.Hash.{compress, processed}
use Rattle.sha256.proofs.PaddingLaws.{length-pad, length_tail, tail_is, pad-after}

-- a block more
pub processed-more : (h p s r : List ℕ) (i : ℕ) → s ≡ processed h p i → r ≡ compress s (block p i) → r ≡ processed h p (i + 1)
unfolding processed
processed-more h p s r i es er = rw (add-one, er, es)

-- what comes after the blocks is not read
block-front : (p q : List ℕ) (i : ℕ) → i * 64 + 64 ≤ length p → block (p ++ q) i ≡ block p i
unfolding block
block-front p q i h =
    ap (λ b. words b 16) (ap (take 64) (drop-append-le (i * 64) p q (omega arith)) ∙ take-append-le 64 (drop (i * 64) p) q (rw length-drop (omega arith)))

processed-front : (h p q : List ℕ) (n : ℕ) → n * 64 ≤ length p → processed h (p ++ q) n ≡ processed h p n
unfolding processed
processed-front h p q zero l = refl
processed-front h p q (suc n) l = ap₂ compress (processed-front h p q n (omega arith)) (block-front p q n (omega arith))

-- the blocks from block i on are those of what is left
block-drop : (p : List ℕ) (i k : ℕ) → block p (i + k) ≡ block (drop (i * 64) p) k
unfolding block
block-drop p i k =
    let e : (i + k) * 64 ≡ i * 64 + k * 64 = omega arith in
    ap (λ l. words (take 64 l) 16) (ap (λ n. drop n p) e ∙ sym (drop-drop (k * 64) (i * 64) p))

processed_split : (h p : List ℕ) (i k : ℕ) → processed h p (i + k) ≡ processed (processed h p i) (drop (i * 64) p) k
unfolding processed
processed_split h p i zero = ap (processed h p) (add-zero i)
processed_split h p i (suc k) = ap (processed h p) (add-suc i k) ∙ ap₂ compress (processed_split h p i k) (block-drop p i k)

-- ---- the blocks of m, and those of its end

module _ (m : List ℕ) where
  abbrev own : ℕ
  own = length m / 64

  abbrev left : ℕ
  left = length (pad m) / 64 - own

  -- the last of the e blocks of the end is taken in by itself
  pub finished_is : (end h s t r : List ℕ) (e : ℕ) → s ≡ processed h m own → e ≡ left → t ≡ processed s end (e - 1) → r ≡ compress t (block end (e - 1))
      → r ≡ processed (processed h m own) end left
  finished_is end h s t r e es en et er =
      let one : e - 1 + 1 ≡ left = omega (arith, length-pad m) in
      processed-more s end t r (e - 1) et er ∙ ap₂ (λ v k. processed v end k) es one

  -- what is left of a message of n bytes is m: its own blocks, then those of its end; what stands behind the end is not read
  module _ (n : ℕ) where
    pub all_blocks : (end zeros h r : List ℕ) → end ≡ drop (own * 64) (pad_tail n m) ++ zeros → r ≡ processed (processed h m own) end left
        → r ≡ processed h (pad_tail n m) (length (pad_tail n m) / 64)
    all_blocks end zeros h r ee er =
        let rest = drop (own * 64) (pad_tail n m) in
        let all : own + left ≡ length (pad_tail n m) / 64 = omega (arith, length_tail n m, length-pad m) in
        let front : processed h m own ≡ processed h (pad_tail n m) own =
        sym (ap (λ p. processed h p own) (tail_is n m) ∙ processed-front h m _ own (omega arith)) in
        er ∙ ap₂ (λ v p. processed v p left) front ee
        ∙ processed-front (processed h (pad_tail n m) own) rest zeros left (rw length-drop (omega (arith, length_tail n m, length-pad m)))
        ∙ sym (processed_split h (pad_tail n m) own left) ∙ ap (processed h (pad_tail n m)) all

-- ---- whole messages

-- the i blocks of f, then the tail m
resumed : (h f m r : List ℕ) (i n : ℕ) → length f ≡ i * 64 → n ≡ length f + length m
    → r ≡ processed (processed h f i) (pad_tail n m) (length (pad_tail n m) / 64) → r ≡ processed h (pad (f ++ m)) (length (pad (f ++ m)) / 64)
resumed h f m r i n l en er =
    let p = pad_tail n m in
    let k : i + length p / 64 ≡ length (f ++ p) / 64 = omega (arith, length-append f p) in
    er ∙ sym (ap₂ (λ v q. processed v q (length p / 64)) (processed-front h f p i (omega arith)) (drop_at f p (i * 64) l))
    ∙ sym (processed_split h (f ++ p) i (length p / 64)) ∙ ap (processed h (f ++ p)) k
    ∙ ap (λ q. processed h q (length q / 64)) (sym (pad-after f m n (omega arith) en))

-- nothing in front
pub hash-is : (m end zeros h r : List ℕ) → h ≡ initial → end ≡ drop (length m / 64 * 64) (pad_tail (length m) m) ++ zeros
    → r ≡ processed (processed h m (own m)) end (left m) → r ≡ processed initial (pad m) (length (pad m) / 64)
unfolding processed
hash-is m end zeros h r eh ee er =
    resumed initial [] m r 0 (length m) refl (omega arith)
    (all_blocks m (length m) end zeros initial r ee (er ∙ ap (λ v. processed (processed v m (own m)) end (left m)) eh))

-- a word in front of m
module _ (w : ℕ) (m : List ℕ) (room : 60 ≤ length m) where
  -- the first block, in a buffer of zeros
  first-is : (z a b : List ℕ) → length z ≡ 64 → a ≡ sets z 0 (be 4 w) → b ≡ paste a 4 (take 60 m) (length (take 60 m)) → b ≡ be 4 w ++ take 60 m
  first-is z a b lz ea eb =
      let x = take 60 m in
      let lw : length (be 4 w) ≡ 4 = length-be 4 w in
      let lx : length x ≡ 60 = length-take-le 60 m room in
      let la : length a ≡ 64 = ap length ea ∙ length-sets z 0 (be 4 w) ∙ lz in
      let k : 4 ≡ 0 + length (be 4 w) = omega arith in
      let front : take 4 a ≡ be 4 w = ap₂ take k ea ∙ take-sets z (be 4 w) 0 (omega arith) in
      eb ∙ ap₂ ◌++◌ (ap₂ ◌++◌ front (take-length x)) (drop_of_length-le a {i = 4 + length x} (omega arith)) ∙ append-nil (be 4 w ++ x)

  pub word_first : (z a b end zeros h s t r : List ℕ) → length z ≡ 64 → a ≡ sets z 0 (be 4 w) → b ≡ paste a 4 (take 60 m) (length (take 60 m))
      → h ≡ initial → s ≡ compress h (block b 0) → t ≡ drop 60 m → end ≡ drop (length t / 64 * 64) (pad_tail (length m + 4) t) ++ zeros
      → r ≡ processed (processed s t (own t)) end (left t) → r ≡ processed initial (pad (be 4 w ++ m)) (length (pad (be 4 w ++ m)) / 64)
  unfolding processed
  word_first z a b end zeros h s t r lz ea eb eh es et ee er =
      let f = be 4 w ++ take 60 m in
      let n = length m + 4 in
      let lf : length f ≡ 64 = length-append (be 4 w) (take 60 m) ∙ omega (arith, length-be 4 w, length-take-le 60 m room) in
      let one : s ≡ processed initial f 1 = es ∙ ap₂ (λ v q. compress v (block q 0)) eh (first-is z a b lz ea eb) in
      let whole : f ++ drop 60 m ≡ be 4 w ++ m = append_assoc (be 4 w) (take 60 m) (drop 60 m) ∙ ap (λ v. be 4 w ++ v) (take-append-drop 60 m) in
      resumed initial f (drop 60 m) r 1 n (omega arith) (omega (arith, length-drop 60 m))
      (all_blocks t n end zeros s r ee er ∙ ap₂ (λ v q. processed v (pad_tail n q) (length (pad_tail n q) / 64)) one et)
      ∙ ap (λ v. processed initial (pad v) (length (pad v) / 64)) whole
