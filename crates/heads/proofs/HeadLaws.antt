-- Heads: their words read and written, and that the two are inverse.
use mathlib.Core.Path.{◌≡◌, refl, sym, ap, ap₂, ◌∙◌}
use mathlib.Core.Bool.{true}
use mathlib.Core.List.{List, [], ◌∷◌, ◌++◌}
use Prim.Native.Nat.{ℕ, zero, suc, ◌+◌, ◌*◌, ◌/◌, ◌%◌, ◌^◌, ◌≤◌, ◌<◌}
use native.Mathlib.Nat.{div-add-mod'}
use native.Mathlib.Omega.{arith}
use lib.ListN.{length, get_or, drop, length-drop}
use lib.Seq.{sets, sets-eq, drop-cons, drop-drop}
use lib.Dec.{ltb}
use borrow.Author.Tests.{ltb-true}
use Rattle.octets.specs.BigEndian.{be, word_at}
use Rattle.octets.proofs.Bytes.{be-read}
use Rattle.octets.proofs.Choice.{and_yes}
use Rattle.parity_table.specs.Members.{every}
use Rattle.parity_table.specs.Parse.{over}
use Rattle.parity_table.specs.Table.{word}
use Rattle.heads.specs.Heads.{head, kind_at, value_at}

-- ---- a head that is written

stored : (q : List ℕ) (x : ℕ) → 4 ≤ length q → sets q 0 (be 4 x) ≡ be 4 x ++ drop 4 q
unfolding be
stored q x h = sets-eq (be 4 x) q 0 h

pub head_put : (k j e x : ℕ) (out a b c : List ℕ) → 12 ≤ length out → a ≡ sets out 0 (be 4 (k * 1073741824 + j)) → b ≡ sets a 4 (be 4 (2147483648 + e))
    → c ≡ sets b 8 (be 4 (3221225472 + x)) → c ≡ over (head k j e x) out
unfolding be head
head_put k j e x out a b c room ea eb ec =
    let u : List ℕ = be 4 (word k j) in
    let v : List ℕ = be 4 (word 2 e) in
    let w : List ℕ = be 4 (word 3 x) in
    let a₁ : a ≡ u ++ drop 4 out = ea ∙ stored out (word k j) (omega arith) in
    let b₁ : b ≡ u ++ (v ++ drop 8 out) =
    eb ∙ ap (λ (l : List ℕ). sets l 4 v) a₁
    ∙ ap (λ (l : List ℕ). u ++ l) (stored (drop 4 out) (word 2 e) (omega (arith, length-drop 4 out)) ∙ ap (λ (l : List ℕ). v ++ l) (drop-drop 4 4 out)) in
    ec ∙ ap (λ (l : List ℕ). sets l 8 w) b₁
    ∙ ap (λ (l : List ℕ). u ++ (v ++ l)) (stored (drop 8 out) (word 3 x) (omega (arith, length-drop 8 out)) ∙ ap (λ (l : List ℕ). w ++ l) (drop-drop 4 8 out))

-- ---- a word

module _ (b : List ℕ) (i kind : ℕ) where
  module _ (v : ℕ) (e : word_at b (4 * i) ≡ word kind v) (small : v < 2 ^ 30) where
    pub read_kind : kind_at b i ≡ kind
    unfolding kind_at
    read_kind = ap (λ (w : ℕ). w / 2 ^ 30) e ∙ omega arith

    pub read_value : value_at b i ≡ v
    unfolding value_at
    read_value = ap (λ (w : ℕ). w % 2 ^ 30) e ∙ omega arith

  pub word_read : kind_at b i ≡ kind → word_at b (4 * i) ≡ word kind (value_at b i)
  unfolding kind_at value_at
  word_read e = sym (div-add-mod' (word_at b (4 * i)) (2 ^ 30)) ∙ ap (λ (k : ℕ). k * 2 ^ 30 + word_at b (4 * i) % 2 ^ 30) e

-- ---- a head that is written and read

module _ (k a b c : ℕ) where
  pub length-head : length (head k a b c) ≡ 12
  unfolding head be
  length-head = refl

  module _ (r : List ℕ) where
    pub after-head : drop 12 (head k a b c ++ r) ≡ r
    unfolding head be
    after-head = refl

    module _ (k_small : k < 4) (a_small : a < 2 ^ 30) (b-small : b < 2 ^ 30) (c-small : c < 2 ^ 30) where
      pub head-words : let l : List ℕ = head k a b c ++ r in (word_at l 0 ≡ word k a) × (word_at l 4 ≡ word 2 b) × (word_at l 8 ≡ word 3 c)
      unfolding head word_at be
      head-words = (be-read (word k a) (omega arith), be-read (word 2 b) (omega arith), be-read (word 3 c) (omega arith))

      pub head-kinds : let l : List ℕ = head k a b c ++ r in (kind_at l 0 ≡ k) × (kind_at l 1 ≡ 2) × (kind_at l 2 ≡ 3)
      head-kinds = (read_kind _ 0 k a head-words.0 a_small, read_kind _ 1 2 b head-words.1 b-small, read_kind _ 2 3 c head-words.2 c-small)

      pub head_values : let l : List ℕ = head k a b c ++ r in (value_at l 0 ≡ a) × (value_at l 1 ≡ b) × (value_at l 2 ≡ c)
      head_values = (read_value _ 0 k a head-words.0 a_small, read_value _ 1 2 b head-words.1 b-small, read_value _ 2 3 c head-words.2 c-small)

-- ---- bytes that are read as a head are that head

pub be_of : (a b c d : ℕ) → a < 256 → b < 256 → c < 256 → d < 256 → be 4 (a * 2 ^ 24 + b * 2 ^ 16 + c * 2 ^ 8 + d) ≡ a ∷ b ∷ c ∷ d ∷ []
unfolding be
be_of a b c d ha hb hc hd =
    let x : ℕ = a * 2 ^ 24 + b * 2 ^ 16 + c * 2 ^ 8 + d in
    let p : x / 16777216 % 256 ≡ a = omega arith in
    let q : x / 65536 % 256 ≡ b = omega arith in
    let s : x / 256 % 256 ≡ c = omega arith in
    let t : x / 1 % 256 ≡ d = omega arith in
    ap₂ (λ (m n : ℕ). m ∷ n ∷ x / 256 % 256 ∷ x / 1 % 256 ∷ []) p q ∙ ap₂ (λ (m n : ℕ). a ∷ b ∷ m ∷ n ∷ []) s t

byte : (l : List ℕ) → every (λ x. ltb x 256) l ≡ true → (i : ℕ) → i < length l → get_or l i 0 < 256
unfolding every
byte [] e i h = absurd (omega arith)
byte (x ∷ l) e zero h = ltb-true x 256 (and_yes (ltb x 256) _ e).0
byte (x ∷ l) e (suc i) h = byte l (and_yes (ltb x 256) _ e).1 i (omega arith)

module _ (r : List ℕ) (bytes : every (λ x. ltb x 256) r ≡ true) where
  -- the four bytes from byte i on, and what follows them
  word-bytes : (i : ℕ) → i + 4 ≤ length r → drop i r ≡ be 4 (word_at r i) ++ drop (i + 4) r
  unfolding word_at
  word-bytes i h =
      let e₁ : suc i ≡ i + 1 = omega arith in
      let e₂ : suc (i + 1) ≡ i + 2 = omega arith in
      let e₃ : suc (i + 2) ≡ i + 3 = omega arith in
      let e₄ : suc (i + 3) ≡ i + 4 = omega arith in
      let step : (n m : ℕ) → n < length r → suc n ≡ m → drop n r ≡ get_or r n 0 ∷ drop m r =
      λ n m l e. drop-cons r n 0 l ∙ ap (λ (k : ℕ). get_or r n 0 ∷ drop k r) e in
      step i (i + 1) (omega arith) e₁
      ∙ ap (λ (l : List ℕ). get_or r i 0 ∷ l) (step (i + 1) (i + 2) (omega arith) e₂)
      ∙ ap (λ (l : List ℕ). get_or r i 0 ∷ get_or r (i + 1) 0 ∷ l) (step (i + 2) (i + 3) (omega arith) e₃)
      ∙ ap (λ (l : List ℕ). get_or r i 0 ∷ get_or r (i + 1) 0 ∷ get_or r (i + 2) 0 ∷ l) (step (i + 3) (i + 4) (omega arith) e₄)
      ∙ ap (λ (l : List ℕ). l ++ drop (i + 4) r) (sym (be_of (get_or r i 0) (get_or r (i + 1) 0) (get_or r (i + 2) 0) (get_or r (i + 3) 0) (byte r bytes i (omega arith)) (byte r bytes (i + 1) (omega arith)) (byte r bytes (i + 2) (omega arith)) (byte r bytes (i + 3) (omega arith))))

  module _ (k : ℕ) (room : 12 ≤ length r) (first : kind_at r 0 ≡ k) (second : kind_at r 1 ≡ 2) (third : kind_at r 2 ≡ 3) where
    pub head_apart : r ≡ head k (value_at r 0) (value_at r 1) (value_at r 2) ++ drop 12 r
    unfolding head be
    head_apart =
        word-bytes 0 (omega arith)
        ∙ ap₂ (λ (w : ℕ) (l : List ℕ). be 4 w ++ l) (word_read r 0 k first) (word-bytes 4 (omega arith)
        ∙ ap₂ (λ (w : ℕ) (l : List ℕ). be 4 w ++ l) (word_read r 1 2 second) (word-bytes 8 (omega arith)
        ∙ ap (λ (w : ℕ). be 4 w ++ drop 12 r) (word_read r 2 3 third)))
