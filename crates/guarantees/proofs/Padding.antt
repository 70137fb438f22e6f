-- The definition's padding is the standard's.
use mathlib.Core.Path.{◌≡◌, sym, ap, ◌∙◌}
use mathlib.Core.List.{List, ◌∷◌, ◌++◌}
use Prim.Native.Nat.{ℕ, zero, suc, ◌+◌, ◌-◌, ◌*◌, ◌/◌, ◌%◌, ◌^◌, ◌≤◌, ◌<◌}
use native.Mathlib.Nat.{div-add-mod', div-div-eq-div-mul}
use native.Mathlib.Omega.{arith}
use native.Mathlib.Decide.{dec_lt}
use lib.ListN.{length, get_or, take, replicate, length-replicate, get_or-replicate, get_or-append}
use lib.Seq.{take-append_seam, get_or-append_seam, get_or-append-add}
use Rattle.octets.specs.BigEndian.{be}
use Rattle.sha256.specs.Padding.{pad}
use Rattle.sha256.proofs.PaddingLaws.{length-pad}
use Rattle.guarantees.specs.Layouts.{word_no}
use Rattle.guarantees.specs.Padding.{Padded}

-- ---- eight bytes of a number

byte-be : (n x i : ℕ) → get_or (be n x) i 0 < 256
unfolding be
byte-be zero x i = omega arith
byte-be (suc n) x zero = omega arith
byte-be (suc n) x (suc i) = byte-be n x i

-- the number down to one byte, and down to the next
byte_more : (x a : ℕ) → x / (a * 256) * 256 + x / a % 256 ≡ x / a
byte_more x a = ap (λ (n : ℕ). n * 256 + x / a % 256) (sym (div-div-eq-div-mul x a 256)) ∙ div-add-mod' (x / a) 256

-- added up
words-be : (x : ℕ) → x < 2 ^ 64 → 2 ^ 32 * word_no (be 8 x) 0 + word_no (be 8 x) 1 ≡ x
unfolding word_no be
words-be x h =
    let one : x / 1 ≡ x = omega arith in
    let top : x / 2 ^ 56 % 256 ≡ x / 2 ^ 56 = omega arith in
    sum x (x / 1) (x / 2 ^ 8) (x / 2 ^ 16) (x / 2 ^ 24) (x / 2 ^ 32) (x / 2 ^ 40) (x / 2 ^ 48) (x / 2 ^ 56)
    (x / 1 % 256) (x / 2 ^ 8 % 256) (x / 2 ^ 16 % 256) (x / 2 ^ 24 % 256) (x / 2 ^ 32 % 256) (x / 2 ^ 40 % 256) (x / 2 ^ 48 % 256) (x / 2 ^ 56 % 256)
    one (byte_more x 1) (byte_more x (2 ^ 8)) (byte_more x (2 ^ 16)) (byte_more x (2 ^ 24)) (byte_more x (2 ^ 32)) (byte_more x (2 ^ 40)) (byte_more x (2 ^ 48)) top
  where
    sum : (x a b c d e f g h r s t u v w y z : ℕ) → a ≡ x → b * 256 + r ≡ a → c * 256 + s ≡ b → d * 256 + t ≡ c → e * 256 + u ≡ d
        → f * 256 + v ≡ e → g * 256 + w ≡ f → h * 256 + y ≡ g → z ≡ h
        → 2 ^ 32 * (2 ^ 24 * z + 2 ^ 16 * y + 2 ^ 8 * w + v) + (2 ^ 24 * u + 2 ^ 16 * t + 2 ^ 8 * s + r) ≡ x
    sum x a b c d e f g h r s t u v w y z p0 p1 p2 p3 p4 p5 p6 p7 p8 = omega arith

-- ---- the padded message, from its byte 128 on

module _ (m : List ℕ) where
  -- the zero bytes, their number, and the bytes of the length
  abbrev gap : ℕ
  gap = (119 - length m % 64) % 64

  abbrev fill : List ℕ
  fill = replicate gap 0

  abbrev size : List ℕ
  size = be 8 (length m * 8)

  one_at : get_or (pad m) (length m) 0 ≡ 128
  unfolding pad
  one_at = get_or-append_seam m 128 (fill ++ size) 0

  -- what follows it
  after : (q n : ℕ) → q ≡ length m + suc n → get_or (pad m) q 0 ≡ get_or (fill ++ size) n 0
  unfolding pad
  after q n e = ap (λ (k : ℕ). get_or (pad m) k 0) e ∙ get_or-append-add m (128 ∷ (fill ++ size)) (suc n) 0

  zero_at : (q n : ℕ) → q ≡ length m + suc n → n < gap → get_or (pad m) q 0 ≡ 0
  zero_at q n e h =
      after q n e ∙ get_or-append fill size 0 n (omega (arith, length-replicate {A = ℕ} gap 0)) ∙ get_or-replicate gap n 0 0 h

  size_at : (q i : ℕ) → q ≡ length m + suc (gap + i) → get_or (pad m) q 0 ≡ get_or size i 0
  size_at q i e =
      let k : gap + i ≡ length fill + i = ap (λ (n : ℕ). n + i) (sym (length-replicate {A = ℕ} gap 0)) in
      after q (gap + i) e ∙ ap (λ (n : ℕ). get_or (fill ++ size) n 0) k ∙ get_or-append-add fill size i 0

  byte_at : (q : ℕ) → length m ≤ q → get_or (pad m) q 0 < 256
  byte_at q h = elim (dec_lt (length m) q) [
    | yes l ↦ elim (dec_lt (q - length m - 1) gap) [
      | yes g ↦ omega (arith, zero_at q (q - length m - 1) (omega arith) g)
      | no g ↦ omega (arith, size_at q (q - length m - 1 - gap) (omega arith), byte-be 8 (length m * 8) (q - length m - 1 - gap))
    ]
    | no l ↦
        let e : q ≡ length m = omega arith in
        omega (arith, ap (λ (k : ℕ). get_or (pad m) k 0) e ∙ one_at)
  ]

  word_size : (w v : ℕ) → 4 * w ≡ length m + suc (gap + 4 * v) → word_no (pad m) w ≡ word_no size v
  unfolding word_no
  word_size w v e =
      omega
      (arith, size_at (4 * w) (4 * v) e, size_at (4 * w + 1) (4 * v + 1) (omega arith), size_at (4 * w + 2) (4 * v + 2) (omega arith), size_at (4 * w + 3) (4 * v + 3) (omega arith))

  message_at : take (length m) (pad m) ≡ m
  unfolding pad
  message_at = take-append_seam m _

pub padded : (m : List ℕ) → Padded m
padded m =
    let l = length-pad m in
    record {
      whole_blocks = omega (arith, l);
      room = omega (arith, l);
      least = omega (arith, l);
      message = message_at m;
      one_bit = one_at m;
      zeros = λ q a b. zero_at m q (q - length m - 1) (omega arith) (omega (arith, l));
      bytes = byte_at m;
      bits = λ h.
          omega
          (arith, word_size m (length (pad m) / 4 - 2) 0 (omega (arith, l)), word_size m (length (pad m) / 4 - 1) 1 (omega (arith, l)), words-be (length m * 8) (omega arith));
    }
