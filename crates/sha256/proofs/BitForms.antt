-- The forms in which the code computes five of the six functions are those of section 4.1.2.
use Rattle.std.proofs.Common.{◌≡◌, ℕ, ◌+◌, ◌-◌, ◌*◌, ◌/◌, ◌%◌, ◌^◌, ◌<◌, ◌≤◌, sym, refl, ap, ◌∙◌, subst, ap₂, mod-lt, mul_assoc, mul_comm, add-mul, add_comm, arith, pow_pos, pow-add, shr-shr, shr_lt}
use native.Mathlib.Nat.{mul-mod_left, add-mul-mod_self_right, add-mul-div_right}
use lib.Arith.{digits_lt, mod-mul}
use lib.Pow.{shl-shr, mod-pow-add}
use lib.Bits.{bit_and, bit_or, bit_xor, and_comm, and_mask, or_shifted_r, xor_add_and, xor_block, xor_shr, xor_mod, xor_lt}
use Rattle.octets.proofs.Bits.{bitwise_equal, xor_half, xor_bit, and_half, and_bit, and_xor}
use Rattle.sha256.specs.Words.{rotr, complement}
use Rattle.sha256.specs.Functions.{ch, maj}

-- ---- Maj and Ch

pub maj-form : (x y z : ℕ) → bit_xor y (bit_and (bit_xor x y) (bit_xor y z)) ≡ maj x y z
unfolding maj
maj-form =
    bitwise_equal (λ x y z. bit_xor y (bit_and (bit_xor x y) (bit_xor y z)))
    (λ x y z. bit_xor (bit_xor (bit_and x y) (bit_and x z)) (bit_and y z))
    (record { half = λ x y z. simp (and_half, xor_half); last = λ x y z. simp (and_bit, xor_bit) })
    (record { half = λ x y z. simp (and_half, xor_half); last = λ x y z. simp (and_bit, xor_bit) })
    (record { b000 = refl; b001 = refl; b010 = refl; b011 = refl; b100 = refl; b101 = refl; b110 = refl; b111 = refl })

ch-bits : (x y z : ℕ) → bit_xor z (bit_and x (bit_xor y z)) ≡ bit_xor (bit_and x y) (bit_xor (bit_and x z) z)
ch-bits =
    bitwise_equal (λ x y z. bit_xor z (bit_and x (bit_xor y z))) (λ x y z. bit_xor (bit_and x y) (bit_xor (bit_and x z) z))
    (record { half = λ x y z. simp (and_half, xor_half); last = λ x y z. simp (and_bit, xor_bit) })
    (record { half = λ x y z. simp (and_half, xor_half); last = λ x y z. simp (and_bit, xor_bit) })
    (record { b000 = refl; b001 = refl; b010 = refl; b011 = refl; b100 = refl; b101 = refl; b110 = refl; b111 = refl })

-- m is the word of ones
complement_and : (m x z : ℕ) → m ≡ 2 ^ 32 - 1 → x < 2 ^ 32 → z < 2 ^ 32 → bit_and (complement x) z ≡ bit_xor (bit_and x z) z
complement_and m x z em hx hz =
    let mask : (w : ℕ) → w < 2 ^ 32 → bit_and w m ≡ w = λ w h. ap (bit_and w) em ∙ and_mask w 32 ∙ omega arith in
    let e : complement x ≡ bit_xor x m = omega (arith, xor_add_and x m, mask x hx) in
    ap (λ v. bit_and v z) e ∙ and_xor x m z ∙ ap (bit_xor (bit_and x z)) (and_comm m z ∙ mask z hz)

pub ch-form : (x y z : ℕ) → x < 2 ^ 32 → z < 2 ^ 32 → bit_xor z (bit_and x (bit_xor y z)) ≡ ch x y z
unfolding ch
ch-form x y z hx hz = ch-bits x y z ∙ ap (bit_xor (bit_and x y)) (sym (complement_and (2 ^ 32 - 1) x z refl hx hz))

-- ---- rotations

-- x rotated right by n bits, n + k being 32: its low n bits stand above the others
module _ (n k x : ℕ) (e : n + k ≡ 32) (h : x < 2 ^ 32) where
  all-bits : 2 ^ 32 ≡ 2 ^ n * 2 ^ k
  all-bits = ap (λ v. 2 ^ v) (sym e) ∙ pow-add 2 n k

  high_lt : x / 2 ^ n < 2 ^ k
  high_lt = let s : 32 ≡ k + n = omega arith in shr_lt k n (subst (λ v. x < 2 ^ v) s h)

  rotated_lt : x % 2 ^ n * 2 ^ k + x / 2 ^ n < 2 ^ 32
  rotated_lt = subst (λ v. x % 2 ^ n * 2 ^ k + x / 2 ^ n < v) (sym all-bits) (digits_lt (mod-lt x (pow_pos n)) high_lt)

  low_up : x * 2 ^ k % 2 ^ 32 ≡ x % 2 ^ n * 2 ^ k
  low_up =
      ap (λ v. x * 2 ^ k % v) all-bits ∙ mod-mul (x * 2 ^ k) (pow_pos n) (pow_pos k)
      ∙ ap₂ (λ u v. u % 2 ^ n * 2 ^ k + v) (shl-shr x k) (mul-mod_left x (2 ^ k))
      ∙ omega arith

  rotated : bit_or (x / 2 ^ n) (x * 2 ^ k % 2 ^ 32) ≡ x % 2 ^ n * 2 ^ k + x / 2 ^ n
  rotated = ap (bit_or (x / 2 ^ n)) low_up ∙ or_shifted_r (x % 2 ^ n) k (x / 2 ^ n) high_lt

module _ (n : ℕ) (hn : n ≤ 32) where
  whole : n + (32 - n) ≡ 32
  whole = omega arith

  rotr_sum : (x : ℕ) → x < 2 ^ 32 → rotr n x ≡ x % 2 ^ n * 2 ^ (32 - n) + x / 2 ^ n
  rotr_sum x h = rotated n (32 - n) x whole h

  rotr_lt : (x : ℕ) → x < 2 ^ 32 → rotr n x < 2 ^ 32
  rotr_lt x h = subst (λ v. v < 2 ^ 32) (sym (rotr_sum x h)) (rotated_lt n (32 - n) x whole h)

  rotr_xor : (x y : ℕ) → x < 2 ^ 32 → y < 2 ^ 32 → rotr n (bit_xor x y) ≡ bit_xor (rotr n x) (rotr n y)
  rotr_xor x y hx hy =
      rotr_sum (bit_xor x y) (xor_lt 32 x y hx hy)
      ∙ ap₂ (λ u v. u * 2 ^ (32 - n) + v) (xor_mod x y n) (xor_shr x y n)
      ∙ sym (xor_block (32 - n) (x % 2 ^ n) (y % 2 ^ n) (x / 2 ^ n) (y / 2 ^ n) (high_lt n (32 - n) x whole hx) (high_lt n (32 - n) y whole hy))
      ∙ sym (ap₂ bit_xor (rotr_sum x hx) (rotr_sum y hy))

-- a rotation after a rotation
module _ (m n j x : ℕ) (e : m + n + j ≡ 32) (h : x < 2 ^ 32) where
  -- rotr n x, by the parts that rotr m moves
  abbrev once : ℕ
  once = x % 2 ^ n * 2 ^ (m + j) + x / 2 ^ n

  once_parts : once ≡ x / 2 ^ n + x % 2 ^ n * 2 ^ j * 2 ^ m
  once_parts =
      ap (λ v. x % 2 ^ n * v + x / 2 ^ n) (pow-add 2 m j)
      ∙ ap (λ v. v + x / 2 ^ n) (ap (λ v. x % 2 ^ n * v) (mul_comm (2 ^ m) (2 ^ j)) ∙ sym (mul_assoc (x % 2 ^ n) (2 ^ j) (2 ^ m)))
      ∙ add_comm (x % 2 ^ n * 2 ^ j * 2 ^ m) (x / 2 ^ n)

  once_low : once % 2 ^ m ≡ x / 2 ^ n % 2 ^ m
  once_low = ap (λ v. v % 2 ^ m) once_parts ∙ add-mul-mod_self_right (x / 2 ^ n) (x % 2 ^ n * 2 ^ j) (2 ^ m)

  once_high : once / 2 ^ m ≡ x / 2 ^ (n + m) + x % 2 ^ n * 2 ^ j
  once_high =
      ap (λ v. v / 2 ^ m) once_parts ∙ add-mul-div_right (x / 2 ^ n) (x % 2 ^ n * 2 ^ j) (pow_pos m)
      ∙ ap (λ v. v + x % 2 ^ n * 2 ^ j) (shr-shr x n m)

  both_low : x % 2 ^ (m + n) * 2 ^ j ≡ x / 2 ^ n % 2 ^ m * 2 ^ (n + j) + x % 2 ^ n * 2 ^ j
  both_low =
      ap (λ v. v * 2 ^ j) (mod-pow-add x m n) ∙ add-mul (x / 2 ^ n % 2 ^ m * 2 ^ n) (x % 2 ^ n) (2 ^ j)
      ∙ ap (λ v. v + x % 2 ^ n * 2 ^ j) (mul_assoc (x / 2 ^ n % 2 ^ m) (2 ^ n) (2 ^ j) ∙ ap (λ v. x / 2 ^ n % 2 ^ m * v) (sym (pow-add 2 n j)))

  rotr-rotr : rotr m (rotr n x) ≡ rotr (m + n) x
  rotr-rotr =
      let kn : 32 - n ≡ m + j = omega arith in
      let km : 32 - m ≡ n + j = omega arith in
      let kb : 32 - (m + n) ≡ j = omega arith in
      let en : n + (m + j) ≡ 32 = omega arith in
      let em : m + (n + j) ≡ 32 = omega arith in
      let one : rotr n x ≡ once = ap (λ v. bit_or (x / 2 ^ n) (x * 2 ^ v % 2 ^ 32)) kn ∙ rotated n (m + j) x en h in
      let two : rotr m once ≡ once % 2 ^ m * 2 ^ (n + j) + once / 2 ^ m =
      ap (λ v. bit_or (once / 2 ^ m) (once * 2 ^ v % 2 ^ 32)) km ∙ rotated m (n + j) once em (rotated_lt n (m + j) x en h) in
      let both : rotr (m + n) x ≡ x % 2 ^ (m + n) * 2 ^ j + x / 2 ^ (m + n) =
      ap (λ v. bit_or (x / 2 ^ (m + n)) (x * 2 ^ v % 2 ^ 32)) kb ∙ rotated (m + n) j x e h in
      let same : x / 2 ^ (n + m) ≡ x / 2 ^ (m + n) = ap (λ v. x / 2 ^ v) (add_comm n m) in
      ap (rotr m) one ∙ two ∙ ap₂ (λ u v. u * 2 ^ (n + j) + v) once_low once_high
      ∙ omega (arith, both_low, same) ∙ sym both

-- two rotations of one word, nested: a and a + b bits
pub rotr_nested : (a b x : ℕ) → a + b ≤ 32 → x < 2 ^ 32 → rotr a (bit_xor x (rotr b x)) ≡ bit_xor (rotr a x) (rotr (a + b) x)
rotr_nested a b x l h =
    rotr_xor a (omega arith) x (rotr b x) h (rotr_lt b (omega arith) x h)
    ∙ ap (bit_xor (rotr a x)) (rotr-rotr a b (32 - (a + b)) x (omega arith) h)
