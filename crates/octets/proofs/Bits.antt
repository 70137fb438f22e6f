-- Bitwise operations: two formulas of three words that work bit by bit are equal where they agree on bits.
use mathlib.Core.Path.{◌≡◌, refl, sym, ◌∙◌}
use Prim.Native.Nat.{ℕ, zero, suc, ◌+◌, ◌/◌, ◌%◌, ◌≤◌, ◌<◌}
use native.Mathlib.Omega.{arith}
use lib.Bits.{bit_and, bit_xor, and_shr, and_mod, xor_shr, xor_mod}

-- ---- halves and last bits

pub xor_half : (a b : ℕ) → bit_xor a b / 2 ≡ bit_xor (a / 2) (b / 2)
xor_half a b = xor_shr a b 1

pub xor_bit : (a b : ℕ) → bit_xor a b % 2 ≡ bit_xor (a % 2) (b % 2)
xor_bit a b = xor_mod a b 1

pub and_half : (a b : ℕ) → bit_and a b / 2 ≡ bit_and (a / 2) (b / 2)
and_half a b = and_shr a b 1

pub and_bit : (a b : ℕ) → bit_and a b % 2 ≡ bit_and (a % 2) (b % 2)
and_bit a b = and_mod a b 1

bit-cases : (P : ℕ → Type 0) → P 0 → P 1 → (r : ℕ) → r < 2 → P r
bit-cases P p q zero h = p
bit-cases P p q (suc zero) h = q
bit-cases P p q (suc (suc r)) h = absurd (omega arith)

-- ---- formulas of three words

-- a formula that works bit by bit
pub record Bitwise (f : ℕ → ℕ → ℕ → ℕ) : Type 0 where
  pub half : (x y z : ℕ) → f x y z / 2 ≡ f (x / 2) (y / 2) (z / 2)
  pub last : (x y z : ℕ) → f x y z % 2 ≡ f (x % 2) (y % 2) (z % 2)

-- the formulas agree on bits
pub record OnBits (f g : ℕ → ℕ → ℕ → ℕ) : Type 0 where
  pub b000 : f 0 0 0 ≡ g 0 0 0
  pub b001 : f 0 0 1 ≡ g 0 0 1
  pub b010 : f 0 1 0 ≡ g 0 1 0
  pub b011 : f 0 1 1 ≡ g 0 1 1
  pub b100 : f 1 0 0 ≡ g 1 0 0
  pub b101 : f 1 0 1 ≡ g 1 0 1
  pub b110 : f 1 1 0 ≡ g 1 1 0
  pub b111 : f 1 1 1 ≡ g 1 1 1

module _ (f g : ℕ → ℕ → ℕ → ℕ) (fb : Bitwise f) (gb : Bitwise g) (on : OnBits f g) where
  bits : (r s t : ℕ) → r < 2 → s < 2 → t < 2 → f r s t ≡ g r s t
  bits r s t hr hs ht =
      bit-cases (λ (r : ℕ). f r s t ≡ g r s t)
      (bit-cases (λ (s : ℕ). f 0 s t ≡ g 0 s t)
      (bit-cases (λ (t : ℕ). f 0 0 t ≡ g 0 0 t) on.b000 on.b001 t ht)
      (bit-cases (λ (t : ℕ). f 0 1 t ≡ g 0 1 t) on.b010 on.b011 t ht)
      s hs)
      (bit-cases (λ (s : ℕ). f 1 s t ≡ g 1 s t)
      (bit-cases (λ (t : ℕ). f 1 0 t ≡ g 1 0 t) on.b100 on.b101 t ht)
      (bit-cases (λ (t : ℕ). f 1 1 t ≡ g 1 1 t) on.b110 on.b111 t ht)
      s hs)
      r hr

  up_to : (n x y z : ℕ) → x ≤ n → y ≤ n → z ≤ n → f x y z ≡ g x y z
  up_to zero x y z hx hy hz = bits x y z (omega arith) (omega arith) (omega arith)
  up_to (suc n) x y z hx hy hz =
      let h : f x y z / 2 ≡ g x y z / 2 =
      fb.half x y z ∙ up_to n (x / 2) (y / 2) (z / 2) (omega arith) (omega arith) (omega arith) ∙ sym (gb.half x y z) in
      let l : f x y z % 2 ≡ g x y z % 2 =
      fb.last x y z ∙ bits (x % 2) (y % 2) (z % 2) (omega arith) (omega arith) (omega arith) ∙ sym (gb.last x y z) in
      omega arith

  pub bitwise_equal : (x y z : ℕ) → f x y z ≡ g x y z
  bitwise_equal x y z = up_to (x + y + z) x y z (omega arith) (omega arith) (omega arith)

-- ---- conjunction over exclusive-or

pub and_xor : (x y z : ℕ) → bit_and (bit_xor x y) z ≡ bit_xor (bit_and x z) (bit_and y z)
and_xor =
    bitwise_equal (λ x y z. bit_and (bit_xor x y) z) (λ x y z. bit_xor (bit_and x z) (bit_and y z))
    (record { half = λ x y z. simp (and_half, xor_half); last = λ x y z. simp (and_bit, xor_bit) })
    (record { half = λ x y z. simp (and_half, xor_half); last = λ x y z. simp (and_bit, xor_bit) })
    (record { b000 = refl; b001 = refl; b010 = refl; b011 = refl; b100 = refl; b101 = refl; b110 = refl; b111 = refl })
