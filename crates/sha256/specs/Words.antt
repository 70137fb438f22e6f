-- FIPS 180-4, sections 2.2.2 and 3.2: operations on 32-bit words, which are numbers below 2 ^ 32. Definitions only.
-- The standard's ∧, ∨ and ⊕ are bit_and, bit_or and bit_xor of the library.
use Rattle.std.specs.Prelude.{ℕ, ◌+◌, ◌-◌, ◌*◌, ◌/◌, ◌%◌, ◌^◌, bit_or}

-- 2.2.2: ¬x, the bitwise complement
abbrev pub complement : ℕ → ℕ
complement x = 2 ^ 32 - 1 - x

infixl 65 ◌⊞◌
-- 3.2, 2: addition modulo 2 ^ 32
abbrev pub ◌⊞◌ : ℕ → ℕ → ℕ
x ⊞ y = (x + y) % 2 ^ 32

-- 3.2, 3: SHR, x >> n
abbrev pub shr : ℕ → ℕ → ℕ
shr n x = x / 2 ^ n

-- 3.2, 4: ROTR, (x >> n) ∨ (x << 32 - n)
abbrev pub rotr : ℕ → ℕ → ℕ
rotr n x = bit_or (x / 2 ^ n) (x * 2 ^ (32 - n) % 2 ^ 32)
