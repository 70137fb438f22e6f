-- FIPS 180-4, section 5.1.1, in its own numbers, eight bits to a byte: what the padded message is, whatever the definition does. Statements only.
--
-- "Suppose that the length of the message, M, is ℓ bits. Append the bit "1" to the end of the message, followed by k zero bits, where k is the
-- smallest, non-negative solution to the equation ℓ + 1 + k ≡ 448 mod 512. Then append the 64-bit block that is equal to the number ℓ expressed
-- using a binary representation." "The length of the padded message should now be a multiple of 512 bits."
use Rattle.std.specs.Prelude.{◌≡◌, List, ℕ, ◌+◌, ◌-◌, ◌*◌, ◌/◌, ◌%◌, ◌^◌, ◌≤◌, ◌<◌, length, get_or, take}
use Rattle.sha256.specs.Padding.{pad}
use Rattle.guarantees.specs.Layouts.{word_no}

-- p is the message m, padded. With the bit 1 come 7 zeros, the byte 128; a shorter p has no room for it and for the 8 bytes of ℓ, or isn't of
-- whole blocks. The standard's messages are below 2^64 bits.
pub record PaddedAs (m p : List ℕ) : Type 0 where
  pub whole_blocks : length p % 64 ≡ 0
  pub room : length m + 9 ≤ length p
  pub least : length p < length m + 73
  pub message : take (length m) p ≡ m
  pub one_bit : get_or p (length m) 0 ≡ 128
  pub zeros : (q : ℕ) → length m < q → q < length p - 8 → get_or p q 0 ≡ 0
  pub bytes : (q : ℕ) → length m ≤ q → get_or p q 0 < 256
  pub bits : length m < 2 ^ 61 → 2 ^ 32 * word_no p (length p / 4 - 2) + word_no p (length p / 4 - 1) ≡ 8 * length m

abbrev pub Padded : List ℕ → Type 0
Padded m = PaddedAs m (pad m)
