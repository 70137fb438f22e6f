-- FIPS 180-4, sections 5.1.1 and 5.2.1: the padded message and its blocks. Definitions only.
use Rattle.std.specs.Prelude.{ℕ, ◌-◌, ◌*◌, ◌%◌, List, ◌∷◌, ◌++◌, length, take, drop, replicate}
use Rattle.octets.specs.BigEndian.{be, words}

-- 5.1.1: the bit 1 and 7 zeros are the byte 0x80; then zeros up to 8 bytes below a multiple of 64; then the length in bits, as 8 bytes
unfoldable pub pad : List ℕ → List ℕ
pad m = m ++ (0x80 ∷ (replicate ((119 - length m % 64) % 64) 0 ++ be 8 (length m * 8)))

-- the last bytes m of a message of n bytes, padded: as pad m, but for the length, which is the whole message's
unfoldable pub pad_tail : ℕ → List ℕ → List ℕ
pad_tail n m = take (length (pad m) - 8) (pad m) ++ be 8 (n * 8)

-- 5.2.1: block i, counted from 0, "expressed as sixteen 32-bit words", M_0 to M_15
unfoldable pub block : List ℕ → ℕ → List ℕ
block p i = words (take 64 (drop (i * 64) p)) 16
