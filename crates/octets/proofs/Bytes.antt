-- Words as bytes, and the lengths of the byte forms.
use mathlib.Core.Path.{◌≡◌, refl, ap}
use mathlib.Core.List.{List, [], ◌∷◌}
use Prim.Native.Nat.{ℕ, zero, suc, ◌+◌, ◌*◌, ◌/◌, ◌%◌, ◌^◌, ◌<◌}
use native.Mathlib.Omega.{arith}
use mir.Syntax.{w32}
use Rattle.std.specs.Int.{to_be_bytes}
use Rattle.std.proofs.lemmas.Nat.{from_be_bytes-to_be_bytes_4}
use lib.ListN.{length, length-append}
use Rattle.octets.specs.BigEndian.{be, words, bytes_of}

-- the bytes that the number type gives
pub be_is : (x : ℕ) → to_be_bytes w32 x ≡ be 4 x
unfolding be
be_is x = let e : x / 1 ≡ x = omega arith in cc

-- .. and added up again
pub be-read : (x : ℕ) → x < 2 ^ 32 → x / 16777216 % 256 * 16777216 + x / 65536 % 256 * 65536 + x / 256 % 256 * 256 + x / 1 % 256 ≡ x
be-read x h = let e : x / 1 ≡ x = omega arith in rw e (from_be_bytes-to_be_bytes_4 x h)

pub length-be : (n x : ℕ) → length (be n x) ≡ n
unfolding be
length-be zero x = refl
length-be (suc n) x = ap suc (length-be n x)

pub length-words : (b : List ℕ) (n : ℕ) → length (words b n) ≡ n
unfolding words
length-words b zero = refl
length-words b (suc n) = simp length-append (omega (arith, length-words b n))

pub length-bytes_of : (ws : List ℕ) → length (bytes_of ws) ≡ length ws * 4
unfolding bytes_of
length-bytes_of [] = refl
length-bytes_of (x ∷ xs) = simp length-append (omega (arith, length-be 4 x, length-bytes_of xs))
