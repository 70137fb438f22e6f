-- Numbers in byte lists, the highest byte first. Definitions only.
use Rattle.std.specs.Prelude.{List, [], ◌∷◌, ◌++◌, ℕ, zero, suc, ◌+◌, ◌*◌, ◌/◌, ◌%◌, ◌^◌, get_or}

-- x as n bytes
unfoldable pub be : ℕ → ℕ → List ℕ
be zero x = []
be (suc n) x = x / 2 ^ (n * 8) % 256 ∷ be n x

-- the 32-bit word in the four bytes from byte i on
unfoldable pub word_at : List ℕ → ℕ → ℕ
word_at b i = get_or b i 0 * 2 ^ 24 + get_or b (i + 1) 0 * 2 ^ 16 + get_or b (i + 2) 0 * 2 ^ 8 + get_or b (i + 3) 0

-- the first n words
unfoldable pub words : List ℕ → ℕ → List ℕ
words b zero = []
words b (suc n) = words b n ++ (word_at b (n * 4) ∷ [])

-- words as bytes, four to a word
unfoldable pub bytes_of : List ℕ → List ℕ
bytes_of [] = []
bytes_of (x ∷ xs) = be 4 x ++ bytes_of xs
