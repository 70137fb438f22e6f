-- Bytes as hexadecimal digits. Definitions only.
use Rattle.std.specs.Prelude.{List, [], ◌∷◌, ℕ, ◌+◌, ◌-◌, ◌/◌, ◌%◌, ltb}
use Rattle.octets.specs.Choice.{pick}

-- the character of a digit below 16: 0 to 9, then six letters, of which the first is given
unfoldable pub hex_digit : ℕ → ℕ → ℕ
hex_digit letter n = pick (ltb n 10) (48 + n) (letter + (n - 10))

-- the letters from a on, and from A on
abbrev pub lower : ℕ
lower = 97

abbrev pub upper : ℕ
upper = 65

-- two digits to a byte
unfoldable pub hex_of : ℕ → List ℕ → List ℕ
hex_of letter [] = []
hex_of letter (x ∷ xs) = hex_digit letter (x / 16) ∷ hex_digit letter (x % 16) ∷ hex_of letter xs
