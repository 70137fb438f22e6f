-- A table as it comes from C: 01, "big-endian bytes, four to a word; a length over 16,384 or not a multiple of 4 stops with 2", and 02, "From C a
-- table may now have 220,792 bytes".
-- Definitions only.
use Rattle.std.specs.Prelude.{Bool, ◌&&◌, List, ℕ, ◌+◌, ◌-◌, ◌*◌, ◌/◌, ◌%◌, ◌^◌, length, take, leb, eqb}
use Rattle.octets.specs.BigEndian.{words}
use Rattle.parity_table.specs.Shape.{max_depth}

-- the words of the bytes
unfoldable pub words_of : List ℕ → List ℕ
words_of b = words b (length b / 4)

-- .. the first n of them
abbrev pub front_words : List ℕ → ℕ → List ℕ
front_words b n = take n (words_of b)

-- the most bytes that a table from C may have, 220,792: four for each word, nine words for each equation of the largest depth, one for each layer,
-- and the end word
abbrev pub max_bytes : ℕ
max_bytes = 4 * (9 * (3 * (4 * 2 ^ max_depth - 4)) + max_depth + 1)

unfoldable pub length_fits : ℕ → Bool
length_fits n = leb n max_bytes && eqb (n % 4) 0
