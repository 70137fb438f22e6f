-- The head of a fault proof and of a root record: three big-endian words, each of a kind, with a value. The second is of kind 10, the third of kind
-- 11; the first of kind 01, and in a record it may be of another. Definitions only.
use Rattle.std.specs.Prelude.{List, ◌++◌, ℕ, ◌*◌, ◌/◌, ◌%◌, ◌^◌}
use Rattle.octets.specs.BigEndian.{be, word_at}
use Rattle.parity_table.specs.Table.{word}

-- the head with these values, its first word of this kind
unfoldable pub head : (kind a b c : ℕ) → List ℕ
head kind a b c = be 4 (word kind a) ++ (be 4 (word 2 b) ++ be 4 (word 3 c))

-- kind and value of word i of a head
unfoldable pub kind_at : List ℕ → ℕ → ℕ
kind_at b i = word_at b (4 * i) / 2 ^ 30

unfoldable pub value_at : List ℕ → ℕ → ℕ
value_at b i = word_at b (4 * i) % 2 ^ 30
