-- The house table as bytes: they go back to its words, and are few enough for a table from C.
use mathlib.Core.Path.{◌≡◌}
use Prim.Native.Nat.{ℕ, ◌*◌, ◌≤◌}
use native.Mathlib.Omega.{arith}
use lib.ListN.{length}
use Rattle.octets.specs.BigEndian.{bytes_of}
use Rattle.parity_table.specs.Shape.{max_depth}
use Rattle.parity_table.specs.Table.{table_words}
use Rattle.table_bytes.specs.Bytes.{max_bytes, words_of}
use Rattle.table_bytes.proofs.RoundTrip.{words-bytes, table-words}
use Rattle.house_table.specs.House.{house_table, house_words}
use Rattle.house_table.proofs.HouseRules.{house-rules}
use Rattle.house_table.proofs.HouseParts.{house_small}

-- the house table goes to bytes and back, at every depth
pub house-bytes-words : (d : ℕ) → d ≤ max_depth → words_of (bytes_of (house_words d)) ≡ house_words d
unfolding house_words
house-bytes-words d h =
    words-bytes (table_words (house_table d)) (table-words d (house_table d) (house-rules d) h (omega (arith, house_small d h)))

-- its words are short enough for a table from C
pub house-short : (d : ℕ) → d ≤ max_depth → length (table_words (house_table d)) * 4 ≤ max_bytes
unfolding house_words
house-short d h = omega (arith, house_small d h)
