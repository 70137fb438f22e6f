-- The hash of the bytes s of symbol i of layer j, by the volume's kind. Definitions only.
use Rattle.std.specs.Prelude.{List, ◌++◌, ℕ, ◌+◌, ◌*◌, ◌%◌, ◌^◌}
use Rattle.octets.specs.BigEndian.{be}
use Rattle.sha256.specs.Hash.{sha256}
use Rattle.parity_table.specs.Table.{word}
use Rattle.symbol_hash.specs.declared.Kind.{Kind}
use Rattle.symbol_hash.specs.declared.Kind.TheVariants.{Plain, Placed}

-- 02, CR 7: "a big-endian word (kind 01, layer in the next 6 bits, number in the low 24)"
unfoldable pub place_word : ℕ → ℕ → ℕ
place_word j i = word 1 (j % 2 ^ 6 * 2 ^ 24 + i % 2 ^ 24)

unfoldable pub symbol_hash : Kind → ℕ → ℕ → List ℕ → List ℕ
-- the layer and the number do not count
symbol_hash Plain j i s = sha256 s
-- 02, CR 7: "Its symbol hash covers a big-endian word .. and then the 256 bytes"
symbol_hash Placed j i s = sha256 (be 4 (place_word j i) ++ s)
