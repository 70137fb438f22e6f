-- 01's layouts in its own numbers, by bytes and places alone: what the statements of this crate are said in. Of other crates only the choice by a
-- test stands behind them, so a number that is wrong elsewhere isn't also wrong here. Definitions only.
use Rattle.std.specs.Prelude.{◌≡◌, List, [], ◌∷◌, ◌++◌, ℕ, zero, suc, ◌+◌, ◌-◌, ◌*◌, ◌/◌, ◌%◌, ◌^◌, ◌<◌, length, get_or, take, drop, replicate, eqb}
use Rattle.std.specs.Int.Bits.{bit_xor}
use Rattle.octets.specs.Choice.{pick}

-- n bytes, the first being number a
unfoldable pub bytes_from : List ℕ → ℕ → ℕ → List ℕ
bytes_from s a n = take n (drop a s)

-- "A symbol is 256 bytes": symbol x of symbols that stand one after the other
abbrev pub symbol_no : List ℕ → ℕ → List ℕ
symbol_no s x = bytes_from s (256 * x) 256

-- ---- "Layers"

-- "Layer j (0 is the top, D−1 the base) has k = 4·2^j data symbols, numbered first, and 3k parity symbols; n = 4k."
abbrev pub data_symbols : ℕ → ℕ
data_symbols j = 4 * 2 ^ j

abbrev pub all_symbols : ℕ → ℕ
all_symbols j = 4 * data_symbols j

-- "all layers, top first, 16·(2^D−1) symbols": those of depth d, and the place of symbol i of layer j
abbrev pub tree_symbols : ℕ → ℕ
tree_symbols d = 16 * (2 ^ d - 1)

abbrev pub place_of : ℕ → ℕ → ℕ
place_of j i = tree_symbols j + i

-- symbol i of layer j in the tree buffer, and its mark
abbrev pub symbol_at : List ℕ → ℕ → ℕ → List ℕ
symbol_at t j i = symbol_no t (place_of j i)

abbrev pub mark_at : List ℕ → ℕ → ℕ → ℕ
mark_at m j i = get_or m (place_of j i) 0

-- "For j > 0 let s = n/8": the s of layer j
abbrev pub spread : ℕ → ℕ
spread j = all_symbols j / 8

-- "The hash of symbol i stands in data symbol (i mod s) of the layer above, at bytes 32·⌊i/s⌋ to 32·⌊i/s⌋+31. The root is 512 bytes: the hashes
-- of layer 0's sixteen symbols in order." Symbol m of layer l is f l m.
unfoldable pub hash_for : List ℕ → (ℕ → ℕ → List ℕ) → ℕ → ℕ → List ℕ
hash_for root f zero i = bytes_from root (32 * i) 32
hash_for root f (suc j) i = bytes_from (f j (i % spread (suc j))) (32 * (i / spread (suc j))) 32

-- ---- "Parity table"

-- the exclusive-or of the m numbers g x, g (x+1), ..
unfoldable pub xor_run : (ℕ → ℕ) → ℕ → ℕ → ℕ
xor_run g x zero = 0
xor_run g x (suc m) = bit_xor (g x) (xor_run g (suc x) m)

-- s is the exclusive-or of the n symbols g 0, g 1, ..: "256 bytes"
pub record XorOf (g : ℕ → List ℕ) (n : ℕ) (s : List ℕ) : Type 0 where
  pub sized : length s ≡ 256
  pub bytes : (p : ℕ) → p < 256 → get_or s p 0 ≡ xor_run (λ q. get_or (g q) p 0) 0 n

-- ---- "Sample and fault proof"

-- "A sample of base symbol i is that symbol, then for each layer upward from D−2 to 0 its data symbol (i mod k) and its parity symbol k + (i mod 3k),
-- with that layer's k": the layer and the number of symbol x of a sample. Symbols 2u+1 and 2u+2 are of layer D−2−u.
unfoldable pub sampled_layer : ℕ → ℕ → ℕ
sampled_layer d zero = d - 1
sampled_layer d (suc y) = d - 2 - y / 2

unfoldable pub sampled_number : ℕ → ℕ → ℕ → ℕ
sampled_number d i zero = i
sampled_number d i (suc y) =
    pick (eqb (y % 2) 0) (i % data_symbols (sampled_layer d (suc y))) (data_symbols (sampled_layer d (suc y)) + i % (3 * data_symbols (sampled_layer d (suc y))))

-- "from symbol i to data symbol (i mod s) of the layer above": x layers up from symbol i of layer j
unfoldable pub up_from : ℕ → ℕ → ℕ → ℕ
up_from j i zero = i
up_from j i (suc x) = up_from j i x % spread (j - x)

-- the 32-bit number in four bytes, the highest first: word w of a list of bytes
unfoldable pub word_no : List ℕ → ℕ → ℕ
word_no b w = 2 ^ 24 * get_or b (4 * w) 0 + 2 ^ 16 * get_or b (4 * w + 1) 0 + 2 ^ 8 * get_or b (4 * w + 2) 0 + get_or b (4 * w + 3) 0

-- "the top two bits are the kind, the low 30 a value"
abbrev pub kind_value : ℕ → ℕ → ℕ
kind_value kind value = kind * 2 ^ 30 + value

-- kind and value of word w of a list of bytes
abbrev pub kind_no : List ℕ → ℕ → ℕ
kind_no b w = word_no b w / 2 ^ 30

abbrev pub value_no : List ℕ → ℕ → ℕ
value_no b w = word_no b w % 2 ^ 30

-- the four bytes of a 32-bit number, the highest first
abbrev pub word_bytes : ℕ → List ℕ
word_bytes x = x / 2 ^ 24 % 256 ∷ x / 2 ^ 16 % 256 ∷ x / 2 ^ 8 % 256 ∷ x % 256 ∷ []

-- ---- 02, "Length and table written in the root record"

-- "three big-endian words (kind 01 the depth, 10 the block length in bytes, 11 the number of table words), then the SHA-256 of the table words as
-- big-endian bytes, then the old 512 bytes: 556 in all"; hash is that SHA-256. CR 7: "In a new record the first word's kind is 00."
abbrev pub record_bytes : (kind depth size count : ℕ) (hash root : List ℕ) → List ℕ
record_bytes kind depth size count hash root =
    word_bytes (kind_value kind depth) ++ word_bytes (kind_value 2 size) ++ word_bytes (kind_value 3 count) ++ hash ++ root

-- the block length in a record, and the old 512 bytes
abbrev pub block_size : List ℕ → ℕ
block_size r = value_no r 1

abbrev pub root_part : List ℕ → List ℕ
root_part r = drop 44 r

-- the bytes of the base's data symbols that a block can have at depth d, and where they begin in the tree buffer
abbrev pub block_room : ℕ → ℕ
block_room d = 256 * data_symbols (d - 1)

abbrev pub block_start : ℕ → ℕ
block_start d = 256 * tree_symbols (d - 1)

-- "the writer fills up with zeros"
abbrev pub filled_up : ℕ → List ℕ → List ℕ
filled_up d block = block ++ replicate (block_room d - length block) 0
