-- The root record: 02, "Length and table written in the root record" and "Same bytes at another place". Definitions only. A table is its words as
-- big-endian bytes.
use Rattle.std.specs.Prelude.{Bool, ◌&&◌, List, ◌++◌, ℕ, ◌-◌, ◌*◌, ◌/◌, length, take, drop, leb, eqb}
use Rattle.octets.specs.ByteLists.{same}
use Rattle.octets.specs.Choice.{pick}
use Rattle.sha256.specs.Hash.{sha256}
use Rattle.parity_table.specs.Shape.{k_of}
use Rattle.heads.specs.Heads.{head, kind_at, value_at}
pub use Rattle.symbol_hash.specs.Kinds.{kind_number}
use Rattle.symbol_hash.specs.declared.Kind.{Kind}
use Rattle.symbol_hash.specs.declared.Kind.TheVariants.{Plain, Placed}

-- The volume's kind, by the kind of the record's first word, which is the kind's number.
unfoldable pub kind_of : ℕ → Kind
kind_of number = pick (eqb number 0) Placed Plain

-- "three big-endian words (kind 01 the depth, 10 the block length in bytes, 11 the number of table words), then the SHA-256 of the table words as
-- big-endian bytes, then the old 512 bytes: 556 in all"
unfoldable pub record_of : (kind : Kind) (depth size : ℕ) (table root : List ℕ) → List ℕ
record_of kind depth size table root = head (kind_number kind) depth size (length table / 4) ++ (sha256 table ++ root)

-- what stands in a record: the volume's kind, the block's length, the number of table words, their hash, and the root
unfoldable pub kind_in : List ℕ → Kind
kind_in r = kind_of (kind_at r 0)

unfoldable pub size_in : List ℕ → ℕ
size_in r = value_at r 1

unfoldable pub count_in : List ℕ → ℕ
count_in r = value_at r 2

unfoldable pub hash_in : List ℕ → List ℕ
hash_in r = take 32 (drop 12 r)

unfoldable pub root_in : List ℕ → List ℕ
root_in r = drop 44 r

-- 11's test, at depth d: "A head with a wrong kind, a length over 256·k or another depth than the call's"; the first kind is 00 or 01
unfoldable pub head_right : ℕ → List ℕ → Bool
head_right d r =
    (leb (kind_at r 0) 1 && eqb (value_at r 0) d)
    && ((eqb (kind_at r 1) 2 && leb (size_in r) (256 * k_of (d - 1))) && eqb (kind_at r 2) 3)

-- 12's test: "a table of another word count or hash"
unfoldable pub names_table : List ℕ → List ℕ → Bool
names_table r table = eqb (count_in r) (length table / 4) && same (sha256 table) (hash_in r)
