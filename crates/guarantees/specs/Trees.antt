-- Coded trees by their bytes: 01, "Layers" and "Parity table"; 02, "Same bytes at another place". Symbol i of layer j of a tree is f j i, and H j i s is the
-- hash of s as that symbol. Definitions only.
use Rattle.std.specs.Prelude.{◌≡◌, ◌≢◌, List, [], ◌∷◌, ◌++◌, ℕ, suc, ◌+◌, ◌-◌, ◌*◌, ◌/◌, ◌%◌, ◌^◌, ◌<◌, length, get_or, replicate, eqb}
use Rattle.octets.specs.Choice.{pick}
use Rattle.sha256.specs.Hash.{sha256}
use Rattle.symbol_hash.specs.declared.Kind.{Kind}
use Rattle.symbol_hash.specs.declared.Kind.TheVariants.{Plain, Placed}
use Rattle.guarantees.specs.Layouts.{bytes_from, symbol_no, data_symbols, all_symbols, hash_for, XorOf}

-- ---- the hash of a symbol

-- the kinds that a writer is told, by the kind of the record's first word: "In a new record the first word's kind is 00"; "Kind 01 records remain readable"
abbrev pub kind_bits : Kind → ℕ
kind_bits Placed = 0
kind_bits Plain = 1

-- "a big-endian word (kind 01, layer in the next 6 bits, number in the low 24)", its four bytes: kind and layer, then the number
abbrev pub place_bytes : ℕ → ℕ → List ℕ
place_bytes j i = (64 + j % 64) ∷ i / 2 ^ 16 % 256 ∷ i / 2 ^ 8 % 256 ∷ i % 256 ∷ []

-- the hash of s as symbol i of layer j, by the kind of the record's first word: with 00 "its symbol hash covers [that] word [..] and then the 256 bytes"
unfoldable pub hash_by : ℕ → ℕ → ℕ → List ℕ → List ℕ
hash_by kind j i s = pick (eqb kind 0) (sha256 (place_bytes j i ++ s)) (sha256 s)

abbrev pub Hasher : Type 0
Hasher = ℕ → ℕ → List ℕ → List ℕ

-- ---- trees

-- the members of equation e of layer j
abbrev pub members : List (List (List ℕ)) → ℕ → ℕ → List ℕ
members tbl j e = get_or (get_or tbl j []) e []

-- "An equation holds when the exclusive-or of its members is 256 zero bytes."
abbrev pub EquationHolds : (ℕ → List ℕ) → List ℕ → Type 0
EquationHolds symbol ms = XorOf (λ q. symbol (get_or ms q 0)) (length ms) (replicate 256 0)

-- a tree of depth d "is correctly coded when every equation of every layer holds and every hash stands where the section above puts it"
pub record CorrectlyCoded (H : Hasher) (d : ℕ) (tbl : List (List (List ℕ))) (f : ℕ → ℕ → List ℕ) : Type 0 where
  pub sized : (j i : ℕ) → j < d → i < all_symbols j → length (f j i) ≡ 256
  pub equations_hold : (j e : ℕ) → j < d → e < 3 * data_symbols j → EquationHolds (f j) (members tbl j e)
  pub hashes_stand : (j i : ℕ) → suc j < d → i < all_symbols (suc j) → hash_for [] f (suc j) i ≡ H (suc j) i (f (suc j) i)

-- "The root is 512 bytes: the hashes of layer 0's sixteen symbols in order."
pub record RootOf (H : Hasher) (f : ℕ → ℕ → List ℕ) (root : List ℕ) : Type 0 where
  pub full : length root ≡ 512
  pub hashes : (i : ℕ) → i < 16 → bytes_from root (32 * i) 32 ≡ H 0 i (f 0 i)

-- "It agrees with a root and table when it is correctly coded by that table's equations and the hashes of its layer 0 are that root."
pub record AgreesWith (H : Hasher) (d : ℕ) (tbl : List (List (List ℕ))) (root : List ℕ) (f : ℕ → ℕ → List ℕ) : Type 0 where
  pub correctly_coded : CorrectlyCoded H d tbl f
  pub root_of_lem : RootOf H f root

-- "cut in order into data symbols": a block that is filled up, as 02, CR 5 has it
abbrev pub HasBlock : ℕ → (ℕ → ℕ → List ℕ) → List ℕ → Type 0
HasBlock d f block = (i : ℕ) → i < data_symbols (d - 1) → f (d - 1) i ≡ symbol_no block i

-- "two different symbols of equal SHA-256"; with kind 00 "equal hashes meaning those of place and symbol together": both as symbol i of layer j
pub record Twins (H : Hasher) (j i : ℕ) (s u : List ℕ) : Type 0 where
  pub symbols : (length s ≡ 256) × (length u ≡ 256)
  pub differ : s ≢ u
  pub equal : H j i s ≡ H j i u
