-- Symbols, their exclusive-or, and where a hash stands: 01, "Layers" and "Parity table". Definitions only.
use Rattle.std.specs.Prelude.{Bool, true, false, Option, None, Some, List, [], ◌∷◌, ◌++◌, ℕ, zero, suc, ◌+◌, ◌*◌, ◌/◌, ◌%◌, take, drop, replicate, eqb, ltb}
use Rattle.std.proofs.Math.Seq.{paste}
use Rattle.octets.specs.ByteLists.{xors}
use Rattle.octets.specs.Choice.{pick}
use Rattle.model.specs.Shape.{Shape, place}

-- m byte lists one after the other: g x, g (x+1), ..
unfoldable pub joined : (ℕ → List ℕ) → ℕ → ℕ → List ℕ
joined g x zero = []
joined g x (suc m) = g x ++ joined g (suc x) m

-- symbol x of symbols that stand one after the other: "A symbol is 256 bytes"
unfoldable pub symbol_in : List ℕ → ℕ → List ℕ
symbol_in c x = take 256 (drop (256 * x) c)

-- ---- exclusive-or

-- "256 zero bytes"
unfoldable pub zeros : List ℕ
zeros = replicate 256 0

-- the exclusive-or of the symbols f x, x one of the numbers
unfoldable pub xor_of : (ℕ → List ℕ) → List ℕ → List ℕ
xor_of f [] = zeros
xor_of f (x ∷ xs) = xors (f x) (xor_of f xs)

-- the numbers other than x, in order
unfoldable pub others : ℕ → List ℕ → List ℕ
others x [] = []
others x (y ∷ ys) = pick (eqb y x) (others x ys) (y ∷ others x ys)

-- how many of the numbers pass a test
abbrev pub bit : Bool → ℕ
bit true = 1
bit false = 0

unfoldable pub count : (ℕ → Bool) → List ℕ → ℕ
count p [] = 0
count p (x ∷ xs) = bit (p x) + count p xs

-- the first of the numbers that passes, 0 where none does
unfoldable pub first_of : (ℕ → Bool) → List ℕ → ℕ
first_of p [] = 0
first_of p (x ∷ xs) = pick (p x) x (first_of p xs)

-- the lowest of the m numbers from x on that passes, x + m where none does
unfoldable pub lowest : (ℕ → Bool) → ℕ → ℕ → ℕ
lowest p x zero = x
lowest p x (suc m) = pick (p x) x (lowest p (suc x) m)

-- the lowest of the numbers below n that passes, if there is one
abbrev pub found : (ℕ → Bool) → ℕ → Option ℕ
found p n = pick (ltb (lowest p 0 n) n) (Some (lowest p 0 n)) None

-- ---- hashes in a symbol or in the root

-- hash number c, at "bytes 32·c to 32·c+31"
unfoldable pub slot : List ℕ → ℕ → List ℕ
slot s c = take 32 (drop (32 * c) s)

module _ (S : Shape) where
  -- The committed hash of symbol i of layer j, f giving the symbols above: "For j > 0 let s = n/8, which is the k of the layer above.
  -- The hash of symbol i stands in data symbol (i mod s) of the layer above, at bytes 32·⌊i/s⌋ to 32·⌊i/s⌋+31."
  -- For layer 0 it stands in the root.
  unfoldable pub committed : List ℕ → (ℕ → ℕ → List ℕ) → ℕ → ℕ → List ℕ
  committed root f zero i = slot root i
  committed root f (suc j) i = slot (f j (i % S.k j)) (i / S.k j)

  -- ---- the tree buffer

  -- symbol i of layer j
  unfoldable pub sym_at : List ℕ → ℕ → ℕ → List ℕ
  sym_at t j i = symbol_in t (place S j i)

  -- the tree with v for symbol i of layer j
  unfoldable pub put_at : List ℕ → ℕ → ℕ → List ℕ → List ℕ
  put_at t j i v = paste t (256 * place S j i) v 256
