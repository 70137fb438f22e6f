-- Correctly coded trees, and trees that agree with a root: 01, "Parity table". Definitions only.
-- `H j i s` is the hash of s as symbol i of layer j; `f j i` is symbol i of layer j of a tree, which has as many layers as the table.
use Rattle.std.specs.Prelude.{◌≡◌, ◌≢◌, List, ℕ, suc, ◌%◌, ◌/◌, ◌<◌, length}
use Rattle.parity_table.specs.Table.{layer_of, equation_of}
use Rattle.model.specs.Shape.{Shape}
use Rattle.model.specs.Symbols.{joined, xor_of, zeros, slot}

-- every hash has 32 bytes
abbrev pub Digests : (ℕ → ℕ → List ℕ → List ℕ) → Type 0
Digests H = (j i : ℕ) (s : List ℕ) → length (H j i s) ≡ 32

module _ (S : Shape) (tbl : List (List (List ℕ))) where
  -- the tree has a symbol i of layer j
  abbrev pub InTree : ℕ → ℕ → Type 0
  InTree j i = (j < length tbl) × (i < S.n j)

  -- two trees have the same symbols
  abbrev pub Same : (ℕ → ℕ → List ℕ) → (ℕ → ℕ → List ℕ) → Type 0
  Same f g = (j i : ℕ) → InTree j i → f j i ≡ g j i

-- a collision: two different symbols of equal hash, both as symbol i of layer j
pub record Collide (H : ℕ → ℕ → List ℕ → List ℕ) (j i : ℕ) (s u : List ℕ) : Type 0 where
  pub differ : s ≢ u
  pub equal : H j i s ≡ H j i u

-- "The root is [..] the hashes of layer 0's sixteen symbols in order."
unfoldable pub root_of : Shape → (ℕ → ℕ → List ℕ → List ℕ) → (ℕ → ℕ → List ℕ) → List ℕ
root_of S H f = joined (λ i. H 0 i (f 0 i)) 0 (S.n 0)

module _ (S : Shape) (H : ℕ → ℕ → List ℕ → List ℕ) (tbl : List (List (List ℕ))) where
  -- "A tree is correctly coded when every equation of every layer holds and every hash stands where the section above puts it."
  pub record Coded (f : ℕ → ℕ → List ℕ) : Type 0 where
    pub sized : (j i : ℕ) → InTree S tbl j i → length (f j i) ≡ 256
    pub holds : (j e : ℕ) → j < length tbl → e < length (layer_of tbl j) → xor_of (f j) (equation_of tbl j e) ≡ zeros
    pub stands : (j i : ℕ) → InTree S tbl (suc j) i → slot (f j (i % S.k j)) (i / S.k j) ≡ H (suc j) i (f (suc j) i)

  -- "It agrees with a root and table when it is correctly coded by that table's equations and the hashes of its layer 0 are that root."
  pub record Agrees (root : List ℕ) (f : ℕ → ℕ → List ℕ) : Type 0 where
    pub coded : Coded f
    pub rooted : root ≡ root_of S H f

  -- a collision of two trees, at one layer and number
  pub record Collision (f g : ℕ → ℕ → List ℕ) : Type 0 where
    pub layer : ℕ
    pub number : ℕ
    pub inside : InTree S tbl layer number
    pub collide : Collide H layer number (f layer number) (g layer number)

  -- a collision of a tree with a symbol that is held elsewhere: `held j i s`, s is held there as symbol i of layer j
  pub record CollisionWith (held : ℕ → ℕ → List ℕ → Type 0) (f : ℕ → ℕ → List ℕ) : Type 0 where
    pub layer : ℕ
    pub number : ℕ
    pub symbol : List ℕ
    pub is_held : held layer number symbol
    pub inside : InTree S tbl layer number
    pub collide : Collide H layer number symbol (f layer number)
