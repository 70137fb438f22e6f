-- The tree writer and reading back: 01, "Layers". Definitions only.
use Rattle.std.specs.Prelude.{◌≡◌, Bool, List, [], ◌∷◌, ◌++◌, ℕ, zero, suc, ◌+◌, ◌-◌, ◌*◌, ◌/◌, ◌%◌, ◌<◌, length, take, drop, replicate, eqb}
use Rattle.std.proofs.Math.Seq.{paste}
use Rattle.parity_table.specs.Members.{every}
use Rattle.parity_table.specs.Table.{layer_of}
use Rattle.model.specs.Shape.{Shape, place, places}
use Rattle.model.specs.Symbols.{symbol_in, xor_of, others, sym_at, put_at}
use Rattle.model.specs.Coded.{Same, root_of, Coded, Agrees}

module _ (S : Shape) where
  -- the parity symbols of layer j from number k+e on, each made of the other members of its equation, of those that are left
  unfoldable pub parities : ℕ → ℕ → List (List ℕ) → List ℕ → List ℕ
  parities j e [] t = t
  parities j e (ms ∷ es) t = parities j (suc e) es (put_at S t j (S.k j + e) (xor_of (sym_at S t j) (others (S.k j + e) ms)))

  -- where the hash of symbol i of layer j+1 stands in the tree buffer
  unfoldable pub hash_place : ℕ → ℕ → ℕ
  hash_place j i = 256 * place S j (i % S.k j) + 32 * (i / S.k j)

  -- the base's data symbols in order: what reading back gives of a tree of depth d
  unfoldable pub block_of : ℕ → List ℕ → List ℕ
  block_of d t = take (256 * S.k (d - 1)) (drop (256 * place S (d - 1) 0) t)

  -- "the writer fills up with zeros": a block, of at most 256·k bytes of the base, as just so many
  unfoldable pub filled : ℕ → List ℕ → List ℕ
  filled d block = block ++ replicate (256 * S.k (d - 1) - length block) 0

  -- the filling behind a block of n bytes is zero
  unfoldable pub zero_filled : ℕ → ℕ → List ℕ → Bool
  zero_filled d n t = every (λ x. eqb x 0) (drop n (block_of d t))

  -- "The writer sets every mark to 1."
  unfoldable pub written_marks : ℕ → List ℕ
  written_marks d = replicate (places S d) 1

  -- the base of f, which has depth d, has the block's data symbols: "cut in order into data symbols"
  abbrev pub BaseOf : ℕ → (ℕ → ℕ → List ℕ) → List ℕ → Type 0
  BaseOf d f block = (i : ℕ) → i < S.k (d - 1) → f (d - 1) i ≡ symbol_in block i

module _ (S : Shape) (H : ℕ → ℕ → List ℕ → List ℕ) where
  unfoldable pub put_hash : ℕ → ℕ → List ℕ → List ℕ
  put_hash j i t = paste t (hash_place S j i) (H (suc j) i (sym_at S t (suc j) i)) 32

  -- the hashes of m symbols of layer j+1, from number i on, into layer j
  unfoldable pub put_hashes : ℕ → ℕ → ℕ → List ℕ → List ℕ
  put_hashes j i zero t = t
  put_hashes j i (suc m) t = put_hashes j (suc i) m (put_hash j i t)

  -- the root that is written with the tree t
  unfoldable pub written_root : List ℕ → List ℕ
  written_root t = root_of S H (sym_at S t)

  module _ (tbl : List (List (List ℕ))) where
    -- the d topmost layers, the data symbols of the lowest of them being in place
    unfoldable pub code : ℕ → List ℕ → List ℕ
    code zero t = t
    code (suc zero) t = parities S 0 0 (layer_of tbl 0) t
    code (suc (suc j)) t = code (suc j) (put_hashes j 0 (S.n (suc j)) (parities S (suc j) 0 (layer_of tbl (suc j)) t))

    -- the written tree, t being what the lent buffer held
    unfoldable pub write_tree : List ℕ → List ℕ → List ℕ
    write_tree block t = code (length tbl) (paste t (256 * place S (length tbl - 1) 0) block (256 * S.k (length tbl - 1)))

    -- What holds of the tree t that is written for a block: it agrees with the root that is written with it; every correctly coded
    -- tree with the block's data symbols is this one; reading back gives the block.
    pub record Written (block t : List ℕ) : Type 0 where
      pub sized : length t ≡ 256 * places S (length tbl)
      pub agrees : Agrees S H tbl (written_root t) (sym_at S t)
      pub only : (f : ℕ → ℕ → List ℕ) → Coded S H tbl f → BaseOf S (length tbl) f block → Same S tbl (sym_at S t) f
      pub block_back : block_of S (length tbl) t ≡ block
