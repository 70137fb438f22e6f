-- The layers one after the other, and the whole tree, as the code meets them.
use mathlib.Core.Path.{◌≡◌, sym, ap, ap₂, ◌∙◌, subst}
use mathlib.Core.List.{List}
use Prim.Native.Nat.{ℕ, zero, suc, ◌+◌, ◌-◌, ◌*◌, ◌≤◌, ◌<◌}
use native.Mathlib.Omega.{arith}
use lib.ListN.{length}
use lib.Seq.{paste}
use Rattle.symbol_hash.specs.SymbolHash.{symbol_hash}
use Rattle.symbol_hash.specs.declared.Kind.{Kind}
use Rattle.parity_table.specs.Shape.{k_of, n_of}
use Rattle.parity_table.specs.Table.{layer_of}
use Rattle.model.specs.Shape.{tree, places, place}
use Rattle.model.specs.Writer.{parities, put_hashes, code, write_tree}
use Rattle.model.proofs.Shapes.{places_mono}

-- layer j is whole inside a tree of depth d
pub layer-room : (d j : ℕ) (t : List ℕ) → j < d → length t ≡ 256 * places tree d → 256 * (places tree j + n_of j) ≤ length t
unfolding places
layer-room d j t h l = omega (arith, places_mono tree (suc j) d h)

module _ (kind : Kind) (tbl : List (List (List ℕ))) where
  -- one layer up: its parity symbols, then their hashes
  pub code_step : (j : ℕ) (t u v : List ℕ) → 0 < j → u ≡ parities tree j 0 (layer_of tbl j) t
      → v ≡ put_hashes tree (symbol_hash kind) (j - 1) 0 (n_of (suc (j - 1))) u
      → code tree (symbol_hash kind) tbl (suc j) t ≡ code tree (symbol_hash kind) tbl (suc (j - 1)) v
  unfolding code
  code_step zero t u v h eu ev = absurd (omega arith)
  code_step (suc j) t u v h eu ev =
      let k : suc j - 1 ≡ j = omega arith in
      let w : v ≡ put_hashes tree (symbol_hash kind) j 0 (n_of (suc j)) (parities tree (suc j) 0 (layer_of tbl (suc j)) t) =
      ev ∙ ap₂ (λ i x. put_hashes tree (symbol_hash kind) i 0 (n_of (suc i)) x) k eu in
      ap₂ (λ i x. code tree (symbol_hash kind) tbl (suc i) x) (sym k) (sym w)

  pub code-top : (j : ℕ) (t u : List ℕ) → j ≡ 0 → u ≡ parities tree 0 0 (layer_of tbl 0) t → code tree (symbol_hash kind) tbl (suc j) t ≡ u
  unfolding code
  code-top j t u e eu = ap (λ i. code tree (symbol_hash kind) tbl (suc i) t) e ∙ sym eu

  -- the block in the base, then all layers
  pub written-tree : (d : ℕ) (block t u v : List ℕ) → length tbl ≡ d → u ≡ paste t (256 * place tree (d - 1) 0) block (256 * k_of (d - 1))
      → v ≡ code tree (symbol_hash kind) tbl d u → v ≡ write_tree tree (symbol_hash kind) tbl block t
  unfolding write_tree
  written-tree d block t u v ed eu ev =
      ev ∙ ap (code tree (symbol_hash kind) tbl d) eu
      ∙ ap (λ q. code tree (symbol_hash kind) tbl q (paste t (256 * place tree (q - 1) 0) block (256 * k_of (q - 1)))) (sym ed)

pub layer-room_up : (d j : ℕ) (t : List ℕ) → 0 < j → j < d → length t ≡ 256 * places tree d
    → 256 * (places tree (suc (j - 1)) + n_of (suc (j - 1))) ≤ length t
layer-room_up d j t p h l = let n : j ≡ suc (j - 1) = omega arith in subst (λ i. 256 * (places tree i + n_of i) ≤ length t) n (layer-room d j t h l)

-- the sixteen symbols of layer 0 are there
pub top-room : (d : ℕ) (t : List ℕ) → 1 ≤ d → length t ≡ 256 * places tree d → 4096 ≤ length t
unfolding places n_of k_of
top-room d t h l = omega (arith, layer-room d 0 t h l)
