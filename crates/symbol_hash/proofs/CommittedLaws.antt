-- Where the committed hash of symbol m of layer j stands: in the root, or in the symbol of the layer above.
use mathlib.Core.Path.{◌≡◌, refl, sym, ap, ap₂, ◌∙◌, subst}
use mathlib.Core.Logic.{◌≢◌}
use mathlib.Core.List.{List}
use Prim.Native.Nat.{ℕ, zero, suc, ◌+◌, ◌-◌, ◌*◌, ◌/◌, ◌<◌}
use native.Mathlib.Omega.{arith}
use lib.ListN.{length, take, drop}
use lib.Seq.{drop-drop}
use Rattle.octets.specs.ByteLists.{same}
use Rattle.parity_table.specs.Shape.{k_of}
use Rattle.model.specs.Shape.{tree}
use Rattle.model.specs.Symbols.{symbol_in, slot}
use Rattle.model.specs.Fault.{path_hash}
use Rattle.symbol_hash.specs.SymbolHash.{symbol_hash}
use Rattle.symbol_hash.specs.declared.Kind.{Kind}
use Rattle.model.proofs.Shapes.{tree_ok}
use Rattle.model.proofs.Flat.{take-drop-take}
use Rattle.model.proofs.Hashes.{column_lt}
use Rattle.symbol_hash.proofs.Laws.{length-symbol_hash}

layer-above : (u : ℕ) → suc u - 1 ≡ u
layer-above u = omega arith

-- the number of the hash in the symbol above
pub slot_lt : (j m k : ℕ) → j ≢ 0 → k ≡ k_of (j - 1) → m < tree.n j → m / k < 8
slot_lt zero m k z e h = absurd (z refl)
slot_lt (suc u) m k z e h = subst (λ v. m / v < 8) (sym (e ∙ ap k_of (layer-above u))) (column_lt tree tree_ok u m h)

-- ---- h, the hash of s as symbol m of layer j, is compared with the committed one

module _ (kind : Kind) (root h s : List ℕ) (j m : ℕ) (eh : h ≡ symbol_hash kind j m s) where
  full : length h ≡ 32
  full = ap length eh ∙ length-symbol_hash kind j m s

  -- in the root
  pub fits_root_lem : (c : List ℕ) → j ≡ 0 → same h (take (length h) (drop (32 * m) root)) ≡ same (symbol_hash kind j m s) (path_hash tree root j m c)
  unfolding path_hash slot
  fits_root_lem c z =
      ap (λ n. same h (take n (drop (32 * m) root))) full ∙ ap₂ (λ l u. same u (path_hash tree root l m c)) (sym z) eh

  -- in the symbol of the layer above, which stands in b from byte up on
  pub fits-above : (b : List ℕ) (up k : ℕ) → j ≢ 0 → k ≡ k_of (j - 1) → m < tree.n j
      → same h (take (length h) (drop (up + 32 * (m / k)) b)) ≡ same (symbol_hash kind j m s) (path_hash tree root j m (drop up b))
  unfolding path_hash slot symbol_in
  fits-above b up k z e lt =
      ap (λ n. same h (take n (drop (up + 32 * (m / k)) b))) full ∙ ap₂ same eh (there j z lt e)
    where
      there : (l : ℕ) → l ≢ 0 → m < tree.n l → k ≡ k_of (l - 1) → take 32 (drop (up + 32 * (m / k)) b) ≡ path_hash tree root l m (drop up b)
      there zero z lt e = absurd (z refl)
      there (suc u) z lt e =
          let q : ℕ = m / k_of u in
          ap (λ v. take 32 (drop (up + 32 * (m / v)) b)) (e ∙ ap k_of (layer-above u))
          ∙ ap (take 32) (sym (drop-drop (32 * q) up b))
          ∙ sym (take-drop-take 32 (32 * q) 256 (drop up b) (omega (arith, column_lt tree tree_ok u m lt)))
