-- Where the committed hash of symbol i of layer j stands in root and tree buffer, and gaps.
use mathlib.Core.Bool.{Bool, not, ◌||◌}
use mathlib.Core.List.{List}
use mathlib.Core.Path.{◌∙◌, ◌≡◌, ap, ap₂, refl, subst, sym}
use Prim.Native.Nat.{◌%◌, ◌*◌, ◌+◌, ◌-◌, ◌/◌, ◌<◌, ◌≤◌, suc, zero, ℕ}
use native.Mathlib.Omega.{arith}
use lib.ListN.{drop, length, take}
use Rattle.octets.specs.ByteLists.{same}
use Rattle.parity_table.specs.Shape.{k_of, n_of, max_depth}
use Rattle.model.proofs.Shapes.{places_mono}
use Rattle.model.specs.Ends.{gap_at}
use Rattle.model.specs.Fault.{path_hash}
use Rattle.model.specs.Repair.{absent_at}
use Rattle.model.specs.Shape.{place, places, tree}
use Rattle.model.specs.Symbols.{committed, slot, sym_at, symbol_in}
use Rattle.symbol_hash.specs.SymbolHash.{symbol_hash}
use Rattle.symbol_hash.specs.declared.Kind.{Kind}
use Rattle.fault_writer.proofs.WayLaws.{above-layers, symbol-room}
use Rattle.fault_writer.specs.Room.{Layers}
use Rattle.equation.specs.Rooms.{Level}
use Rattle.equation.specs.States.{fits_in}

module _ (kind : Kind) (root t s : List ℕ) (i : ℕ) where
  pub fits-top : (j : ℕ) → j ≡ 0 → same (symbol_hash kind j i s) (path_hash tree root j i (drop 0 t)) ≡ fits_in kind root t j i s
  unfolding path_hash committed
  fits-top zero e = refl
  fits-top (suc j) e = absurd (omega arith)

  pub fits_below : (j base c : ℕ) → (j ≡ 0 → ⊥) → base ≡ places tree (j - 1) → c ≡ k_of (j - 1)
      → same (symbol_hash kind j i s) (path_hash tree root j i (drop (256 * (base + i % c)) t)) ≡ fits_in kind root t j i s
  unfolding path_hash committed sym_at symbol_in place
  fits_below zero base c z eb ec = absurd (z refl)
  fits_below (suc l) base c z eb ec =
      let a : suc l - 1 ≡ l = omega arith in
      ap₂ (λ (b k : ℕ). same (symbol_hash kind (suc l) i s) (slot (take 256 (drop (256 * 0) (drop (256 * (b + i % k)) t))) (i / k_of l))) (eb ∙ ap (places tree) a) (ec ∙ ap k_of a)

-- the symbol above has its 256 bytes
pub above-room : (t : List ℕ) (j i base c : ℕ) → Layers j 0 t → 0 < j → base ≡ places tree (j - 1) → c ≡ k_of (j - 1) → 256 * (base + i % c) + 256 ≤ length t
above-room t j i base c k h eb ec =
    symbol-room t (j - 1) (i % c) (suc (i % c)) base
    (subst (λ (q : ℕ). Layers (j - 1) (suc (i % q)) t) (sym ec) (above-layers t j 0 (j - 1) i (omega arith) k)) eb (omega arith)

-- ---- gaps

-- a root, a tree and marks of the lengths of depth d have what a layer's symbols need
pub level_of : {root t m : List ℕ} (d j : ℕ) → d ≤ max_depth → j < d → length root ≡ 512 → length t ≡ 256 * places tree d → length m ≡ places tree d → Level root t m j (n_of j)
unfolding places n_of k_of
level_of d j h hj lr lt lm =
    record {
      layers = record { layer = omega arith; room = omega (arith, places_mono tree (suc j) d hj) };
      rooted = record { top = λ z. omega (arith, ap n_of z); hung = λ z. omega arith };
      marks-room = omega (arith, places_mono tree (suc j) d hj);
    }

-- by its mark, then by its hash
pub gap_by : (kind : Kind) (root t m : List ℕ) (j i : ℕ) (b : Bool) → absent_at tree m j i ≡ b
    → (b || not (fits_in kind root t j i (sym_at tree t j i))) ≡ gap_at tree (symbol_hash kind) root t m t j i
unfolding gap_at
gap_by kind root t m j i b a = sym (ap (λ (x : Bool). x || not (fits_in kind root t j i (sym_at tree t j i))) a)
