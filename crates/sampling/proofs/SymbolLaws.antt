-- The layer, number and place of each symbol of a sample, as the code computes them, and that they are in the tree. Assumes nothing.
use mathlib.Core.Path.{◌≡◌, sym, subst}
use mathlib.Core.Logic.{◌≢◌}
use Prim.Native.Nat.{ℕ, zero, suc, ◌+◌, ◌-◌, ◌*◌, ◌%◌, ◌≤◌, ◌<◌}
use native.Mathlib.Nat.{mod-lt}
use native.Mathlib.Omega.{arith}
use lib.Pow.{pow_pos}
use lib.Dec.{eqb}
use borrow.Author.Tests.{eq-eqb, ne_eqb}
use Rattle.octets.proofs.Choice.{pick_yes, pick_no, pick_ind}
use Rattle.parity_table.specs.Shape.{k_of}
use Rattle.model.specs.Shape.{tree, places, place}
use Rattle.model.specs.Sampling.{sample_size, sample_layer, sample_number, data_no, parity_no}
use Rattle.model.proofs.Shapes.{tree_ok, tree_places, up_lt, place_lt}
use Rattle.sampling.specs.Lent.{BaseSymbol}

-- ---- layers

pub k-some : (j : ℕ) → 4 ≤ k_of j
unfolding k_of
k-some j = omega (arith, pow_pos j)

pub layer_lt : (d x : ℕ) → x < sample_size d → sample_layer d x < d
unfolding sample_layer
layer_lt d x h = omega arith

-- ---- numbers

module _ (d i : ℕ) where
  pub number_data : (x : ℕ) → x % 2 ≡ 1 → i % k_of (sample_layer d x) ≡ sample_number tree d i x
  unfolding sample_number data_no
  number_data zero h = absurd (omega arith)
  number_data (suc x) h = sym (pick_yes (eqb (x % 2) 0) _ _ (eq-eqb (x % 2) 0 (omega arith)))

  pub number_parity : (x : ℕ) → x ≢ 0 → x % 2 ≢ 1 → k_of (sample_layer d x) + i % (3 * k_of (sample_layer d x)) ≡ sample_number tree d i x
  unfolding sample_number parity_no
  number_parity zero z h = absurd (omega arith)
  number_parity (suc x) z h = sym (pick_no (eqb (x % 2) 0) _ _ (ne_eqb (x % 2) 0 (λ e. omega arith)))

  parity_lt : (j : ℕ) → parity_no tree j i < tree.n j
  unfolding parity_no
  parity_lt j = omega (arith, mod-lt i {m = 3 * tree.k j} (omega (arith, tree_ok.shape.some j)), tree_ok.rate j)

  pub number_lt : i < tree.n (d - 1) → (x : ℕ) → x < sample_size d → sample_number tree d i x < tree.n (sample_layer d x)
  unfolding sample_number sample_layer data_no
  number_lt h zero k = let e : d - 1 ≡ sample_layer d 0 = omega arith in subst (λ (l : ℕ). i < tree.n l) e h
  number_lt h (suc x) k =
      pick_ind (λ (m : ℕ). m < tree.n (sample_layer d (suc x))) (eqb (x % 2) 0)
      (λ t. up_lt tree tree_ok.shape (sample_layer d (suc x)) i) (λ t. parity_lt (sample_layer d (suc x)))

-- the symbol is one of the tree
pub in_tree : (d i x j m : ℕ) → BaseSymbol d i → x < sample_size d → j ≡ sample_layer d x → m ≡ sample_number tree d i x → (j < d) × (m < tree.n j)
in_tree d i x j m b h ej em =
    (omega (arith, layer_lt d x h), subst (λ (l : ℕ). m < tree.n l) (sym ej) (subst (λ (a : ℕ). a < tree.n (sample_layer d x)) (sym em) (number_lt d i b.2 x h)))

-- ---- places

pub place_is : (j m : ℕ) → 4 * (k_of j - 4) + m ≡ place tree j m
unfolding place k_of
place_is j m = omega (arith, tree_places j)

pub sample-place_lt : (d i x : ℕ) → BaseSymbol d i → x < sample_size d → place tree (sample_layer d x) (sample_number tree d i x) < places tree d
sample-place_lt d i x b h = place_lt tree d (sample_layer d x) (sample_number tree d i x) (layer_lt d x h) (number_lt d i b.2 x h)
