-- The sample check: where the sample has a committed hash, and the way up symbol by symbol. Assumes nothing.
use mathlib.Core.Path.{◌≡◌, sym, ap, ap₂, ◌∙◌}
use mathlib.Core.Bool.{Bool, true, false}
use mathlib.Core.List.{List}
use Prim.Native.Nat.{ℕ, suc, ◌+◌, ◌-◌, ◌*◌, ◌≤◌, ◌<◌}
use native.Mathlib.Omega.{arith}
use lib.ListN.{take, drop}
use Rattle.octets.specs.ByteLists.{same}
use Rattle.model.specs.Shape.{tree}
use Rattle.model.specs.Symbols.{symbol_in}
use Rattle.model.specs.Climb.{leads, breaks, climb}
use Rattle.model.specs.Sampling.{sample_size, sample_layer, sample_number}
use Rattle.model.specs.SampleCheck.{sample_data, sample_has, sample_fits, sample_check}
use Rattle.model.specs.Fault.{path_hash}
use Rattle.model.proofs.Ways.{path-committed}
use Rattle.model.proofs.Climbs.{climb-next, climb-breaks, climb-ends}

-- ---- one symbol of the sample

-- the data symbol of the layer above in the sample
symbol-above : (d j u : ℕ) → suc u ≡ j → 256 * (2 * (d - j) - 1) ≡ 256 * (2 * (d - 1 - u) - 1)
symbol-above d j u e = omega arith

has_above : (root s : List ℕ) (d j m : ℕ) → path_hash tree root j m (drop (256 * (2 * (d - j) - 1)) s) ≡ sample_has tree root d s j m
unfolding sample_has sample_data symbol_in
has_above root s d j m =
    path-committed tree root (drop (256 * (2 * (d - j) - 1)) s) (sample_data d s) j m
    (λ u e. ap (λ o. take 256 (drop o s)) (symbol-above d j u e))

pub fits-is : (H : ℕ → ℕ → List ℕ → List ℕ) (root s : List ℕ) (d i x j m : ℕ) (v : List ℕ) (b : Bool) → j ≡ sample_layer d x → m ≡ sample_number tree d i x
    → v ≡ take 256 (drop (256 * x) s) → b ≡ same (H j m v) (path_hash tree root j m (drop (256 * (2 * (d - j) - 1)) s))
    → b ≡ sample_fits tree H root d i s x
unfolding sample_fits symbol_in
fits-is H root s d i x j m v b ej em ev eb =
    eb
    ∙ ap₂ (λ u v. same (H j m u) v) ev (has_above root s d j m)
    ∙ ap₂ (λ l n. same (H l n (take 256 (drop (256 * x) s))) (sample_has tree root d s l n)) ej em

-- ---- the way up

module _ (H : ℕ → ℕ → List ℕ → List ℕ) (root s : List ℕ) (d i x : ℕ) where
  abbrev fit : ℕ → Bool
  fit = sample_fits tree H root d i s

  -- every symbol before x fits
  abbrev pub FitBefore : Type 0
  FitBefore = climb fit (sample_layer d) x (sample_size d - x) ≡ climb fit (sample_layer d) 0 (sample_size d)

  module _ (b : Bool) (is : b ≡ fit x) (h : x < sample_size d) (before : FitBefore) where
    pub fits-here : b ≡ true → climb fit (sample_layer d) (x + 1) (sample_size d - (x + 1)) ≡ climb fit (sample_layer d) 0 (sample_size d)
    fits-here t = climb-next fit (sample_layer d) (sample_size d) x h (sym is ∙ t) ∙ before

    pub breaks-here : b ≡ false → (j : ℕ) → j ≡ sample_layer d x → breaks j ≡ sample_check tree H root d i s
    unfolding sample_check
    breaks-here t j e = ap breaks e ∙ sym (climb-breaks fit (sample_layer d) (sample_size d) x h (sym is ∙ t)) ∙ before

  pub leads-here : sample_size d ≤ x → FitBefore → leads ≡ sample_check tree H root d i s
  unfolding sample_check
  leads-here h before = sym (climb-ends fit (sample_layer d) (sample_size d) x h) ∙ before

pub fit_start : (H : ℕ → ℕ → List ℕ → List ℕ) (root s : List ℕ) (d i : ℕ) → FitBefore H root s d i 0
fit_start H root s d i = let n : sample_size d - 0 ≡ sample_size d = omega arith in ap (climb (fit H root s d i 0) (sample_layer d) 0) n
