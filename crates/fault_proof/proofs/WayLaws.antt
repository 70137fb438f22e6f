-- The way up from a symbol, as it stands in a proof: symbol by symbol.
use mathlib.Core.Path.{◌≡◌, refl, sym, ap, ap₂, ◌∙◌}
use mathlib.Core.Bool.{Bool, true, false}
use mathlib.Core.List.{List}
use Prim.Native.Nat.{ℕ, zero, suc, ◌+◌, ◌-◌, ◌*◌, ◌%◌, ◌≤◌, ◌<◌}
use native.Mathlib.Numerals.{add-one}
use native.Mathlib.Omega.{arith}
use lib.ListN.{length, take, drop}
use lib.Seq.{drop-drop}
use Rattle.octets.specs.ByteLists.{same}
use Rattle.octets.proofs.ListLaws.{part_ends}
use Rattle.parity_table.specs.Shape.{k_of}
use Rattle.model.specs.Shape.{tree}
use Rattle.model.specs.Symbols.{symbol_in, committed}
use Rattle.model.specs.Climb.{Climb, leads, breaks, climb}
use Rattle.model.specs.Fault.{reached, path_hash, way_fits, way_check, path_check}
use Rattle.model.proofs.Climbs.{climb-next, climb-breaks, climb-ends}
use Rattle.model.proofs.Shapes.{tree_ok, tree_root, up_lt}
use Rattle.model.proofs.Ways.{path-committed, reached_lt}

module _ (H : ℕ → ℕ → List ℕ → List ℕ) (root b : List ℕ) (at j i : ℕ) where
  abbrev fit : ℕ → Bool
  fit = way_fits tree H root j i (drop at b)

  -- symbol y of the way
  there : (y : ℕ) → take 256 (drop (at + 256 * y) b) ≡ symbol_in (drop at b) y
  unfolding symbol_in
  there y = ap (take 256) (sym (drop-drop (256 * y) at b))

  -- every symbol before x fits
  abbrev pub FitBefore : ℕ → Type 0
  FitBefore x = climb fit (λ y. j - y) x (suc j - x) ≡ way_check tree H root j i (drop at b)

  pub fit_start : FitBefore 0
  unfolding way_check
  fit_start = let e : suc j - 0 ≡ suc j = omega arith in ap (climb fit (λ y. j - y) 0) e

  -- the way has reached symbol x, which has number m
  module _ (x m : ℕ) (in-way : x ≤ j) (em : m ≡ reached tree j i x) where
    -- the number that it reaches in the layer above
    pub reached-next : (k : ℕ) → k ≡ k_of (j - x - 1) → m % k ≡ reached tree j i (x + 1)
    unfolding reached
    reached-next k e =
        let up : j - x - 1 ≡ j - suc x = omega arith in
        ap₂ (λ n d. n % d) em (e ∙ ap k_of up) ∙ ap (reached tree j i) (sym (add-one x))

    above : (u : ℕ) → suc u ≡ j - x → symbol_in (drop (at + 256 * x + 256) b) 0 ≡ symbol_in (drop at b) (j - u)
    unfolding symbol_in
    above u e =
        let o : at + 256 * x + 256 ≡ at + 256 * (j - u) = omega arith in
        ap (λ n. take 256 (drop n b)) o ∙ there (j - u)

    -- it stands from byte at + 256x on, and the one above it after it
    module _ (r : Bool)
        (er : r ≡ same (H (j - x) m (take (at + 256 * x + 256 - (at + 256 * x)) (drop (at + 256 * x) b))) (path_hash tree root (j - x) m (drop (at + 256 * x + 256) b)))
        (before : FitBefore x) where
      fit_is : r ≡ fit x
      unfolding way_fits
      fit_is =
          er
          ∙ ap₂ (λ s h. same (H (j - x) m s) h) (part_ends b (at + 256 * x) 256 ∙ there x)
          (path-committed tree root (drop (at + 256 * x + 256) b) (λ u. symbol_in (drop at b) (j - u)) (j - x) m above)
          ∙ ap (λ n. same (H (j - x) n (symbol_in (drop at b) x)) (committed tree root (λ u v. symbol_in (drop at b) (j - u)) (j - x) n)) em

      pub breaks-here : r ≡ false → breaks (j - x) ≡ way_check tree H root j i (drop at b)
      breaks-here t = sym (climb-breaks fit (λ y. j - y) (suc j) x (omega arith) (sym fit_is ∙ t)) ∙ before

      pub fits-here : r ≡ true → FitBefore (x + 1)
      fits-here t = climb-next fit (λ y. j - y) (suc j) x (omega arith) (sym fit_is ∙ t) ∙ before

  pub leads_all : (x : ℕ) → j < x → FitBefore x → leads ≡ way_check tree H root j i (drop at b)
  leads_all x h before = sym (climb-ends fit (λ y. j - y) (suc j) x (omega arith)) ∙ before

-- ---- what the comparison with the committed hash asks

-- every symbol on the way stands under the tree's layers, or in the root
pub way_inside : (root : List ℕ) (j i x m : ℕ) → x ≤ j → m ≡ reached tree j i x → (j ≡ 0 → 32 * suc i ≤ length root)
    → (0 < j → (i < tree.n j) × (512 ≤ length root)) → (j - x ≡ 0 → 32 * suc m ≤ length root) × (0 < j - x → m < tree.n (j - x))
unfolding reached
way_inside root zero i zero m b em top hung = (λ z. omega (arith, em, top refl), λ h. absurd (omega arith))
way_inside root zero i (suc x) m b em top hung = absurd (omega arith)
way_inside root (suc j) i x m b em top hung =
    let (inside, full) = hung (omega arith) in
    let below : m < tree.n (suc j - x) = omega (arith, em, reached_lt tree (suc j) i tree_ok.shape inside x b) in
    (λ z. omega (arith, below, ap tree.n z, tree_root, full), λ h. below)

-- the data symbol above, from which a path is the way
pub above-inside : (root : List ℕ) (j i k : ℕ) → k ≡ k_of j → 512 ≤ length root → (j ≡ 0 → 32 * suc (i % k) ≤ length root) × (0 < j → (i % k < tree.n j) × (512 ≤ length root))
above-inside root j i k e full =
    let below : i % k < tree.n j = omega (arith, ap (λ d. i % d) e, up_lt tree tree_ok.shape j i) in
    (λ z. omega (arith, below, ap tree.n z, tree_root, full), λ h. (below, full))

-- ---- a path

pub path-none : (H : ℕ → ℕ → List ℕ → List ℕ) (root c : List ℕ) (j i : ℕ) → j ≡ 0 → leads ≡ path_check tree H root j i c
unfolding path_check
path-none H root c zero i e = refl
path-none H root c (suc j) i e = absurd (omega arith)

pub path-some : (H : ℕ → ℕ → List ℕ → List ℕ) (root c : List ℕ) (j i k : ℕ) (w : Climb) → (j ≡ 0 → ⊥) → k ≡ k_of (j - 1) → w ≡ way_check tree H root (j - 1) (i % k) c
    → w ≡ path_check tree H root j i c
unfolding path_check
path-some H root c zero i k w z e ew = absurd (z refl)
path-some H root c (suc l) i k w z e ew =
    let o : suc l - 1 ≡ l = omega arith in
    ew ∙ ap₂ (λ u n. way_check tree H root u n c) o (ap (λ d. i % d) (e ∙ ap k_of o))
