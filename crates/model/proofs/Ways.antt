-- The way up from a symbol: the numbers that it reaches, and what its check says.
use mathlib.Core.Path.{◌≡◌, refl, ap, ap₂, ◌∙◌, subst}
use mathlib.Core.Bool.{false}
use mathlib.Core.List.{List, [], ◌∷◌}
use Prim.Native.Nat.{ℕ, zero, suc, ◌+◌, ◌-◌, ◌*◌, ◌/◌, ◌%◌, ◌≤◌, ◌<◌}
use native.Mathlib.Omega.{arith}
use lib.ListN.{length, drop}
use lib.Seq.{drop-drop}
use Rattle.model.specs.Shape.{Shape, ShapeOk}
use Rattle.model.specs.Symbols.{symbol_in, slot, committed}
use Rattle.model.specs.Climb.{leads, breaks, Says}
use Rattle.model.specs.Fault.{reached, next, after_given, path_hash, way_fits, way_check}
use Rattle.octets.proofs.Choice.{both}
use Rattle.octets.proofs.SameLaws.{same_yes, yes_same, no_same}
use Rattle.model.proofs.Shapes.{up_lt, committed-same as alike}
use Rattle.model.proofs.Climbs.{climb_says, climb-is}

-- ---- numbers

module _ (S : Shape) (j i : ℕ) where
  -- the number at layer l is that at the layer below, modulo the k of layer l
  pub reached_up : (l : ℕ) → suc l ≤ j → reached S j i (j - suc l) % S.k l ≡ reached S j i (j - l)
  unfolding reached
  reached_up l h =
      let e : suc (j - suc l) ≡ j - l = omega arith in
      let u : l ≡ j - suc (j - suc l) = omega arith in
      ap (λ (n : ℕ). reached S j i (j - suc l) % S.k n) u ∙ ap (reached S j i) e

  pub reached_lt : ShapeOk S → i < S.n j → (x : ℕ) → x ≤ j → reached S j i x < S.n (j - x)
  unfolding reached
  reached_lt sh h zero k = let e : j ≡ j - 0 = omega arith in subst (λ (l : ℕ). i < S.n l) e h
  reached_lt sh h (suc x) k = up_lt S sh (j - suc x) (reached S j i x)

-- the way up from symbol i is, from the layer above on, that of the symbol above it
pub reached_past : (S : Shape) (j i x : ℕ) → x ≤ j → reached S (suc j) i (suc x) ≡ reached S j (i % S.k j) x
unfolding reached
reached_past S j i zero h = let e : suc j - 1 ≡ j = omega arith in ap (λ (n : ℕ). i % S.k n) e
reached_past S j i (suc x) h =
    let e : suc j - suc (suc x) ≡ j - suc x = omega arith in
    ap₂ (λ (a n : ℕ). a % S.k n) (reached_past S j i x (omega arith)) e

-- ---- where the ways of given members stand in b, from byte `from` on

module _ (b : List ℕ) (j : ℕ) where
  pub next_at : (from : ℕ) → next j (drop from b) ≡ drop (from + 256 * (j + 1)) b
  unfolding next
  next_at from = let e : from + 256 * suc j ≡ from + 256 * (j + 1) = omega arith in drop-drop (256 * suc j) from b ∙ ap (λ o. drop o b) e

  -- what follows them
  pub after_at : (ys : List ℕ) (from : ℕ) → after_given j ys (drop from b) ≡ drop (from + 256 * (length ys * suc j)) b
  unfolding after_given
  after_at [] from = let e : from ≡ from + 256 * (0 * suc j) = omega arith in ap (λ o. drop o b) e
  after_at (y ∷ ys) from =
      let e : from + 256 * (j + 1) + 256 * (length ys * suc j) ≡ from + 256 * (suc (length ys) * suc j) = omega arith in
      ap (after_given j ys) (next_at from) ∙ after_at ys (from + 256 * (j + 1)) ∙ ap (λ o. drop o b) e

-- ---- the hash that symbols above, w by layer, have for a symbol is the committed one where the one above it is f's

pub committed-same : (S : Shape) (root : List ℕ) (w : ℕ → List ℕ) (f : ℕ → ℕ → List ℕ) (l m : ℕ) → ((u : ℕ) → suc u ≡ l → w u ≡ f u (m % S.k u))
    → committed S root (λ u i. w u) l m ≡ committed S root f l m
committed-same S root w f l m above = alike S root (λ u i. w u) f l m above

-- the hash that a path c has for a symbol is the one that symbols above, w by layer, have for it, where c starts with the one above it
pub path-committed : (S : Shape) (root c : List ℕ) (w : ℕ → List ℕ) (l m : ℕ) → ((u : ℕ) → suc u ≡ l → symbol_in c 0 ≡ w u)
    → path_hash S root l m c ≡ committed S root (λ u i. w u) l m
unfolding path_hash committed
path-committed S root c w zero m above = refl
path-committed S root c w (suc l) m above = ap (λ (s : List ℕ). slot s (m / S.k l)) (above l refl)

-- ---- the check

module _ (S : Shape) (H : ℕ → ℕ → List ℕ → List ℕ) (root : List ℕ) (j i : ℕ) (c : List ℕ) where
  -- symbol x of the way, at layer l with number m
  abbrev pub WayFit : ℕ → ℕ → ℕ → Type 0
  WayFit x l m = H l m (symbol_in c x) ≡ committed S root (λ u n. symbol_in c (j - u)) l m

  pub way_fits_lem : way_check S H root j i c ≡ leads → (x : ℕ) → x ≤ j → WayFit x (j - x) (reached S j i x)
  unfolding way_check way_fits
  way_fits_lem e x h =
      let says : Says (way_fits S H root j i c) (λ x. j - x) 0 (suc j) leads =
      subst (Says (way_fits S H root j i c) (λ x. j - x) 0 (suc j)) e (climb_says (way_fits S H root j i c) (λ x. j - x) (suc j) 0) in
      same_yes _ _ (says x (omega arith) (omega arith))

  pub fits_way : ((x : ℕ) → x ≤ j → WayFit x (j - x) (reached S j i x)) → way_check S H root j i c ≡ leads
  unfolding way_check way_fits
  fits_way all = climb-is (way_fits S H root j i c) (λ x. j - x) (suc j) 0 leads (λ x a h. yes_same (all x (omega arith)))

  -- it breaks at layer l: the symbols below have their hashes, and that of layer l has not
  pub record WayBreaks (l : ℕ) : Type 0 where
    pub layer : l ≤ j
    pub below : (x : ℕ) → x + l < j → WayFit x (j - x) (reached S j i x)
    pub broken : WayFit (j - l) (j - (j - l)) (reached S j i (j - l)) → ⊥

  pub way_breaks : (l : ℕ) → way_check S H root j i c ≡ breaks l → WayBreaks l
  unfolding way_check way_fits
  way_breaks l e =
      let (y, first, at) =
      subst (Says (way_fits S H root j i c) (λ x. j - x) 0 (suc j)) e (climb_says (way_fits S H root j i c) (λ x. j - x) (suc j) 0) in
      let up : y ≡ j - l = omega (arith, first.upto) in
      record {
        layer = omega arith;
        below = λ x h. same_yes _ _ (first.before x (omega arith) (omega arith));
        broken = λ f. both (yes_same f) (subst (λ (z : ℕ). way_fits S H root j i c z ≡ false) up first.unfit);
      }

  pub breaks_way : (l : ℕ) → WayBreaks l → way_check S H root j i c ≡ breaks l
  unfolding way_check way_fits
  breaks_way l w =
      climb-is (way_fits S H root j i c) (λ x. j - x) (suc j) 0 (breaks l)
      (j - l, record { from = omega arith; upto = omega arith; unfit = no_same w.broken; before = λ x a h. yes_same (w.below x (omega arith)) }, omega (arith, w.layer))
