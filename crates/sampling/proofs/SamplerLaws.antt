-- The sampler's loops: the first absent symbol, and symbols copied one after the other.
use mathlib.Core.Path.{◌≡◌, sym, ap, ap₂, ◌∙◌}
use mathlib.Core.Bool.{true, false}
use mathlib.Core.List.{List, ◌++◌, append_assoc, append-nil}
use Prim.Native.Nat.{ℕ, zero, suc, ◌+◌, ◌*◌, ◌≤◌, ◌<◌}
use native.Mathlib.Nat.{add-zero}
use native.Mathlib.Numerals.{add-one}
use native.Mathlib.Omega.{arith}
use lib.ListN.{length, take, drop}
use lib.Seq.{paste, take-paste, take_all}
use Rattle.model.specs.Shape.{tree, place}
use Rattle.model.specs.Symbols.{joined, symbol_in, sym_at}
use Rattle.model.specs.Sampling.{sample_size, sample_layer, sample_number, sample_bytes}
use Rattle.model.proofs.Counts.{found_first}
use Rattle.sampling.specs.Absent.{absent, first_absent}
use Rattle.std.proofs.Common.{MatchOption, None, Option, Some}

-- ---- the first absent symbol of a sample

pub first-is : (d i : ℕ) (marks : List ℕ) (r : Option ℕ)
    → MatchOption r ((k : ℕ) → 0 ≤ k → k < sample_size d → absent d i marks k ≡ false)
    (λ x. (0 ≤ x) × (x < sample_size d) × (absent d i marks x ≡ true) × ((k : ℕ) → 0 ≤ k → k < x → absent d i marks k ≡ false))
    → r ≡ first_absent d i marks
unfolding first_absent
first-is d i marks None held = found_first (absent d i marks) (sample_size d) None (λ k h. held k (omega arith) h)
first-is d i marks (Some x) (_, inside, out, held) = found_first (absent d i marks) (sample_size d) (Some x) (inside, out, λ k h. held k (omega arith) h)

-- ---- symbols one after the other

joined-more : (g : ℕ → List ℕ) (m x : ℕ) → joined g x (suc m) ≡ joined g x m ++ g (x + m)
unfolding joined
joined-more g zero x = append-nil (g x) ∙ ap g (sym (add-zero x))
joined-more g (suc m) x =
    let n : suc x + m ≡ x + suc m = omega arith in
    ap (λ (l : List ℕ). g x ++ l) (joined-more g m (suc x))
    ∙ sym (append_assoc (g x) (joined g (suc x) m) (g (suc x + m)))
    ∙ ap (λ (y : ℕ). (g x ++ joined g (suc x) m) ++ g y) n

-- one symbol more, v, copied to its place
copied_more : (g : ℕ → List ℕ) (s v : List ℕ) (x : ℕ) → 256 * x + 256 ≤ length s → length v ≡ 256 → v ≡ g x → take (256 * x) s ≡ joined g 0 x
    → take (256 * (x + 1)) (paste s (256 * x) v (length v)) ≡ joined g 0 (x + 1)
copied_more g s v x room full is so =
    let n : 256 * (x + 1) ≡ 256 * x + length v = omega arith in
    let z : x ≡ 0 + x = omega arith in
    ap (λ (y : ℕ). take y (paste s (256 * x) v (length v))) n
    ∙ take-paste s (256 * x) v (length v) (omega arith) (omega arith)
    ∙ ap₂ (λ (a b : List ℕ). a ++ b) so (take_all (length v) v (omega arith) ∙ is)
    ∙ ap (λ (y : ℕ). joined g 0 x ++ g y) z
    ∙ sym (joined-more g x 0)
    ∙ ap (joined g 0) (sym (add-one x))

-- symbol x of the sample of base symbol i of the tree t
abbrev symbol_of : ℕ → ℕ → List ℕ → ℕ → List ℕ
symbol_of d i t x = sym_at tree t (sample_layer d x) (sample_number tree d i x)

module _ (d i : ℕ) (t s : List ℕ) (x : ℕ) where
  -- the first x symbols of s are the sample's
  abbrev pub Taken : Type 0
  Taken = take (256 * x) s ≡ joined (symbol_of d i t) 0 x

  pub taken-all : sample_size d ≡ x → length s ≡ 256 * sample_size d → Taken → s ≡ sample_bytes tree (sym_at tree t) d i
  unfolding sample_bytes
  taken-all e l so = sym (take_all (256 * x) s (omega arith)) ∙ so ∙ ap (joined (symbol_of d i t) 0) (sym e)

  -- one symbol more, v, found at its place in the tree
  pub taken_more : (q : ℕ) (v u : List ℕ) → q ≡ place tree (sample_layer d x) (sample_number tree d i x) → v ≡ take 256 (drop (256 * q) t) → length v ≡ 256
      → 256 * x + 256 ≤ length s → u ≡ paste s (256 * x) v (length v) → Taken → take (256 * (x + 1)) u ≡ joined (symbol_of d i t) 0 (x + 1)
  unfolding sym_at symbol_in
  taken_more q v u at ev full room e so =
      ap (take (256 * (x + 1))) e ∙ copied_more (symbol_of d i t) s v x room full (ev ∙ ap (λ (y : ℕ). take 256 (drop (256 * y) t)) at) so
