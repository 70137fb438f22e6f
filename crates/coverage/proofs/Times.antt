-- How often a number is a member of a layer's equations, and in how many of them it is.
use mathlib.Core.Path.{◌≡◌}
use mathlib.Core.Logic.{◌≢◌}
use mathlib.Core.Bool.{true}
use mathlib.Core.List.{List, [], ◌∷◌}
use Prim.Native.Nat.{ℕ, zero, suc, ◌≤◌, ◌<◌}
use native.Mathlib.Omega.{arith}
use native.Mathlib.Decide.{dec_lt}
use lib.ListN.{length, get_or}
use Rattle.parity_table.specs.Members.{ascending, IsMember}
use Rattle.model.specs.Symbols.{count}
use Rattle.model.proofs.Counts.{is_it, ascending_once, counted-member, member-counted, lowest-is}
use Rattle.parity_table.specs.Shape.{k_of}
use Rattle.parity_table.specs.Table.{layer_of}
use lib.Dec.{ltb}
use Rattle.coverage.specs.Coverage.{times, lowest_thin}

-- number i is a member of equation e of these
abbrev In : ℕ → List (List ℕ) → ℕ → Type 0
In i es e = (e < length es) × IsMember i (get_or es e [])

-- ---- from equations to the count

pub once : (i : ℕ) (es : List (List ℕ)) (e : ℕ) → In i es e → 1 ≤ times i es
unfolding times
once i [] e (h, m) = absurd (omega arith)
once i (ms ∷ es) zero (h, m) = omega (arith, member-counted i ms m)
once i (ms ∷ es) (suc e) (h, m) = omega (arith, once i es e (omega arith, m))

in_order : (i : ℕ) (es : List (List ℕ)) (e f : ℕ) → e < f → In i es e → In i es f → 2 ≤ times i es
unfolding times
in_order i [] e f l (h, m) y = absurd (omega arith)
in_order i (ms ∷ es) e zero l x y = absurd (omega arith)
in_order i (ms ∷ es) zero (suc f) l (h, m) (k, n) = omega (arith, member-counted i ms m, once i es f (omega arith, n))
in_order i (ms ∷ es) (suc e) (suc f) l (h, m) (k, n) = omega (arith, in_order i es e f (omega arith) (omega arith, m) (omega arith, n))

pub twice : (i : ℕ) (es : List (List ℕ)) (e f : ℕ) → e ≢ f → In i es e → In i es f → 2 ≤ times i es
twice i es e f n x y =
    elim (dec_lt e f) [
      | yes l ↦ in_order i es e f l x y
      | no l ↦ elim (dec_lt f e) [ yes k ↦ in_order i es f e k y x | no k ↦ absurd (n (omega arith)) ]
    ]

-- ---- and back, where no equation has a member twice

-- each equation's members ascend
abbrev pub Ascend : List (List ℕ) → Type 0
Ascend es = (e : ℕ) → e < length es → ascending (get_or es e []) ≡ true

later : (ms : List ℕ) (es : List (List ℕ)) → Ascend (ms ∷ es) → Ascend es
later ms es a e h = a (suc e) (omega arith)

some-equation : (i : ℕ) (es : List (List ℕ)) → 1 ≤ times i es → (e : ℕ) × In i es e
unfolding times
some-equation i [] h = absurd (omega arith)
some-equation i (ms ∷ es) h =
    elim (dec_lt 0 (count (is_it i) ms)) [
      | yes k ↦ (0, (omega arith, counted-member i ms k))
      | no k ↦ let (e, (l, m)) = some-equation i es (omega arith) in (suc e, (omega arith, m))
    ]

-- two of them
pub two-equations : (i : ℕ) (es : List (List ℕ)) → Ascend es → 2 ≤ times i es → (e : ℕ) × (f : ℕ) × (e < f) × In i es e × In i es f
unfolding times
two-equations i [] a h = absurd (omega arith)
two-equations i (ms ∷ es) a h =
    let one : count (is_it i) ms ≤ 1 = ascending_once i ms (a 0 (omega arith)) in
    elim (dec_lt 0 (count (is_it i) ms)) [
      | yes k ↦ let (f, (l, m)) = some-equation i es (omega arith) in (0, suc f, omega arith, (omega arith, counted-member i ms k), (omega arith, m))
      | no k ↦
          let (e, f, l, (p, m), (q, n)) = two-equations i es (later ms es a) (omega arith) in
          (suc e, suc f, omega arith, (omega arith, m), (omega arith, n))
    ]

-- ---- the lowest symbol in fewer than two

-- it is a data symbol, or their number
pub lowest-low : (tbl : List (List (List ℕ))) (j : ℕ) → lowest_thin tbl j ≤ k_of j
unfolding lowest_thin
lowest-low tbl j = omega (arith, (lowest-is (λ i. ltb (times i (layer_of tbl j)) 2) 0 (k_of j)).upto)
