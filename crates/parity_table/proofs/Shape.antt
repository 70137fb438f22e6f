-- Laws of depths and of the numbers of symbols.
use mathlib.Core.Path.{◌∙◌, ◌≡◌, refl, sym, ap}
use mathlib.Core.Bool.{Bool, true, false, true≢false, ◌&&◌}
use Prim.Native.Nat.{ℕ, suc, ◌+◌, ◌-◌, ◌*◌, ◌%◌, ◌^◌, ◌≤◌, ◌<◌}
use native.Mathlib.Omega.{arith}
use lib.Dec.{leb, ltb}
use lib.Pow.{pow_pos, pow_mono}
use borrow.Author.Tests.{leb-true, lt-leb, ltb-false}
use Rattle.octets.proofs.Choice.{and_yes, by_test, yes_and}
use Rattle.parity_table.specs.Shape.{max_depth, depth_fits, is_deep, k_of, shallow}

-- ---- the depth

pub depth_low : (d : ℕ) → d < 1 → false ≡ depth_fits d
unfolding depth_fits
depth_low d h = sym (ap (λ (b : Bool). b && leb d max_depth) (lt-leb 1 d h))

pub depth_is : (d : ℕ) → depth_fits d ≡ true → (1 ≤ d) × (d ≤ max_depth)
unfolding depth_fits
depth_is d t = let (a, b) = and_yes (leb 1 d) (leb d max_depth) t in (leb-true 1 d a, leb-true d max_depth b)

-- a depth that fits and needs no large arrays
pub not_deep : (d : ℕ) → is_deep d ≡ false → depth_fits d ≡ true → d ≤ shallow
unfolding is_deep
not_deep d n f =
    by_test (ltb shallow d) (λ t. absurd (true≢false (sym (yes_and t f) ∙ n))) (λ t. ltb-false shallow d t)

-- ---- the data symbols of a layer

pub k_zero : k_of 0 ≡ 4
unfolding k_of
k_zero = refl

pub k_pos : (j : ℕ) → 4 ≤ k_of j
unfolding k_of
k_pos j = omega (arith, pow_pos j)

-- numbers of symbols are far below the openers
pub k_small : (j : ℕ) → j < max_depth → k_of j ≤ 4 * 2 ^ max_depth
unfolding k_of
k_small j h = let p : 2 ^ j ≤ 2 ^ max_depth = pow_mono {i = j} {j = max_depth} (omega arith) in omega arith

-- those of a layer are at most those of the lowest one
pub k-low : (j : ℕ) → j < max_depth → k_of j ≤ 4 * 2 ^ (max_depth - 1)
unfolding k_of
k-low j h = omega (arith, pow_mono {i = j} {j = max_depth - 1} (omega arith))

pub k_grows : (j t : ℕ) → k_of j ≤ k_of (j + t)
unfolding k_of
k_grows j t = omega (arith, pow_mono {i = j} {j = j + t} (omega arith))

pub k_double : (j : ℕ) → k_of (suc j) ≡ 2 * k_of j
unfolding k_of
k_double j = omega arith

-- ---- a depth's power of two, as code shifts it

pub shift_is : (d : ℕ) → d ≤ max_depth → (1 * 2 ^ d) % 18446744073709551616 ≡ 2 ^ d
shift_is d h = let p : 2 ^ d ≤ 2 ^ max_depth = pow_mono {i = d} {j = max_depth} h in omega arith

pub shift_small : (d : ℕ) → d ≤ max_depth → (1 * 2 ^ d) % 18446744073709551616 ≤ 2 ^ max_depth
shift_small d h = let p : 2 ^ d ≤ 2 ^ max_depth = pow_mono {i = d} {j = max_depth} h in omega (arith, shift_is d h)
