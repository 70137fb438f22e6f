-- Lists byte by byte: compared, and taken together by exclusive-or.
use mathlib.Core.Path.{◌≡◌, refl, sym, ap, ap₂, ◌∙◌}
use mathlib.Core.Bool.{Bool, ◌&&◌, and-true, and_assoc}
use mathlib.Core.List.{List, [], ◌∷◌}
use Prim.Native.Nat.{ℕ, zero, suc, ◌+◌, ◌-◌, ◌≤◌, ◌<◌, min, max}
use native.Mathlib.Decide.{dec_lt}
use native.Mathlib.Omega.{arith}
use native.Mathlib.Numerals.{unary_clauses}
use lib.Bits.{bit_xor}
use lib.Dec.{eqb}
use borrow.Author.Tests.{ne_eqb}
use lib.ListN.{length, get_or, take, drop, set, replicate, length-set, length-take, length-drop}
use lib.Seq.{get_or-take, get_or-drop, get_or-set_same, get_or-set_other, ext_get_or}
use Rattle.std.specs.Cmp.Lexicographic.{pointwise}
use Rattle.std.specs.List.{fold}
use Rattle.octets.specs.ByteLists.{same, xors}

-- ---- a part of a list: n elements from element `at` on

module _ (l : List ℕ) (at n : ℕ) (inside : at + n ≤ length l) where
  pub length_part : length (take n (drop at l)) ≡ n
  length_part = simp (length-take, length-drop) (omega arith)

-- its end being computed from its start
pub part_ends : (l : List ℕ) (at n : ℕ) → take (at + n - at) (drop at l) ≡ take n (drop at l)
part_ends l at n = let e : at + n - at ≡ n = omega arith in rw e

pub get_d_part : (l : List ℕ) (at n i : ℕ) → i < n → get_or (take n (drop at l)) i 0 ≡ get_or l (at + i) 0
get_d_part l at n i h = rw (get_or-take, get_or-drop)

-- ---- compared

-- as `==` of slices compares them
pub same_is : (xs ys : List ℕ) → pointwise eqb xs ys ≡ same xs ys
unfolding same
same_is [] [] = refl
same_is [] (y ∷ ys) = refl
same_is (x ∷ xs) [] = refl
same_is (x ∷ xs) (y ∷ ys) = ap (λ (b : Bool). eqb x y && b) (same_is xs ys)

-- ---- zeros, by the greatest byte

max_zero : (a b : ℕ) → eqb (max a b) 0 ≡ (eqb a 0 && eqb b 0)
max_zero zero b = simp unary_clauses refl
max_zero (suc a) b = rw (ne_eqb (max (suc a) b) 0 (λ e. omega arith), ne_eqb (suc a) 0 (λ e. omega arith))

-- the greatest of m and the bytes
zeros_from : (m : ℕ) (xs : List ℕ) → eqb (fold max m xs) 0 ≡ (eqb m 0 && same xs (replicate (length xs) 0))
unfolding same
zeros_from m [] = sym (and-true (eqb m 0))
zeros_from m (x ∷ xs) =
    zeros_from (max m x) xs
    ∙ ap (λ (b : Bool). b && same xs (replicate (length xs) 0)) (max_zero m x)
    ∙ and_assoc (eqb m 0) (eqb x 0) (same xs (replicate (length xs) 0))

pub zeros_by_max : (xs : List ℕ) → eqb (fold max 0 xs) 0 ≡ same xs (replicate (length xs) 0)
zeros_by_max xs = zeros_from 0 xs

-- ---- exclusive-or

pub length-xors : (xs ys : List ℕ) → length (xors xs ys) ≡ min (length xs) (length ys)
unfolding xors
length-xors [] ys = omega arith
length-xors (x ∷ xs) [] = omega arith
length-xors (x ∷ xs) (y ∷ ys) = omega (arith, length-xors xs ys)

pub get_d_xors : (a b : List ℕ) (k : ℕ) → k < length a → k < length b → get_or (xors a b) k 0 ≡ bit_xor (get_or a k 0) (get_or b k 0)
unfolding xors
get_d_xors [] b k h g = absurd (omega arith)
get_d_xors (x ∷ xs) [] k h g = absurd (omega arith)
get_d_xors (x ∷ xs) (y ∷ ys) zero h g = refl
get_d_xors (x ∷ xs) (y ∷ ys) (suc k) h g = get_d_xors xs ys k (omega arith) (omega arith)

-- a is a₀ with its first i bytes taken together with those of s
pub record XorSo (a₀ s a : List ℕ) (i : ℕ) : Type 0 where
  pub sized : length a ≡ length a₀
  pub done : (k : ℕ) → k < i → k < length a₀ → get_or a k 0 ≡ get_or (xors a₀ s) k 0
  pub left : (k : ℕ) → i ≤ k → get_or a k 0 ≡ get_or a₀ k 0

pub xor_start : (a₀ s : List ℕ) → XorSo a₀ s a₀ 0
xor_start a₀ s = record { sized = refl; done = λ k h l. absurd (omega arith); left = λ k h. refl }

pub xor_turn : (a₀ s a : List ℕ) (i v : ℕ) → length s ≡ length a₀ → i < length a₀ → v ≡ get_or s i 0 → XorSo a₀ s a i
    → XorSo a₀ s (set a i (bit_xor (get_or a i 0) v)) (i + 1)
xor_turn a₀ s a i v hs hi hv x =
    record {
      sized = length-set a i (bit_xor (get_or a i 0) v) ∙ x.sized;
      done = λ k h l. elim (dec_lt k i) [
        | yes q ↦ get_or-set_other a i k (bit_xor (get_or a i 0) v) 0 (λ e. omega arith) ∙ x.done k q l
        | no q ↦
            let e : k ≡ i = omega arith in
            ap (λ n. get_or (set a i (bit_xor (get_or a i 0) v)) n 0) e
            ∙ get_or-set_same a i (bit_xor (get_or a i 0) v) 0 (omega (arith, x.sized))
            ∙ ap₂ bit_xor (x.left i (omega arith)) hv
            ∙ sym (get_d_xors a₀ s i hi (omega arith))
            ∙ sym (ap (λ n. get_or (xors a₀ s) n 0) e)
      ];
      left = λ k h. get_or-set_other a i k (bit_xor (get_or a i 0) v) 0 (λ e. omega arith) ∙ x.left k (omega arith);
    }

pub xor_end : (a₀ s a : List ℕ) (i : ℕ) → length s ≡ length a₀ → length a₀ ≤ i → XorSo a₀ s a i → a ≡ xors a₀ s
xor_end a₀ s a i hs hi x =
    ext_get_or 0 a (xors a₀ s) (omega (arith, x.sized, length-xors a₀ s))
    (λ k h. x.done k (omega (arith, x.sized)) (omega (arith, x.sized)))
