-- Marks that are neither 0 nor 1.
use mathlib.Core.Bool.{Bool, false, not, true}
use mathlib.Core.List.{List, [], ◌∷◌, ◌++◌}
use mathlib.Core.Path.{◌≡◌, ap, ap₂, refl, sym, ◌∙◌}
use Prim.Native.Nat.{max, ◌*◌, ◌+◌, ◌-◌, ◌/◌, ◌<◌, ◌≤◌, suc, zero, ℕ}
use native.Mathlib.Decide.{dec_lt}
use native.Mathlib.Omega.{arith}
use lib.Dec.{ltb}
use lib.ListN.{drop, get_or, length, length-drop, take, take-append-drop}
use lib.Seq.{drop-drop, length-take-le, take-add, take_all}
use borrow.Author.Tests.{le-ltb, lt-ltb, ltb-false, ltb-true}
use Rattle.std.specs.Prelude.{None, Some, cond, option_map}
use Rattle.std.specs.List.{fold, position, position_or_len}
use Rattle.std.specs.Simd.{first_chunks}
use Rattle.std.proofs.lemmas.List.Sums.{position_or_len_is}
use Rattle.calls.specs.Marks.{is_bad, lowest_bad}
use Rattle.model.proofs.Counts.{lowest-is}
use Rattle.model.proofs.Members.{every-below}
use Rattle.octets.proofs.Choice.{and_yes, by_test, yes_and}
use Rattle.parity_table.specs.Members.{every}
use Rattle.table_bytes.proofs.RoundTrip.{every_append}

pub bad_no : (m : List ℕ) (p : ℕ) → get_or m p 0 ≤ 1 → is_bad m p ≡ false
unfolding is_bad
bad_no m p h = le-ltb 1 (get_or m p 0) h

-- the first place that a search by position finds
pub position-bad : (m : List ℕ) → position_or_len (λ v. ltb 1 v) m ≡ lowest_bad m
unfolding is_bad
position-bad m =
    let low = lowest-is (is_bad m) 0 (length m) in
    position_or_len_is (λ v. ltb 1 v) m (lowest_bad m) 0 (omega (arith, low.upto)) (λ k h. low.before k (omega arith) h) (λ h. low.found (omega arith))

-- ---- test 4 passes exactly where every mark is 0 or 1

every-low : (m : List ℕ) → ((p : ℕ) → p < length m → get_or m p 0 < 2) → every (λ v. ltb v 2) m ≡ true
unfolding every
every-low [] h = refl
every-low (v ∷ m) h = yes_and (lt-ltb v 2 (h 0 (omega arith))) (every-low m (λ p l. h (suc p) (omega arith)))

pub passed-marks : (m : List ℕ) → length m ≤ lowest_bad m → every (λ v. ltb v 2) m ≡ true
unfolding is_bad
passed-marks m h =
    every-low m
    (λ p l. omega (arith, ltb-false 1 (get_or m p 0) ((lowest-is (is_bad m) 0 (length m)).before p (omega arith) (omega arith))))

pub marks_pass : (m : List ℕ) → every (λ v. ltb v 2) m ≡ true → length m ≤ lowest_bad m
unfolding is_bad
marks_pass m a =
    let low = lowest-is (is_bad m) 0 (length m) in
    elim (dec_lt (lowest_bad m) (length m)) [
      | yes h ↦ absurd (omega (arith, ltb-true 1 (get_or m (lowest_bad m) 0) (low.found (omega arith)), every-below 2 m a (lowest_bad m) h))
      | no h ↦ omega arith
    ]

-- ---- marks by sixteens

-- part i of those of n elements each
part_is : (n k : ℕ) (m : List ℕ) (i : ℕ) (d : List ℕ) → i < k → get_or (first_chunks n k m) i d ≡ take n (drop (n * i) m)
part_is n zero m i d h = absurd (omega arith)
part_is n (suc k) m zero d h = let e : n * 0 ≡ 0 = omega arith in ap (λ (o : ℕ). take n (drop o m)) (sym e)
part_is n (suc k) m (suc i) d h =
    let e : n + n * i ≡ n * suc i = omega arith in
    part_is n k (drop n m) i d (omega arith) ∙ ap (take n) (drop-drop (n * i) n m) ∙ ap (λ (o : ℕ). take n (drop o m)) e

-- the greatest of a and the others is at least a
max_from : (a : ℕ) (xs : List ℕ) → a ≤ fold max a xs
max_from a [] = omega arith
max_from a (x ∷ xs) = omega (arith, max_from (max a x) xs)

-- where it is at most 1, each is 0 or 1
low_by_max : (a : ℕ) (xs : List ℕ) → fold max a xs ≤ 1 → every (λ v. ltb v 2) xs ≡ true
unfolding every
low_by_max a [] h = refl
low_by_max a (x ∷ xs) h = yes_and (lt-ltb x 2 (omega (arith, max_from (max a x) xs))) (low_by_max (max a x) xs h)

-- the next sixteen, of which g is the greatest
pub sixteen_more : (m : List ℕ) (s : List (List ℕ)) (i g : ℕ) (d : List ℕ) → s ≡ first_chunks 16 (length m / 16) m → i < length m / 16
    → g ≡ fold max 0 (get_or s i d) → g ≤ 1 → every (λ v. ltb v 2) (take (16 * i) m) ≡ true → every (λ v. ltb v 2) (take (16 * (i + 1)) m) ≡ true
sixteen_more m s i g d e l k h a =
    let part = take 16 (drop (16 * i) m) in
    let n : 16 * (i + 1) ≡ 16 * i + 16 = omega arith in
    let is : get_or s i d ≡ part = ap (λ (r : List (List ℕ)). get_or r i d) e ∙ part_is 16 (length m / 16) m i d l in
    ap (λ (o : ℕ). every (λ v. ltb v 2) (take o m)) n
    ∙ ap (every (λ v. ltb v 2)) (take-add (16 * i) 16 m)
    ∙ every_append (λ v. ltb v 2) (take (16 * i) m) part a (low_by_max 0 part (omega (arith, ap (fold max 0) is)))

-- ---- a search that begins behind marks that all are 0 or 1

behind : (xs ys : List ℕ) → every (λ v. ltb v 2) xs ≡ true → position_or_len (λ v. ltb 1 v) (xs ++ ys) ≡ length xs + position_or_len (λ v. ltb 1 v) ys
unfolding every
behind [] ys a = omega arith
behind (x ∷ xs) ys a =
    let (u, v) = and_yes (ltb x 2) (every (λ v. ltb v 2) xs) a in
    let rest = behind xs ys v in
    ap (λ (b : Bool). cond (not b) (1 + position_or_len (λ v. ltb 1 v) (xs ++ ys)) 0) (le-ltb 1 x (omega (arith, ltb-true x 2 u))) ∙ omega arith

-- a place that is counted from place i on
moved : (i q n : ℕ) → option_map (λ k. i + k) (cond (ltb q n) (Some q) None) ≡ cond (ltb (i + q) (i + n)) (Some (i + q)) None
moved i q n =
    by_test (ltb q n)
    (λ t. rw (t, lt-ltb (i + q) (i + n) (omega (arith, ltb-true q n t))))
    (λ t. rw (t, le-ltb (i + q) (i + n) (omega (arith, ltb-false q n t))))

-- the rest of the marks from place i on, as a slice gives it
abbrev pub rest_from : List ℕ → ℕ → List ℕ
rest_from m i = take (length m - i) (drop i m)

pub position_behind : (m : List ℕ) (i : ℕ) → i ≤ length m → every (λ v. ltb v 2) (take i m) ≡ true
    → option_map (λ k. i + k) (position (λ v. ltb 1 v) (rest_from m i)) ≡ position (λ v. ltb 1 v) m
position_behind m i h a =
    let q = position_or_len (λ v. ltb 1 v) (drop i m) in
    let n : i + length (drop i m) ≡ length m = omega (arith, length-drop i m) in
    let e : i + q ≡ position_or_len (λ v. ltb 1 v) m =
    sym (ap (position_or_len (λ v. ltb 1 v)) (sym (take-append-drop i m)) ∙ behind (take i m) (drop i m) a ∙ ap (λ (k : ℕ). k + q) (length-take-le i m h)) in
    ap (λ (l : List ℕ). option_map (λ k. i + k) (position (λ v. ltb 1 v) l)) (take_all (length m - i) (drop i m) (omega (arith, length-drop i m)))
    ∙ moved i q (length (drop i m))
    ∙ ap₂ (λ (k l : ℕ). cond (ltb k l) (Some k) None) e n
