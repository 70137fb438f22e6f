-- Laws of tests over an equation's members: counts, the first that passes, the lowest number that passes.
use mathlib.Core.Path.{◌≡◌, refl, sym, ap, ap₂, ◌∙◌, subst}
use mathlib.Core.Logic.{◌⊎◌, inl, inr}
use mathlib.Core.Bool.{Bool, true, false, not, ◌&&◌, false≢true}
use mathlib.Core.List.{List, [], ◌∷◌}
use Prim.Native.Nat.{ℕ, zero, suc, ◌+◌, ◌-◌, ◌≤◌, ◌<◌}
use native.Mathlib.Omega.{arith}
use native.Mathlib.Numerals.{add-one}
use lib.ListN.{length, get_or, drop, drop_of_length-le}
use lib.Dec.{ltb, eqb}
use borrow.Author.Tests.{ltb-true, ltb-false, lt-ltb, le-ltb, eqb-true, eqb-false, eq-eqb, ne_eqb}
use Rattle.std.proofs.Common.{Option, None, Some, MatchOption}
use Rattle.parity_table.specs.Members.{every, ascending, last_of, IsMember}
use Rattle.octets.proofs.Choice.{by_test, pick_yes, pick_no, pick_ind, and_yes, yes_and, both}
use Rattle.octets.specs.ByteLists.{xors}
use Rattle.octets.specs.Choice.{pick}
use Rattle.model.specs.Symbols.{xor_of, others, bit, count, first_of, lowest, found}
use Rattle.model.proofs.Bytes.{xors-left_comm}
use Rattle.model.proofs.Members.{from-here}

pub and_no : (a b : Bool) → (a && b) ≡ false → (a ≡ false) ⊎ (b ≡ false)
and_no true b t = inr t
and_no false b t = inl refl

bit_mono : (p q : Bool) → (p ≡ true → q ≡ true) → bit p ≤ bit q
bit_mono true true h = omega arith
bit_mono true false h = absurd (false≢true (h refl))
bit_mono false true h = omega arith
bit_mono false false h = omega arith

bit_le : (p : Bool) → bit p ≤ 1
bit_le true = omega arith
bit_le false = omega arith

pub count_mono : (p q : ℕ → Bool) → ((x : ℕ) → p x ≡ true → q x ≡ true) → (xs : List ℕ) → count p xs ≤ count q xs
unfolding count
count_mono p q h [] = omega arith
count_mono p q h (x ∷ xs) = omega (arith, bit_mono (p x) (q x) (h x), count_mono p q h xs)

-- p loses the first element that passes q
pub count_less : (p q : ℕ → Bool) → ((x : ℕ) → p x ≡ true → q x ≡ true) → (xs : List ℕ) → 0 < count q xs → p (first_of q xs) ≡ false → count p xs < count q xs
unfolding count first_of
count_less p q h [] pos e = absurd (omega arith)
count_less p q h (x ∷ xs) pos e =
    by_test (q x)
    (λ t.
    let gone : p x ≡ false = subst (λ (z : ℕ). p z ≡ false) (pick_yes (q x) x (first_of q xs) t) e in
    omega (arith, ap bit t, ap bit gone, count_mono p q h xs))
    (λ t.
    let gone : p (first_of q xs) ≡ false = subst (λ (z : ℕ). p z ≡ false) (pick_no (q x) x (first_of q xs) t) e in
    let out : p x ≡ false = by_test (p x) (λ u. both (h x u) t) (λ u. u) in
    let more : 0 < count q xs = omega (arith, ap bit t) in
    omega (arith, ap bit t, ap bit out, count_less p q h xs more gone))

-- the first element that passes q passes q
pub first_of-passes : (q : ℕ → Bool) (xs : List ℕ) → 0 < count q xs → q (first_of q xs) ≡ true
unfolding count first_of
first_of-passes q [] pos = absurd (omega arith)
first_of-passes q (x ∷ xs) pos =
    by_test (q x) (λ t. ap q (pick_yes (q x) x (first_of q xs) t) ∙ t)
    (λ t. ap q (pick_no (q x) x (first_of q xs) t) ∙ first_of-passes q xs (omega (arith, ap bit t)))

-- where it passes p too, p passes at least once
pub first_of-counts : (p q : ℕ → Bool) (xs : List ℕ) → 0 < count q xs → p (first_of q xs) ≡ true → 0 < count p xs
unfolding count first_of
first_of-counts p q [] pos e = absurd (omega arith)
first_of-counts p q (x ∷ xs) pos e =
    by_test (q x) (λ t. omega (arith, ap bit (sym (ap p (pick_yes (q x) x (first_of q xs) t)) ∙ e)))
    (λ t. omega (arith, first_of-counts p q xs (omega (arith, ap bit t)) (sym (ap p (pick_no (q x) x (first_of q xs) t)) ∙ e)))

pub every_at : (p : ℕ → Bool) (q : ℕ → Bool) (xs : List ℕ) → every p xs ≡ true → 0 < count q xs → p (first_of q xs) ≡ true
unfolding every count first_of
every_at p q [] a pos = absurd (omega arith)
every_at p q (x ∷ xs) a pos =
    let (u, v) = and_yes (p x) (every p xs) a in
    by_test (q x) (λ t. ap p (pick_yes (q x) x (first_of q xs) t) ∙ u)
    (λ t. ap p (pick_no (q x) x (first_of q xs) t) ∙ every_at p q xs v (omega (arith, ap bit t)))

pub every-none : (p q : ℕ → Bool) → ((x : ℕ) → p x ≡ true → q x ≡ false) → (xs : List ℕ) → every p xs ≡ true → count q xs ≡ 0
unfolding every count
every-none p q h [] a = refl
every-none p q h (x ∷ xs) a =
    let (u, v) = and_yes (p x) (every p xs) a in
    omega (arith, ap bit (h x u), every-none p q h xs v)

-- x is a member
abbrev pub is_it : ℕ → ℕ → Bool
is_it x y = eqb y x

pub ascending_once : (x : ℕ) (xs : List ℕ) → ascending xs ≡ true → count (is_it x) xs ≤ 1
unfolding ascending count
ascending_once x [] a = omega arith
ascending_once x (y ∷ ys) a =
    let (u, v) = and_yes (every (ltb y) ys) (ascending ys) a in
    by_test (eqb y x)
    (λ t. omega (arith, bit_le (eqb y x), every-none (ltb y) (is_it x) (λ z w. ne_eqb z x (λ k. omega (arith, ltb-true y z w, eqb-true y x t))) ys u))
    (λ t. omega (arith, ap bit t, ascending_once x ys v))

-- a number that is counted is a member, and a member is counted
pub member_later : (x y : ℕ) (xs : List ℕ) → IsMember x xs → IsMember x (y ∷ xs)
member_later x y xs (q, h, e) = (suc q, omega arith, e)

pub counted-member : (x : ℕ) (xs : List ℕ) → 1 ≤ count (is_it x) xs → IsMember x xs
unfolding count
counted-member x [] h = absurd (omega arith)
counted-member x (y ∷ ys) h =
    by_test (eqb y x) (λ t. (0, omega arith, eqb-true y x t)) (λ t. member_later x y ys (counted-member x ys (omega (arith, ap bit t))))

pub member-counted : (x : ℕ) (xs : List ℕ) → IsMember x xs → 1 ≤ count (is_it x) xs
unfolding count
member-counted x [] (q, h, e) = absurd (omega arith)
member-counted x (y ∷ ys) (zero, h, e) = omega (arith, ap bit (eq-eqb y x e))
member-counted x (y ∷ ys) (suc q, h, e) = omega (arith, member-counted x ys (q, omega arith, e))

pub others-none : (x : ℕ) (xs : List ℕ) → count (is_it x) xs ≡ 0 → others x xs ≡ xs
unfolding others count
others-none x [] c = refl
others-none x (y ∷ ys) c =
    by_test (eqb y x) (λ t. absurd (omega (arith, ap bit t)))
    (λ t. pick_no (eqb y x) _ _ t ∙ ap {B = List ℕ} (λ l. y ∷ l) (others-none x ys (omega (arith, ap bit t))))

-- the exclusive-or of an equation's members is that of one of them and the others
pub xor_of-others : (g : ℕ → List ℕ) (x : ℕ) (xs : List ℕ) → count (is_it x) xs ≡ 1 → xor_of g xs ≡ xors (g x) (xor_of g (others x xs))
unfolding others count xor_of
xor_of-others g x [] c = absurd (omega arith)
xor_of-others g x (y ∷ ys) c =
    by_test (eqb y x)
    (λ t.
    let o : others x (y ∷ ys) ≡ ys = pick_yes (eqb y x) _ _ t ∙ others-none x ys (omega (arith, ap bit t)) in
    ap (λ (z : ℕ). xors (g z) (xor_of g ys)) (eqb-true y x t) ∙ ap (λ (l : List ℕ). xors (g x) (xor_of g l)) (sym o))
    (λ t.
    let o : others x (y ∷ ys) ≡ y ∷ others x ys = pick_no (eqb y x) _ _ t in
    ap (xors (g y)) (xor_of-others g x ys (omega (arith, ap bit t)))
    ∙ xors-left_comm (g y) (g x) (xor_of g (others x ys))
    ∙ ap (λ (l : List ℕ). xors (g x) (xor_of g l)) (sym o))

pub every-others : (p : ℕ → Bool) (x : ℕ) (xs : List ℕ) → every p xs ≡ true → every p (others x xs) ≡ true
unfolding every others
every-others p x [] a = refl
every-others p x (y ∷ ys) a =
    let (u, v) = and_yes (p y) (every p ys) a in
    pick_ind (λ (l : List ℕ). every p l ≡ true) (eqb y x) (λ t. every-others p x ys v) (λ t. yes_and u (every-others p x ys v))

-- what holds of every element holds of a member
pub every-member : (p : ℕ → Bool) (x : ℕ) (xs : List ℕ) → every p xs ≡ true → 1 ≤ count (is_it x) xs → p x ≡ true
every-member p x xs a c = sym (ap p (eqb-true (first_of (is_it x) xs) x (first_of-passes (is_it x) xs c))) ∙ every_at p (is_it x) xs a c

-- the members other than x are not x
pub others-differ : (x : ℕ) (xs : List ℕ) → every (λ y. not (eqb y x)) (others x xs) ≡ true
unfolding every others
others-differ x [] = refl
others-differ x (y ∷ ys) =
    pick_ind (λ (l : List ℕ). every (λ z. not (eqb z x)) l ≡ true) (eqb y x) (λ t. others-differ x ys) (λ t. yes_and (ap not t) (others-differ x ys))

-- where none is absent, every one is held
pub none-absent : (a : ℕ → Bool) (xs : List ℕ) → count a xs ≡ 0 → every (λ y. not (a y)) xs ≡ true
unfolding count every
none-absent a [] c = refl
none-absent a (x ∷ xs) c =
    by_test (a x) (λ t. absurd (omega (arith, ap bit t))) (λ t. yes_and (ap not t) (none-absent a xs (omega (arith, ap bit t))))

-- where x is the only one absent, the others are held
pub others-held : (a : ℕ → Bool) (x : ℕ) (xs : List ℕ) → count a xs ≡ 1 → x ≡ first_of a xs → every (λ y. not (a y)) (others x xs) ≡ true
unfolding count every others first_of
others-held a x [] c e = refl
others-held a x (y ∷ ys) c e =
    by_test (a y)
    (λ t.
    let same-x : eqb y x ≡ true = eq-eqb y x (sym (e ∙ pick_yes (a y) y (first_of a ys) t)) in
    ap (every (λ z. not (a z))) (pick_yes (eqb y x) (others x ys) (y ∷ others x ys) same-x)
    ∙ every-others (λ z. not (a z)) x ys (none-absent a ys (omega (arith, ap bit t))))
    (λ t.
    let ih = others-held a x ys (omega (arith, ap bit t)) (e ∙ pick_no (a y) y (first_of a ys) t) in
    pick_ind (λ (l : List ℕ). every (λ z. not (a z)) l ≡ true) (eqb y x) (λ u. ih) (λ u. yes_and (ap not t) ih))

pub every_both : (p q : ℕ → Bool) (xs : List ℕ) → every p xs ≡ true → every q xs ≡ true → every (λ y. p y && q y) xs ≡ true
unfolding every
every_both p q [] a b = refl
every_both p q (x ∷ xs) a b =
    let (a₁, a₂) = and_yes (p x) (every p xs) a in
    let (b₁, b₂) = and_yes (q x) (every q xs) b in
    yes_and (yes_and a₁ b₁) (every_both p q xs a₂ b₂)

-- the last of some numbers is one of them
pub last-member : (xs : List ℕ) (d : ℕ) → 1 ≤ length xs → 1 ≤ count (is_it (last_of xs d)) xs
unfolding count last_of
last-member [] d h = absurd (omega arith)
last-member (x ∷ []) d h = omega (arith, ap bit (eq-eqb x x refl))
last-member (x ∷ y ∷ ys) d h = omega (arith, last-member (y ∷ ys) x (omega arith))

pub first_member : (a : ℕ → Bool) (xs : List ℕ) → 0 < count a xs → 1 ≤ count (is_it (first_of a xs)) xs
first_member a xs h = first_of-counts (is_it (first_of a xs)) a xs h (eq-eqb (first_of a xs) (first_of a xs) refl)

pub count_le : (p : ℕ → Bool) (xs : List ℕ) → count p xs ≤ length xs
unfolding count
count_le p [] = omega arith
count_le p (x ∷ xs) = omega (arith, bit_le (p x), count_le p xs)

-- a set cut to numbers that every element is among counts the same
pub count_same : (p q : ℕ → Bool) (xs : List ℕ) → every p xs ≡ true → count q xs ≡ count (λ x. p x && q x) xs
unfolding count every
count_same p q [] a = refl
count_same p q (x ∷ xs) a =
    let (u, v) = and_yes (p x) (every p xs) a in
    ap₂ (λ (b : Bool) (n : ℕ). bit b + n) (sym (ap (λ (b : Bool). b && q x) u)) (count_same p q xs v)

pub length-others : (x : ℕ) (xs : List ℕ) → length (others x xs) + count (is_it x) xs ≡ length xs
unfolding others count
length-others x [] = refl
length-others x (y ∷ ys) =
    by_test (eqb y x) (λ t. omega (arith, ap length (pick_yes (eqb y x) (others x ys) (y ∷ others x ys) t), ap bit t, length-others x ys))
    (λ t. omega (arith, ap length (pick_no (eqb y x) (others x ys) (y ∷ others x ys) t), ap bit t, length-others x ys))

-- ---- the lowest number that passes

pub record Lowest (p : ℕ → Bool) (i f r : ℕ) : Type 0 where
  pub from : i ≤ r
  pub upto : r ≤ i + f
  pub found : r < i + f → p r ≡ true
  pub before : (m : ℕ) → i ≤ m → m < r → p m ≡ false

pub lowest-is : (p : ℕ → Bool) (i f : ℕ) → Lowest p i f (lowest p i f)
unfolding lowest
lowest-is p i zero = record { from = omega arith; upto = omega arith; found = λ h. absurd (omega arith); before = λ m a b. absurd (omega arith) }
lowest-is p i (suc f) =
    pick_ind (Lowest p i (suc f)) (p i)
    (λ t. record { from = omega arith; upto = omega arith; found = λ h. t; before = λ m a b. absurd (omega arith) })
    (λ t.
    let r = lowest-is p (suc i) f in
    record {
      from = omega arith;
      upto = omega arith;
      found = λ h. r.found (omega arith);
      before = λ m a b. by_test (eqb m i) (λ u. ap p (eqb-true m i u) ∙ t) (λ u. r.before m (omega (arith, eqb-false m i u)) b);
    })

-- tests that say the same of these numbers
pub lowest-same : (p q : ℕ → Bool) (i f : ℕ) → ((x : ℕ) → i ≤ x → x < i + f → p x ≡ q x) → lowest p i f ≡ lowest q i f
unfolding lowest
lowest-same p q i zero h = refl
lowest-same p q i (suc f) h =
    ap₂ (λ (b : Bool) (r : ℕ). pick b i r) (h i (omega arith) (omega arith)) (lowest-same p q (suc i) f (λ x a b. h x (omega arith) (omega arith)))

-- the lowest below n, as a search answers it
pub found_first : (p : ℕ → Bool) (n : ℕ) (r : Option ℕ)
    → MatchOption r ((k : ℕ) → k < n → p k ≡ false) (λ i. (i < n) × (p i ≡ true) × ((k : ℕ) → k < i → p k ≡ false))
    → r ≡ found p n
found_first p n None none =
    let l = lowest-is p 0 n in
    let out : n ≤ lowest p 0 n = by_test (ltb (lowest p 0 n) n) (λ t. let h = ltb-true _ _ t in both (l.found (omega arith)) (none _ h)) (λ t. ltb-false _ _ t) in
    sym (pick_no (ltb (lowest p 0 n) n) (Some (lowest p 0 n)) None (le-ltb _ _ out))
found_first p n (Some i) (inside, passes, before) =
    let l = lowest-is p 0 n in
    let low : lowest p 0 n ≤ i = by_test (ltb i (lowest p 0 n)) (λ t. both passes (l.before i (omega arith) (ltb-true _ _ t))) (λ t. ltb-false _ _ t) in
    let high : i ≤ lowest p 0 n = by_test (ltb (lowest p 0 n) i) (λ t. let h = ltb-true _ _ t in both (l.found (omega arith)) (before _ h)) (λ t. ltb-false _ _ t) in
    let e : i ≡ lowest p 0 n = omega arith in
    ap Some e ∙ sym (pick_yes (ltb (lowest p 0 n) n) (Some (lowest p 0 n)) None (lt-ltb _ _ (omega arith)))

-- whether there is one
pub found-some : (p : ℕ → Bool) (n i : ℕ) → found p n ≡ Some i → ltb (lowest p 0 n) n ≡ true
found-some p n i e = by_test (ltb (lowest p 0 n) n) (λ t. t) (λ t. let no = sym (pick_no (ltb (lowest p 0 n) n) (Some (lowest p 0 n)) None t) ∙ e in cc)

pub found-none : (p : ℕ → Bool) (n : ℕ) → found p n ≡ None → ltb (lowest p 0 n) n ≡ false
found-none p n e = by_test (ltb (lowest p 0 n) n) (λ t. let yes = sym (pick_yes (ltb (lowest p 0 n) n) (Some (lowest p 0 n)) None t) ∙ e in cc) (λ t. t)

-- ---- from element i on, as a loop meets them

module _ (p : ℕ → Bool) (xs : List ℕ) (i : ℕ) where
  pub count-drop : i < length xs → count p (drop i xs) ≡ bit (p (get_or xs i 0)) + count p (drop (i + 1) xs)
  unfolding count
  count-drop h = ap (count p) (from-here xs i h)

  pub count-end : length xs ≤ i → count p (drop i xs) ≡ 0
  unfolding count
  count-end h = ap (count p) (drop_of_length-le xs h)

  pub first_skip : i < length xs → p (get_or xs i 0) ≡ false → first_of p (drop i xs) ≡ first_of p (drop (i + 1) xs)
  unfolding first_of
  first_skip h f = ap (first_of p) (from-here xs i h) ∙ pick_no (p (get_or xs i 0)) _ _ f

  pub first-here : i < length xs → p (get_or xs i 0) ≡ true → first_of p (drop i xs) ≡ get_or xs i 0
  unfolding first_of
  first-here h f = ap (first_of p) (from-here xs i h) ∙ pick_yes (p (get_or xs i 0)) _ _ f

  pub first-end : length xs ≤ i → first_of p (drop i xs) ≡ 0
  unfolding first_of
  first-end h = ap (first_of p) (drop_of_length-le xs h)

-- the search from number i on, one turn of a loop: it comes to v
module _ (p : ℕ → Bool) (n i v : ℕ) (e : lowest p i (n - i) ≡ v) where
  pub lowest_hit : i < n → p i ≡ true → i ≡ v
  unfolding lowest
  lowest_hit h t = let k : n - i ≡ suc (n - (i + 1)) = omega arith in sym (ap (lowest p i) k ∙ pick_yes (p i) _ _ t) ∙ e

  pub lowest_pass : i < n → p i ≡ false → lowest p (i + 1) (n - (i + 1)) ≡ v
  unfolding lowest
  lowest_pass h t =
      let k : n - i ≡ suc (n - (i + 1)) = omega arith in
      sym (ap (lowest p i) k ∙ pick_no (p i) _ _ t ∙ ap (λ (m : ℕ). lowest p m (n - (i + 1))) (sym (add-one i))) ∙ e

  pub lowest-none : i ≡ n → n ≡ v
  unfolding lowest
  lowest-none h = let k : n - i ≡ 0 = omega arith in sym h ∙ sym (ap (lowest p i) k) ∙ e
