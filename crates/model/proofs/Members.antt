-- Laws of an equation's members, and the members other than one as a loop meets them.
use mathlib.Core.Path.{◌≡◌, refl, sym, ap, ap₂, ◌∙◌}
use mathlib.Core.Bool.{Bool, true}
use mathlib.Core.List.{List, [], ◌∷◌, ◌++◌}
use Prim.Native.Nat.{ℕ, zero, suc, ◌+◌, ◌-◌, ◌≤◌, ◌<◌}
use native.Mathlib.Numerals.{add-one}
use native.Mathlib.Omega.{arith}
use lib.ListN.{length, get_or, drop, drop_of_length-le}
use lib.Seq.{drop-cons}
use lib.Dec.{ltb, eqb}
use borrow.Author.Tests.{ltb-true, eq-eqb, ne_eqb}
use Rattle.parity_table.specs.Members.{every, last_of}
use Rattle.octets.proofs.Choice.{and_yes, pick_yes, pick_no}
use Rattle.parity_table.proofs.Chain.{Split}
use Rattle.octets.specs.ByteLists.{xors}
use Rattle.model.specs.Symbols.{xor_of, others}
use Rattle.octets.proofs.ListLaws.{length-xors}
use Rattle.model.proofs.Bytes.{length-zeros, xors-left_comm}

-- ---- the exclusive-or of symbols whose numbers are below n

pub length-xor_of : (f : ℕ → List ℕ) (n : ℕ) → ((x : ℕ) → x < n → length (f x) ≡ 256) → (xs : List ℕ) → every (λ x. ltb x n) xs ≡ true → length (xor_of f xs) ≡ 256
unfolding every xor_of
length-xor_of f n h [] a = length-zeros
length-xor_of f n h (x ∷ xs) a =
    let (u, v) = and_yes (ltb x n) (every (λ x. ltb x n) xs) a in
    omega (arith, length-xors (f x) (xor_of f xs), h x (ltb-true x n u), length-xor_of f n h xs v)

pub xor_of_cong : (f g : ℕ → List ℕ) (p : ℕ → Bool) → ((x : ℕ) → p x ≡ true → f x ≡ g x) → (xs : List ℕ) → every p xs ≡ true → xor_of f xs ≡ xor_of g xs
unfolding xor_of every
xor_of_cong f g p h [] a = refl
xor_of_cong f g p h (x ∷ xs) a =
    let (u, v) = and_yes (p x) (every p xs) a in
    ap₂ xors (h x u) (xor_of_cong f g p h xs v)

pub xor_of-same : (f g : ℕ → List ℕ) (n : ℕ) → ((x : ℕ) → x < n → f x ≡ g x) → (xs : List ℕ) → every (λ x. ltb x n) xs ≡ true → xor_of f xs ≡ xor_of g xs
xor_of-same f g n h = xor_of_cong f g (λ x. ltb x n) (λ x t. h x (ltb-true x n t))

-- ---- the last member and the others, which are below it

xor_of-last : (f : ℕ → List ℕ) (z : ℕ) (xs : List ℕ) → xor_of f (xs ++ (z ∷ [])) ≡ xors (f z) (xor_of f xs)
unfolding xor_of
xor_of-last f z [] = refl
xor_of-last f z (x ∷ xs) = ap (xors (f x)) (xor_of-last f z xs) ∙ xors-left_comm (f x) (f z) (xor_of f xs)

others-last : (z : ℕ) (xs : List ℕ) → every (λ x. ltb x z) xs ≡ true → others z (xs ++ (z ∷ [])) ≡ xs
unfolding every others
others-last z [] a = pick_yes (eqb z z) _ _ (eq-eqb z z refl)
others-last z (x ∷ xs) a =
    let (u, v) = and_yes (ltb x z) (every (λ x. ltb x z) xs) a in
    pick_no (eqb x z) _ _ (ne_eqb x z (λ e. omega (arith, ltb-true x z u))) ∙ ap {B = List ℕ} (λ l. x ∷ l) (others-last z xs v)

-- z is the last of the members
pub record Last (z : ℕ) (ms : List ℕ) : Type 0 where
  pub below : every (λ x. ltb x z) (others z ms) ≡ true
  pub apart : (f : ℕ → List ℕ) → xor_of f ms ≡ xors (f z) (xor_of f (others z ms))

pub last-is : (z : ℕ) (ms : List ℕ) → Split z ms → Last z ms
last-is z ms s =
    let rest : others z ms ≡ s.others = ap (others z) s.apart ∙ others-last z s.others s.below in
    record {
      below = ap (every (λ x. ltb x z)) rest ∙ s.below;
      apart = λ f. ap (xor_of f) s.apart ∙ xor_of-last f z s.others ∙ ap (λ (l : List ℕ). xors (f z) (xor_of f l)) (sym rest);
    }

module _ (z : ℕ) (ms : List ℕ) (l : Last z ms) where
  -- symbols that are the same up to number z have the same exclusive-or
  pub last-same : (f g : ℕ → List ℕ) → ((x : ℕ) → x ≤ z → f x ≡ g x) → xor_of f ms ≡ xor_of g ms
  last-same f g h = l.apart f ∙ ap₂ xors (h z (omega arith)) (xor_of-same f g z (λ x k. h x (omega arith)) (others z ms) l.below) ∙ sym (l.apart g)

  pub length_rest : (f : ℕ → List ℕ) → ((x : ℕ) → x < z → length (f x) ≡ 256) → length (xor_of f (others z ms)) ≡ 256
  length_rest f h = length-xor_of f z h (others z ms) l.below

-- ---- member i of members that all are below n

pub every-below : (n : ℕ) (xs : List ℕ) → every (λ x. ltb x n) xs ≡ true → (i : ℕ) → i < length xs → get_or xs i 0 < n
unfolding every
every-below n [] a i h = absurd (omega arith)
every-below n (x ∷ xs) a zero h = ltb-true x n (and_yes (ltb x n) _ a).0
every-below n (x ∷ xs) a (suc i) h = every-below n xs (and_yes (ltb x n) _ a).1 i (omega arith)

-- the last member
pub last_get : (xs : List ℕ) (z : ℕ) → 1 ≤ length xs → last_of xs z ≡ get_or xs (length xs - 1) 0
unfolding last_of
last_get [] z h = absurd (omega arith)
last_get (x ∷ []) z h = refl
last_get (x ∷ (y ∷ ys)) z h =
    let k : suc (length (y ∷ ys) - 1) ≡ length (x ∷ (y ∷ ys)) - 1 = omega arith in
    last_get (y ∷ ys) x (omega arith) ∙ ap (λ (i : ℕ). get_or (x ∷ (y ∷ ys)) i 0) k

-- ---- the members other than x, from member i on

pub from-here : (xs : List ℕ) (i : ℕ) → i < length xs → drop i xs ≡ get_or xs i 0 ∷ drop (i + 1) xs
from-here xs i h = drop-cons xs i 0 h ∙ ap (λ n. get_or xs i 0 ∷ drop n xs) (sym (add-one i))

module _ (x : ℕ) (ms : List ℕ) (i : ℕ) where
  pub others_skip : i < length ms → get_or ms i 0 ≡ x → others x (drop i ms) ≡ others x (drop (i + 1) ms)
  unfolding others
  others_skip h e = ap (others x) (from-here ms i h) ∙ pick_yes (eqb (get_or ms i 0) x) _ _ (eq-eqb (get_or ms i 0) x e)

  pub others-take : i < length ms → (get_or ms i 0 ≡ x → ⊥) → others x (drop i ms) ≡ get_or ms i 0 ∷ others x (drop (i + 1) ms)
  unfolding others
  others-take h e = ap (others x) (from-here ms i h) ∙ pick_no (eqb (get_or ms i 0) x) _ _ (ne_eqb (get_or ms i 0) x e)

  pub others-end : length ms ≤ i → others x (drop i ms) ≡ []
  unfolding others
  others-end h = ap (others x) (drop_of_length-le ms h)
