-- An equation's members as a chain from a lowest number to a last one: the form that goes word by word.
use mathlib.Core.Path.{◌≡◌, refl, ap}
use mathlib.Core.Bool.{true}
use mathlib.Core.List.{List, [], ◌∷◌, ◌++◌}
use Prim.Native.Nat.{ℕ, suc, ◌+◌, ◌≤◌, ◌<◌}
use native.Mathlib.Omega.{arith}
use lib.ListN.{length}
use lib.Dec.{ltb}
use borrow.Author.Tests.{ltb-true, lt-ltb}
use Rattle.parity_table.specs.Shape.{k_of}
use Rattle.parity_table.specs.Members.{every, ascending, last_of}
use Rattle.octets.proofs.Choice.{and_yes, yes_and}
use Rattle.parity_table.specs.Table.{EquationOk}

-- strictly ascending, from lo on, the last being z
abbrev pub Chain : ℕ → ℕ → List ℕ → Type 0
Chain lo z [] = ⊥
Chain lo z (x ∷ []) = (lo ≤ x) × (x ≡ z)
Chain lo z (x ∷ y ∷ ys) = (lo ≤ x) × Chain (suc x) z (y ∷ ys)

pub chain_le : (lo z : ℕ) (xs : List ℕ) → Chain lo z xs → lo ≤ z
chain_le lo z [] c = absurd c
chain_le lo z (x ∷ []) c = omega arith
chain_le lo z (x ∷ y ∷ ys) c = omega (arith, chain_le (suc x) z (y ∷ ys) c.1)

chain_above : (p lo z : ℕ) (xs : List ℕ) → p < lo → Chain lo z xs → every (ltb p) xs ≡ true
unfolding every
chain_above p lo z [] h c = refl
chain_above p lo z (x ∷ []) h c = yes_and (lt-ltb p x (omega arith)) refl
chain_above p lo z (x ∷ y ∷ ys) h c = yes_and (lt-ltb p x (omega arith)) (chain_above p (suc x) z (y ∷ ys) (omega arith) c.1)

chain_ascending : (lo z : ℕ) (xs : List ℕ) → Chain lo z xs → ascending xs ≡ true
unfolding ascending every
chain_ascending lo z [] c = refl
chain_ascending lo z (x ∷ []) c = refl
chain_ascending lo z (x ∷ y ∷ ys) c =
    yes_and (chain_above x (suc x) z (y ∷ ys) (omega arith) c.1) (chain_ascending (suc x) z (y ∷ ys) c.1)

chain_last : (lo z : ℕ) (xs : List ℕ) (w : ℕ) → Chain lo z xs → last_of xs w ≡ z
unfolding last_of
chain_last lo z [] w c = absurd c
chain_last lo z (x ∷ []) w c = c.1
chain_last lo z (x ∷ y ∷ ys) w c = chain_last (suc x) z (y ∷ ys) x c.1

-- every member is below n, which is above the last
pub chain_within : (lo z n : ℕ) (xs : List ℕ) → z < n → Chain lo z xs → every (λ x. ltb x n) xs ≡ true
unfolding every
chain_within lo z n [] h c = refl
chain_within lo z n (x ∷ []) h c = yes_and (lt-ltb x n (omega arith)) refl
chain_within lo z n (x ∷ y ∷ ys) h c =
    yes_and (lt-ltb x n (omega (arith, chain_le (suc x) z (y ∷ ys) c.1))) (chain_within (suc x) z n (y ∷ ys) h c.1)

ascending_chain : (lo z x : ℕ) (xs : List ℕ) → ascending (x ∷ xs) ≡ true → lo ≤ x → last_of xs x ≡ z → Chain lo z (x ∷ xs)
unfolding ascending every last_of
ascending_chain lo z x [] a h l = (h, l)
ascending_chain lo z x (y ∷ ys) a h l =
    let (u, v) = and_yes (every (ltb x) (y ∷ ys)) (ascending (y ∷ ys)) a in
    (h, ascending_chain (suc x) z y ys v (ltb-true x y (and_yes (ltb x y) (every (ltb x) ys) u).0) l)

-- an equation by the rules is a chain from 0 to k + e
pub equation_chain : (j e : ℕ) (ms : List ℕ) → EquationOk j e ms → Chain 0 (k_of j + e) ms
unfolding last_of
equation_chain j e [] o = absurd (omega (arith, o.some))
equation_chain j e (x ∷ xs) o = ascending_chain 0 (k_of j + e) x xs o.ascend (omega arith) o.final

pub chain_equation : (j e : ℕ) (ms : List ℕ) → Chain 0 (k_of j + e) ms → 2 ≤ length ms → length ms ≤ 8 → EquationOk j e ms
chain_equation j e ms c h g =
    record { some = h; few = g; ascend = chain_ascending 0 (k_of j + e) ms c; final = chain_last 0 (k_of j + e) ms 0 c }

pub chain_cons : (lo x z : ℕ) (xs : List ℕ) → lo ≤ x → Chain (suc x) z xs → Chain lo z (x ∷ xs)
chain_cons lo x z [] h c = absurd c
chain_cons lo x z (y ∷ ys) h c = (h, c)

-- the last member apart from the others, which are all below it
pub record Split (z : ℕ) (ms : List ℕ) : Type 0 where
  pub others : List ℕ
  pub apart : ms ≡ others ++ (z ∷ [])
  pub below : every (λ x. ltb x z) others ≡ true

pub chain_split : (lo z : ℕ) (xs : List ℕ) → Chain lo z xs → Split z xs
unfolding every
chain_split lo z [] c = absurd c
chain_split lo z (x ∷ []) c = record { others = []; apart = ap (λ (n : ℕ). n ∷ []) c.1; below = refl }
chain_split lo z (x ∷ y ∷ ys) c =
    let s = chain_split (suc x) z (y ∷ ys) c.1 in
    record {
      others = x ∷ s.others;
      apart = ap {B = List ℕ} (λ l. x ∷ l) s.apart;
      below = yes_and (lt-ltb x z (chain_le (suc x) z (y ∷ ys) c.1)) s.below;
    }
