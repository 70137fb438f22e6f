-- The house table is covered at every depth: data symbol i is a member of the equations i, k+i and 2k+i.
use mathlib.Core.Path.{◌≡◌, sym, ap, ◌∙◌, subst}
use Prim.Native.Nat.{ℕ, zero, suc, ◌+◌, ◌*◌, ◌%◌, ◌<◌}
use native.Mathlib.Nat.{mod-eq_of_lt, add-mul-mod_self_left}
use native.Mathlib.Omega.{arith}
use native.Mathlib.Decide.{dec_lt}
use Rattle.parity_table.specs.Shape.{k_of}
use Rattle.parity_table.specs.Members.{IsMember}
use Rattle.parity_table.specs.Coverage.{Mentions, Covered}
use Rattle.parity_table.proofs.Shape.{k_pos}
use Rattle.house_table.specs.House.{data_one, data_two, house_equation, house_table}
use Rattle.house_table.proofs.HouseRules.{house-members}

-- the first data member, as the formula names it, is one of the members
one_there : (k e : ℕ) → IsMember (data_one k e) (house_equation k e)
unfolding house_equation
one_there k e =
    elim (dec_lt (data_one k e) (data_two k e)) [
      | yes h ↦ (0, omega arith, omega arith)
      | no h ↦ (1, omega arith, omega arith)
    ]

-- symbol i is a member of equation ck+i
pub house_mentions : (d j i c : ℕ) → j < d → i < k_of j → c < 3 → Mentions (house_table d) j (c * k_of j + i) i
house_mentions d j i c hj hi hc =
    let k = k_of j in
    let e : (c * k + i) % k ≡ i = ap (λ (n : ℕ). n % k) (omega arith) ∙ add-mul-mod_self_left i k c ∙ mod-eq_of_lt {n = i} {m = k} hi in
    let small : c * k + i < 3 * k = below c k i hc hi in
    subst (IsMember i) (sym (house-members d j (c * k + i) hj small)) (subst (λ (x : ℕ). IsMember x (house_equation k (c * k + i))) e (one_there k (c * k + i)))
  where
    below : (c k i : ℕ) → c < 3 → i < k → c * k + i < 3 * k
    below zero k i hc hi = omega arith
    below (suc zero) k i hc hi = omega arith
    below (suc (suc zero)) k i hc hi = omega arith
    below (suc (suc (suc c))) k i hc hi = absurd (omega arith)

-- in the equations k+i and 2k+i
pub house_covered : (d : ℕ) → Covered d (house_table d)
house_covered d j i hj hi =
    let k = k_of j in
    record {
      one = 1 * k + i;
      other = 2 * k + i;
      different = λ e. omega (arith, k_pos j);
      one_there = omega arith;
      other_there = omega arith;
      in_one = house_mentions d j i 1 hj hi (omega arith);
      in_other = house_mentions d j i 2 hj hi (omega arith);
    }
