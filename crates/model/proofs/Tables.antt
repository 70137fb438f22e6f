-- What the laws of a tree ask of its table, and that every well-formed table of 01 has it.
use mathlib.Core.Path.{◌≡◌}
use mathlib.Core.Bool.{true}
use mathlib.Core.List.{List}
use Prim.Native.Nat.{ℕ, suc, ◌+◌, ◌-◌, ◌*◌, ◌^◌, ◌≤◌, ◌<◌}
use native.Mathlib.Nat.{mul-le-mul_right}
use native.Mathlib.Omega.{arith}
use lib.ListN.{length}
use lib.Dec.{ltb}
use Rattle.parity_table.specs.Shape.{k_of, n_of, max_depth}
use Rattle.parity_table.specs.Members.{every, ascending}
use Rattle.parity_table.specs.Table.{layer_of, equation_of, TableOk}
use Rattle.parity_table.proofs.Rules.{members_split, members-below}
use Rattle.parity_table.proofs.Shape.{k_small}
use Rattle.model.specs.Shape.{Shape, tree}
use Rattle.model.specs.Fault.{proof_length}
use Rattle.model.specs.Ends.{Roomy}
use Rattle.model.proofs.Members.{Last, last-is}

-- one equation for each parity symbol, which is its last member
pub record TableFits (S : Shape) (tbl : List (List (List ℕ))) : Type 0 where
  pub deep : 1 ≤ length tbl
  pub full : (j : ℕ) → j < length tbl → S.k j + length (layer_of tbl j) ≡ S.n j
  pub last : (j e : ℕ) → j < length tbl → e < length (layer_of tbl j) → Last (S.k j + e) (equation_of tbl j e)

pub table_fits : (d : ℕ) (tbl : List (List (List ℕ))) → 1 ≤ d → TableOk d tbl → TableFits tree tbl
unfolding n_of
table_fits d tbl h o =
    let deep : length tbl ≡ d = o.depth in
    record {
      deep = omega arith;
      full = λ j k. omega (arith, o.equations j (omega arith));
      last = λ j e k l.
          last-is (k_of j + e) (equation_of tbl j e) (members_split d tbl o j e (omega arith) (omega (arith, o.equations j (omega arith))));
    }

-- ---- what the laws of the checker and of repair ask

-- every equation has one to eight members, ascending, each a symbol of the layer; numbers fit a word's value
pub record TableLaws (S : Shape) (tbl : List (List (List ℕ))) : Type 0 where
  pub deep : 1 ≤ length tbl
  pub shallow : length tbl ≤ 2 ^ 30
  pub narrow : (j : ℕ) → j < length tbl → S.n j ≤ 2 ^ 30
  pub sizes : (j : ℕ) → j < length tbl → length (layer_of tbl j) ≤ S.n j
  pub ascend : (j e : ℕ) → j < length tbl → e < length (layer_of tbl j) → ascending (equation_of tbl j e) ≡ true
  pub within : (j e : ℕ) → j < length tbl → e < length (layer_of tbl j) → every (λ x. ltb x (S.n j)) (equation_of tbl j e) ≡ true
  pub some-member : (j e : ℕ) → j < length tbl → e < length (layer_of tbl j) → 1 ≤ length (equation_of tbl j e)
  pub few-members : (j e : ℕ) → j < length tbl → e < length (layer_of tbl j) → length (equation_of tbl j e) ≤ 8

pub table_laws : (d : ℕ) (tbl : List (List (List ℕ))) → 1 ≤ d → d ≤ max_depth → TableOk d tbl → TableLaws tree tbl
unfolding n_of
table_laws d tbl h g o =
    let deep : length tbl ≡ d = o.depth in
    let equation : (j e : ℕ) → j < length tbl → e < length (layer_of tbl j) → e < 3 * k_of j = λ j e k l. omega (arith, o.equations j (omega arith)) in
    record {
      deep = omega arith;
      shallow = omega arith;
      narrow = λ j k. omega (arith, k_small j (omega arith));
      sizes = λ j k. omega (arith, o.equations j (omega arith));
      ascend = λ j e k l. (o.members j e (omega arith) (equation j e k l)).ascend;
      within = λ j e k l. members-below d tbl o j e (omega arith) (equation j e k l);
      some-member = λ j e k l. omega (arith, (o.members j e (omega arith) (equation j e k l)).some);
      few-members = λ j e k l. (o.members j e (omega arith) (equation j e k l)).few;
    }

-- "The output buffer has 12+256·(8D−1) bytes", which is room enough.
pub table_roomy : (S : Shape) (tbl : List (List (List ℕ))) → TableLaws S tbl → (o : List ℕ) → length o ≡ 12 + 256 * (8 * length tbl - 1) → Roomy tbl o
unfolding proof_length
table_roomy S tbl ok o h =
    record {
      proofs = λ j e hj he. omega (arith, mul-le-mul_right {m = length (equation_of tbl j e) - 1} {n = 7} (suc j) (omega (arith, ok.few-members j e hj he)));
      twins = omega (arith, ok.deep);
    }
