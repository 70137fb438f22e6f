-- `number_of` meets its contract: the numbers are small.
use mathlib.Core.Path.{ap, ◌∙◌}
use Prim.Native.Nat.{ℕ, ◌+◌, ◌-◌, ◌*◌}
use native.Mathlib.Omega.{arith}
use Rattle.parity_table.specs.Shape.{k_of}
use Rattle.parity_table.proofs.Accepts.{number_small}
use Rattle.parity_table.specs.Parse.{equations_above, number_in}
use Rattle.parity_table.proofs.index.number_of.Goals as goal

pub overflow_sub-result : goal.overflow_sub-result
overflow_sub-result c =
    let a = c.args in
    let pre = c.requires in
    let b = number_small a.j a.e pre.0 pre.1 in
    omega (arith, b, c.data_count.ensures, c.data_count-2.ensures, pre.1)

pub overflow_mul-result : goal.overflow_mul-result
overflow_mul-result c =
    let a = c.args in
    let pre = c.requires in
    let b = number_small a.j a.e pre.0 pre.1 in
    omega (arith, b, c.data_count.ensures, c.data_count-2.ensures, pre.1)

pub overflow_add-result : goal.overflow_add-result
overflow_add-result c =
    let a = c.args in
    let pre = c.requires in
    let b = number_small a.j a.e pre.0 pre.1 in
    omega (arith, b, c.data_count.ensures, c.data_count-2.ensures, pre.1)

pub returns : goal.returns
unfolding number_in equations_above
returns c =
    let a = c.args in
    ap (λ (k : ℕ). 3 * (k - c.data_count-2.result) + a.e) c.data_count.ensures
    ∙ ap (λ (k : ℕ). 3 * (k_of a.j - k) + a.e) c.data_count-2.ensures
