-- `test_number` meets its contract.
use Prim.Native.Nat.{◌-◌}
use native.Mathlib.Omega.{arith}
use Rattle.parity_table.specs.Shape.{n_of}
use Rattle.parity_table.proofs.Shape.{k_small}
use Rattle.calls.proofs.TestLaws.{number-over, number-below}
use Rattle.calls.proofs.base.test_number.Goals as goal

pub overflow_mul-data_count : goal.overflow_mul-data_count
overflow_mul-data_count c = omega (arith, c.data_count.ensures, k_small (c.args.depth - 1) (omega (arith, c.requires.0, c.requires.1)))

pub returns-then-number-data_count : goal.returns-then-number-data_count
unfolding n_of
returns-then-number-data_count c =
    let g = c.args in
    number-over g.depth g.number (omega (arith, c.data_count.ensures, c.if-number-data_count.true))

pub returns : goal.returns
unfolding n_of
returns c =
    let g = c.args in
    number-below g.depth g.number (omega (arith, c.data_count.ensures, c.if-number-data_count.false))
