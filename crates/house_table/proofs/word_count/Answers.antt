-- `word_count` meets its contract: the formula.
use native.Mathlib.Omega.{arith}
use Rattle.parity_table.proofs.Shape.{shift_is, shift_small}
use Rattle.house_table.proofs.HouseParts.{size_is}
use lib.Pow.{pow_pos}
use Rattle.house_table.proofs.word_count.Goals as goal

pub overflow_sub-result : goal.overflow_sub-result
overflow_sub-result c = omega (arith, shift_is c.args.depth c.requires, shift_small c.args.depth c.requires, pow_pos c.args.depth)

pub overflow_mul-result : goal.overflow_mul-result
overflow_mul-result c = omega (arith, shift_is c.args.depth c.requires, shift_small c.args.depth c.requires, pow_pos c.args.depth)

pub overflow_add-result : goal.overflow_add-result
overflow_add-result c = omega (arith, shift_is c.args.depth c.requires, shift_small c.args.depth c.requires, pow_pos c.args.depth)

pub returns : goal.returns
returns c = (
  size_is c.args.depth c.requires,
  omega (arith, shift_is c.args.depth c.requires, shift_small c.args.depth c.requires, pow_pos c.args.depth),
)
