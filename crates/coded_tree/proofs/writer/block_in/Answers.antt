-- `block_in` meets its contract: the base's data symbols are where its first one is, as many as there are.
use native.Mathlib.Omega.{arith}
use Rattle.coded_tree.proofs.BlockLaws.{base-room, block_there_at}
use Rattle.coded_tree.proofs.writer.block_in.Goals as goal

pub overflow_mul-from : goal.overflow_mul-from
overflow_mul-from c =
    omega (arith, base-room c.args.depth _ c.args.tree.now c.requires.0 c.first_place-from.ensures c.requires.2)

pub overflow_mul-end : goal.overflow_mul-end
overflow_mul-end c =
    omega (arith, base-room c.args.depth _ c.args.tree.now c.requires.0 c.first_place-from.ensures c.requires.2, c.data_count.ensures)

pub overflow_add-end : goal.overflow_add-end
overflow_add-end c =
    omega (arith, base-room c.args.depth _ c.args.tree.now c.requires.0 c.first_place-from.ensures c.requires.2, c.data_count.ensures)

pub slice_bounds-result-end : goal.slice_bounds-result-end
slice_bounds-result-end c =
    omega (arith, base-room c.args.depth _ c.args.tree.now c.requires.0 c.first_place-from.ensures c.requires.2, c.data_count.ensures)

pub returns-clause-block : goal.returns-clause-block
returns-clause-block c =
    block_there_at c.args.depth _ c.args.tree.now c.requires.0 c.first_place-from.ensures c.requires.2 _ c.data_count.ensures
