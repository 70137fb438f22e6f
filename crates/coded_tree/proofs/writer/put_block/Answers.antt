-- `put_block` meets its contract: the block is copied, and what is left of the base's data symbols is filled with zeros.
use native.Mathlib.Omega.{arith}
use Rattle.coded_tree.proofs.BlockLaws.{base-room, block_put}
use Rattle.coded_tree.proofs.writer.put_block.Goals as goal

pub overflow_mul-from : goal.overflow_mul-from
overflow_mul-from c =
    omega (arith, base-room c.args.depth _ c.args.tree.now c.requires.0 c.first_place-from.ensures c.requires.3)

pub overflow_add-filling : goal.overflow_add-filling
overflow_add-filling c =
    omega (arith, base-room c.args.depth _ c.args.tree.now c.requires.0 c.first_place-from.ensures c.requires.3, c.requires.2)

pub overflow_mul-end : goal.overflow_mul-end
overflow_mul-end c =
    omega
    (arith, base-room c.args.depth _ c.args.tree.now c.requires.0 c.first_place-from.ensures c.requires.3, c.data_count.ensures)

pub overflow_add-end : goal.overflow_add-end
overflow_add-end c =
    omega
    (arith, base-room c.args.depth _ c.args.tree.now c.requires.0 c.first_place-from.ensures c.requires.3, c.data_count.ensures)

pub copy_at-requires : goal.copy_at-requires
copy_at-requires c =
    omega (arith, base-room c.args.depth _ c.args.tree.now c.requires.0 c.first_place-from.ensures c.requires.3, c.requires.2)

pub returns : goal.returns
returns c =
    let p = c.first_place-from in
    block_put c.args.depth _ c.args.tree.now c.requires.0 p.ensures c.requires.3 _ c.args.block.now _ _
    c.data_count.ensures c.requires.2
    c.copy_at.ensures
    (c.fill.ensures.after (λ y e. e))

pub slice_bounds-fill-end : goal.slice_bounds-fill-end
slice_bounds-fill-end c =
    omega
    (arith, base-room c.args.depth _ c.args.tree.now c.requires.0 c.first_place-from.ensures c.requires.3, c.data_count.ensures, c.requires.2)
