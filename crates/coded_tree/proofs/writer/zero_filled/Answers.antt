-- `zero_filled` meets its contract: one test of what is behind the first n bytes.
use mathlib.Core.Path.{◌∙◌}
use Rattle.coded_tree.proofs.BlockLaws.{zero-rest}
use Rattle.coded_tree.proofs.writer.zero_filled.Goals as goal

pub returns : goal.returns
returns c = c.is_zero.ensures ∙ zero-rest c.args.depth c.args.n c.args.tree.now c.block_in-block.result.now c.block_in-block.ensures.block
