-- `read_block` meets its contract: one copy fills the block.
use mathlib.Core.Path.{◌∙◌, ap}
use native.Mathlib.Omega.{arith}
use lib.ListN.{length, take}
use lib.Seq.{length-take-le}
use Rattle.coded_tree.proofs.BlockLaws.{paste_all}
use Rattle.coded_tree.proofs.writer.read_block.Goals as goal

pub returns : goal.returns
returns c =
    let b = c.args.block.now in
    let n = length-take-le (length b) c.block_in.result.now (omega arith) in
    c.copy_at.ensures ∙ paste_all b (take (length b) c.block_in.result.now) n ∙ ap (take (length b)) c.block_in.ensures.block
