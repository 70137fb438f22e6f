-- `finished` meets its contract: m's own blocks, then those of the end, of which the last is taken in by itself.
use Rattle.std.proofs.Common.{arith}
use Rattle.sha256.proofs.PaddingLaws.{length-pad}
use Rattle.sha256.proofs.HashLaws.{finished_is}
use Rattle.sha256.proofs.hash.finished.Goals as goal

pub overflow_sub-last : goal.overflow_sub-last
overflow_sub-last c = omega (arith, length-pad c.args.m.now, c.end_blocks-last.ensures)

pub processed-s-requires-2 : goal.processed-s-requires-2
processed-s-requires-2 c = omega (arith, length-pad c.args.m.now, c.end_blocks-last.ensures)

pub after_block-requires : goal.after_block-requires
after_block-requires c = omega (arith, length-pad c.args.m.now, c.end_blocks-last.ensures)

pub returns : goal.returns
returns c =
    finished_is _ _ _ _ _ _ _ c.processed-s.ensures c.end_blocks-last.ensures c.processed-s-2.ensures c.after_block.ensures
