-- `processed` meets its contract. The loop keeps: the first i blocks are taken in.
use Rattle.std.proofs.Common.{refl}
use Rattle.sha256.specs.Hash.{processed}
use Rattle.sha256.proofs.HashLaws.{processed-more}
use Rattle.sha256.proofs.hash.processed.Goals as goal

pub loop-i-init : goal.loop-i-init
unfolding processed
loop-i-init c = refl

pub loop-i-preserved : goal.loop-i-preserved
loop-i-preserved c = processed-more _ _ _ _ _ c.loop-i.invariant c.after_block-state.ensures
