-- `block` meets its contract. The loop keeps: the first t words are the block's.
use Rattle.std.proofs.Common.{refl, arith, length-set}
use Rattle.octets.specs.BigEndian.{words}
use Rattle.sha256.proofs.ParsingLaws.{words_more, words-all}
use Rattle.sha256.proofs.parsing.block.Goals as goal

pub loop-t-init : goal.loop-t-init
unfolding words
loop-t-init c = (refl, refl)

pub loop-t-preserved : goal.loop-t-preserved
loop-t-preserved c =
    (simp length-set c.loop-t.invariant.0, words_more _ _ _ _ _ c.loop-t-test.true c.loop-t.invariant.0 c.loop-t.invariant.1 c.word_at.ensures)

pub returns : goal.returns
returns c = words-all _ _ _ c.loop-t.t (omega arith) c.loop-t.invariant.0 c.loop-t.invariant.1
