-- `first_words` meets its contract. The loop keeps: the first t words are the block's.
use Rattle.std.proofs.Common.{◌≡◌, refl, ◌∙◌, arith, length-set, take_all, rules}
use Rattle.sha256.proofs.ScheduleLaws.{copied_more}
use Rattle.sha256.proofs.schedule.first_words.Goals as goal

pub loop-t-init : goal.loop-t-init
loop-t-init c = (refl, refl)

pub loop-t-preserved : goal.loop-t-preserved
loop-t-preserved c =
    (simp length-set c.loop-t.invariant.0, copied_more c.args.m _ c.loop-t.t _ (omega arith) (omega arith) c.loop-t.invariant.1 refl)

pub returns : goal.returns
returns c = let e : c.loop-t.t ≡ 16 = omega arith in rw e at c.loop-t.invariant.1 ∙ take_all 16 _ (search rules)
