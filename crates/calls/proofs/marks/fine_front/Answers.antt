-- `fine_front` meets its contract. The loop keeps: the marks of the first i sixteens are 0 or 1.
use mathlib.Core.Path.{refl}
use native.Mathlib.Omega.{arith}
use Rattle.calls.proofs.MarkLaws.{sixteen_more}
use Rattle.parity_table.specs.Members.{every}
use Rattle.calls.proofs.marks.fine_front.Goals as goal

pub loop-i-init : goal.loop-i-init
unfolding every
loop-i-init c = refl

pub loop-i-preserved : goal.loop-i-preserved
loop-i-preserved c =
    sixteen_more c.args.marks.now c.as_chunks.result.0.now c.loop-i.i c.greatest.result _ c.as_chunks.ensures.front (omega arith) c.greatest.ensures (omega arith) c.loop-i.invariant
