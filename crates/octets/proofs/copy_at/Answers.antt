-- `copy_at` meets its contract. The loop keeps: the first i bytes are copied.
use mathlib.Core.Path.{◌≡◌, refl, ap, ◌∙◌}
use native.Mathlib.Omega.{arith}
use lib.ListN.{length, length-set}
use lib.Seq.{paste, paste-zero}
use Rattle.octets.proofs.Stores.{copy_more}
use Rattle.octets.proofs.copy_at.Goals as goal

pub loop-i-init : goal.loop-i-init
loop-i-init c = (refl, paste-zero c.args.d.now c.args.at c.args.s.now)

pub loop-i-preserved : goal.loop-i-preserved
loop-i-preserved c =
    let l = c.loop-i in
    (simp length-set l.invariant.0, copy_more c.args.d.now c.args.s.now l.d c.args.at l.i c.requires (omega arith) l.invariant.1)

pub returns : goal.returns
returns c = let e : c.loop-i.i ≡ length c.args.s.now = omega arith in c.loop-i.invariant.1 ∙ ap (paste c.args.d.now c.args.at c.args.s.now) e
