-- `fill` meets its contract. The loop keeps: the equations before number e are threaded.
use lib.ListN.{length}
use Rattle.std.proofs.Common.{rules}
use Rattle.incidence.proofs.FillLaws.{threaded-none}
use Rattle.incidence.proofs.fill.Goals as goal

pub loop-e-init : goal.loop-e-init
loop-e-init c =
    let a = c.args in
    rw (c.fill.ensures.after (λ y h. search rules)) (threaded-none a.words.now a.starts.now a.from (length a.last.now) a.next.now)
