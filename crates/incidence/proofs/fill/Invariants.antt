-- `fill` meets its contract. The loop keeps: the equations before number e are threaded.
use Rattle.incidence.specs.Incidence.{Threaded}
use Rattle.incidence.proofs.fill.Given as goal

abbrev pub invariant-loop-e : goal.invariant-loop-e
invariant-loop-e l = Threaded l.words l.starts l.from l.e l.last l.next
