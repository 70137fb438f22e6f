-- `prepare` meets its contract. The loop keeps: the equations before e are counted.
use Rattle.peeling.proofs.PrepareLaws.{CountedTo}
use Rattle.peeling.proofs.search.prepare.Given as goal

abbrev pub invariant-loop-e : goal.invariant-loop-e
invariant-loop-e l = CountedTo l.words l.starts l.from l.j l.marks l.e l.absent
