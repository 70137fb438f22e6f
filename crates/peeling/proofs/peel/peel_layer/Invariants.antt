-- `peel_layer` meets its contract. The loop keeps: what is left to do gives what all of it gives, and the lists of the search are right.
-- every turn takes an equation
use Rattle.peeling.proofs.LoopLaws.{Searching}
use Rattle.peeling.proofs.TurnLaws.{unused}
use Rattle.peeling.proofs.peel.peel_layer.Given as goal

abbrev pub invariant-loop-e : goal.invariant-loop-e
invariant-loop-e l =
    Searching l.kind l.root l.words l.starts l.from l.j l.initial.tree l.initial.marks l.initial.out l.initial.used l.initial.stored l.tree l.marks l.out l.used l.absent l.order l.stored l.at

abbrev pub decreases-loop-e : goal.decreases-loop-e
decreases-loop-e l = unused l.used
