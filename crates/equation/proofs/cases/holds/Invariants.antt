-- `holds` meets its contract. The loop keeps: the sum, with what is left, is the whole.
use Rattle.equation.proofs.TurnLaws.{Summed}
use Rattle.equation.proofs.cases.holds.Given as goal

abbrev pub invariant-loop-y : goal.invariant-loop-y
invariant-loop-y l = Summed l.tree l.members l.j l.sum l.y-index
