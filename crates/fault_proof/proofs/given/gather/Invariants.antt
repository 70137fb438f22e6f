-- `gather` meets its contract. The loop keeps `Gathered`: what is gathered, with what is left, is the whole.
use Rattle.fault_proof.proofs.GivenLaws.{Gathered}
use Rattle.fault_proof.proofs.given.gather.Given as goal

abbrev pub invariant-loop-y : goal.invariant-loop-y
invariant-loop-y l = Gathered l.b l.members l.j l.x l.at l.acc l.y-index l.from
