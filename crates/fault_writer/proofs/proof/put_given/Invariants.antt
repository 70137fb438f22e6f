-- `put_given` meets its contract. The loop keeps: the members so far are written.
use Rattle.fault_writer.proofs.ProofLaws.{GivenAt}
use Rattle.fault_writer.proofs.proof.put_given.Given as goal

abbrev pub invariant-loop-member : goal.invariant-loop-member
invariant-loop-member l = GivenAt l.tree l.members l.x l.j l.at l.initial.out l.member-index l.p l.out
