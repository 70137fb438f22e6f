-- `put_way` meets its contract. The loop keeps: the way is written from its start to layer l.
use Rattle.fault_writer.proofs.WayLaws.{WayAt}
use Rattle.fault_writer.proofs.way.put_way.Given as goal

abbrev pub invariant-loop-l : goal.invariant-loop-l
invariant-loop-l l = WayAt l.tree l.j l.i l.at l.initial.out l.l l.m l.p l.out
