-- `fill` meets its contract. The loop keeps `Filling`: the starts found in the words passed are written.
use Rattle.parity_table.proofs.Starts.{Filling}
use Rattle.parity_table.proofs.index.fill.Given as goal

abbrev pub invariant-loop-i : goal.invariant-loop-i
invariant-loop-i l = Filling l.ws l.initial.starts l.starts l.found l.i
