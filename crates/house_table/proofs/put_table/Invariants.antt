-- `put_table` meets its contract. The loop keeps `Putting`: what is left is the layers from j on, and the end word.
use Prim.Native.Nat.{◌≤◌}
use Rattle.octets.proofs.Writes.{Putting}
use Rattle.house_table.proofs.HouseParts.{layers_left}
use Rattle.house_table.proofs.put_table.Given as goal

abbrev pub invariant-loop-j : goal.invariant-loop-j
invariant-loop-j l = (l.j ≤ l.depth) × Putting l.initial.out 0 (layers_left l.depth 0) l.out l.at (layers_left l.depth l.j)
