-- `put_layer` meets its contract. The loop keeps `Putting`: what is left is the equations from e on.
use Prim.Native.Nat.{◌*◌, ◌≤◌}
use Rattle.octets.proofs.Writes.{Putting}
use Rattle.house_table.proofs.HouseParts.{rows_left}
use Rattle.house_table.proofs.put_layer.Given as goal

abbrev pub invariant-loop-e : goal.invariant-loop-e
invariant-loop-e l = (l.e ≤ 3 * l.k) × Putting l.initial.out l.initial.p (rows_left l.k 0) l.out l.p (rows_left l.k l.e)
