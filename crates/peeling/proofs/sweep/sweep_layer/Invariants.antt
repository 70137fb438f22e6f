-- `sweep_layer` meets its contract. The loop keeps: the symbols before i are swept.
use Prim.Native.Nat.{◌-◌, ◌≤◌}
use Rattle.peeling.proofs.SweepLaws.{Sweeping}
use Rattle.peeling.proofs.sweep.sweep_layer.Given as goal

abbrev pub invariant-loop-i : goal.invariant-loop-i
invariant-loop-i l = (l.i ≤ l.n) × Sweeping l.kind l.root l.j l.n l.initial.tree l.initial.marks l.i l.tree l.marks

abbrev pub decreases-loop-i : goal.decreases-loop-i
decreases-loop-i l = l.n - l.i
