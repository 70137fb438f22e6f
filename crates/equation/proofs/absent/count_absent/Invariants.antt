-- `count_absent` meets its contract. The loop keeps: n, with the count of the members that are left, is the count of all.
use mathlib.Core.Path.{◌≡◌}
use Prim.Native.Nat.{◌+◌, ◌≤◌}
use lib.ListN.{drop}
use Rattle.model.specs.Repair.{absent_at}
use Rattle.model.specs.Shape.{tree as shape}
use Rattle.model.specs.Symbols.{count}
use Rattle.equation.proofs.absent.count_absent.Given as goal

abbrev pub invariant-loop-y : goal.invariant-loop-y
invariant-loop-y l = (l.n ≤ l.y-index) × (l.n + count (absent_at shape l.marks l.j) (drop l.y-index l.members) ≡ count (absent_at shape l.marks l.j) l.members)
