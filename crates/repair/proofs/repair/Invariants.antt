-- `repair` meets its contract. The loop keeps: the layers from j on give what all of them give.
use Rattle.std.proofs.Common.{◌≤◌}
use Rattle.parity_table.specs.Parse.{equations_above}
use Rattle.repair.proofs.RepairLaws.{Deep}
use Rattle.repair.proofs.repair.Given as goal

abbrev pub invariant-loop-j : goal.invariant-loop-j
invariant-loop-j l =
    record {
      few : l.stored ≤ equations_above l.j;
      deep : Deep l.kind l.root l.table.layers l.initial.tree l.initial.marks l.initial.out l.j l.tree l.marks l.out l.stored;
    }
