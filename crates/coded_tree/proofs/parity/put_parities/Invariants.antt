-- `put_parities` meets its contract. The loop keeps: what is left to do gives what all of it gives.
use mathlib.Core.Path.{◌≡◌}
use lib.ListN.{drop}
use Rattle.model.specs.Shape.{tree as shape}
use Rattle.model.specs.Writer.{parities}
use Rattle.parity_table.specs.Table.{layer_of}
use Rattle.coded_tree.proofs.parity.put_parities.Given as goal

abbrev pub invariant-loop-e : goal.invariant-loop-e
invariant-loop-e l =
    parities shape l.j l.e (drop l.e (layer_of l.table.layers l.j)) l.tree ≡ parities shape l.j 0 (layer_of l.table.layers l.j) l.initial.tree
