-- `check` meets its contract. The loop keeps: layer j begins at word `at`, and the first layer with such a symbol, from j on, is the first of all.
use Rattle.std.proofs.Common.{◌≡◌}
use Rattle.parity_table.specs.Reader.{Whole, read_of}
use Rattle.parity_table.specs.Parse.{table_of}
use Rattle.coverage.proofs.Layers.{Stands, From}
use Rattle.coverage.proofs.check.Given as goal

abbrev pub invariant-loop-j : goal.invariant-loop-j
invariant-loop-j l = record {
  accepted : read_of l.depth l.ws ≡ Whole;
  stands : Stands l.depth l.ws accepted l.at l.j;
  from : From l.depth (table_of l.ws) l.j;
}
