-- `code_layers` meets its contract. The loop keeps: coding what is left gives what coding all gives.
use mathlib.Core.Path.{◌≡◌}
use Prim.Native.Nat.{◌≤◌}
use lib.ListN.{length}
use Rattle.model.specs.Writer.{code}
use Rattle.symbol_hash.specs.SymbolHash.{symbol_hash}
use Rattle.model.specs.Shape.{tree as shape}
use Rattle.coded_tree.proofs.writer.code_layers.Given as goal

abbrev pub invariant-loop-j : goal.invariant-loop-j
invariant-loop-j l =
    (1 ≤ l.j) × (length l.tree ≡ length l.initial.tree) ×
    (code shape (symbol_hash l.kind) l.table.layers l.j l.tree ≡ code shape (symbol_hash l.kind) l.table.layers l.table.depth l.initial.tree)
