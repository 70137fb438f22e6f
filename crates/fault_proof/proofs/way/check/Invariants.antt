-- `check` meets its contract. The loop keeps: symbol x of the way has number m, and every symbol before it fits.
use mathlib.Core.Path.{◌≡◌}
use Prim.Native.Nat.{◌≤◌}
use Rattle.symbol_hash.specs.SymbolHash.{symbol_hash}
use Rattle.model.specs.Shape.{tree}
use Rattle.model.specs.Fault.{reached}
use Rattle.fault_proof.proofs.WayLaws.{FitBefore}
use Rattle.fault_proof.proofs.way.check.Given as goal

abbrev pub invariant-loop-x : goal.invariant-loop-x
invariant-loop-x l = (l.x ≤ l.j → l.m ≡ reached tree l.j l.i l.x) × FitBefore (symbol_hash l.kind) l.root l.b l.at l.j l.i l.x
