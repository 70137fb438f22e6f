-- `check` meets its contract. The loop keeps: every symbol before x fits.
use Rattle.symbol_hash.specs.SymbolHash.{symbol_hash}
use Rattle.sampling.proofs.CheckLaws.{FitBefore}
use Rattle.sampling.proofs.checker.check.Given as goal

abbrev pub invariant-loop-x : goal.invariant-loop-x
invariant-loop-x l = FitBefore (symbol_hash l.kind) l.root l.sample l.depth l.i l.x
