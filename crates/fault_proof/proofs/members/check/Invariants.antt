-- `check` meets its contract. The loop keeps `Led`: the members before this one lead to the root, and those left stand from byte from on, the first of them
-- at this position.
use Rattle.symbol_hash.specs.SymbolHash.{symbol_hash}
use Rattle.fault_proof.proofs.GivenLaws.{Led}
use Rattle.fault_proof.proofs.members.check.Given as goal

abbrev pub invariant-loop-y : goal.invariant-loop-y
invariant-loop-y l = Led l.b l.members l.j l.x (symbol_hash l.kind) l.root l.at l.y-index l.from l.position
