-- `depth` meets its contract: the words are accepted.
use Rattle.parity_table.proofs.Accepts.{kept}
use Rattle.parity_table.proofs.table.Table.depth.Goals as goal

pub returns-clause-kept : goal.returns-clause-kept
returns-clause-kept c = rw (← c.self.view_is) (kept _ _ _ c.self.invariant)
