-- `two_rounds` meets its contract.
use Rattle.sha256.proofs.RoundLaws.{two-rounds}
use Rattle.sha256.proofs.rounds.two_rounds.Goals as goal

pub returns : goal.returns
returns c = two-rounds _ _ _ _ _ c.round.ensures c.round-2.ensures
