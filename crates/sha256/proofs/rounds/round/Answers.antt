-- `round` meets its contract.
use Rattle.sha256.proofs.RoundLaws.{round_is}
use Rattle.sha256.proofs.rounds.round.Goals as goal

pub returns : goal.returns
returns c = round_is _ _ _ _ _ _ c.requires.0 c.temp1-t1.ensures c.temp2-t2.ensures
