-- `temp1` meets its contract: the sums in the order of T1.
use Rattle.sha256.proofs.RoundLaws.{temp1-is}
use Rattle.sha256.proofs.rounds.temp1.Goals as goal

pub returns : goal.returns
returns c = temp1-is _ _ _ _ _ _ _ _ c.big_sigma_1.ensures c.ch.ensures
