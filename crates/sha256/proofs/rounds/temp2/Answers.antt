-- `temp2` meets its contract.
use Rattle.sha256.specs.Hash.{temp2}
use Rattle.sha256.proofs.rounds.temp2.Goals as goal

pub returns : goal.returns
unfolding temp2
returns c = cc
