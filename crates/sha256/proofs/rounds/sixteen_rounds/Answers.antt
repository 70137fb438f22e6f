-- `sixteen_rounds` meets its contract: eight times two rounds.
use Rattle.sha256.specs.Hash.{rounds_from}
use Rattle.sha256.proofs.RoundLaws.{rounds_split}
use Rattle.sha256.proofs.Runs.{eight_twos}
use Rattle.sha256.proofs.rounds.sixteen_rounds.Goals as goal

pub returns : goal.returns
returns g c =
    eight_twos (rounds_from c.args.w) (rounds_split c.args.w) g.row.T
    c.two_rounds-v.ensures
    c.two_rounds-v-2.ensures
    c.two_rounds-v-3.ensures c.two_rounds-v-4.ensures
    c.two_rounds-v-5.ensures c.two_rounds-v-6.ensures c.two_rounds-v-7.ensures
    c.two_rounds.ensures
