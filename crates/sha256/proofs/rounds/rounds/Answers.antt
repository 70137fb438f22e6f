-- `rounds` meets its contract: four times sixteen rounds. The table of constants is that of section 4.2.2, entry by entry.
use Rattle.std.proofs.Common.{refl, lit≤}
use Rattle.sha256.specs.Constants.{constants}
use Rattle.sha256.specs.Hash.{rounds_from, rounds}
use Rattle.sha256.proofs.RoundLaws.{rounds_split}
use Rattle.sha256.proofs.Runs.{more}
use Rattle.sha256.proofs.rounds.rounds.Goals as goal

pub sixteen_rounds-v-requires : goal.sixteen_rounds-v-requires
unfolding constants
sixteen_rounds-v-requires c = (refl, lit≤ tt)

pub sixteen_rounds-v-requires-2 : goal.sixteen_rounds-v-requires-2
unfolding constants
sixteen_rounds-v-requires-2 c = (refl, lit≤ tt)

pub sixteen_rounds-v-requires-3 : goal.sixteen_rounds-v-requires-3
unfolding constants
sixteen_rounds-v-requires-3 c = (refl, lit≤ tt)

pub sixteen_rounds-requires : goal.sixteen_rounds-requires
unfolding constants
sixteen_rounds-requires c = (refl, lit≤ tt)

pub returns : goal.returns
unfolding rounds
returns c = let run = rounds_from c.args.w in
    let split = rounds_split c.args.w in
    more run split 0 48 16
    (more run split 0 32 16
    (more run split 0 16 16 c.sixteen_rounds-v.ensures c.sixteen_rounds-v-2.ensures)
    c.sixteen_rounds-v-3.ensures)
    c.sixteen_rounds.ensures
