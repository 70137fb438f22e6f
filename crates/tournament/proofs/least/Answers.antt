-- `least` meets its contract: the first node is the least entry.
use Rattle.tournament.proofs.TreeLaws.{first-least}
use Rattle.tournament.proofs.least.Goals as goal

pub returns : goal.returns
returns c =
    first-least c.args.tree.now c.requires.0 c.requires.1
