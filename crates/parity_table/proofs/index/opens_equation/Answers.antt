-- `opens_equation` meets its contract: by the word's kind.
use Rattle.std.proofs.Common.{rules}
use Rattle.parity_table.specs.Parse.{opens_equation}
use Rattle.parity_table.proofs.index.opens_equation.Goals as goal

pub returns : goal.returns
unfolding opens_equation
returns c = search rules
