-- `is_deep` meets its contract: two tests.
use Rattle.std.proofs.Common.{rules}
use Rattle.parity_table.specs.Shape.{is_deep}
use Rattle.parity_table.proofs.is_deep.Goals as goal

pub returns-then-depth-gt-SHALLOW : goal.returns-then-depth-gt-SHALLOW
unfolding is_deep
returns-then-depth-gt-SHALLOW c = search rules

pub returns-else-depth-gt-SHALLOW : goal.returns-else-depth-gt-SHALLOW
unfolding is_deep
returns-else-depth-gt-SHALLOW c = search rules
