-- `member_fits` meets its contract: one case for each test.
use Rattle.std.proofs.Common.{arith}
use Rattle.std.proofs.lemmas.Grind.{common_steps}
use Rattle.octets.specs.Choice.{pick}
use Rattle.parity_table.specs.Reader.{member_fits}
use Rattle.table_reader.proofs.member_fits.Goals as goal

pub returns-then-x-low : goal.returns-then-x-low
unfolding member_fits pick
returns-then-x-low c = grind (arith, common_steps)

pub returns-in-Less : goal.returns-in-Less
unfolding member_fits pick
returns-in-Less c = grind (arith, common_steps)

pub returns-in-Equal : goal.returns-in-Equal
unfolding member_fits pick
returns-in-Equal c = grind (arith, common_steps)

pub returns-in-Greater : goal.returns-in-Greater
unfolding member_fits pick
returns-in-Greater c = grind (arith, common_steps)
