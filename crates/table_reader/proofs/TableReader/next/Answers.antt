-- `next` meets its contract: a test of the place.
use Rattle.std.proofs.Common.{arith}
use Rattle.std.proofs.lemmas.Grind.{common_steps}
use Rattle.octets.specs.Choice.{pick}
use Rattle.table_reader.specs.Steps.{word_at}
use Rattle.table_reader.proofs.TableReader.next.Goals as goal

pub returns : goal.returns
unfolding word_at pick
returns c = grind (arith, common_steps)
