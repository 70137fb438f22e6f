-- `next_is` meets its contract: by what stands at the place.
use Rattle.std.proofs.Common.{arith}
use Rattle.std.proofs.lemmas.Grind.{common_steps}
use Rattle.octets.specs.Choice.{pick}
use Rattle.table_reader.specs.Steps.{word_at, word_is}
use Rattle.table_reader.proofs.TableReader.next_is.Goals as goal

pub returns : goal.returns
unfolding word_at word_is pick
returns c = grind (arith, common_steps)
