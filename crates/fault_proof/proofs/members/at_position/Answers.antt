-- `at_position` meets its contract: a way that leads is followed by nothing, and one that breaks has its position.
use Rattle.std.proofs.Common.{rules, tests}
use Rattle.model.specs.Climb.{first_break}
use Rattle.fault_proof.proofs.members.at_position.Goals as goal

pub returns : goal.returns
unfolding first_break
returns c = search (rules, tests)
