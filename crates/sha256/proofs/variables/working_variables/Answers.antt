-- `working_variables` meets its contract: step 2.
use Rattle.std.proofs.Common.{refl}
use Rattle.sha256.specs.Hash.{working_variables}
use Rattle.sha256.proofs.variables.working_variables.Goals as goal

pub returns : goal.returns
unfolding working_variables
returns c = refl
