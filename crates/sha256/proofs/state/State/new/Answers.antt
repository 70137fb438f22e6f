-- `State::new` meets its contract: the eight words of section 5.3.3.
use Rattle.std.proofs.Common.{refl}
use Rattle.sha256.specs.Initial.{initial}
use Rattle.sha256.proofs.state.State.new.Goals as goal

pub returns : goal.returns
unfolding initial
returns c = refl
