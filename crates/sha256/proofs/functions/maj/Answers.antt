-- `maj` meets its contract: its form is that of (4.3).
use Rattle.sha256.proofs.BitForms.{maj-form}
use Rattle.sha256.proofs.functions.maj.Goals as goal

pub returns : goal.returns
returns c = maj-form _ _ _
