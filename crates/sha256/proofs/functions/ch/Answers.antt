-- `ch` meets its contract: its form is that of (4.2).
use Rattle.std.proofs.Common.{arith}
use Rattle.sha256.proofs.BitForms.{ch-form}
use Rattle.sha256.proofs.functions.ch.Goals as goal

pub returns : goal.returns
returns c = ch-form _ _ _ (omega arith) (omega arith)
