-- `intermediate_hash` meets its contract: the eight sums of step 4.
use Rattle.sha256.proofs.CompressionLaws.{sums_are}
use Rattle.sha256.proofs.intermediate.intermediate_hash.Goals as goal

pub returns : goal.returns
returns c = sums_are _ _
