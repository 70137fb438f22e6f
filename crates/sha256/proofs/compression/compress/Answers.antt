-- `compress` meets its contract: the four steps of section 6.2.2, one after the other.
use Rattle.sha256.proofs.CompressionLaws.{four_steps}
use Rattle.sha256.proofs.compression.compress.Goals as goal

pub returns : goal.returns
returns c =
    four_steps _ _ _ _ _ _ c.message_schedule-w.ensures c.working_variables-start.ensures
    c.rounds-v.ensures c.intermediate_hash-next.ensures
