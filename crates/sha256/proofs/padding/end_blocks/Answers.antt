-- `end_blocks` meets its contract.
use Rattle.sha256.proofs.PaddingLaws.{end_blocks}
use Rattle.sha256.proofs.padding.end_blocks.Goals as goal

pub returns : goal.returns
returns c = end_blocks _
