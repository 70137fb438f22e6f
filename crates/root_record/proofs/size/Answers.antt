-- `size` meets its contract: the value of the second word.
use Rattle.root_record.specs.Records.{size_in}
use Rattle.root_record.proofs.size.Goals as goal

pub returns : goal.returns
unfolding size_in
returns c = c.value_at.ensures
