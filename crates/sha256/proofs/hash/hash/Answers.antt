-- `hash` meets its contract: the end written, and the message's own blocks and those of the end from the initial hash value on.
use Rattle.sha256.proofs.HashLaws.{hash-is}
use Rattle.sha256.proofs.hash.hash.Goals as goal

pub returns : goal.returns
returns c = hash-is _ _ _ _ _ c.new-initial.ensures c.put_end.ensures c.finished.ensures
