-- `digest_of` meets its contract.
use Rattle.sha256.proofs.DigestLaws.{sha256-is}
use Rattle.sha256.proofs.digest_of.Goals as goal

pub returns : goal.returns
returns c = sha256-is _ _ _ c.hash.ensures c.put_digest.ensures
