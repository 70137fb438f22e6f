-- `digest_with_word` meets its contract.
use Rattle.sha256.proofs.DigestLaws.{sha256-is}
use Rattle.sha256.proofs.digest_with_word.Goals as goal

pub returns : goal.returns
returns c = sha256-is _ _ _ c.hash_with_word.ensures c.put_digest.ensures
