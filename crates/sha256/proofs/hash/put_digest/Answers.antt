-- `put_digest` meets its contract. The loop keeps: the first i words are written.
use Rattle.std.proofs.Common.{refl, arith, rules}
use Rattle.octets.specs.BigEndian.{bytes_of}
use Rattle.sha256.proofs.DigestLaws.{put_more, put_all}
use Rattle.sha256.proofs.hash.put_digest.Goals as goal

pub loop-i-init : goal.loop-i-init
unfolding bytes_of
loop-i-init c = refl

pub loop-i-preserved : goal.loop-i-preserved
loop-i-preserved c = put_more _ _ _ c.loop-i.i (search rules) (omega arith) c.loop-i.invariant c.put_word.ensures

pub returns : goal.returns
returns c = put_all _ _ c.loop-i.i (omega arith) (search rules) (omega arith) c.loop-i.invariant
