-- `octets::word_at` meets its contract: the four bytes are those that `word_at` reads.
use native.Mathlib.Omega.{arith}
use Rattle.octets.specs.BigEndian.{word_at}
use Rattle.octets.proofs.word_at.Goals as goal

pub returns : goal.returns
unfolding word_at
returns c = omega arith
