-- `block` meets its contract. The loop keeps: the first t words are the block's.
use Rattle.std.proofs.Common.{◌≡◌, ◌*◌, length, take, drop}
use Rattle.octets.specs.BigEndian.{words}
use Rattle.sha256.proofs.parsing.block.Given as goal

abbrev pub invariant-loop-t : goal.invariant-loop-t
invariant-loop-t l = (length l.word-items ≡ 16) × (take l.t l.word-items ≡ words (take 64 (drop (l.i * 64) l.p)) l.t)
