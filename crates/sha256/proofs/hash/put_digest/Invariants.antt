-- `put_digest` meets its contract. The loop keeps: the first i words are written.
use Rattle.std.proofs.Common.{◌≡◌, ◌*◌, take}
use Rattle.octets.specs.BigEndian.{bytes_of}
use Rattle.sha256.proofs.hash.put_digest.Given as goal

abbrev pub invariant-loop-i : goal.invariant-loop-i
invariant-loop-i l = take (l.i * 4) l.out ≡ bytes_of (take l.i l.word-items)
