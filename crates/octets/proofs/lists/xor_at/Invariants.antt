-- `xor_at` meets its contract. The loop keeps: the first i bytes are taken together.
use lib.ListN.{length, take, drop}
use Rattle.octets.proofs.ListLaws.{XorSo}
use Rattle.octets.proofs.lists.xor_at.Given as goal

abbrev pub invariant-loop-i : goal.invariant-loop-i
invariant-loop-i l = XorSo l.initial.s (take (length l.initial.s) (drop l.at l.t)) l.s l.i
