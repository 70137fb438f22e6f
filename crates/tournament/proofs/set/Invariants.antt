-- `set` meets its contract. The loop keeps: every node but the one above the place that changed last is right. So where that one stays as it is, all are.
use Prim.Native.Nat.{◌*◌, ◌^◌, ◌<◌}
use lib.ListN.{length}
use Rattle.tournament.proofs.RiseLaws.{Rising}
use Rattle.tournament.proofs.set.Given as goal

abbrev pub invariant-loop-i : goal.invariant-loop-i
invariant-loop-i l = Rising l.initial.tree l.tree l.i × (length l.tree * 4 < 2 ^ 64)

abbrev pub decreases-loop-i : goal.decreases-loop-i
decreases-loop-i l = l.i
