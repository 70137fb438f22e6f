-- `list` meets its contract. The loop keeps `Putting`: what is left is the lines from symbol i on.
use Prim.Native.Nat.{◌-◌, ◌≤◌}
use Rattle.octets.proofs.Writes.{Putting}
use Rattle.listing.proofs.TextLaws.{lines_left}
use Rattle.listing.proofs.text.list.Given as goal

abbrev pub invariant-loop-i : goal.invariant-loop-i
invariant-loop-i l = (l.i ≤ 16) × Putting l.initial.text l.initial.at (lines_left l.tree 0) l.text l.at (lines_left l.tree l.i)

abbrev pub decreases-loop-i : goal.decreases-loop-i
decreases-loop-i l = 16 - l.i
