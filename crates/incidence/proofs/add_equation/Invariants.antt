-- `add_equation` meets its contract. The loop keeps: the slots up to member i's are threaded.
use mathlib.Core.Path.{◌≡◌}
use Prim.Native.Nat.{◌+◌, ◌*◌, ◌≤◌, ◌<◌, ℕ}
use lib.ListN.{get_or, length}
use Rattle.equation.specs.Rooms.{members_at}
use Rattle.incidence.specs.Incidence.{ThreadedTo}
use Rattle.incidence.proofs.add_equation.Given as goal

abbrev pub invariant-loop-i : goal.invariant-loop-i
invariant-loop-i l =
    record {
      threaded : ThreadedTo l.words l.starts l.from (8 * l.e + l.i) l.last l.next;
      listed : l.members ≡ members_at l.words l.starts (l.from + l.e);
      few : length l.members ≤ 8;
      symbols : (q : ℕ) → q < length l.members → get_or l.members q 0 < length l.last;
    }
