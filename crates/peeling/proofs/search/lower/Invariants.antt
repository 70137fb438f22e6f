-- `lower` meets its contract. The loop keeps: what was noted, with what is left of the thread, is what was there.
use mathlib.Core.List.{List}
use mathlib.Core.Path.{◌≡◌}
use Prim.Native.Nat.{ℕ}
use lib.ListN.{length}
use Rattle.peeling.proofs.WalkLaws.{Walking}
use Rattle.peeling.specs.Search.{Ordered, Thread}
use Rattle.peeling.proofs.search.lower.Given as goal

abbrev pub invariant-loop-slot : goal.invariant-loop-slot
invariant-loop-slot l =
    (length l.absent ≡ length l.initial.absent) × (length l.order ≡ length l.initial.order) × Ordered l.used l.absent l.at l.order
    × ((ws starts : List ℕ) (from : ℕ) → Thread ws starts from (length l.used) l.last l.next l.x → Walking ws starts from (length l.used) l.x l.initial.absent l.absent l.slot)

abbrev pub decreases-loop-slot : goal.decreases-loop-slot
decreases-loop-slot l = l.slot
