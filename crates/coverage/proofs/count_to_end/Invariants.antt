-- `count_to_end` meets its contract. The loop keeps: the pass from here on comes to what all of it comes to, and some word ends the layer; no symbol
-- was seen more often than there were words.
use mathlib.Core.Path.{◌≡◌}
use mathlib.Core.Bool.{true}
use Prim.Native.Nat.{◌-◌}
use lib.ListN.{length, drop}
use Rattle.coverage.specs.Counting.{has_end, Below, tally}
use Rattle.coverage.proofs.count_to_end.Given as goal

abbrev pub invariant-loop-end : goal.invariant-loop-end
invariant-loop-end l =
    (has_end (drop l.end l.ws) ≡ true) × Below l.seen l.end × (length l.seen ≡ length l.initial.seen) × (tally l.seen (drop l.end l.ws) ≡ tally l.initial.seen (drop l.at l.ws))

abbrev pub decreases-loop-end : goal.decreases-loop-end
decreases-loop-end l = length l.ws - l.end
