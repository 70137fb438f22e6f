-- `greatest` meets its contract. The loop keeps: the greatest of what was met and what is left is the greatest of all.
use mathlib.Core.Path.{◌≡◌}
use Prim.Native.Nat.{max}
use lib.ListN.{drop}
use Rattle.std.specs.List.{fold}
use Rattle.octets.proofs.lists.greatest.Given as goal

abbrev pub invariant-loop-x : goal.invariant-loop-x
invariant-loop-x l = fold max l.most (drop l.x-index l.s) ≡ fold max 0 l.s
