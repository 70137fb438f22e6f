-- `fine_front` meets its contract. The loop keeps: the marks of the first i sixteens are 0 or 1.
use mathlib.Core.Bool.{true}
use mathlib.Core.Path.{◌≡◌}
use Prim.Native.Nat.{◌*◌}
use lib.Dec.{ltb}
use lib.ListN.{take}
use Rattle.parity_table.specs.Members.{every}
use Rattle.calls.proofs.marks.fine_front.Given as goal

abbrev pub invariant-loop-i : goal.invariant-loop-i
invariant-loop-i l = every (λ v. ltb v 2) (take (16 * l.i) l.marks) ≡ true
