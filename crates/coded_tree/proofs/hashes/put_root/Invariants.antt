-- `put_root` meets its contract. The loop keeps: the first i hashes are written.
use mathlib.Core.Path.{◌≡◌}
use Prim.Native.Nat.{◌-◌, ◌*◌, ◌≤◌}
use lib.ListN.{length, take}
use Rattle.coded_tree.proofs.HashLaws.{top_hash}
use Rattle.model.specs.Symbols.{joined}
use Rattle.coded_tree.proofs.hashes.put_root.Given as goal

abbrev pub invariant-loop-i : goal.invariant-loop-i
invariant-loop-i l = (l.i ≤ 16) × (length l.root ≡ 512) × (take (32 * l.i) l.root ≡ joined (top_hash l.kind l.tree) 0 l.i)

abbrev pub decreases-loop-i : goal.decreases-loop-i
decreases-loop-i l = 16 - l.i
