-- `xor_others` meets its contract. The loop keeps: what is gathered, with what is left, is the whole.
use mathlib.Core.Path.{◌≡◌}
use Prim.Native.Nat.{◌+◌}
use lib.ListN.{length}
use Rattle.coded_tree.proofs.ParityLaws.{left}
use Rattle.model.specs.Symbols.{symbol_in}
use Rattle.octets.specs.ByteLists.{xors}
use Rattle.coded_tree.proofs.parity.xor_others.Given as goal

abbrev pub invariant-loop-member : goal.invariant-loop-member
invariant-loop-member l =
    (length l.acc ≡ 256) ×
    (xors l.acc (left l.members (λ y. symbol_in l.tree (l.base + y)) l.x l.member-index) ≡ left l.members (λ y. symbol_in l.tree (l.base + y)) l.x 0)
