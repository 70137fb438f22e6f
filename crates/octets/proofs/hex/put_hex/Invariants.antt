-- `put_hex` meets its contract. The loop keeps: the first i bytes are written.
use mathlib.Core.Path.{◌≡◌}
use Prim.Native.Nat.{◌*◌}
use lib.ListN.{length, take}
use Rattle.octets.specs.Hex.{hex_of, lower}
use Rattle.octets.proofs.hex.put_hex.Given as goal

abbrev pub invariant-loop-i : goal.invariant-loop-i
invariant-loop-i l = (length l.out ≡ length l.s * 2) × (take (l.i * 2) l.out ≡ hex_of lower (take l.i l.s))
