-- `bytes_from` meets its contract. The loop keeps `Putting`: what is left is the bytes of the words from i on.
use Prim.Native.Nat.{◌*◌}
use lib.ListN.{drop}
use Rattle.octets.proofs.Writes.{Putting}
use Rattle.octets.specs.BigEndian.{bytes_of}
use Rattle.table_bytes.proofs.bytes_from.Given as goal

abbrev pub invariant-loop-i : goal.invariant-loop-i
invariant-loop-i l = Putting l.initial.b 0 (bytes_of l.ws) l.b (l.i * 4) (bytes_of (drop l.i l.ws))
