-- `put_hex` meets its contract. The loop keeps: the first i bytes are written.
use mathlib.Core.Path.{refl}
use native.Mathlib.Omega.{arith}
use lib.ListN.{length-set}
use Rattle.octets.specs.Hex.{hex_of, lower}
use Rattle.octets.proofs.HexLaws.{hex_more, hex_all}
use Rattle.octets.proofs.hex.put_hex.Goals as goal

pub loop-i-init : goal.loop-i-init
unfolding hex_of
loop-i-init c = (c.requires, refl)

pub loop-i-preserved : goal.loop-i-preserved
loop-i-preserved c =
    let l = c.loop-i in
    (simp length-set l.invariant.0, hex_more lower _ _ l.i _ _ (omega arith) l.invariant.0 l.invariant.1 c.high.ensures c.low.ensures)

pub returns : goal.returns
returns c =
    let l = c.loop-i in
    hex_all lower _ _ l.i (omega arith) l.invariant.0 l.invariant.1
