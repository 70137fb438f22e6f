-- `bytes_from` meets its contract. The loop keeps `Putting`: what is left is the bytes of the words from i on.
use mathlib.Core.Path.{◌∙◌}
use Prim.Native.Nat.{◌+◌, ◌*◌}
use native.Mathlib.Omega.{arith}
use lib.ListN.{get_or, drop}
use Rattle.table_bytes.proofs.ByteForm.{bytes_next, bytes-none}
use Rattle.octets.proofs.Writes.{putting_start, putting_step, putting_room, putting_end, sets-whole}
use Rattle.octets.specs.BigEndian.{be, bytes_of}
use Rattle.octets.proofs.Bytes.{length-be, length-bytes_of}
use Rattle.table_bytes.proofs.bytes_from.Goals as goal

pub loop-i-init : goal.loop-i-init
loop-i-init c = putting_start c.args.b.now 0 (bytes_of c.args.ws.now)

pub put_word-requires : goal.put_word-requires
put_word-requires c =
    let a = c.args in
    let l = c.loop-i in
    omega
    (arith, putting_room l.invariant (be 4 (get_or a.ws.now l.i 0)) (bytes_of (drop (l.i + 1) a.ws.now)) (bytes_next a.ws.now l.i (omega arith)) (omega (arith, length-bytes_of a.ws.now)), length-be 4 (get_or a.ws.now l.i 0))

pub loop-i-preserved : goal.loop-i-preserved
loop-i-preserved c =
    let a = c.args in
    let l = c.loop-i in
    let w = get_or a.ws.now l.i 0 in
    putting_step l.invariant (be 4 w) (bytes_of (drop (l.i + 1) a.ws.now)) (bytes_next a.ws.now l.i (omega arith)) c.put_word.new.s ((l.i + 1) * 4)
    c.put_word.ensures (omega (arith, length-be 4 w))

pub shape_of-b : goal.shape_of-b
shape_of-b c = c.loop-i.invariant.long

pub returns : goal.returns
returns c =
    let a = c.args in
    let l = c.loop-i in
    (putting_end l.invariant (bytes-none a.ws.now l.i (omega arith))).1
    ∙ sets-whole (bytes_of a.ws.now) a.b.now (omega (arith, length-bytes_of a.ws.now))
