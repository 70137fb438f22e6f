-- `read_block` meets its contract: refused by a test, or copied, as many bytes as the record says.
use mathlib.Core.Path.{sym}
use native.Mathlib.Omega.{arith}
use lib.ListN.{length}
use lib.Seq.{length-take-le}
use Rattle.std.proofs.lemmas.Result.{err_from_is_err_and}
use Rattle.volume_calls.proofs.ReadingLaws.{refused, passed, sizes, size_room, given_back, copied}
use Rattle.volume_calls.proofs.reading.read_block.Goals as goal

pub returns-in_err-tests : goal.returns-in_err-tests
returns-in_err-tests c =
    let g = c.args in
    let p = err_from_is_err_and c.from_residual.result c.from_residual.ensures.1 in
    rw (p.1, p.2) (refused g.depth g.root_record.now g.tree.now g.marks.now g.block.now _ c.in_err-tests.ensures)

pub size-n-requires : goal.size-n-requires
size-n-requires c =
    let g = c.args in
    let k = passed g.depth g.root_record.now (length g.tree.now) g.marks.now (length g.block.now) (sym c.in_ok-tests.ensures) in
    (sizes g.depth (length g.root_record.now) (length g.tree.now) (length g.marks.now) (length g.block.now) k.opened-is.lengths).2

pub slice_bounds-read_block-end : goal.slice_bounds-read_block-end
slice_bounds-read_block-end c =
    let g = c.args in
    let k = passed g.depth g.root_record.now (length g.tree.now) g.marks.now (length g.block.now) (sym c.in_ok-tests.ensures) in
    omega (arith, c.size-n.ensures, size_room g.depth g.root_record.now (length g.block.now) k.head (sizes g.depth (length g.root_record.now) (length g.tree.now) (length g.marks.now) (length g.block.now) k.opened-is.lengths).3)

pub slice_bounds-read_block-end-2 : goal.slice_bounds-read_block-end-2
slice_bounds-read_block-end-2 c =
    let g = c.args in
    let k = passed g.depth g.root_record.now (length g.tree.now) g.marks.now (length g.block.now) (sym c.in_ok-tests.ensures) in
    let room = size_room g.depth g.root_record.now (length g.block.now) k.head (sizes g.depth (length g.root_record.now) (length g.tree.now) (length g.marks.now) (length g.block.now) k.opened-is.lengths).3 in
    sym (length-take-le c.size-n.result g.block.now (omega (arith, c.size-n.ensures, room)))

pub read_block-requires : goal.read_block-requires
read_block-requires c =
    let g = c.args in
    let k = passed g.depth g.root_record.now (length g.tree.now) g.marks.now (length g.block.now) (sym c.in_ok-tests.ensures) in
    let n = sizes g.depth (length g.root_record.now) (length g.tree.now) (length g.marks.now) (length g.block.now) k.opened-is.lengths in
    let room = size_room g.depth g.root_record.now (length g.block.now) k.head n.3 in
    let l = length-take-le c.size-n.result g.block.now (omega (arith, c.size-n.ensures, room)) in
    (k.opened-is.some, k.opened-is.shallow, n.0, omega (arith, l, c.size-n.ensures, room, n.3))

pub returns : goal.returns
returns c =
    let g = c.args in
    let e = c.in_ok-tests.ensures in
    let k = passed g.depth g.root_record.now (length g.tree.now) g.marks.now (length g.block.now) (sym e) in
    let n = sizes g.depth (length g.root_record.now) (length g.tree.now) (length g.marks.now) (length g.block.now) k.opened-is.lengths in
    let room = size_room g.depth g.root_record.now (length g.block.now) k.head n.3 in
    copied g.depth g.root_record.now g.tree.now g.marks.now g.block.now _ e (given_back g.depth c.size-n.result g.root_record.now g.tree.now g.block.now _ c.size-n.ensures (omega (arith, c.size-n.ensures, room)) c.read_block.ensures)
