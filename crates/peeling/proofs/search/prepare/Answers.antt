-- `prepare` meets its contract. The loop keeps: the equations before e are counted.
use Prim.Native.Nat.{◌+◌, ◌<◌}
use native.Mathlib.Omega.{arith}
use lib.ListN.{length}
use Rattle.model.proofs.Counts.{count_le}
use Rattle.model.specs.Repair.{absent_at}
use Rattle.model.specs.Shape.{tree}
use Rattle.equation.specs.Rooms.{members_at}
use Rattle.peeling.proofs.PrepareLaws.{counts-next, order_start}
use Rattle.peeling.proofs.search.prepare.Goals as goal

pub overflow_cast-used : goal.overflow_cast-used
overflow_cast-used c = omega (arith, c.requires.0.low)

pub loop-e-init : goal.loop-e-init
loop-e-init c = λ e h. absurd (omega arith)

pub overflow_add-from : goal.overflow_add-from
overflow_add-from c =
    let l = c.loop-e in
    omega (arith, (c.requires.0.listed.stands l.e (omega arith)).listed)

pub absent_in-requires : goal.absent_in-requires
absent_in-requires c =
    let k = c.requires.0 in
    let l = c.loop-e in
    let h : l.e < length c.args.used.now = omega arith in
    (k.listed.stands l.e h, record { layer = k.layer; symbols = k.symbols; room = k.room; within = k.listed.within l.e h })

pub overflow_cast-left : goal.overflow_cast-left
overflow_cast-left c =
    let a = c.args in
    let l = c.loop-e in
    omega (arith, c.absent_in.ensures, count_le (absent_at tree a.marks.now a.j) (members_at a.words.now a.starts.now (a.from + l.e)), c.requires.0.narrow l.e (omega arith))

pub loop-e-preserved : goal.loop-e-preserved
loop-e-preserved c =
    let l = c.loop-e in
    counts-next c.args.words.now c.args.starts.now c.args.from c.args.j c.args.marks.now l.e l.absent l.invariant (omega arith) _ c.absent_in.ensures

pub returns : goal.returns
returns c =
    let l = c.loop-e in
    (record { sized = omega arith; counts = λ e h. l.invariant e (omega arith) }, order_start c.args.used.now l.absent c.requires.2 (c.fill.ensures.after (λ y h. h)))
