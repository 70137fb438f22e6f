-- `count_absent` meets its contract. The loop keeps: n, with the count of the members that are left, is the count of all.
use mathlib.Core.Path.{ap}
use native.Mathlib.Nat.{zero-add}
use native.Mathlib.Omega.{arith}
use lib.ListN.{get_or}
use Rattle.coded_tree.proofs.MarkLaws.{absent-is, held-is}
use Rattle.model.proofs.Counts.{count-drop, count-end}
use Rattle.model.specs.Repair.{absent_at}
use Rattle.model.specs.Symbols.{bit}
use Rattle.model.specs.Shape.{tree as shape}
use Rattle.equation.proofs.AbsentLaws.{mark-there}
use Rattle.equation.proofs.absent.count_absent.Goals as goal
use Rattle.equation.proofs.absent.count_absent.Goals.{then-marks-base-ne1, else-marks-base-ne1}

pub loop-y-init : goal.loop-y-init
loop-y-init c = (omega arith, zero-add _)

pub overflow_add-base : goal.overflow_add-base
overflow_add-base c =
    let a = c.args in
    omega (arith, mark-there a.marks.now a.members.now a.j c.first_place-base.result c.first_place-base.ensures c.requires c.loop-y.y-index 0 (omega arith))

pub bounds-marks-base : goal.bounds-marks-base
bounds-marks-base c =
    let a = c.args in
    omega (arith, mark-there a.marks.now a.members.now a.j c.first_place-base.result c.first_place-base.ensures c.requires c.loop-y.y-index 0 (omega arith))

pub loop-y-preserved : goal.loop-y-preserved
loop-y-preserved c =
    let a = c.args in
    let l = c.loop-y in
    let b = c.first_place-base in
    let y = get_or a.members.now l.y-index 0 in
    let q = count-drop (absent_at shape a.marks.now a.j) a.members.now l.y-index (omega arith) in
    elim c.if-marks-base-ne1.branch [
      | then-marks-base-ne1 w ↦ (omega arith, omega (arith, q, l.invariant.1, ap bit (absent-is a.marks.now a.j b.result b.ensures y w.if-marks-base-ne1.true)))
      | else-marks-base-ne1 w ↦ (omega arith, omega (arith, q, l.invariant.1, ap bit (held-is a.marks.now a.j b.result b.ensures y w.if-marks-base-ne1.false)))
    ]

pub returns : goal.returns
returns c =
    omega (arith, c.loop-y.invariant.1, count-end (absent_at shape c.args.marks.now c.args.j) c.args.members.now c.loop-y.y-index (omega arith))
