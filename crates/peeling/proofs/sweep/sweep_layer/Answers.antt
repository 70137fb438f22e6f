-- `sweep_layer` meets its contract. The loop keeps: the symbols before i are swept.
use native.Mathlib.Omega.{arith}
use Rattle.equation.proofs.TurnLaws.{level_fewer}
use Rattle.peeling.proofs.SweepLaws.{level_keep, sweep-end, sweep_start, sweep-turn}
use Rattle.peeling.proofs.sweep.sweep_layer.Goals as goal

pub loop-i-init : goal.loop-i-init
loop-i-init c = let a = c.args in (omega arith, sweep_start a.kind a.root.now a.j a.n a.tree.now a.marks.now)

pub sweep_at-requires : goal.sweep_at-requires
sweep_at-requires c =
    let w = c.loop-i.invariant.1 in
    level_keep w.tree-length w.marks-length (level_fewer _ (omega arith) c.requires)

pub overflow_step-i : goal.overflow_step-i
overflow_step-i c = omega (arith, c.requires.marks-room)

pub loop-i-preserved : goal.loop-i-preserved
loop-i-preserved c =
    let l = c.loop-i in
    let v = c.sweep_at in
    (omega arith, sweep-turn l.invariant.1 (omega arith) v.auto.tree v.auto.marks v.ensures)

pub shape_of-tree : goal.shape_of-tree
shape_of-tree c = c.loop-i.invariant.1.tree-length

pub shape_of-marks : goal.shape_of-marks
shape_of-marks c = c.loop-i.invariant.1.marks-length

pub returns : goal.returns
returns c = let l = c.loop-i in sweep-end l.invariant.1 (omega arith)
