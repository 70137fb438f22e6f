-- `put_way` meets its contract. The loop keeps: the way is written from its start to layer l.
use Prim.Native.Nat.{◌-◌}
use native.Mathlib.Omega.{arith}
use Rattle.fault_writer.proofs.WayLaws.{up_layers, way_end, way_start, way_turn}
use Rattle.model.proofs.Hung.{tree_hangs}
use Rattle.model.proofs.Shapes.{tree_ok}
use Rattle.model.specs.Shape.{tree}
use Rattle.fault_writer.proofs.way.put_way.Goals as goal

pub loop-l-init : goal.loop-l-init
loop-l-init c =
    let s = c.args in
    way_start s.tree.now s.j s.i s.at _

pub nonzero_rem-m : goal.nonzero_rem-m
nonzero_rem-m c = omega (arith, c.data_count-m.ensures, tree_ok.shape.some (c.loop-l.l - 1))

pub put_symbol-requires-in-loop-l : goal.put_symbol-requires-in-loop-l
put_symbol-requires-in-loop-l c =
    let a = c.args in
    let l = c.loop-l in (
      up_layers a.tree.now a.j a.i a.at _ c.requires.0 (omega (arith, c.requires.1)) l.l l.m l.p l.out l.invariant (omega arith) _ c.data_count-m.ensures,
      omega (arith, l.invariant.spot, l.invariant.within, l.invariant.sized, c.requires.1),
    )

pub loop-l-preserved : goal.loop-l-preserved
loop-l-preserved c =
    let a = c.args in
    let l = c.loop-l in
    way_turn a.tree.now a.j a.i a.at _ c.requires.0 (omega (arith, c.requires.1)) l.l l.m l.p l.out l.invariant (omega arith) _ c.data_count-m.ensures _ c.put_symbol-in-loop-l.auto.out (c.put_symbol-in-loop-l.ensures tree (tree_hangs _))

pub returns : goal.returns
returns c =
    let a = c.args in
    let l = c.loop-l in
    let p = c.put_symbol in
    way_end a.tree.now a.j a.i a.at _ c.requires.0 (omega (arith, c.requires.1)) l.l l.m l.p l.out l.invariant a.out.now p.auto.out (p.ensures tree (tree_hangs _)) (omega arith)
