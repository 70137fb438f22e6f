-- `set` meets its contract. The loop keeps: every node but the one above the place that changed last is right. So where that one stays as it is, all are.
use mathlib.Core.Path.{◌∙◌}
use Prim.Native.Nat.{◌+◌, ◌/◌}
use native.Mathlib.Omega.{arith}
use lib.ListN.{length, length-set}
use Rattle.tournament.proofs.RiseLaws.{rising_start, rising_turn, rising_stop, rising_end}
use Rattle.tournament.proofs.set.Goals as goal

pub loop-i-init : goal.loop-i-init
loop-i-init c =
    let a = c.args in
    (rising_start a.tree.now a.e a.v c.requires.0 c.requires.1, omega (arith, c.well_formed, length-set a.tree.now (length a.tree.now / 2 + a.e) a.v))

pub shape_of-tree-then-tree-i : goal.shape_of-tree-then-tree-i
shape_of-tree-then-tree-i c =
    let a = c.args in
    c.loop-i.invariant.0.sized ∙ length-set a.tree.now (length a.tree.now / 2 + a.e) a.v

pub returns-then-tree-i : goal.returns-then-tree-i
returns-then-tree-i c =
    let a = c.args in
    rising_stop a.tree.now a.e a.v c.loop-i.tree c.loop-i.i c.loop-i.invariant.0 (c.if-tree-i.true ∙ c.min-m.ensures)

pub loop-i-preserved : goal.loop-i-preserved
loop-i-preserved c =
    let l = c.loop-i in
    let v = c.min-m.result in
    (rising_turn _ l.tree l.i l.invariant.0 v (omega arith) c.min-m.ensures, omega (arith, length-set l.tree (l.i / 2) v))

pub shape_of-tree : goal.shape_of-tree
shape_of-tree c =
    let a = c.args in
    c.loop-i.invariant.0.sized ∙ length-set a.tree.now (length a.tree.now / 2 + a.e) a.v

pub returns : goal.returns
returns c =
    let l = c.loop-i in
    let a = c.args in
    rising_end a.tree.now a.e a.v l.tree l.i l.invariant.0 (omega arith)
