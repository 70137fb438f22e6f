-- `repair` meets its contract. The loop keeps: the layers from j on give what all of them give.
use Rattle.std.proofs.Common.{◌+◌, arith}
use Rattle.repair.proofs.LayerLaws.{given_keep, k_below}
use Rattle.repair.proofs.RepairLaws.{deep-end, deep_on, deep_start, deep_stop, stored-below, stored_on, stored_small, stored_start}
use Rattle.repair.proofs.repair.Goals as goal

pub loop-j-init : goal.loop-j-init
loop-j-init c =
    record {
      few = stored_start;
      deep = deep_start c.args.kind c.args.root.now c.args.table.now.layers c.args.tree.now c.args.marks.now c.args.out.now;
    }

pub repair_layer-passed-requires : goal.repair_layer-passed-requires
repair_layer-passed-requires c =
    let l = c.loop-j in
    let k = l.auto in
    let d = c.depth-depth.ensures.kept.shallow in (
      given_keep k.tree k.marks k.out c.requires.0,
      omega arith,
      omega (arith, stored_small l.j (omega (arith, d)), l.invariant.few),
      grind (arith, k_below),
    )

pub returns-in-Some : goal.returns-in-Some
returns-in-Some c =
    let l = c.loop-j in
    let p = c.repair_layer-passed.ensures in
    let h = c.depth-depth.ensures.kept.rules.depth in (
      deep_stop c.args.kind c.args.root.now c.args.table.now.layers c.args.tree.now c.args.marks.now c.args.out.now l.j (omega (arith, h)) l.tree l.marks l.out l.stored l.invariant.deep _ _ _ _ _ p.0 _ c.in-Some.is,
      stored-below (l.j + 1) c.args.table.now.depth _ (omega arith) (stored_on l.j l.stored _ l.invariant.few p.1),
    )

pub loop-j-preserved : goal.loop-j-preserved
loop-j-preserved c =
    let l = c.loop-j in
    let p = c.repair_layer-passed.ensures in
    let h = c.depth-depth.ensures.kept.rules.depth in
    record {
      few = stored_on l.j l.stored _ l.invariant.few p.1;
      deep = deep_on c.args.kind c.args.root.now c.args.table.now.layers c.args.tree.now c.args.marks.now c.args.out.now l.j (omega (arith, h)) l.tree l.marks l.out l.stored l.invariant.deep _ _ _ _ _ p.0 c.in_default.is;
    }

pub returns : goal.returns
returns c =
    let l = c.loop-j in
    let h = c.depth-depth.ensures.kept.rules.depth in (
      deep-end c.args.kind c.args.root.now c.args.table.now.layers c.args.tree.now c.args.marks.now c.args.out.now l.j l.tree l.marks l.out l.stored (omega (arith, h)) l.invariant.deep,
      stored-below l.j c.args.table.now.depth l.stored (omega arith) l.invariant.few,
    )
