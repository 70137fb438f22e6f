-- `put_root` meets its contract. The loop keeps: the first i hashes are written.
use mathlib.Core.Path.{refl}
use native.Mathlib.Omega.{arith}
use Rattle.coded_tree.proofs.HashLaws.{root_more, root_all}
use Rattle.model.specs.Symbols.{joined}
use Rattle.coded_tree.proofs.hashes.put_root.Goals as goal

pub loop-i-init : goal.loop-i-init
unfolding joined
loop-i-init c = (omega arith, omega arith, refl)

pub loop-i-preserved : goal.loop-i-preserved
loop-i-preserved c =
    let l = c.loop-i in
    let more = root_more c.args.kind c.args.tree.now l.root _ _ _ l.i (omega arith) l.invariant.1 l.invariant.2 c.symbol_at.ensures.symbol c.hash-h.ensures c.copy_at.ensures in
    (omega arith, more.0, more.1)

pub returns : goal.returns
returns c =
    root_all c.args.kind c.args.tree.now c.loop-i.root c.loop-i.i (omega arith)
    c.loop-i.invariant.1 c.loop-i.invariant.2
