-- `check_path` meets its contract: layer 0 has no path; another path is the way up from the data symbol above.
use Prim.Native.Nat.{◌-◌}
use native.Mathlib.Omega.{arith}
use lib.ListN.{drop}
use Rattle.symbol_hash.specs.SymbolHash.{symbol_hash}
use Rattle.model.proofs.Shapes.{tree_ok}
use Rattle.fault_proof.proofs.WayLaws.{above-inside, path-none, path-some}
use Rattle.fault_proof.proofs.way.check_path.Goals as goal

pub returns-then-j-eq0 : goal.returns-then-j-eq0
returns-then-j-eq0 c =
    let a = c.args in
    path-none (symbol_hash a.kind) a.root.now (drop a.at a.b.now) a.j a.i c.if-j-eq0.true

pub nonzero_rem-i : goal.nonzero_rem-i
nonzero_rem-i c =
    let a = c.args in
    omega (arith, c.data_count.ensures, tree_ok.shape.some (a.j - 1))

pub check-requires : goal.check-requires
check-requires c =
    let a = c.args in
    let pre = c.requires in
    let inside = above-inside a.root.now (a.j - 1) a.i c.data_count.result c.data_count.ensures (pre.1 (omega arith)) in
    (omega arith, inside.0, inside.1, omega (arith, pre.2, c.if-j-eq0.false))

pub returns : goal.returns
returns c =
    let a = c.args in
    path-some (symbol_hash a.kind) a.root.now (drop a.at a.b.now) a.j a.i c.data_count.result _ c.if-j-eq0.false c.data_count.ensures c.check.ensures
