-- `fits` meets its contract: the hash is compared where the root, or the symbol of the layer above, has it.
use mathlib.Core.Path.{◌∙◌}
use Prim.Native.Nat.{◌-◌}
use native.Mathlib.Omega.{arith}
use lib.ListN.{drop}
use Rattle.model.proofs.Shapes.{tree_ok}
use Rattle.symbol_hash.proofs.CommittedLaws.{fits_root_lem, fits-above}
use Rattle.symbol_hash.proofs.committed.fits.Goals as goal

pub returns-then-j-eq0 : goal.returns-then-j-eq0
returns-then-j-eq0 c =
    let a = c.args in
    c.equal_at.ensures
    ∙ fits_root_lem a.kind a.root.now _ a.symbol.now a.j a.m c.hash-h.ensures (drop a.up a.b.now) c.if-j-eq0.true

pub nonzero_div-slot : goal.nonzero_div-slot
nonzero_div-slot c = omega (arith, c.data_count.ensures, tree_ok.shape.some (c.args.j - 1))

pub returns : goal.returns
returns c =
    let a = c.args in
    c.equal_at-2.ensures
    ∙ fits-above a.kind a.root.now _ a.symbol.now a.j a.m c.hash-h.ensures a.b.now a.up c.data_count.result c.if-j-eq0.false c.data_count.ensures (c.requires.3 (omega arith)).0
