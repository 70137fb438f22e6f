-- `fits` meets its contract: the committed hash stands in the root, or in the symbol above.
use mathlib.Core.Path.{◌∙◌}
use Prim.Native.Nat.{◌-◌}
use native.Mathlib.Omega.{arith}
use Rattle.model.proofs.Shapes.{tree_ok}
use Rattle.equation.proofs.CommittedLaws.{above-room, fits_below, fits-top}
use Rattle.equation.proofs.committed.fits.Goals as goal

pub fits-requires : goal.fits-requires
fits-requires c =
    (c.requires.0.layer, c.requires.2, c.requires.1.top, λ h. absurd (omega (arith, c.if-j-eq0.true)))

pub returns-then-j-eq0 : goal.returns-then-j-eq0
returns-then-j-eq0 c =
    c.fits.ensures ∙ fits-top c.args.kind c.args.root.now c.args.tree.now c.args.s.now c.args.i c.args.j c.if-j-eq0.true

pub nonzero_rem-up : goal.nonzero_rem-up
nonzero_rem-up c = omega (arith, c.data_count.ensures, tree_ok.shape.some (c.args.j - 1))

pub overflow_add-up : goal.overflow_add-up
overflow_add-up c =
    omega (arith, above-room c.args.tree.now c.args.j c.args.i c.first_place.result c.data_count.result c.requires.0 (omega arith) c.first_place.ensures c.data_count.ensures)

pub overflow_mul-up : goal.overflow_mul-up
overflow_mul-up c =
    omega (arith, above-room c.args.tree.now c.args.j c.args.i c.first_place.result c.data_count.result c.requires.0 (omega arith) c.first_place.ensures c.data_count.ensures)

pub fits-requires-2 : goal.fits-requires-2
fits-requires-2 c =
    (c.requires.0.layer, c.requires.2, c.requires.1.top, λ h. (c.requires.1.hung h, above-room c.args.tree.now c.args.j c.args.i c.first_place.result c.data_count.result c.requires.0 h c.first_place.ensures c.data_count.ensures))

pub returns : goal.returns
returns c =
    c.fits-2.ensures ∙ fits_below c.args.kind c.args.root.now c.args.tree.now c.args.s.now c.args.i c.args.j c.first_place.result c.data_count.result c.if-j-eq0.false c.first_place.ensures c.data_count.ensures
