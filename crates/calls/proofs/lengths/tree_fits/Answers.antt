-- `tree_fits` meets its contract: the depth, one length, then the other.
use mathlib.Core.Path.{sym, ap, ◌∙◌}
use mathlib.Core.Bool.{Bool, ◌&&◌}
use native.Mathlib.Omega.{arith}
use Rattle.parity_table.proofs.Shape.{depth_is}
use borrow.Author.Tests.{ne_eqb}
use Rattle.calls.specs.Lengths.{tree_sized}
use Rattle.calls.proofs.LengthLaws.{places_small, tree-other, tree-same-length}
use Rattle.calls.proofs.lengths.tree_fits.Goals as goal

pub returns-then-not-depth_fits : goal.returns-then-not-depth_fits
returns-then-not-depth_fits c =
    let g = c.args in
    sym (ap (λ (b : Bool). b && tree_sized g.depth g.tree g.marks) (sym c.depth_fits.ensures ∙ c.if-not-depth_fits.true))

pub first_place-n-requires : goal.first_place-n-requires
first_place-n-requires c = (depth_is c.args.depth (sym c.depth_fits.ensures ∙ c.if-not-depth_fits.false)).1

pub overflow_mul-n : goal.overflow_mul-n
overflow_mul-n c =
    let g = c.args in
    omega (arith, c.first_place-n.ensures, places_small g.depth (depth_is g.depth (sym c.depth_fits.ensures ∙ c.if-not-depth_fits.false)).1)

pub returns-then-tree-n : goal.returns-then-tree-n
returns-then-tree-n c =
    let g = c.args in
    tree-same-length g.depth g.tree g.marks c.first_place-n.result (sym c.depth_fits.ensures ∙ c.if-not-depth_fits.false) c.first_place-n.ensures c.if-tree-n.true

pub returns-else-tree-n : goal.returns-else-tree-n
returns-else-tree-n c =
    let g = c.args in
    ne_eqb g.tree _ c.if-tree-n.false
    ∙ tree-other g.depth g.tree g.marks c.first_place-n.result (sym c.depth_fits.ensures ∙ c.if-not-depth_fits.false) c.first_place-n.ensures c.if-tree-n.false
