-- `sizes_fit` meets its contract: the sample is looked at where the depth is one.
use mathlib.Core.Path.{sym, ◌∙◌}
use native.Mathlib.Omega.{arith}
use Rattle.calls.specs.Lengths.{tree_sized}
use Rattle.calls.proofs.LengthLaws.{fit_depth}
use Rattle.sample_calls.proofs.taking.sizes_fit.Goals as goal

pub overflow_mul-result : goal.overflow_mul-result
overflow_mul-result c =
    let g = c.args in
    omega (arith, (fit_depth g.depth (tree_sized g.depth g.tree g.marks) (sym c.tree_fits.ensures ∙ c.if-tree_fits.true)).1)

pub overflow_sub-result : goal.overflow_sub-result
overflow_sub-result c =
    let g = c.args in
    omega (arith, (fit_depth g.depth (tree_sized g.depth g.tree g.marks) (sym c.tree_fits.ensures ∙ c.if-tree_fits.true)).0)

pub overflow_mul-result-then-tree_fits : goal.overflow_mul-result-then-tree_fits
overflow_mul-result-then-tree_fits c =
    let g = c.args in
    omega (arith, (fit_depth g.depth (tree_sized g.depth g.tree g.marks) (sym c.tree_fits.ensures ∙ c.if-tree_fits.true)).1)
