-- `sizes_fit` meets its contract: tree and marks, the record, then the output.
use mathlib.Core.Path.{sym, ◌∙◌}
use native.Mathlib.Omega.{arith}
use Rattle.calls.specs.Lengths.{tree_sized}
use Rattle.calls.proofs.LengthLaws.{fit_depth}
use Rattle.fault_calls.proofs.repairing.sizes_fit.Goals as goal

pub overflow_mul-result : goal.overflow_mul-result
overflow_mul-result c =
    let g = c.args in
    omega (arith, fit_depth g.depth (tree_sized g.depth g.tree g.marks) (sym c.tree_fits.ensures ∙ c.if-record_len-eq-BYTES.true.0))

pub overflow_sub-result : goal.overflow_sub-result
overflow_sub-result c =
    let g = c.args in
    omega (arith, fit_depth g.depth (tree_sized g.depth g.tree g.marks) (sym c.tree_fits.ensures ∙ c.if-record_len-eq-BYTES.true.0))

pub overflow_mul-result-then-record_len-eq-BYTES : goal.overflow_mul-result-then-record_len-eq-BYTES
overflow_mul-result-then-record_len-eq-BYTES c =
    let g = c.args in
    omega (arith, fit_depth g.depth (tree_sized g.depth g.tree g.marks) (sym c.tree_fits.ensures ∙ c.if-record_len-eq-BYTES.true.0))

pub overflow_add-result : goal.overflow_add-result
overflow_add-result c =
    let g = c.args in
    omega (arith, fit_depth g.depth (tree_sized g.depth g.tree g.marks) (sym c.tree_fits.ensures ∙ c.if-record_len-eq-BYTES.true.0))
