-- `sizes_fit` meets its contract: the sample is looked at where the depth is one.
use mathlib.Core.Path.{sym, ◌∙◌}
use native.Mathlib.Omega.{arith}
use Rattle.parity_table.proofs.Shape.{depth_is}
use Rattle.sample_calls.proofs.checking.sizes_fit.Goals as goal
use Rattle.sample_calls.proofs.checking.sizes_fit.Goals.{then-depth_fits, else-depth_fits}

pub overflow_mul-result : goal.overflow_mul-result
overflow_mul-result c =
    elim c.if-depth_fits.branch [
      | then-depth_fits w ↦ omega (arith, (depth_is c.args.depth (sym c.depth_fits.ensures ∙ w.if-depth_fits.true)).1)
      | else-depth_fits w ↦ absurd cc
    ]

pub overflow_sub-result : goal.overflow_sub-result
overflow_sub-result c =
    elim c.if-depth_fits.branch [
      | then-depth_fits w ↦ omega (arith, (depth_is c.args.depth (sym c.depth_fits.ensures ∙ w.if-depth_fits.true)).0)
      | else-depth_fits w ↦ absurd cc
    ]

pub overflow_mul-result-then-record_len-eq-BYTES : goal.overflow_mul-result-then-record_len-eq-BYTES
overflow_mul-result-then-record_len-eq-BYTES c =
    elim c.if-depth_fits.branch [
      | then-depth_fits w ↦ omega (arith, (depth_is c.args.depth (sym c.depth_fits.ensures ∙ w.if-depth_fits.true)).1)
      | else-depth_fits w ↦ absurd cc
    ]
