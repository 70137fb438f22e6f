-- `sizes_fit` meets its contract: the block is looked at where the depth is one.
use mathlib.Core.Path.{sym, ◌∙◌}
use Prim.Native.Nat.{◌-◌}
use native.Mathlib.Omega.{arith}
use Rattle.parity_table.proofs.Shape.{k_small}
use Rattle.calls.specs.Lengths.{tree_sized}
use Rattle.calls.proofs.LengthLaws.{fit_depth}
use Rattle.volume_calls.proofs.reading.sizes_fit.Goals as goal
use Rattle.volume_calls.proofs.reading.sizes_fit.Goals.{then-tree_fits, else-tree_fits}

pub overflow_sub-depth : goal.overflow_sub-depth
overflow_sub-depth c =
    let g = c.args in
    elim c.if-tree_fits.branch [
      | then-tree_fits w ↦ omega (arith, (fit_depth g.depth (tree_sized g.depth g.tree g.marks) (sym c.tree_fits.ensures ∙ w.if-tree_fits.true)).0)
      | else-tree_fits w ↦ absurd cc
    ]

pub data_count-requires : goal.data_count-requires
data_count-requires c =
    let g = c.args in
    elim c.if-tree_fits.branch [
      | then-tree_fits w ↦
          let h = fit_depth g.depth (tree_sized g.depth g.tree g.marks) (sym c.tree_fits.ensures ∙ w.if-tree_fits.true) in omega (arith, h.0, h.1)
      | else-tree_fits w ↦ absurd cc
    ]

pub overflow_mul-result : goal.overflow_mul-result
overflow_mul-result c =
    let g = c.args in
    elim c.if-tree_fits.branch [
      | then-tree_fits w ↦
          let h = fit_depth g.depth (tree_sized g.depth g.tree g.marks) (sym c.tree_fits.ensures ∙ w.if-tree_fits.true) in
          omega (arith, c.data_count.ensures, k_small (g.depth - 1) (omega (arith, h.0, h.1)))
      | else-tree_fits w ↦ absurd cc
    ]
