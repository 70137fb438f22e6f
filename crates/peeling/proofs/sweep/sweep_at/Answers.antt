-- `sweep_at` meets its contract: a gap is erased, and any other symbol stays.
use mathlib.Core.Path.{◌∙◌, refl, sym}
use Rattle.model.specs.Symbols.{zeros}
use Rattle.peeling.proofs.SweepLaws.{sweep_erase, sweep_keep}
use Rattle.peeling.proofs.sweep.sweep_at.Goals as goal

pub returns-then-is_gap : goal.returns-then-is_gap
unfolding zeros
returns-then-is_gap c =
    let a = c.args in
    sweep_erase a.kind a.root.now a.tree.now a.marks.now a.j a.i c.first_place.result _ _ c.first_place.ensures
    (sym c.is_gap.ensures ∙ c.if-is_gap.true) c.copy_at.ensures refl

pub returns-else-is_gap : goal.returns-else-is_gap
returns-else-is_gap c =
    let a = c.args in
    sweep_keep a.kind a.root.now a.tree.now a.marks.now a.j a.i (sym c.is_gap.ensures ∙ c.if-is_gap.false)
