-- `is_gap` meets its contract: by the symbol's mark, then by its 256 bytes in the tree.
use mathlib.Core.Path.{◌∙◌, ap, sym}
use mathlib.Core.Bool.{true, false, not}
use Rattle.coded_tree.proofs.MarkLaws.{absent-is, absent_there, held-is}
use Rattle.coded_tree.proofs.ParityLaws.{sym_at_there}
use Rattle.equation.specs.States.{fits_in}
use Rattle.equation.proofs.CommittedLaws.{gap_by}
use Rattle.equation.proofs.committed.is_gap.Goals as goal

pub returns-then-marks-p-ne1 : goal.returns-then-marks-p-ne1
returns-then-marks-p-ne1 c =
    let p = c.first_place in
    let a = c.args in
    let absent = absent-is a.marks.now a.j p.result p.ensures a.i c.if-marks-p-ne1.true in
    sym (absent_there a.marks.now a.j p.result p.ensures a.i) ∙ absent ∙ gap_by a.kind a.root.now a.tree.now a.marks.now a.j a.i true absent

pub returns-else-marks-p-ne1 : goal.returns-else-marks-p-ne1
returns-else-marks-p-ne1 c =
    let p = c.first_place in
    let a = c.args in
    ap not (c.fits.ensures ∙ ap (fits_in a.kind a.root.now a.tree.now a.j a.i) (c.symbol_at.ensures.symbol ∙ sym (sym_at_there a.tree.now a.j p.result p.ensures a.i)))
    ∙ gap_by a.kind a.root.now a.tree.now a.marks.now a.j a.i false (held-is a.marks.now a.j p.result p.ensures a.i c.if-marks-p-ne1.false)
