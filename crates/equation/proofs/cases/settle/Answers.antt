-- `settle` meets its contract: by the number of absent members.
use mathlib.Core.Path.{◌∙◌, refl, sym}
use Rattle.model.specs.Repair.{absent_at}
use Rattle.model.specs.Shape.{tree}
use Rattle.equation.proofs.AbsentLaws.{found-none}
use Rattle.equation.proofs.TurnLaws.{act_refutes, act_uses}
use Rattle.equation.proofs.cases.settle.Goals as goal

pub returns-then-holds : goal.returns-then-holds
returns-then-holds c =
    let a = c.args in
    act_uses a.kind a.root.now a.members.now a.j a.e a.tree.now a.marks.now a.out.now a.used.now
    (found-none (absent_at tree a.marks.now a.j) a.members.now (sym c.in_default.ensures)) _
    (sym c.holds.ensures ∙ c.if-holds.true) refl

pub returns : goal.returns
returns c =
    let a = c.args in
    act_refutes a.kind a.root.now a.members.now a.j a.e a.tree.now a.marks.now a.out.now a.used.now
    (found-none (absent_at tree a.marks.now a.j) a.members.now (sym c.in_default.ensures)) _ _
    (sym c.holds.ensures ∙ c.if-holds.false) c.refute.ensures
