-- `withholds` meets its contract: the kind, then the members.
use mathlib.Core.Path.{◌∙◌}
use borrow.Author.Tests.{ne_eqb}
use Rattle.fault_proof.proofs.HeadLaws.{withholds_kind, withholds-member}
use Rattle.fault_proof.proofs.head.withholds.Goals as goal

pub returns-then-kind_at-eq3 : goal.returns-then-kind_at-eq3
returns-then-kind_at-eq3 c =
    let a = c.args in
    c.is_member.ensures
    ∙ withholds-member a.proof.now a.members.now c.kind_at.result c.kind_at.ensures c.value_at.result c.if-kind_at-eq3.true c.value_at.ensures

pub returns-else-kind_at-eq3 : goal.returns-else-kind_at-eq3
returns-else-kind_at-eq3 c =
    let a = c.args in
    ne_eqb c.kind_at.result 3 c.if-kind_at-eq3.false ∙ withholds_kind a.proof.now a.members.now c.kind_at.result c.kind_at.ensures c.if-kind_at-eq3.false
