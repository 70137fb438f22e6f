-- `judge` meets its contract: the withheld member's number, then the other tests, found for the tree's shape and turned into those for any.
use mathlib.Core.Path.{sym, ◌∙◌}
use Rattle.symbol_hash.specs.SymbolHash.{symbol_hash}
use Rattle.fault_proof.proofs.RuledLaws.{judged-hung, judged-head, judged_on, withheld_there}
use Rattle.fault_proof.proofs.checker.judge.Goals as goal

pub returns-then-not-withholds : goal.returns-then-not-withholds
returns-then-not-withholds c =
    let a = c.args in
    λ S h. judged-head (symbol_hash a.kind) a.root.now a.j a.members.now a.proof.now c.withholds.result c.withholds.ensures c.if-not-withholds.true
    ∙ sym (judged-hung S (symbol_hash a.kind) a.root.now a.j h a.members.now a.proof.now)

pub rule-requires : goal.rule-requires
rule-requires c =
    let a = c.args in
    (c.requires.0, withheld_there (symbol_hash a.kind) a.root.now a.j a.members.now a.proof.now c.withholds.result c.withholds.ensures c.if-not-withholds.false c.value_at.result c.value_at.ensures)

pub returns : goal.returns
returns c =
    let a = c.args in
    λ S h. judged_on (symbol_hash a.kind) a.root.now a.j a.members.now a.proof.now c.withholds.result c.withholds.ensures c.if-not-withholds.false c.value_at.result c.value_at.ensures _ c.rule.ensures
    ∙ sym (judged-hung S (symbol_hash a.kind) a.root.now a.j h a.members.now a.proof.now)
