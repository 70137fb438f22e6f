-- `is_member` meets its contract: some member is x where x is counted among them.
use mathlib.Core.Path.{◌∙◌}
use lib.Dec.{eqb}
use Rattle.std.proofs.Common.{rules, tests}
use Rattle.std.proofs.lemmas.Iterator.{YieldsList-from_slice}
use Rattle.std.proofs.lemmas.Iterator.Search.{any_from_yields_List}
use Rattle.fault_proof.proofs.HeadLaws.{any-counted}
use Rattle.fault_proof.proofs.head.is_member.Goals as goal

pub returns : goal.returns
returns c =
    let a = c.args in
    any_from_yields_List (λ y. eqb y a.x) _ _ c.any.result c.any.ensures.ran (YieldsList-from_slice a.members.now cc) (λ x b q k. search (rules, tests))
    ∙ any-counted (λ y. eqb y a.x) a.members.now
