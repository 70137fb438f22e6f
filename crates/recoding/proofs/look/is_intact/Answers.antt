-- `is_intact` meets its contract: layer by layer.
use mathlib.Core.Path.{refl, ◌∙◌}
use native.Mathlib.Omega.{arith}
use Rattle.std.proofs.Common.{rules, tests}
use Rattle.std.proofs.lemmas.Iterator.{YieldsList-from_range}
use Rattle.std.proofs.lemmas.Iterator.Search.{all_from_yields_List}
use Rattle.recoding.proofs.LookLaws.{complete_at, each_complete}
use Rattle.recoding.proofs.look.is_intact.Goals as goal

pub returns : goal.returns
returns c =
    let a = c.args in
    let kept = c.depth.ensures.kept in
    all_from_yields_List (complete_at kept a.kind a.root.now a.tree.now a.marks.now) _ _ c.all.result c.all.ensures.ran
    (YieldsList-from_range 0 _ a.table.now.depth refl (omega (arith, c.depth.ensures.depth))) (λ x b q k. search (rules, tests))
    ∙ each_complete kept a.kind a.root.now a.tree.now a.marks.now
