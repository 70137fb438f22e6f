-- `first_absent` meets its contract: the closure tests a member's mark, which is one of the marks.
use native.Mathlib.Omega.{arith}
use lib.ListN.{get_or, length}
use mathlib.Core.List.{List}
use mathlib.Core.Path.{◌∙◌, ap, sym}
use Prim.Native.Nat.{◌+◌, ◌<◌, ℕ}
use Rattle.std.proofs.Common.{rules, tests}
use Rattle.std.specs.List.{find}
use Rattle.std.proofs.lemmas.List.{map-id}
use Rattle.std.proofs.lemmas.Iterator.{YieldsList-from_map, YieldsList-from_slice}
use Rattle.std.proofs.lemmas.Iterator.Adapters.{option_map_id, serves_from_places}
use Rattle.std.proofs.lemmas.Iterator.Search.{find_from_yields_List}
use Rattle.equation.proofs.AbsentLaws.{absent-found, mark-there, unmarked}
use Rattle.equation.proofs.absent.first_absent.Goals as goal

pub find-requires-clause-callable : goal.find-requires-clause-callable
find-requires-clause-callable c =
    let a = c.args in
    serves_from_places (YieldsList-from_map _ (λ (y : ℕ). y) (YieldsList-from_slice a.members.now cc) c.map.ensures.closure (λ x r q k. search rules))
    (λ x q r. search (rules, tests))
    (λ x i h e y q.
    let same = map-id a.members.now in
    let inside : i < length a.members.now = omega (arith, h, ap length same) in
    let there = mark-there a.marks.now a.members.now a.j c.first_place-base.result c.first_place-base.ensures c.requires i x inside in
    let here : c.first_place-base.result + y.now < length a.marks.now = omega (arith, there, q ∙ e ∙ ap (λ (l : List ℕ). get_or l i x) same) in
    (λ _ _ _ _ n _ _ _. omega (arith, here, n.0), λ _ _ _ _ _ _ _ _ _. here))

pub returns : goal.returns
returns c =
    let a = c.args in
    let found = find_from_yields_List (unmarked a.marks.now a.members.now a.j c.first_place-base.result c.first_place-base.ensures) _ _ c.find.result c.find.ensures.ran
    (YieldsList-from_map _ (λ (y : ℕ). y) (YieldsList-from_slice a.members.now cc) c.map.ensures.closure (λ x r q k. search rules)) (λ x b q k. search (rules, tests)) in
    sym (option_map_id c.find.result) ∙ found ∙ ap (find _) (map-id a.members.now) ∙ absent-found a.marks.now a.members.now a.j c.first_place-base.result c.first_place-base.ensures
