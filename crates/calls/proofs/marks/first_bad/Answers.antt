-- `first_bad` meets its contract: the search begins behind marks that all are 0 or 1.
use mathlib.Core.Path.{◌≡◌, ap, sym, ◌∙◌}
use Prim.Native.Nat.{◌+◌}
use lib.Dec.{ltb}
use borrow.Author.Rules.{rules}
use borrow.Author.Tests.{tests}
use Rattle.std.proofs.lemmas.Iterator.{YieldsList-from_slice}
use Rattle.std.proofs.lemmas.Iterator.Search.{position_from_yields_List}
use Rattle.std.specs.Prelude.{option_map, position}
use Rattle.calls.proofs.MarkLaws.{position_behind, rest_from}
use Rattle.calls.proofs.marks.first_bad.Goals as goal

pub returns : goal.returns
returns c =
    let m = c.args.marks.now in
    let front = c.fine_front-front in
    let found : c.position.result ≡ position (λ v. ltb 1 v) (rest_from m front.result) =
    position_from_yields_List _ _ _ c.position.result c.position.ensures.ran (YieldsList-from_slice (rest_from m front.result) c.iter.ensures.rest) (λ x b q k. search (rules, tests)) in
    ap (option_map (λ k. front.result + k)) (sym c.in_ok-p.was ∙ found) ∙ position_behind m front.result front.ensures.inside front.ensures.fine

pub returns-in_err-p : goal.returns-in_err-p
returns-in_err-p c =
    let m = c.args.marks.now in
    let front = c.fine_front-front in
    let found : c.position.result ≡ position (λ v. ltb 1 v) (rest_from m front.result) =
    position_from_yields_List _ _ _ c.position.result c.position.ensures.ran (YieldsList-from_slice (rest_from m front.result) c.iter.ensures.rest) (λ x b q k. search (rules, tests)) in
    c.from_residual.ensures
    ∙ ap (option_map (λ k. front.result + k)) (sym c.in_err-p.was ∙ found)
    ∙ position_behind m front.result front.ensures.inside front.ensures.fine
