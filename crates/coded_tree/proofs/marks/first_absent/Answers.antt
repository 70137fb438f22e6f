-- `first_absent` meets its contract: the marks of the layer are searched for the first that is not 1.
use Prim.Native.Nat.{◌+◌, ℕ}
use mathlib.Core.Path.{◌≡◌}
use lib.ListN.{get_or}
use borrow.Author.Rules.{rules}
use borrow.Author.Tests.{tests}
use Rattle.std.proofs.lemmas.Iterator.{first_from_Range}
use Rattle.coded_tree.proofs.MarkLaws.{first_found}
use Rattle.coded_tree.proofs.marks.first_absent.Goals as goal

pub returns : goal.returns
returns c =
    let a = c.args in
    let base = c.first_place-base.result in
    first_found a.marks.now a.j base c.first_place-base.ensures a.n c.find.result
    (first_from_Range _ _ _ _ (λ (x : ℕ). get_or a.marks.now (base + x) 0 ≡ 1 → ⊥) (λ x. get_or a.marks.now (base + x) 0 ≡ 1) c.find.ensures.ran (λ x q k. search (rules, tests)) (λ x q k. search (rules, tests)))
