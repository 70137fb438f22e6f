-- `first_absent` meets its contract: the first number of a symbol of the sample that is absent.
use mathlib.Core.Bool.{false, true}
use mathlib.Core.Path.{◌≡◌}
use borrow.Author.Rules.{rules}
use borrow.Author.Tests.{tests}
use Rattle.std.proofs.lemmas.Iterator.{first_from_Range}
use Rattle.sampling.specs.Absent.{absent}
use Rattle.sampling.proofs.SamplerLaws.{first-is}
use Rattle.sampling.proofs.sampler.first_absent.Goals as goal

pub returns : goal.returns
returns c =
    let a = c.args in
    first-is a.depth a.i a.marks.now c.find.result
    (first_from_Range _ _ _ _ (λ x. absent a.depth a.i a.marks.now x ≡ true) (λ x. absent a.depth a.i a.marks.now x ≡ false) c.find.ensures.ran (λ x q k. search (rules, tests)) (λ x q k. search (rules, tests)))
