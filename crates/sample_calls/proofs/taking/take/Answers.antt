-- `take` meets its contract: refused by a test, or taken.
use mathlib.Core.Path.{sym}
use Rattle.std.proofs.lemmas.Result.{err_from_is_err_and}
use Rattle.sample_calls.proofs.TakingLaws.{refused, passed, sizes, taken}
use Rattle.sample_calls.proofs.taking.take.Goals as goal

pub returns-in_err-tests : goal.returns-in_err-tests
returns-in_err-tests c =
    let g = c.args in
    let p = err_from_is_err_and c.from_residual.result c.from_residual.ensures.1 in
    rw (p.1, p.2) (refused g.depth g.number g.tree.now g.marks.now g.sample.now _ c.in_err-tests.ensures)

pub take-requires : goal.take-requires
take-requires c =
    let g = c.args in
    let (k, b) = passed g.depth g.number _ g.marks.now _ (sym c.in_ok-tests.ensures) in
    let n = sizes g.depth _ _ _ k.lengths in
    (b, n.0, n.2)

pub returns : goal.returns
returns c =
    let g = c.args in
    taken g.depth g.number g.tree.now g.marks.now g.sample.now _ c.in_ok-tests.ensures c.take.ensures
