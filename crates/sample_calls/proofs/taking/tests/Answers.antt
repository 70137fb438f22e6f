-- `tests` meets its contract: one test after the other.
use mathlib.Core.Path.{sym, ap, ◌∙◌}
use lib.ListN.{length}
use Rattle.std.proofs.lemmas.Result.{err_from_is_err_and}
use Rattle.calls.specs.Stops.{Answer}
use Rattle.calls.specs.Tests.{◌then◌, opened, test_number}
use Rattle.calls.proofs.TestLaws.{opened_by, opened-sized, number_passed}
use Rattle.sampling.specs.Absent.{first_absent}
use Rattle.sample_calls.specs.Taking.{take_sized, needed}
use Rattle.sample_calls.proofs.TakingLaws.{sizes, by_opened, by_passed}
use Rattle.sample_calls.proofs.taking.tests.Goals as goal

pub returns-in_err-enter : goal.returns-in_err-enter
returns-in_err-enter c =
    let g = c.args in
    let p = err_from_is_err_and c.from_residual.result c.from_residual.ensures.1 in
    rw (p.1, p.2) (by_opened g.depth g.number g.tree g.marks.now g.sample _ c.sizes_fit.ensures _ c.in_err-enter.ensures)

pub returns-in_err-test_marks : goal.returns-in_err-test_marks
returns-in_err-test_marks c =
    let g = c.args in
    let r = c.from_residual-in_err-test_marks in
    let p = err_from_is_err_and r.result r.ensures.1 in
    rw (p.1, p.2)
    (ap (λ (a : Answer). a then test_number g.depth g.number then needed (first_absent g.depth g.number g.marks.now)) c.in_err-test_marks.ensures
    ∙ by_opened g.depth g.number g.tree g.marks.now g.sample _ c.sizes_fit.ensures _ c.in_ok-enter.ensures)

pub test_number-requires : goal.test_number-requires
test_number-requires c =
    let g = c.args in
    let sized = take_sized g.depth g.tree (length g.marks.now) g.sample in
    let k = opened_by g.depth sized (sym (c.in_ok-enter.ensures ∙ ap (opened g.depth) c.sizes_fit.ensures ∙ opened-sized g.depth sized)) in
    (k.some, k.shallow)

pub returns-in_err-test_number : goal.returns-in_err-test_number
returns-in_err-test_number c =
    let g = c.args in
    let r = c.from_residual-in_err-test_number in
    let p = err_from_is_err_and r.result r.ensures.1 in
    rw (p.1, p.2)
    (ap (λ (a : Answer). a then needed (first_absent g.depth g.number g.marks.now)) c.in_err-test_number.ensures
    ∙ ap (λ (a : Answer). a then test_number g.depth g.number then needed (first_absent g.depth g.number g.marks.now)) c.in_ok-test_marks.ensures
    ∙ by_opened g.depth g.number g.tree g.marks.now g.sample _ c.sizes_fit.ensures _ c.in_ok-enter.ensures)

pub first_absent-requires : goal.first_absent-requires
first_absent-requires c =
    let g = c.args in
    let sized = take_sized g.depth g.tree (length g.marks.now) g.sample in
    let k = opened_by g.depth sized (sym (c.in_ok-enter.ensures ∙ ap (opened g.depth) c.sizes_fit.ensures ∙ opened-sized g.depth sized)) in
    ((k.some, k.shallow, number_passed g.depth g.number (sym c.in_ok-test_number.ensures)), (sizes g.depth g.tree (length g.marks.now) g.sample k.lengths).1)

pub returns-in-Some : goal.returns-in-Some
returns-in-Some c =
    let g = c.args in
    ap needed c.in-Some.ensures
    ∙ by_passed g.depth g.number g.tree g.marks.now g.sample _ c.sizes_fit.ensures c.in_ok-enter.ensures c.in_ok-test_marks.ensures c.in_ok-test_number.ensures

pub returns-in-None : goal.returns-in-None
returns-in-None c =
    let g = c.args in
    ap needed c.in-None.ensures
    ∙ by_passed g.depth g.number g.tree g.marks.now g.sample _ c.sizes_fit.ensures c.in_ok-enter.ensures c.in_ok-test_marks.ensures c.in_ok-test_number.ensures
