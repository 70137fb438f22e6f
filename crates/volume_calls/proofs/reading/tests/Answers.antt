-- `tests` meets its contract: one test after the other.
use mathlib.Core.Path.{sym, ap, ◌∙◌}
use lib.ListN.{length}
use Rattle.std.proofs.lemmas.Result.{err_from_is_err_and}
use Rattle.octets.proofs.Choice.{and_yes}
use Rattle.parity_table.specs.Shape.{depth_fits}
use Rattle.calls.specs.Stops.{Answer}
use Rattle.calls.specs.Tests.{◌then◌}
use Rattle.calls.proofs.RecordLaws.{headed_by}
use Rattle.volume_calls.specs.Reading.{read_sized, test_base}
use Rattle.volume_calls.proofs.ReadingLaws.{sizes, headed_as, by_head_lem}
use Rattle.volume_calls.proofs.reading.tests.Goals as goal

pub enter_by-requires : goal.enter_by-requires
enter_by-requires c x =
    let g = c.args in
    (sizes g.depth _ _ _ _ (and_yes (depth_fits g.depth) (read_sized g.depth (length g.root_record.now) g.tree (length g.marks.now) g.block) (sym c.sizes_fit-sized.ensures ∙ x)).1).2

pub returns-in_err-enter_by : goal.returns-in_err-enter_by
returns-in_err-enter_by c =
    let g = c.args in
    let p = err_from_is_err_and c.from_residual.result c.from_residual.ensures.1 in
    rw (p.1, p.2) (by_head_lem g.depth g.root_record.now g.tree g.marks.now g.block _ c.sizes_fit-sized.ensures _ c.in_err-enter_by.ensures)

pub returns-in_err-test_marks : goal.returns-in_err-test_marks
returns-in_err-test_marks c =
    let g = c.args in
    let r = c.from_residual-in_err-test_marks in
    let p = err_from_is_err_and r.result r.ensures.1 in
    rw (p.1, p.2)
    (ap (λ (a : Answer). a then test_base g.depth g.marks.now) c.in_err-test_marks.ensures
    ∙ by_head_lem g.depth g.root_record.now g.tree g.marks.now g.block _ c.sizes_fit-sized.ensures _ c.in_ok-enter_by.ensures)

pub test_base-requires : goal.test_base-requires
test_base-requires c =
    let g = c.args in
    let e = headed_as g.depth g.root_record.now g.tree g.marks.now g.block _ c.sizes_fit-sized.ensures _ c.in_ok-enter_by.ensures in
    let k = (headed_by g.depth (read_sized g.depth (length g.root_record.now) g.tree (length g.marks.now) g.block) g.root_record.now (sym e)).opened-is in
    (k.some, k.shallow, (sizes g.depth (length g.root_record.now) g.tree (length g.marks.now) g.block k.lengths).1)

pub returns : goal.returns
returns c =
    let g = c.args in
    c.test_base.ensures
    ∙ ap (λ (a : Answer). a then test_base g.depth g.marks.now) c.in_ok-test_marks.ensures
    ∙ by_head_lem g.depth g.root_record.now g.tree g.marks.now g.block _ c.sizes_fit-sized.ensures _ c.in_ok-enter_by.ensures
