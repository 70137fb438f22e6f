-- `tests` meets its contract: one test after the other.
use mathlib.Core.Path.{sym, ap, ◌∙◌}
use mathlib.Core.Bool.{Bool}
use lib.ListN.{length}
use Rattle.std.proofs.lemmas.Result.{err_from_is_err_and}
use Rattle.octets.proofs.Choice.{and_yes}
use Rattle.parity_table.specs.Shape.{depth_fits}
use Rattle.calls.specs.Tests.{headed}
use Rattle.calls.proofs.RecordLaws.{headed_by, headed-sized}
use Rattle.sample_calls.specs.Checking.{check_sized}
use Rattle.sample_calls.proofs.CheckingLaws.{sizes, by_headed}
use Rattle.sample_calls.proofs.checking.tests.Goals as goal

pub enter_by-requires : goal.enter_by-requires
enter_by-requires c e =
    let g = c.args in
    (sizes g.depth _ _ (and_yes (depth_fits g.depth) (check_sized g.depth (length g.root_record.now) g.sample) (sym c.sizes_fit-sized.ensures ∙ e)).1).0

pub returns-in_err-enter_by : goal.returns-in_err-enter_by
returns-in_err-enter_by c =
    let g = c.args in
    let p = err_from_is_err_and c.from_residual.result c.from_residual.ensures.1 in
    rw (p.1, p.2) (by_headed g.depth g.number g.root_record.now g.sample _ c.sizes_fit-sized.ensures _ c.in_err-enter_by.ensures)

pub test_number-requires : goal.test_number-requires
test_number-requires c =
    let g = c.args in
    let sized = check_sized g.depth (length g.root_record.now) g.sample in
    let e = c.in_ok-enter_by.ensures ∙ ap (λ (b : Bool). headed g.depth b g.root_record.now) c.sizes_fit-sized.ensures ∙ headed-sized g.depth sized g.root_record.now in
    let k = (headed_by g.depth sized g.root_record.now (sym e)).opened-is in
    (k.some, k.shallow)

pub returns : goal.returns
returns c =
    let g = c.args in
    c.test_number.ensures ∙ by_headed g.depth g.number g.root_record.now g.sample _ c.sizes_fit-sized.ensures _ c.in_ok-enter_by.ensures
