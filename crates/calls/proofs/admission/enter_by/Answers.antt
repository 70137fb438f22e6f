-- `enter_by` meets its contract: 1 and 2, then 11.
use mathlib.Core.Path.{sym}
use Rattle.calls.proofs.TestLaws.{opened_by}
use Rattle.calls.proofs.admission.enter_by.Goals as goal

pub test_head-requires : goal.test_head-requires
test_head-requires c =
    let k = opened_by c.args.depth c.args.sized (sym c.in_ok-enter.ensures) in
    (k.some, k.shallow, c.requires k.lengths)
