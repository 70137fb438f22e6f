-- `test_head` meets its contract: the head is wrong, or right.
use mathlib.Core.Path.{sym, ◌∙◌}
use Rattle.calls.proofs.RecordLaws.{head-wrong, head-fits}
use Rattle.calls.proofs.records.test_head.Goals as goal

pub returns-then-not-head_right : goal.returns-then-not-head_right
returns-then-not-head_right c =
    head-wrong c.args.depth c.args.root_record.now (sym c.head_right.ensures ∙ c.if-not-head_right.true)

pub returns : goal.returns
returns c =
    head-fits c.args.depth c.args.root_record.now (sym c.head_right.ensures ∙ c.if-not-head_right.false)
