-- `test_marks` meets its contract: by the first place that the search finds.
use Rattle.std.specs.Prelude.{Some, None}
use Rattle.calls.proofs.TestLaws.{by_position}
use Rattle.calls.proofs.marks.test_marks.Goals as goal

pub returns-in-Some : goal.returns-in-Some
returns-in-Some c = by_position c.args.marks.now (Some c.in-Some.p) c.in-Some.ensures

pub returns-in-None : goal.returns-in-None
returns-in-None c = by_position c.args.marks.now None c.in-None.ensures
