-- `extended_once` meets its contract: one word more.
use Rattle.std.proofs.Common.{arith, rules}
use Rattle.sha256.proofs.ScheduleLaws.{extended-one}
use Rattle.sha256.proofs.schedule.extended_once.Goals as goal

pub returns : goal.returns
returns c = extended-one _ c.args.t _ (omega arith) (search rules) c.next.ensures
