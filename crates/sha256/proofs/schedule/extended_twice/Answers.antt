-- `extended_twice` meets its contract: two words more.
use Rattle.sha256.proofs.ScheduleLaws.{extended-two}
use Rattle.sha256.proofs.schedule.extended_twice.Goals as goal

pub returns : goal.returns
returns c =
    extended-two c.args.w c.extended_once.result c.extended_once-2.result
    c.args.t c.extended_once.ensures c.extended_once-2.ensures
