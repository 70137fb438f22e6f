-- `put` meets its contract: the head, then the table's hash behind it.
use mathlib.Core.Path.{◌∙◌}
use Rattle.root_record.proofs.RecordLaws.{record_put}
use Rattle.root_record.proofs.put.Goals as goal

pub returns : goal.returns
returns c =
    record_put c.args.kind _ c.args.depth c.args.size c.args.table.now c.args.root_record.now _ _ c.from.ensures c.put.ensures (c.copy_from_slice.ensures.after ∙ c.digest_of.ensures)
