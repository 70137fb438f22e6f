-- `recode` meets its contract: small arrays serve a depth that is not deep.
use Rattle.parity_table.specs.Shape.{max_depth, shallow}
use Rattle.calls.proofs.AdmissionLaws.{deep_up_to, room_for, shallow_up_to}
use Rattle.recoding.proofs.recoding.recode.Goals as goal

pub recode_by-requires-clause-room : goal.recode_by-requires-clause-room
recode_by-requires-clause-room c = room_for c.args.depth max_depth (deep_up_to c.args.depth)

pub recode_by-requires-2-clause-room : goal.recode_by-requires-2-clause-room
recode_by-requires-2-clause-room c = room_for c.args.depth shallow (shallow_up_to c.args.depth c.is_deep.ensures c.if-is_deep.false)
