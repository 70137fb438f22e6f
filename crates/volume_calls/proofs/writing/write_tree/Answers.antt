-- `write_tree` meets its contract: small arrays serve a depth that is not deep.
use native.Mathlib.Omega.{arith}
use Rattle.parity_table.specs.Shape.{max_depth, shallow}
use Rattle.calls.proofs.AdmissionLaws.{room_for, deep_up_to, shallow_up_to}
use Rattle.volume_calls.proofs.writing.write_tree.Goals as goal

pub write_by-requires : goal.write_by-requires
write_by-requires c = record { room = room_for c.args.depth max_depth (deep_up_to c.args.depth); most = (omega arith, omega arith) }

pub write_by-requires-2 : goal.write_by-requires-2
write_by-requires-2 c =
    record { room = room_for c.args.depth shallow (shallow_up_to c.args.depth c.is_deep.ensures c.if-is_deep.false); most = (omega arith, omega arith) }
