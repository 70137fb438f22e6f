-- `repair_tree` meets its contract: small arrays serve a depth that is not deep.
use Rattle.parity_table.specs.Shape.{max_depth, shallow}
use Rattle.calls.proofs.AdmissionLaws.{deep_up_to, room_for, shallow_up_to}
use Rattle.fault_calls.proofs.RepairingLaws.{lists_for}
use Rattle.fault_calls.proofs.repairing.repair_tree.Goals as goal

pub repair_by-requires-clause-room : goal.repair_by-requires-clause-room
repair_by-requires-clause-room c = room_for c.args.depth max_depth (deep_up_to c.args.depth)

pub repair_by-requires-clause-lists : goal.repair_by-requires-clause-lists
repair_by-requires-clause-lists c = lists_for c.args.depth max_depth (deep_up_to c.args.depth)

pub repair_by-requires-2-clause-room : goal.repair_by-requires-2-clause-room
repair_by-requires-2-clause-room c = room_for c.args.depth shallow (shallow_up_to c.args.depth c.is_deep.ensures c.if-is_deep.false)

pub repair_by-requires-2-clause-lists : goal.repair_by-requires-2-clause-lists
repair_by-requires-2-clause-lists c = lists_for c.args.depth shallow (shallow_up_to c.args.depth c.is_deep.ensures c.if-is_deep.false)
