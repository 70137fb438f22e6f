-- `check_table` meets its contract: small arrays serve a depth that is not deep.
use native.Mathlib.Omega.{arith}
use Rattle.parity_table.specs.Shape.{max_depth, shallow}
use Rattle.calls.proofs.AdmissionLaws.{deep_up_to, shallow_up_to, words_for_lem}
use Rattle.calls.proofs.admission.check_table.Goals as goal

pub check_by-requires : goal.check_by-requires
check_by-requires c = record { room = words_for_lem c.args.depth max_depth (deep_up_to c.args.depth); most = omega arith }

pub check_by-requires-2 : goal.check_by-requires-2
check_by-requires-2 c =
    record {
      room = words_for_lem c.args.depth shallow (shallow_up_to c.args.depth c.is_deep.ensures c.if-is_deep.false);
      most = omega arith;
    }
