-- `cmt_repair` meets its contract: what the call answers, packed, and leaves.
use mathlib.Core.Path.{sym, ap, subst}
use lib.ListN.{length}
use Rattle.root_record.specs.Records.{kind_in}
use Rattle.fault_calls.specs.Repairing.{Result, RepairLeft, Fits, Recorded}
use Rattle.fault_calls.proofs.Ends.{repair-fits, repair_recorded}
use Rattle.cedunmi_c.proofs.ResultLaws.{repair-left}
use Rattle.cedunmi_c.proofs.cmt_repair.Goals as goal

pub repair_result-requires : goal.repair_result-requires
repair_result-requires c =
    let g = c.args in
    let e = sym (ap (λ (w : RepairLeft Result). w.answer) c.repair_tree-outcome.ensures) in (
      subst (Fits (kind_in g.root_record.now)) e (repair-fits (kind_in g.root_record.now) g.depth g.root_record.now g.table.now g.tree.now g.marks.now g.output.now),
      subst (Recorded (length g.root_record.now)) e (repair_recorded g.depth g.root_record.now g.table.now g.tree.now g.marks.now g.output.now),
    )

pub returns : goal.returns
returns c = repair-left _ _ _ c.repair_result.ensures _ _ _ _ c.repair_tree-outcome.ensures
