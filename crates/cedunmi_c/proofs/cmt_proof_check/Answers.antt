-- `cmt_proof_check` meets its contract: what the call answers, packed.
use mathlib.Core.Path.{sym, ap, ◌∙◌, subst}
use Rattle.calls.specs.Stops.{Small}
use Rattle.fault_calls.proofs.CheckingLaws.{small}
use Rattle.cedunmi_c.specs.Result.{call_result}
use Rattle.cedunmi_c.proofs.cmt_proof_check.Goals as goal

pub call_result-requires : goal.call_result-requires
call_result-requires c =
    let g = c.args in
    subst Small (sym c.check.ensures) (small g.depth g.root_record.now g.table.now g.proof.now)

pub returns : goal.returns
returns c = c.call_result.ensures ∙ ap call_result c.check.ensures
