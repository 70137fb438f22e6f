-- `repair_result` meets its contract: what a repair came to, or a stop's number and values.
use mathlib.Core.Path.{sym, ap, ◌∙◌, subst}
use lib.ListN.{length}
use Rattle.std.specs.Prelude.{Result}
use Rattle.calls.specs.declared.Stop.{Stop}
use Rattle.root_record.specs.Records.{kind_in}
use Rattle.fault_calls.specs.declared.Outcome.{Outcome}
use Rattle.fault_calls.specs.Repairing.{outcome_of, Fits, Recorded}
use Rattle.cedunmi_c.specs.Result.{repair_result}
use Rattle.cedunmi_c.proofs.repair_result.Goals as goal

pub outcome_result-requires : goal.outcome_result-requires
outcome_result-requires c = (
  subst (λ (q : Result Outcome Stop). Fits (kind_in c.args.root_record.now) (outcome_of q)) c.in-Ok.is c.requires.0,
  subst (λ (q : Result Outcome Stop). Recorded (length c.args.root_record.now) (outcome_of q)) c.in-Ok.is c.requires.1,
)

pub call_result-requires : goal.call_result-requires
call_result-requires c =
    subst (λ (q : Result Outcome Stop). Fits (kind_in c.args.root_record.now) (outcome_of q)) c.in-Err.is c.requires.0

pub returns-in-Ok : goal.returns-in-Ok
returns-in-Ok c = c.outcome_result.ensures ∙ sym (ap (λ (q : Result Outcome Stop). repair_result (kind_in c.args.root_record.now) (outcome_of q)) c.in-Ok.is)

pub returns-in-Err : goal.returns-in-Err
returns-in-Err c = c.call_result.ensures ∙ sym (ap (λ (q : Result Outcome Stop). repair_result (kind_in c.args.root_record.now) (outcome_of q)) c.in-Err.is)
