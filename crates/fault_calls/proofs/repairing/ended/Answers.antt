-- `ended` meets its contract: whole is looked at once more.
use mathlib.Core.Path.{sym, ap, ◌∙◌}
use Rattle.repair.specs.declared.End.{End}
use Rattle.repair.specs.Reports.{end_of}
use Rattle.fault_calls.specs.Repairing.{end_number}
use Rattle.fault_calls.proofs.RepairingLaws.{misfills, ends_so}
use Rattle.fault_calls.proofs.repairing.ended.Goals as goal

pub returns-in-Whole : goal.returns-in-Whole
returns-in-Whole c =
    let r = c.args.report in
    misfills _ r.stored (end_of r.end) (ap (λ (z : End). end_number (end_of z)) c.in-Whole.is) (sym c.zero_filled.ensures ∙ c.if-not-zero_filled.true)

pub returns-in_default : goal.returns-in_default
returns-in_default c =
    let r = c.args.report in
    ends_so _ r.stored (end_of r.end) (λ e. sym c.zero_filled.ensures ∙ c.if-not-zero_filled.false)
