-- `end_value` meets its contract: each end in its arm.
use mathlib.Core.Path.{sym, ap, subst, ◌∙◌}
use Prim.Native.Nat.{◌^◌, ◌<◌}
use Rattle.repair.specs.declared.End.{End}
use Rattle.repair.specs.Reports.{end_of}
use Rattle.fault_calls.specs.Repairing.{end_value}
use Rattle.fault_calls.proofs.numbering.end_value.Goals as goal

pub twins_value-requires : goal.twins_value-requires
twins_value-requires c = subst (λ (z : End). end_value c.args.kind (end_of z) < 2 ^ 16) c.in-Twins.is c.requires

pub returns-in-Fault : goal.returns-in-Fault
returns-in-Fault c = sym (ap (λ (z : End). end_value c.args.kind (end_of z)) c.in-Fault.is)

pub returns-in-Twins : goal.returns-in-Twins
returns-in-Twins c = c.twins_value.ensures ∙ sym (ap (λ (z : End). end_value c.args.kind (end_of z)) c.in-Twins.is)
