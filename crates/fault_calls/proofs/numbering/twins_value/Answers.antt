-- `twins_value` meets its contract: of one kind 0, of the other layer and number.
use mathlib.Core.Path.{sym, ap, subst}
use Prim.Native.Nat.{◌^◌, ◌<◌}
use native.Mathlib.Omega.{arith}
use Rattle.symbol_hash.specs.declared.Kind.{Kind}
use Rattle.symbol_hash.specs.declared.Kind.TheVariants.{Placed}
use Rattle.model.specs.Repair.{twins}
use Rattle.fault_calls.specs.Repairing.{end_value}
use Rattle.fault_calls.proofs.numbering.twins_value.Goals as goal

pub overflow_mul-result : goal.overflow_mul-result
overflow_mul-result c =
    let low : end_value Placed (twins c.args.layer c.args.number) < 2 ^ 16 =
    subst (λ (k : Kind). end_value k (twins c.args.layer c.args.number) < 2 ^ 16) c.in-Placed.is c.requires in
    omega (arith, low)

pub overflow_add-result : goal.overflow_add-result
overflow_add-result c =
    let low : end_value Placed (twins c.args.layer c.args.number) < 2 ^ 16 =
    subst (λ (k : Kind). end_value k (twins c.args.layer c.args.number) < 2 ^ 16) c.in-Placed.is c.requires in
    omega (arith, low)

pub returns-in-Placed : goal.returns-in-Placed
returns-in-Placed c =
    sym (ap (λ (k : Kind). end_value k (twins c.args.layer c.args.number)) c.in-Placed.is)
