-- `outcome_result` meets its contract: an end's numbers packed.
use mathlib.Core.Path.{sym, ap, ap₂, ◌∙◌, subst}
use Rattle.std.specs.Prelude.{Ok}
use Prim.Native.Nat.{ℕ, ◌+◌, ◌*◌, ◌^◌}
use native.Mathlib.Omega.{arith}
use lib.ListN.{length}
use Rattle.root_record.specs.Records.{kind_in}
use Rattle.symbol_hash.specs.declared.Kind.{Kind}
use Rattle.repair.specs.Reports.{end_of}
use Rattle.fault_calls.specs.declared.Outcome.{Outcome}
use Rattle.fault_calls.specs.Repairing.{outcome_of, end_value, Fits, Recorded}
use Rattle.cedunmi_c.specs.Result.{packed, repair_result}
use Rattle.cedunmi_c.proofs.outcome_result.Goals as goal

pub kind-requires : goal.kind-requires
kind-requires c =
    subst (λ (q : Outcome). Recorded (length c.args.root_record.now) (outcome_of (Ok q))) c.in-Ended.is c.requires.1

pub ending_of-requires : goal.ending_of-requires
ending_of-requires c =
    let h = subst (λ (q : Outcome). Fits (kind_in c.args.root_record.now) (outcome_of (Ok q))) c.in-Ended.is c.requires.0 in
    rw c.kind.ensures h.1

pub end_result-requires : goal.end_result-requires
end_result-requires c =
    let z = c.ending_of.ensures in
    let h = subst (λ (q : Outcome). Fits (kind_in c.args.root_record.now) (outcome_of (Ok q))) c.in-Ended.is c.requires.0 in
    let v = ap (λ (k : Kind). end_value k (end_of c.in-Ended.r.end)) c.kind.ensures in
    (omega (arith, z.0, h.2), omega (arith, z.1, h.0), omega (arith, z.2, h.1, v))

pub end_result-requires-in-Misfilled : goal.end_result-requires-in-Misfilled
end_result-requires-in-Misfilled c =
    let z = c.misfilled.ensures in
    let h = subst (λ (q : Outcome). Fits (kind_in c.args.root_record.now) (outcome_of (Ok q))) c.in-Misfilled.is c.requires.0 in
    (omega (arith, z.0), omega (arith, z.1, h), omega (arith, z.2))

pub returns-in-Ended : goal.returns-in-Ended
returns-in-Ended c =
    let z = c.ending_of.ensures in
    let v = ap (λ (k : Kind). end_value k (end_of c.in-Ended.r.end)) c.kind.ensures in
    c.end_result.ensures ∙ ap₂ (λ (x y : ℕ). packed 0 (x, y)) z.0 (ap₂ (λ (x y : ℕ). x + y * 2 ^ 16) z.1 (z.2 ∙ v)) ∙ sym (ap (λ (q : Outcome). repair_result (kind_in c.args.root_record.now) (outcome_of (Ok q))) c.in-Ended.is)

pub returns-in-Misfilled : goal.returns-in-Misfilled
returns-in-Misfilled c =
    let z = c.misfilled.ensures in
    c.end_result-in-Misfilled.ensures ∙ ap₂ (λ (x y : ℕ). packed 0 (x, y)) z.0 (omega (arith, z.1, z.2)) ∙ sym (ap (λ (q : Outcome). repair_result (kind_in c.args.root_record.now) (outcome_of (Ok q))) c.in-Misfilled.is)
