-- `put_parities` meets its contract. The loop keeps: what is left to do gives what all of it gives.
use mathlib.Core.Path.{sym, ◌∙◌}
use native.Mathlib.Omega.{arith}
use Rattle.coded_tree.proofs.ParityLaws.{members-inside, parity_inside, parity_step, layer-done}
use Rattle.parity_table.proofs.Shape.{k_small}
use Rattle.coded_tree.proofs.parity.put_parities.Goals as goal

pub data_count-k-requires : goal.data_count-k-requires
data_count-k-requires c = omega (arith, c.requires.0.shallow)

pub first_place-base-requires : goal.first_place-base-requires
first_place-base-requires c = omega (arith, c.requires.0.shallow)

pub overflow_mul-e-end : goal.overflow_mul-e-end
overflow_mul-e-end c = omega (arith, k_small c.args.j (omega (arith, c.requires.0.shallow)), c.data_count-k.ensures)

pub overflow_add-k : goal.overflow_add-k
overflow_add-k c = omega (arith, k_small c.args.j (omega (arith, c.requires.0.shallow)), c.data_count-k.ensures)

pub put_parity-requires : goal.put_parity-requires
put_parity-requires c =
    let base = c.first_place-base.ensures in
    let k = c.data_count-k.ensures in
    let rules = c.requires.0.rules in (
      base,
      omega (arith, base, c.requires.2),
      parity_inside _ _ rules c.args.j c.requires.1 c.loop-e.e _ k (omega arith) _ c.members.ensures,
      members-inside _ _ rules c.args.j c.requires.1 c.loop-e.e _ k (omega arith) _ c.members.ensures,
    )

pub loop-e-preserved : goal.loop-e-preserved
loop-e-preserved c =
    let l = c.loop-e in
    sym (parity_step _ _ c.requires.0.rules c.args.j c.requires.1 l.e _ c.data_count-k.ensures (omega arith) _ c.members.ensures l.tree _ c.put_parity.ensures)
    ∙ l.invariant

pub returns : goal.returns
returns c = sym (layer-done _ _ c.requires.0.rules c.args.j c.requires.1 c.loop-e.e (omega arith) c.loop-e.tree) ∙ c.loop-e.invariant
