-- `all_hold` meets its contract: equation by equation.
use mathlib.Core.Path.{refl, ◌∙◌}
use Prim.Native.Nat.{◌*◌}
use native.Mathlib.Omega.{arith}
use Rattle.std.proofs.Common.{rules, tests}
use Rattle.std.proofs.lemmas.Iterator.{YieldsList-from_range}
use Rattle.std.proofs.lemmas.Iterator.Search.{all_from_yields_List}
use Rattle.parity_table.specs.Shape.{k_of}
use Rattle.parity_table.proofs.Shape.{k_small}
use Rattle.recoding.proofs.LookLaws.{each_holds, holds_at}
use Rattle.recoding.proofs.look.all_hold.Goals as goal

pub overflow_mul-data_count : goal.overflow_mul-data_count
overflow_mul-data_count c = omega (arith, c.data_count.ensures, k_small c.args.j c.requires.2.layer)

pub returns : goal.returns
returns c =
    let a = c.args in
    all_from_yields_List (holds_at a.table.now.layers a.tree.now a.j) _ _ c.all.result c.all.ensures.ran
    (YieldsList-from_range 0 _ (3 * k_of a.j) refl (omega (arith, c.data_count.ensures))) (λ x b q k. search (rules, tests))
    ∙ each_holds c.requires.0 a.tree.now a.j c.requires.1
