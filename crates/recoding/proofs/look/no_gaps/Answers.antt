-- `no_gaps` meets its contract: symbol by symbol.
use mathlib.Core.Path.{refl, ◌∙◌}
use Prim.Native.Nat.{ℕ, suc, ◌*◌, ◌<◌}
use native.Mathlib.Omega.{arith}
use Rattle.std.proofs.Common.{rules, tests}
use Rattle.std.proofs.lemmas.Iterator.{YieldsList-from_range, serves_from_Range}
use Rattle.std.proofs.lemmas.Iterator.Search.{all_from_yields_List}
use Rattle.parity_table.specs.Shape.{n_of}
use Rattle.parity_table.proofs.Shape.{k_small}
use Rattle.equation.specs.Rooms.{Level}
use Rattle.equation.proofs.TurnLaws.{level_fewer}
use Rattle.recoding.proofs.LookLaws.{no_gap_at, none_gap}
use Rattle.recoding.proofs.look.no_gaps.Goals as goal

pub overflow_mul-data_count : goal.overflow_mul-data_count
overflow_mul-data_count c = omega (arith, c.data_count.ensures, k_small c.args.j c.requires.layers.layer)

pub all-requires-clause-callable : goal.all-requires-clause-callable
unfolding n_of
all-requires-clause-callable c =
    let a = c.args in
    let fewer : (x : ℕ) → x < 4 * c.data_count.result → Level a.root.now a.tree.now a.marks.now a.j (suc x) =
    λ x h. level_fewer (suc x) (omega (arith, c.data_count.ensures)) c.requires in
    serves_from_Range (λ x q k. search (rules, tests)) (λ x lo hi. search (rules, fewer x hi))

pub returns : goal.returns
unfolding n_of
returns c =
    let a = c.args in
    all_from_yields_List (no_gap_at a.kind a.root.now a.tree.now a.marks.now a.j) _ _ c.all.result c.all.ensures.ran
    (YieldsList-from_range 0 _ (n_of a.j) refl (omega (arith, c.data_count.ensures))) (λ x b q k. search (rules, tests))
    ∙ none_gap a.kind a.root.now a.tree.now a.marks.now a.j
