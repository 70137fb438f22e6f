-- `repair_with` meets its contract: sweep, peeling and (c), with the layer's own lists.
use mathlib.Core.List.{List}
use mathlib.Core.Path.{◌∙◌, ap, refl, subst, sym}
use Prim.Native.Nat.{ℕ}
use native.Mathlib.Omega.{arith}
use lib.ListN.{length, length-replicate, replicate}
use Rattle.parity_table.specs.Parse.{table_of}
use Rattle.parity_table.specs.Shape.{k_of, n_of}
use Rattle.model.proofs.Hung.{tree_hangs}
use Rattle.model.proofs.Shapes.{tree_ok}
use Rattle.model.specs.Shape.{places, tree}
use Rattle.equation.specs.Rooms.{Level}
use Rattle.repair.proofs.LayerLaws.{countable, equations, given_keep, layer_below, layered, level, own_keep, peelable, reads, threadable}
use Rattle.repair.proofs.layer.repair_with.Goals as goal

pub number_of-from-requires : goal.number_of-from-requires
unfolding k_of
number_of-from-requires c =
    let g = c.requires in
    (layer_below c.parts.ensures.indexed g.0 c.args.j g.1, omega (arith, tree_ok.shape.some c.args.j))

pub sweep_layer-requires : goal.sweep_layer-requires
unfolding n_of
sweep_layer-requires c =
    let a = c.args in
    let g = c.requires in
    subst (Level a.root.now a.tree.now a.marks.now a.j) (sym g.3.last-full) (level c.parts.ensures.indexed g.0 a.j g.1)

pub set_up-requires : goal.set_up-requires
set_up-requires c =
    let a = c.args in
    let g = c.requires in
    let own = g.3 in
    let k = given_keep {t' = a.tree.now} {o' = a.out.now} refl c.sweep_layer.auto.marks refl g.0 in (
      threadable c.parts.ensures.indexed g.0 a.j g.1 _ c.number_of-from.ensures own,
      countable c.parts.ensures.indexed k a.j g.1 _ c.number_of-from.ensures own,
      own.absent-full ∙ sym own.used-full,
      omega (arith, own.order_full, own.used-full),
    )

pub peel_layer-run-requires : goal.peel_layer-run-requires
peel_layer-run-requires c =
    let a = c.args in
    let g = c.requires in
    let w = c.sweep_layer in
    let u = c.set_up.ensures in
    let k = given_keep w.auto.tree w.auto.marks refl g.0 in
    let own = own_keep u.4 g.3 in
    (peelable c.parts.ensures.indexed k a.j g.1 _ c.number_of-from.ensures own u.1 u.2 u.3, g.2)

pub settle-requires : goal.settle-requires
unfolding n_of places
settle-requires c =
    let a = c.args in
    let g = c.requires in
    let v = level c.parts.ensures.indexed g.0 a.j g.1 in
    (layer_below c.parts.ensures.indexed g.0 a.j g.1, omega (arith, v.marks-room))

pub returns : goal.returns
unfolding n_of
returns c =
    let a = c.args in
    let g = c.requires in
    let x = c.parts.ensures.indexed in
    let tbl : List (List (List ℕ)) = table_of c.parts.result.0.now in
    let u = c.set_up.ensures.0 in
    let p = c.peel_layer-run.ensures in
    let n = ap length u ∙ length-replicate {A = ℕ} (length a.lists.now.used.now) 0 ∙ g.3.used-full in (
      rw (← c.parts.ensures.layers) (layered a.kind a.root.now tbl a.j _ g.3.last-full (c.sweep_layer.ensures tree (tree_hangs a.j))
          (u ∙ ap (λ (m : ℕ). replicate m 0) (g.3.used-full ∙ sym (equations x g.0 a.j g.1)))
          (p.0 tree (tree_hangs a.j) tbl (reads x g.0 a.j g.1 _ c.number_of-from.ensures _ n)) _ c.settle.ensures),
      omega (arith, p.1, n),
    )
