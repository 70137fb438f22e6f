-- `put_table` meets its contract. The loop keeps `Putting`: what is left is the layers from j on, and the end word.
use mathlib.Core.Path.{sym, ap, ◌∙◌}
use mathlib.Core.List.{◌++◌}
use Prim.Native.Nat.{ℕ, ◌+◌}
use native.Mathlib.Omega.{arith}
use lib.ListN.{length-set}
use Rattle.house_table.specs.House.{house_layer}
use Rattle.octets.proofs.Writes.{putting_start, putting_step, putting_room}
use Rattle.house_table.proofs.HouseParts.{layers_left, layers-turn, layers-room, closed, house_small}
use Rattle.parity_table.proofs.Shape.{k_small}
use Rattle.parity_table.proofs.Shape.{k_pos}
use Rattle.house_table.proofs.put_table.Goals as goal

pub loop-j-init : goal.loop-j-init
loop-j-init c = let a = c.args in (omega arith, putting_start a.out.now 0 (layers_left a.depth 0))

pub data_count-k-requires : goal.data_count-k-requires
data_count-k-requires c = omega (arith, c.requires.0)

pub overflow_cast-j : goal.overflow_cast-j
overflow_cast-j c = omega (arith, c.requires.0)

pub overflow_cast-k : goal.overflow_cast-k
overflow_cast-k c =
    omega
    (arith, k_small c.loop-j.j (omega (arith, c.requires.0)), c.data_count-k.ensures)

pub put_layer-at-requires : goal.put_layer-at-requires
put_layer-at-requires c =
    let a = c.args in
    let l = c.loop-j in
    let pre = c.requires in
    let k = c.data_count-k in
    let t =
    layers-turn a.depth l.j (omega arith)
    ∙ ap (λ (k : ℕ). house_layer l.j k ++ layers_left a.depth (l.j + 1)) (sym k.ensures) in (
      omega (arith, k_pos l.j, k.ensures),
      omega (arith, k_small l.j (omega (arith, pre.0)), k.ensures),
      omega (arith, pre.0),
      putting_room l.invariant.1 (house_layer l.j k.result) (layers_left a.depth (l.j + 1)) t
          (layers-room a.depth a.out.now pre.1),
    )

pub loop-j-preserved : goal.loop-j-preserved
loop-j-preserved c =
    let a = c.args in
    let l = c.loop-j in
    let k = c.data_count-k in
    let t =
    layers-turn a.depth l.j (omega arith)
    ∙ ap (λ (k : ℕ). house_layer l.j k ++ layers_left a.depth (l.j + 1)) (sym k.ensures) in
    let r = c.put_layer-at in (
      omega arith,
      putting_step l.invariant.1 (house_layer l.j k.result) (layers_left a.depth (l.j + 1)) t r.new.out r.result r.ensures.1
          r.ensures.0,
    )

pub overflow_cast-out : goal.overflow_cast-out
overflow_cast-out c =
    let a = c.args in
    let l = c.loop-j in
    let z = c.requires in
    let w = closed a.depth l.j a.out.now l.out l.at (omega arith) z.1 l.invariant.1 in
    omega (arith, w.last, house_small a.depth z.0)

pub overflow_add-out : goal.overflow_add-out
overflow_add-out c =
    let a = c.args in
    let l = c.loop-j in
    let z = c.requires in
    let w = closed a.depth l.j a.out.now l.out l.at (omega arith) z.1 l.invariant.1 in
    omega (arith, w.last, house_small a.depth z.0)

pub offset_bounds-out-at : goal.offset_bounds-out-at
offset_bounds-out-at c =
    let a = c.args in
    let l = c.loop-j in
    let z = c.requires in
    let w = closed a.depth l.j a.out.now l.out l.at (omega arith) z.1 l.invariant.1 in
    omega (arith, w.last, house_small a.depth z.0)

pub bounds-out-at : goal.bounds-out-at
bounds-out-at c =
    let a = c.args in
    let l = c.loop-j in
    let z = c.requires in
    let w = closed a.depth l.j a.out.now l.out l.at (omega arith) z.1 l.invariant.1 in
    w.inside

pub shape_of-out : goal.shape_of-out
shape_of-out c = simp length-set c.loop-j.invariant.1.long

pub returns : goal.returns
returns c =
    let a = c.args in
    let l = c.loop-j in
    let z = c.requires in
    let w = closed a.depth l.j a.out.now l.out l.at (omega arith) z.1 l.invariant.1 in
    w.whole
