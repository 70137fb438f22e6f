-- `put_layer` meets its contract. The loop keeps `Putting`: what is left is the equations from e on.
use mathlib.Core.Path.{ap, ◌∙◌}
use Prim.Native.Nat.{◌+◌}
use native.Mathlib.Omega.{arith}
use lib.ListN.{length, set, length-set}
use Rattle.parity_table.specs.Table.{word}
use Rattle.house_table.specs.House.{house_row}
use Rattle.octets.proofs.Writes.{putting_start, putting_step, putting_room, putting_end}
use Rattle.house_table.proofs.HouseParts.{rows_left, rows_turn, rows_none, rows_all, rows_room, layer-whole}
use Rattle.house_table.proofs.put_layer.Goals as goal

pub loop-e-init : goal.loop-e-init
loop-e-init c =
    let a = c.args in
    (omega arith, putting_start (set a.out.now a.at (word 1 a.j)) (a.at + 1) (rows_left a.k 0))

pub put_row-p-requires : goal.put_row-p-requires
put_row-p-requires c =
    let a = c.args in
    let l = c.loop-e in (
      c.requires.0,
      c.requires.1,
      omega arith,
      putting_room l.invariant.1 (house_row a.k l.e) (rows_left a.k (l.e + 1)) (rows_turn a.k l.e (omega arith))
          (rows_room a.out.now a.at a.j a.k (word 1 a.j) c.requires.3),
    )

pub loop-e-preserved : goal.loop-e-preserved
loop-e-preserved c =
    let a = c.args in
    let l = c.loop-e in
    let r = c.put_row-p in (
      omega arith,
      putting_step l.invariant.1 (house_row a.k l.e) (rows_left a.k (l.e + 1)) (rows_turn a.k l.e (omega arith)) r.new.out
          r.result r.ensures.1 r.ensures.0,
    )

pub shape_of-out : goal.shape_of-out
shape_of-out c = c.loop-e.invariant.1.long ∙ simp length-set

pub returns : goal.returns
returns c =
    let a = c.args in
    let l = c.loop-e in
    let w = putting_end l.invariant.1 (rows_none a.k l.e (omega arith)) in
    (omega (arith, w.0, ap length (rows_all a.k)), w.1 ∙ layer-whole a.out.now a.at a.j a.k)
