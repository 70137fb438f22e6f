-- `gather` meets its contract. The loop keeps `Gathered`: what is gathered, with what is left, is the whole.
use mathlib.Core.Path.{ap, ◌∙◌}
use Prim.Native.Nat.{suc, ◌+◌, ◌*◌, ◌≤◌}
use native.Mathlib.Omega.{arith}
use lib.ListN.{length}
use Rattle.model.proofs.Bytes.{length-zeros}
use Rattle.fault_proof.proofs.GivenLaws.{gathered_start, gathered_skip, way_room, gathered_on, gathered_end}
use Rattle.fault_proof.proofs.given.gather.Goals as goal
use Rattle.fault_proof.proofs.given.gather.Goals.{Then-y-x, then-y-x, else-y-x}

pub loop-y-init : goal.loop-y-init
loop-y-init c =
    let a = c.args in
    let pre = c.requires in
    gathered_start a.b.now a.members.now a.j a.x a.at a.acc.now pre.0 (omega (arith, pre.1))

-- the member stands in b
here : (c : Then-y-x) → c.loop-y.from + 256 * suc c.args.j ≤ length c.args.b.now
here c =
    let a = c.args in
    let l = c.loop-y in
    way_room a.b.now a.members.now a.j a.x l.y-index (omega arith) c.if-y-x.true l.from 0 l.invariant.room

pub xor_at-requires : goal.xor_at-requires
xor_at-requires c = omega (arith, c.loop-y.invariant.sized, here (goal.at.xor_at-requires c).Then-y-x)

pub overflow_add-from : goal.overflow_add-from
overflow_add-from c = omega (arith, here (goal.at.overflow_add-from c).Then-y-x)

pub overflow_mul-from : goal.overflow_mul-from
overflow_mul-from c = omega (arith, here (goal.at.overflow_mul-from c).Then-y-x)

pub overflow_add-from-then-y-x : goal.overflow_add-from-then-y-x
overflow_add-from-then-y-x c = omega (arith, here (goal.at.overflow_add-from-then-y-x c).Then-y-x)

pub loop-y-preserved : goal.loop-y-preserved
loop-y-preserved c =
    let a = c.args in
    let l = c.loop-y in
    elim c.if-y-x.branch [
      | then-y-x w ↦ (gathered_on a.b.now a.members.now a.j a.x l.y-index (omega arith) w.if-y-x.true l.from a.at c.if-y-x.from l.acc c.if-y-x.acc w.from-is (w.acc-is ∙ w.xor_at.ensures) l.invariant)
      | else-y-x w ↦ (rw (w.acc-is, w.from-is) (gathered_skip a.b.now a.members.now a.j a.x l.y-index (omega arith) w.if-y-x.false a.at l.acc l.from l.invariant))
    ]

pub shape_of-acc : goal.shape_of-acc
shape_of-acc c =
    let pre = c.requires in
    let l = c.loop-y in
    omega (arith, l.invariant.sized, ap length pre.0, length-zeros)

pub returns : goal.returns
returns c =
    let a = c.args in
    let l = c.loop-y in
    gathered_end a.b.now a.members.now a.j a.x a.at l.acc l.y-index l.from (omega arith) l.invariant
