-- `lower` meets its contract. The loop keeps: what was noted, with what is left of the thread, is what was there.
use mathlib.Core.Path.{◌∙◌, refl}
use Prim.Native.Nat.{◌-◌, ◌<◌}
use native.Mathlib.Omega.{arith}
use Rattle.peeling.proofs.WalkLaws.{walk_end, walk_equation, walk_less, walk_slot, walk_some, walk_start, walk_turn}
use Rattle.peeling.proofs.search.lower.Goals as goal

pub offset_bounds-last-x : goal.offset_bounds-last-x
offset_bounds-last-x c = omega (arith, c.requires.thread.known)

pub bounds-last-x : goal.bounds-last-x
bounds-last-x c = omega (arith, c.requires.thread.known)

pub overflow_cast-slot : goal.overflow_cast-slot
overflow_cast-slot c = omega (arith, c.type_inv.last c.args.x)

pub loop-slot-init : goal.loop-slot-init
loop-slot-init c =
    (refl, refl, c.requires.ordered, λ ws starts from k. walk_start k c.args.absent.now)

pub note-requires : goal.note-requires
note-requires c =
    let l = c.loop-slot in
    let k = c.requires.thread in
    let w = l.invariant.3 c.requires.words c.requires.starts c.requires.from k in
    let h : 0 < l.slot = omega (arith, c.loop-slot-test.true) in
    (l.invariant.2, l.invariant.0 ∙ c.requires.sized, c.requires.low, walk_equation k w h, walk_some k w h c.requires.enough)

pub offset_bounds-next-s : goal.offset_bounds-next-s
offset_bounds-next-s c =
    let l = c.loop-slot in
    omega (arith, walk_slot c.requires.thread (l.invariant.3 c.requires.words c.requires.starts c.requires.from c.requires.thread) (omega (arith, c.loop-slot-test.true)), c.requires.thread.room)

pub bounds-next-s : goal.bounds-next-s
bounds-next-s c =
    let l = c.loop-slot in
    omega (arith, walk_slot c.requires.thread (l.invariant.3 c.requires.words c.requires.starts c.requires.from c.requires.thread) (omega (arith, c.loop-slot-test.true)), c.requires.thread.room)

pub overflow_cast-slot-in-loop-slot : goal.overflow_cast-slot-in-loop-slot
overflow_cast-slot-in-loop-slot c = omega (arith, c.type_inv.next (c.loop-slot.slot - 1))

pub loop-slot-smaller : goal.loop-slot-smaller
loop-slot-smaller c =
    let l = c.loop-slot in
    walk_less c.requires.thread (l.invariant.3 c.requires.words c.requires.starts c.requires.from c.requires.thread) (omega (arith, c.loop-slot-test.true))

pub loop-slot-preserved : goal.loop-slot-preserved
loop-slot-preserved c =
    let l = c.loop-slot in
    let v = c.note in
    let h : 0 < l.slot = omega (arith, c.loop-slot-test.true) in
    let k₀ = c.requires.thread in
    let some = walk_some k₀ (l.invariant.3 c.requires.words c.requires.starts c.requires.from k₀) h c.requires.enough in
    (v.auto.absent ∙ l.invariant.0, v.auto.order ∙ l.invariant.1, v.ensures.1, λ ws starts from k. walk_turn k (l.invariant.3 ws starts from k) h _ v.ensures.0 (l.invariant.0 ∙ c.requires.sized) some)

pub shape_of-absent : goal.shape_of-absent
shape_of-absent c = c.loop-slot.invariant.0

pub shape_of-order : goal.shape_of-order
shape_of-order c = c.loop-slot.invariant.1

pub returns : goal.returns
returns c =
    let l = c.loop-slot in
    (l.invariant.2, λ ws starts from k. walk_end k (l.invariant.3 ws starts from k) (omega arith))
