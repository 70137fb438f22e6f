-- `put_given` meets its contract. The loop keeps: the members before i are written.
use mathlib.Core.List.{List}
use mathlib.Core.Path.{◌∙◌, ap, subst, sym}
use Prim.Native.Nat.{◌+◌, ◌<◌, ℕ}
use native.Mathlib.Omega.{arith}
use lib.ListN.{length}
use Rattle.fault_writer.proofs.ProofLaws.{GivenAt, given-ends, given-room, given_skip, given_start, given-turn, given-written, member-layers}
use Rattle.fault_writer.proofs.proof.put_given.Goals as goal
use Rattle.fault_writer.proofs.proof.put_given.Goals.{then-y-x, else-y-x}

pub loop-member-init : goal.loop-member-init
loop-member-init c = given_start c.args.tree.now c.args.members.now c.args.x c.args.j c.args.at c.args.out.now

pub put_way-requires : goal.put_way-requires
put_way-requires c =
    let l = c.loop-member in
    let h : l.member-index < length c.args.members.now = omega arith in
    let b = member-layers c.args.tree.now c.args.members.now c.args.j c.requires.0 l.member-index h in
    (b, given-room c.args.tree.now c.args.members.now c.args.x c.args.j c.args.at c.args.out.now c.requires.1 l.member-index l.p l.out l.invariant h c.if-y-x.true b)

pub overflow_add-p-then-y-x : goal.overflow_add-p-then-y-x
overflow_add-p-then-y-x c =
    let l = c.loop-member in
    let h : l.member-index < length c.args.members.now = omega arith in
    let b = member-layers c.args.tree.now c.args.members.now c.args.j c.requires.0 l.member-index h in
    omega (arith, given-room c.args.tree.now c.args.members.now c.args.x c.args.j c.args.at c.args.out.now c.requires.1 l.member-index l.p l.out l.invariant h c.if-y-x.true b, l.invariant.sized)

pub loop-member-preserved : goal.loop-member-preserved
loop-member-preserved c =
    let l = c.loop-member in
    let i = l.member-index in
    let h : i < length c.args.members.now = omega arith in
    let b = member-layers c.args.tree.now c.args.members.now c.args.j c.requires.0 i h in
    elim c.if-y-x.branch [
      | then-y-x w ↦ given-turn c.args.tree.now c.args.members.now c.args.x c.args.j c.args.at c.args.out.now c.requires.1 i l.p l.out l.invariant h w.if-y-x.true b c.if-y-x.out c.if-y-x.p (ap length w.out-is ∙ w.put_way.auto.out) (w.out-is ∙ w.put_way.ensures) (w.p-is ∙ omega arith)
      | else-y-x w ↦ subst (λ (o : List ℕ). GivenAt c.args.tree.now c.args.members.now c.args.x c.args.j c.args.at c.args.out.now (i + 1) c.if-y-x.p o) (sym w.out-is) (subst (λ (q : ℕ). GivenAt c.args.tree.now c.args.members.now c.args.x c.args.j c.args.at c.args.out.now (i + 1) q l.out) (sym w.p-is) (given_skip c.args.tree.now c.args.members.now c.args.x c.args.j c.args.at c.args.out.now c.requires.1 i l.p l.out l.invariant h w.if-y-x.false))
    ]

pub returns : goal.returns
returns c =
    let l = c.loop-member in (
      given-ends c.args.tree.now c.args.members.now c.args.x c.args.j c.args.at c.args.out.now l.member-index l.p l.out l.invariant (omega arith),
      given-written c.args.tree.now c.args.members.now c.args.x c.args.j c.args.at c.args.out.now l.member-index l.p l.out l.invariant (omega arith),
    )
