-- `holds` meets its contract: the exclusive-or of all members, tested for being zero.
use mathlib.Core.Path.{◌∙◌, refl}
use native.Mathlib.Omega.{arith}
use Rattle.model.specs.Symbols.{zeros}
use Rattle.equation.proofs.TurnLaws.{holds-is, member-room, summed_on, summed_start}
use Rattle.equation.proofs.cases.holds.Goals as goal

pub loop-y-init : goal.loop-y-init
unfolding zeros
loop-y-init c = summed_start c.args.tree.now c.args.members.now c.args.j c.requires _ refl

pub xor_at-requires : goal.xor_at-requires
xor_at-requires c =
    let l = c.loop-y in
    omega (arith, member-room c.args.tree.now c.args.members.now c.args.j c.requires l.y-index c.first_place-base.result (omega arith) c.first_place-base.ensures, l.invariant.sized)

pub loop-y-preserved : goal.loop-y-preserved
loop-y-preserved c =
    let l = c.loop-y in
    summed_on c.args.tree.now c.args.members.now c.args.j c.requires l.y-index c.first_place-base.result l.sum _ (omega arith) c.first_place-base.ensures c.xor_at.ensures l.invariant

pub returns : goal.returns
returns c =
    let l = c.loop-y in
    c.is_zero.ensures ∙ holds-is c.args.tree.now c.args.members.now c.args.j c.requires l.y-index l.sum (omega arith) l.invariant
