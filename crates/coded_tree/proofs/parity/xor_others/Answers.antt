-- `xor_others` meets its contract. The loop keeps: what is gathered, with what is left, is the whole.
use mathlib.Core.Path.{◌≡◌, sym, ap, ◌∙◌}
use Prim.Native.Nat.{◌+◌, ◌*◌, ◌<◌}
use native.Mathlib.Omega.{arith}
use lib.ListN.{length, get_or, take, drop}
use Rattle.coded_tree.proofs.ParityLaws.{symbol_there, symbol-full, left, left-none, left-all, turn-take, turn_skip}
use Rattle.model.specs.Symbols.{symbol_in}
use Rattle.model.proofs.Bytes.{length-zeros}
use Rattle.model.proofs.Members.{every-below}
use Rattle.octets.specs.ByteLists.{xors}
use Rattle.octets.proofs.ListLaws.{length-xors}
use Rattle.coded_tree.proofs.parity.xor_others.Goals as goal
use Rattle.coded_tree.proofs.parity.xor_others.Goals.{then-y-x, else-y-x}

pub loop-member-init : goal.loop-member-init
loop-member-init c =
    (ap length c.requires.0 ∙ length-zeros, ap (λ a. xors a (left c.args.members.now (λ v. symbol_in c.args.tree.now (c.args.base + v)) c.args.x 0)) c.requires.0 ∙ left-all c.args.members.now (λ v. symbol_in c.args.tree.now (c.args.base + v)) c.args.x c.requires.1.0 (symbol-full c.args.tree.now c.args.base c.requires.1.0 c.requires.1.1) c.requires.1.2)

pub xor_at-requires : goal.xor_at-requires
xor_at-requires c =
    omega
    (arith, every-below c.requires.1.0 c.args.members.now c.requires.1.2 c.loop-member.member-index (omega arith), c.requires.1.1, c.loop-member.invariant.0)

pub loop-member-preserved : goal.loop-member-preserved
loop-member-preserved c =
    let l = c.loop-member in
    let i = l.member-index in
    let y = get_or c.args.members.now i 0 in
    let below : y < c.requires.1.0 = every-below c.requires.1.0 c.args.members.now c.requires.1.2 i (omega arith) in
    let sized = symbol-full c.args.tree.now c.args.base c.requires.1.0 c.requires.1.1 y below in
    elim c.if-y-x.branch [
      | then-y-x w ↦
          (let e : c.if-y-x.acc ≡ xors l.acc (symbol_in c.args.tree.now (c.args.base + y)) =
          w.acc-is ∙ w.xor_at.ensures ∙ ap (λ n. xors l.acc (take n (drop (256 * (c.args.base + y)) c.args.tree.now))) l.invariant.0
          ∙ ap (xors l.acc) (sym (symbol_there c.args.tree.now c.args.base y)) in (
            omega (arith, ap length e, length-xors l.acc (symbol_in c.args.tree.now (c.args.base + y)), sized, l.invariant.0),
            turn-take c.args.members.now (λ v. symbol_in c.args.tree.now (c.args.base + v)) c.args.x i l.acc c.if-y-x.acc (omega arith) w.if-y-x.true l.invariant.1 e,
          ))
      | else-y-x w ↦ (
        ap length w.acc-is ∙ l.invariant.0,
        ap (λ a. xors a (left c.args.members.now (λ v. symbol_in c.args.tree.now (c.args.base + v)) c.args.x (i + 1))) w.acc-is ∙ turn_skip c.args.members.now (λ v. symbol_in c.args.tree.now (c.args.base + v)) c.args.x i l.acc (omega arith) w.if-y-x.false l.invariant.1,
      )
    ]

pub returns : goal.returns
returns c =
    sym
    (left-none c.args.members.now (λ v. symbol_in c.args.tree.now (c.args.base + v)) c.args.x c.loop-member.member-index c.loop-member.acc (omega arith) c.loop-member.invariant.0)
    ∙ c.loop-member.invariant.1
