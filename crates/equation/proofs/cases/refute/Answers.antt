-- `refute` meets its contract: twins or a fault proof, withholding the last member.
use mathlib.Core.Path.{◌∙◌, ap, refl, sym}
use Prim.Native.Nat.{◌-◌}
use native.Mathlib.Omega.{arith}
use lib.ListN.{get_or, length}
use Rattle.model.specs.Shape.{tree}
use Rattle.model.specs.Symbols.{sym_at, zeros}
use Rattle.model.proofs.Members.{last_get}
use Rattle.model.proofs.Hung.{tree_hangs}
use Rattle.equation.proofs.TurnLaws.{above, full, last_in, member_below, member-low, member-rooted, member_there, proof-room, refute_faults, refute-twins, rest-length, twins_put, xor_there}
use Rattle.equation.proofs.cases.refute.Goals as goal

pub xor_others-requires : goal.xor_others-requires
unfolding zeros
xor_others-requires c =
    let k = c.requires.members in
    (refl, (k.symbols, omega (arith, c.first_place.ensures, k.layers.room), k.within))

pub fits-requires : goal.fits-requires
fits-requires c =
    let a = c.args in
    let z = last_in a.members.now c.requires.some in
    let v = xor_there a.tree.now a.members.now _ a.j _ _ c.first_place.ensures c.xor_others.ensures in
    (above a.root.now a.members.now a.tree.now a.out.now a.j a.e c.requires, member-rooted a.root.now a.members.now a.tree.now a.out.now a.j a.e c.requires _ z, ap length v ∙ rest-length a.root.now a.members.now a.tree.now a.out.now a.j a.e c.requires _)

pub put_symbol-requires : goal.put_symbol-requires
put_symbol-requires c =
    let a = c.args in
    let z = last_in a.members.now c.requires.some in
    (member_there a.root.now a.members.now a.tree.now a.out.now a.j a.e c.requires _ z, omega (arith, c.requires.twins-room))

pub copy_at-requires : goal.copy_at-requires
copy_at-requires c =
    let a = c.args in
    let v = xor_there a.tree.now a.members.now _ a.j _ _ c.first_place.ensures c.xor_others.ensures in
    omega (arith, c.requires.twins-room, c.put_symbol.auto, ap length v ∙ rest-length a.root.now a.members.now a.tree.now a.out.now a.j a.e c.requires _)

pub returns-then-fits : goal.returns-then-fits
returns-then-fits c =
    let a = c.args in
    let z = last_in a.members.now c.requires.some in
    let v = xor_there a.tree.now a.members.now _ a.j _ _ c.first_place.ensures c.xor_others.ensures in
    refute-twins a.kind a.root.now a.members.now a.j a.e a.tree.now a.out.now _ _ _ (sym (last_get a.members.now 0 c.requires.some)) v
    (sym c.fits.ensures ∙ c.if-fits.true)
    (twins_put a.out.now c.put_symbol.new.out c.copy_at.new.d (sym_at tree a.tree.now a.j (get_or a.members.now (length a.members.now - 1) 0)) c.xor_others.new.acc (full a.root.now a.members.now a.tree.now a.out.now a.j a.e c.requires _ (member_below a.root.now a.members.now a.tree.now a.out.now a.j a.e c.requires _ z)) c.requires.twins-room (c.put_symbol.ensures tree (tree_hangs _)) c.copy_at.ensures)

pub put_proof-size-requires : goal.put_proof-size-requires
put_proof-size-requires c =
    let a = c.args in
    let z = last_in a.members.now c.requires.some in
    (c.requires.members, c.requires.low, member-low a.root.now a.members.now a.tree.now a.out.now a.j a.e c.requires _ z, proof-room a.root.now a.members.now a.tree.now a.out.now a.j a.e c.requires _ z)

pub returns : goal.returns
returns c =
    let a = c.args in
    let v = xor_there a.tree.now a.members.now _ a.j _ _ c.first_place.ensures c.xor_others.ensures in
    let o = c.put_proof-size.ensures tree (tree_hangs _) in
    refute_faults a.kind a.root.now a.members.now a.j a.e a.tree.now a.out.now _ _ _ (sym (last_get a.members.now 0 c.requires.some)) v _
    (sym c.fits.ensures ∙ c.if-fits.false) o.0 o.1
