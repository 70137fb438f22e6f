-- `form` meets its contract: the one absent member is stored, or a fault proof withholds it.
use mathlib.Core.Path.{◌∙◌, ap, refl, sym}
use native.Mathlib.Omega.{arith}
use lib.ListN.{length}
use Rattle.model.specs.Shape.{tree}
use Rattle.model.specs.Symbols.{zeros}
use Rattle.model.proofs.Hung.{tree_hangs}
use Rattle.equation.proofs.TurnLaws.{above, absent_in, form_faults, form-stores, mark-inside, member-low, member-rooted, member_there, proof-room, rest-length, xor_there}
use Rattle.equation.proofs.cases.form.Goals as goal

pub xor_others-requires : goal.xor_others-requires
unfolding zeros
xor_others-requires c =
    let k = c.requires.0.work.members in
    (refl, (k.symbols, omega (arith, c.first_place-base.ensures, k.layers.room), k.within))

pub fits-requires : goal.fits-requires
fits-requires c =
    let p = c.first_place-base in
    let a = c.args in
    let k = c.requires.0.work in
    let x = absent_in a.members.now a.marks.now a.j _ c.requires.1 in
    let v = xor_there a.tree.now a.members.now _ a.j _ _ p.ensures c.xor_others.ensures in
    (above a.root.now a.members.now a.tree.now a.out.now a.j a.e k, member-rooted a.root.now a.members.now a.tree.now a.out.now a.j a.e k _ x, ap length v ∙ rest-length a.root.now a.members.now a.tree.now a.out.now a.j a.e k _)

pub overflow_add-p : goal.overflow_add-p
overflow_add-p c =
    let p = c.first_place-base in
    let a = c.args in
    let k = c.requires.0.work in
    let x = absent_in a.members.now a.marks.now a.j _ c.requires.1 in
    omega (arith, mark-inside a.marks.now a.members.now a.j p.result _ c.requires.0.marked p.ensures x)

pub overflow_mul-p : goal.overflow_mul-p
overflow_mul-p c =
    let p = c.first_place-base in
    let a = c.args in
    let k = c.requires.0.work in
    let x = absent_in a.members.now a.marks.now a.j _ c.requires.1 in
    omega (arith, p.ensures, (member_there a.root.now a.members.now a.tree.now a.out.now a.j a.e k _ x).room)

pub copy_at-requires : goal.copy_at-requires
copy_at-requires c =
    let p = c.first_place-base in
    let a = c.args in
    let k = c.requires.0.work in
    let x = absent_in a.members.now a.marks.now a.j _ c.requires.1 in
    let v = xor_there a.tree.now a.members.now _ a.j _ _ p.ensures c.xor_others.ensures in
    omega (arith, p.ensures, (member_there a.root.now a.members.now a.tree.now a.out.now a.j a.e k _ x).room, ap length v ∙ rest-length a.root.now a.members.now a.tree.now a.out.now a.j a.e k _)

pub bounds-marks-p : goal.bounds-marks-p
bounds-marks-p c =
    let p = c.first_place-base in
    let a = c.args in
    let k = c.requires.0.work in
    let x = absent_in a.members.now a.marks.now a.j _ c.requires.1 in
    omega (arith, mark-inside a.marks.now a.members.now a.j p.result _ c.requires.0.marked p.ensures x)

pub returns-then-fits : goal.returns-then-fits
returns-then-fits c =
    let p = c.first_place-base in
    let a = c.args in
    let k = c.requires.0.work in
    let v = xor_there a.tree.now a.members.now _ a.j _ _ p.ensures c.xor_others.ensures in
    form-stores a.kind a.root.now a.members.now a.j a.e a.tree.now a.marks.now a.out.now a.used.now _ _ c.requires.1 v p.result _ _ _
    (sym c.fits.ensures ∙ c.if-fits.true) p.ensures (ap length v ∙ rest-length a.root.now a.members.now a.tree.now a.out.now a.j a.e k _) c.copy_at.ensures refl refl

pub put_proof-size-requires : goal.put_proof-size-requires
put_proof-size-requires c =
    let p = c.first_place-base in
    let a = c.args in
    let k = c.requires.0.work in
    let x = absent_in a.members.now a.marks.now a.j _ c.requires.1 in
    (k.members, k.low, member-low a.root.now a.members.now a.tree.now a.out.now a.j a.e k _ x, proof-room a.root.now a.members.now a.tree.now a.out.now a.j a.e k _ x)

pub returns : goal.returns
returns c =
    let p = c.first_place-base in
    let a = c.args in
    let v = xor_there a.tree.now a.members.now _ a.j _ _ p.ensures c.xor_others.ensures in
    let w = c.put_proof-size.ensures tree (tree_hangs _) in
    form_faults a.kind a.root.now a.members.now a.j a.e a.tree.now a.marks.now a.out.now a.used.now _ _ c.requires.1 v _ _
    (sym c.fits.ensures ∙ c.if-fits.false) w.0 w.1
