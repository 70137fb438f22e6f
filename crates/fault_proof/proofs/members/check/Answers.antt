-- `check` meets its contract. The loop keeps `Led`: the members before i lead to the root, and those left stand from byte from on, the first of them at
-- this position.
use mathlib.Core.Path.{◌∙◌, refl}
use native.Mathlib.Omega.{arith}
use Rattle.std.proofs.lemmas.Result.{err_from_is_err_and}
use Rattle.symbol_hash.specs.SymbolHash.{symbol_hash}
use Rattle.model.proofs.Members.{every-below}
use Rattle.fault_proof.proofs.GivenLaws.{led_start, led_skip, way_room, led_on, led_off, path_room, led-end}
use Rattle.fault_proof.proofs.members.check.Goals as goal

pub loop-y-init : goal.loop-y-init
loop-y-init c =
    let a = c.args in
    let pre = c.requires in
    led_start a.b.now a.members.now a.j a.x (symbol_hash a.kind) a.root.now a.at pre.1

pub check-requires : goal.check-requires
check-requires c =
    let a = c.args in
    let pre = c.requires in
    let l = c.loop-y in
    let k = pre.0 in
    let below = every-below k.symbols a.members.now k.inside l.y-index (omega arith) in
    (k.layer, λ z. omega (arith, below, k.top z), λ h. (omega (arith, below, (k.hung h).0), (k.hung h).1), way_room a.b.now a.members.now a.j a.x l.y-index (omega arith) c.if-y-x.false l.from _ l.invariant.room)

pub check_path-requires : goal.check_path-requires
check_path-requires c =
    let a = c.args in
    let k = c.requires.0 in
    let l = c.loop-y in
    (k.layer, λ h. (k.hung h).1, path_room a.b.now a.members.now a.j a.x (symbol_hash a.kind) a.root.now a.at l.y-index l.from l.position (omega arith) l.invariant)

pub loop-y-preserved-then-y-x : goal.loop-y-preserved-then-y-x
loop-y-preserved-then-y-x c =
    let a = c.args in
    let l = c.loop-y in
    led_skip a.b.now a.members.now a.j a.x l.y-index (omega arith) c.if-y-x.true (symbol_hash a.kind) a.root.now a.at l.from l.position l.invariant

pub returns-in_err-at_position : goal.returns-in_err-at_position
returns-in_err-at_position c =
    let a = c.args in
    let l = c.loop-y in
    let e = err_from_is_err_and c.from_residual.result c.from_residual.ensures.1 in
    rw (e.1, e.2) (led_off a.b.now a.members.now a.j a.x l.y-index (omega arith) c.if-y-x.false l.from (symbol_hash a.kind) a.root.now a.at l.position _ c.check.ensures l.invariant _ _ c.in_err-at_position.ensures)

pub loop-y-preserved : goal.loop-y-preserved
loop-y-preserved c =
    let a = c.args in
    let l = c.loop-y in
    led_on a.b.now a.members.now a.j a.x l.y-index (omega arith) c.if-y-x.false l.from (symbol_hash a.kind) a.root.now a.at l.position _ c.check.ensures l.invariant _ _ refl refl c.in_ok-at_position.ensures

pub returns : goal.returns
returns c =
    let a = c.args in
    let l = c.loop-y in
    c.at_position-2.ensures ∙ led-end a.b.now a.members.now a.j a.x (symbol_hash a.kind) a.root.now a.at l.y-index l.from l.position (omega arith) l.invariant _ c.check_path.ensures
