-- `rule` meets its contract: an answer for each test.
use mathlib.Core.Path.{refl}
use Prim.Native.Nat.{◌+◌, ◌-◌, ◌*◌, ◌≤◌}
use native.Mathlib.Omega.{arith}
use lib.ListN.{length}
use borrow.Author.Rules.{rules}
use Rattle.std.proofs.lemmas.Result.{err_from_is_err_and}
use Rattle.model.specs.Symbols.{zeros}
use Rattle.symbol_hash.specs.SymbolHash.{symbol_hash}
use Rattle.fault_proof.proofs.RuledLaws.{some-member, withheld-inside, few_bytes, other_length, ways_room, path_room, way_broken, no_fault_lem, fault-shown}
use Rattle.fault_proof.proofs.checker.rule.Goals as goal
use Rattle.fault_proof.proofs.checker.rule.Goals.{Start}

-- the length is computed with no loss
few : (c : Start) → (length c.args.members.now - 1) * (c.args.j + 1) ≤ 7 * (c.args.j + 1)
few c =
    let a = c.args in
    few_bytes (symbol_hash a.kind) a.root.now a.j a.x a.members.now a.proof.now c.requires.0 c.requires.1

pub overflow_sub-members : goal.overflow_sub-members
overflow_sub-members c =
    let a = c.args in
    some-member (symbol_hash a.kind) a.root.now a.j a.x a.members.now a.proof.now c.requires.0 c.requires.1

pub overflow_mul-members : goal.overflow_mul-members
overflow_mul-members c = omega (arith, few (goal.at.overflow_mul-members c).Start)

pub overflow_add-members : goal.overflow_add-members
overflow_add-members c = omega (arith, few (goal.at.overflow_add-members c).Start)

pub overflow_mul-members-2 : goal.overflow_mul-members-2
overflow_mul-members-2 c = omega (arith, few (goal.at.overflow_mul-members-2 c).Start)

pub overflow_add-members-2 : goal.overflow_add-members-2
overflow_add-members-2 c = omega (arith, few (goal.at.overflow_add-members-2 c).Start)

pub returns-then-proof-members : goal.returns-then-proof-members
returns-then-proof-members c =
    let a = c.args in
    let k = c.requires in
    other_length (symbol_hash a.kind) a.root.now a.j a.x a.members.now a.proof.now k.0 k.1 c.if-proof-members.true

pub check-requires : goal.check-requires
check-requires c =
    let a = c.args in
    let k = c.requires in
    (k.0, ways_room (symbol_hash a.kind) a.root.now a.j a.x a.members.now a.proof.now k.0 k.1 c.if-proof-members.false)

pub returns-in_err-check : goal.returns-in_err-check
returns-in_err-check c =
    let a = c.args in
    let k = c.requires in
    let w = way_broken (symbol_hash a.kind) a.root.now a.j a.x a.members.now a.proof.now k.0 k.1 c.if-proof-members.false c.check.result c.check.ensures _ c.in_err-check.was in
    let e = err_from_is_err_and c.from_residual.result c.from_residual.ensures.1 in
    rw (e.1, e.2) w

pub gather-requires : goal.gather-requires
unfolding zeros
gather-requires c =
    let a = c.args in
    let k = c.requires in
    (refl, omega (arith, ways_room (symbol_hash a.kind) a.root.now a.j a.x a.members.now a.proof.now k.0 k.1 c.if-proof-members.false))

pub fits-requires : goal.fits-requires
fits-requires c =
    let a = c.args in
    let k = c.requires in
    let inside = withheld-inside (symbol_hash a.kind) a.root.now a.j a.x a.members.now a.proof.now k.0 k.1 in
    let room = path_room (symbol_hash a.kind) a.root.now a.j a.x a.members.now a.proof.now k.0 k.1 c.if-proof-members.false in
    (k.0.layer, search rules, inside.0, λ h. (inside.1 h, omega (arith, room, h)))

pub returns-then-fits : goal.returns-then-fits
returns-then-fits c =
    let a = c.args in
    let k = c.requires in
    no_fault_lem (symbol_hash a.kind) a.root.now a.j a.x a.members.now a.proof.now k.0 k.1 c.if-proof-members.false c.check.result c.check.ensures c.in_ok-check.was _ c.gather.ensures c.fits.result c.fits.ensures c.if-fits.true

pub returns : goal.returns
returns c =
    let a = c.args in
    let k = c.requires in
    fault-shown (symbol_hash a.kind) a.root.now a.j a.x a.members.now a.proof.now k.0 k.1 c.if-proof-members.false c.check.result c.check.ensures c.in_ok-check.was _ c.gather.ensures c.fits.result c.fits.ensures c.if-fits.false
