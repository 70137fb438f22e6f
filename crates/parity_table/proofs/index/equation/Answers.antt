-- `equation` meets its contract: the index's entry, and the members from there.
use mathlib.Core.Path.{ap}
use Prim.Native.Nat.{ℕ}
use native.Mathlib.Omega.{arith}
use lib.ListN.{get_or}
use Rattle.parity_table.proofs.Accepts.{layer-known, start_known, start_inside, located}
use Rattle.parity_table.proofs.index.equation.Goals as goal

pub number_of-number-requires : goal.number_of-number-requires
number_of-number-requires c =
    let a = c.args in
    let pre = c.requires in
    (layer-known a.ws.now a.starts.now a.j a.e (pre), pre.equation)

pub offset_bounds-starts-number : goal.offset_bounds-starts-number
offset_bounds-starts-number c =
    let a = c.args in
    omega (arith, c.number_of-number.ensures, start_known a.ws.now a.starts.now a.j a.e c.requires)

pub bounds-starts-number : goal.bounds-starts-number
bounds-starts-number c =
    let a = c.args in
    omega
    (arith, c.number_of-number.ensures, start_known a.ws.now a.starts.now a.j a.e c.requires)

pub count_members-size-requires : goal.count_members-size-requires
count_members-size-requires c =
    let a = c.args in
    omega
    (arith, ap (λ (n : ℕ). get_or a.starts.now n 0) c.number_of-number.ensures, start_inside a.ws.now a.starts.now a.j a.e c.requires)

pub returns : goal.returns
returns c =
    let a = c.args in
    let pre = c.requires in
    rw (c.count_members-size.ensures, c.number_of-number.ensures) (located a.ws.now a.starts.now a.j a.e (pre))
