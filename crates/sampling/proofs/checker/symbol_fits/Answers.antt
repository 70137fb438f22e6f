-- `symbol_fits` meets its contract: one hash, compared with the committed one.
use native.Mathlib.Omega.{arith}
use borrow.Author.Rules.{rules}
use Rattle.model.proofs.Hung.{top-hashes}
use Rattle.symbol_hash.specs.SymbolHash.{symbol_hash}
use Rattle.sampling.proofs.CheckLaws.{fits-is}
use Rattle.sampling.proofs.SymbolLaws.{in_tree}
use Rattle.sampling.proofs.checker.symbol_fits.Goals as goal

pub overflow_sub-up : goal.overflow_sub-up
overflow_sub-up c =
    let a = c.args in
    let pre = c.requires in
    let t = in_tree a.depth a.i a.x c.layer_of-j.result c.number_of-m.result pre.0 pre.1.1 c.layer_of-j.ensures c.number_of-m.ensures in
    omega (arith, t.0)

pub overflow_sub-up-2 : goal.overflow_sub-up-2
overflow_sub-up-2 c =
    let a = c.args in
    let pre = c.requires in
    let t = in_tree a.depth a.i a.x c.layer_of-j.result c.number_of-m.result pre.0 pre.1.1 c.layer_of-j.ensures c.number_of-m.ensures in
    omega (arith, t.0)

pub fits-requires : goal.fits-requires
fits-requires c =
    let a = c.args in
    let pre = c.requires in
    let t = in_tree a.depth a.i a.x c.layer_of-j.result c.number_of-m.result pre.0 pre.1.1 c.layer_of-j.ensures c.number_of-m.ensures in
    (omega (arith, t.0, pre.1.0), search rules, λ z. omega (arith, top-hashes a.root.now c.layer_of-j.result pre.2 z, t.1), λ h. (t.1, omega (arith, t.0, pre.3)))

pub returns : goal.returns
returns c =
    let a = c.args in
    fits-is (symbol_hash a.kind) a.root.now a.sample.now a.depth a.i a.x c.layer_of-j.result c.number_of-m.result _ c.fits.result c.layer_of-j.ensures c.number_of-m.ensures c.symbol_at.ensures.symbol c.fits.ensures
