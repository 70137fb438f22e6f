-- `check` meets its contract. The loop keeps: symbol x of the way has number m, and every symbol before it fits.
use mathlib.Core.Path.{◌∙◌, refl}
use Prim.Native.Nat.{◌+◌, ◌-◌}
use native.Mathlib.Omega.{arith}
use borrow.Author.Rules.{rules}
use Rattle.symbol_hash.specs.SymbolHash.{symbol_hash}
use Rattle.model.specs.Fault.{reached}
use Rattle.model.proofs.Shapes.{tree_ok}
use Rattle.fault_proof.proofs.WayLaws.{way_inside, reached-next, fit_start, fits-here, breaks-here, leads_all}
use Rattle.fault_proof.proofs.way.check.Goals as goal
use Rattle.fault_proof.proofs.way.check.Goals.{then-x-j, else-x-j}

pub loop-x-init : goal.loop-x-init
unfolding reached
loop-x-init c =
    let a = c.args in
    (λ z. refl, fit_start (symbol_hash a.kind) a.root.now a.b.now a.at a.j a.i)

pub fits-requires : goal.fits-requires
fits-requires c =
    let a = c.args in
    let pre = c.requires in
    let l = c.loop-x in
    let inside = way_inside a.root.now a.j a.i l.x l.m (omega arith) (l.invariant.0 (omega arith)) pre.1 pre.2 in
    (omega (arith, pre.0), search rules, inside.0, λ h. (inside.1 h, omega (arith, pre.3, h)))

pub returns-then-not-fits : goal.returns-then-not-fits
returns-then-not-fits c =
    let a = c.args in
    let l = c.loop-x in
    breaks-here (symbol_hash a.kind) a.root.now a.b.now a.at a.j a.i l.x l.m (omega arith) (l.invariant.0 (omega arith)) c.fits.result c.fits.ensures l.invariant.1 c.if-not-fits.true

pub loop-x-preserved : goal.loop-x-preserved
loop-x-preserved c =
    let a = c.args in
    let l = c.loop-x in
    let before = fits-here (symbol_hash a.kind) a.root.now a.b.now a.at a.j a.i l.x l.m (omega arith) (l.invariant.0 (omega arith)) c.fits.result c.fits.ensures l.invariant.1 c.if-not-fits.false in
    elim c.if-x-j.branch [
      | then-x-j w ↦ (λ h. w.m-is ∙ reached-next (symbol_hash a.kind) a.root.now a.b.now a.at a.j a.i l.x l.m (omega arith) (l.invariant.0 (omega arith)) w.data_count-m.result w.data_count-m.ensures, before)
      | else-x-j w ↦ (λ h. absurd (omega arith), before)
    ]

pub nonzero_rem-m : goal.nonzero_rem-m
nonzero_rem-m c = omega (arith, c.data_count-m.ensures, tree_ok.shape.some (c.args.j - c.loop-x.x - 1))

pub returns-after-x-j : goal.returns-after-x-j
returns-after-x-j c =
    let a = c.args in
    let l = c.loop-x in
    leads_all (symbol_hash a.kind) a.root.now a.b.now a.at a.j a.i (l.x + 1) (omega arith)
    (fits-here (symbol_hash a.kind) a.root.now a.b.now a.at a.j a.i l.x l.m (omega arith) (l.invariant.0 (omega arith)) c.fits.result c.fits.ensures l.invariant.1 c.if-not-fits.false)

pub returns : goal.returns
returns c =
    let a = c.args in
    let l = c.loop-x in
    leads_all (symbol_hash a.kind) a.root.now a.b.now a.at a.j a.i l.x (omega arith) l.invariant.1
