-- `check` meets its contract. The loop keeps: every symbol before x fits.
use native.Mathlib.Omega.{arith}
use Rattle.symbol_hash.specs.SymbolHash.{symbol_hash}
use Rattle.sampling.proofs.CheckLaws.{fits-here, breaks-here, leads-here, fit_start}
use Rattle.sampling.proofs.checker.check.Goals as goal

pub loop-x-init : goal.loop-x-init
loop-x-init c = fit_start (symbol_hash c.args.kind) c.args.root.now c.args.sample.now c.args.depth c.args.i

pub returns-then-not-symbol_fits : goal.returns-then-not-symbol_fits
returns-then-not-symbol_fits c =
    breaks-here (symbol_hash c.args.kind) c.args.root.now
    c.args.sample.now
    c.args.depth
    c.args.i c.loop-x.x
    c.symbol_fits.result c.symbol_fits.ensures (omega arith)
    c.loop-x.invariant c.if-not-symbol_fits.true c.layer_of.result
    c.layer_of.ensures

pub loop-x-preserved : goal.loop-x-preserved
loop-x-preserved c =
    fits-here (symbol_hash c.args.kind) c.args.root.now c.args.sample.now c.args.depth c.args.i c.loop-x.x c.symbol_fits.result c.symbol_fits.ensures (omega arith) c.loop-x.invariant c.if-not-symbol_fits.false

pub returns : goal.returns
returns c =
    leads-here (symbol_hash c.args.kind) c.args.root.now c.args.sample.now
    c.args.depth c.args.i c.loop-x.x
    (omega arith) c.loop-x.invariant
