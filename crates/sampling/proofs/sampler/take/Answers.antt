-- `take` meets its contract. The loop keeps: the first x symbols are the sample's.
use mathlib.Core.Path.{refl}
use native.Mathlib.Omega.{arith}
use Rattle.model.specs.Symbols.{joined}
use Rattle.sampling.proofs.SamplerLaws.{taken-all, taken_more}
use Rattle.sampling.proofs.SymbolLaws.{sample-place_lt}
use Rattle.sampling.proofs.sampler.take.Goals as goal

pub loop-x-init : goal.loop-x-init
unfolding joined
loop-x-init c = refl

pub symbol_at-symbol-requires : goal.symbol_at-symbol-requires
symbol_at-symbol-requires c =
    let a = c.args in
    omega (arith, sample-place_lt a.depth a.i c.loop-x.x c.requires.0 (omega arith), c.sample_place.ensures, c.requires.1)

pub loop-x-preserved : goal.loop-x-preserved
loop-x-preserved c =
    let l = c.loop-x in
    taken_more c.args.depth c.args.i c.args.tree.now l.sample l.x _ _ _ c.sample_place.ensures c.symbol_at-symbol.ensures.symbol c.symbol_at-symbol.ensures.long (omega arith) c.copy_at.ensures l.invariant

pub returns : goal.returns
returns c =
    taken-all c.args.depth c.args.i
    c.args.tree.now c.loop-x.sample c.loop-x.x (omega arith)
    (omega arith) c.loop-x.invariant
