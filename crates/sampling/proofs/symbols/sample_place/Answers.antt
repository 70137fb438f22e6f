-- `sample_place` meets its contract: the symbol is one of the tree.
use mathlib.Core.Path.{ap₂, ◌∙◌}
use native.Mathlib.Omega.{arith}
use Rattle.model.specs.Shape.{tree, place}
use Rattle.sampling.proofs.SymbolLaws.{in_tree}
use Rattle.sampling.proofs.symbols.sample_place.Goals as goal

pub place_of-requires : goal.place_of-requires
place_of-requires c = let h = in_tree c.args.depth c.args.i c.args.x c.layer_of.result c.number_of.result c.requires.0 (omega arith) c.layer_of.ensures c.number_of.ensures in
    (omega arith, h.1)

pub returns : goal.returns
returns c = c.place_of.ensures ∙ ap₂ (place tree) c.layer_of.ensures c.number_of.ensures
