-- `layer_of` meets its contract.
use native.Mathlib.Omega.{arith}
use Rattle.model.specs.Sampling.{sample_layer}
use Rattle.sampling.proofs.symbols.layer_of.Goals as goal

pub returns : goal.returns
unfolding sample_layer
returns c = omega arith
