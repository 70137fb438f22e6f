-- `place_word` meets its contract.
use native.Mathlib.Omega.{arith}
use Rattle.symbol_hash.specs.SymbolHash.{place_word}
use Rattle.symbol_hash.proofs.place_word.Goals as goal

pub returns : goal.returns
unfolding place_word
returns c = omega arith
