-- The buffers of a repair as a state of the definition. Definitions only.
use Rattle.std.specs.Prelude.{Bool, List, ℕ}
use Rattle.octets.specs.ByteLists.{same}
use Rattle.model.specs.Shape.{tree}
use Rattle.model.specs.Symbols.{committed, sym_at}
use Rattle.model.specs.Repair.{St, End}
use Rattle.symbol_hash.specs.SymbolHash.{symbol_hash}
use Rattle.symbol_hash.specs.declared.Kind.{Kind}

-- the state with these buffers, s symbols stored and d layers entered
abbrev pub state : List ℕ → List ℕ → List ℕ → List ℕ → ℕ → ℕ → End → St
state t m o u s d z = record { tree = t; marks = m; out = o; used = u; stored = s; entered = d; end = z }

-- the hash of v is the one committed for symbol i of layer j
abbrev pub fits_in : Kind → List ℕ → List ℕ → ℕ → ℕ → List ℕ → Bool
fits_in kind root t j i v = same (symbol_hash kind j i v) (committed tree root (sym_at tree t) j i)
