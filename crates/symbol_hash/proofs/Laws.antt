-- A symbol's hash, whatever the kind.
use mathlib.Core.Path.{◌≡◌}
use mathlib.Core.List.{List}
use Prim.Native.Nat.{ℕ}
use lib.ListN.{length}
use Rattle.sha256.proofs.DigestLaws.{length-sha256}
use Rattle.symbol_hash.specs.SymbolHash.{symbol_hash}
use Rattle.symbol_hash.specs.declared.Kind.{Kind}
use Rattle.symbol_hash.specs.declared.Kind.TheVariants.{Plain, Placed}

pub length-symbol_hash : (kind : Kind) (j i : ℕ) (s : List ℕ) → length (symbol_hash kind j i s) ≡ 32
unfolding symbol_hash
length-symbol_hash Plain j i s = length-sha256 _
length-symbol_hash Placed j i s = length-sha256 _
