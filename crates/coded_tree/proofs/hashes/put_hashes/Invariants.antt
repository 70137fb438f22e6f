-- `put_hashes` meets its contract. The loop keeps: what is left to do gives what all of it gives.
use mathlib.Core.Path.{◌≡◌}
use Prim.Native.Nat.{suc, ◌-◌, ◌≤◌}
use lib.ListN.{length}
use Rattle.model.specs.Shape.{places}
use Rattle.model.specs.Writer.{put_hashes}
use Rattle.parity_table.specs.Shape.{k_of, n_of}
use Rattle.symbol_hash.specs.SymbolHash.{symbol_hash}
use Rattle.model.specs.Shape.{tree as shape}
use Rattle.coded_tree.proofs.hashes.put_hashes.Given as goal

abbrev pub invariant-loop-i : goal.invariant-loop-i
invariant-loop-i l =
    (l.i ≤ l.i-end) × (l.i-end ≡ n_of (suc l.j)) × (l.k ≡ k_of l.j) × (l.above ≡ places shape l.j) × (l.base ≡ places shape (suc l.j)) ×
    (length l.tree ≡ length l.initial.tree) ×
    (put_hashes shape (symbol_hash l.kind) l.j l.i (l.i-end - l.i) l.tree ≡ put_hashes shape (symbol_hash l.kind) l.j 0 (n_of (suc l.j)) l.initial.tree)
