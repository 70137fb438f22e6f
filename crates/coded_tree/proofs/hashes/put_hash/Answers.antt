-- `put_hash` meets its contract: the symbol hashed, and the hash stored where it stands.
use mathlib.Core.Path.{ap}
use Prim.Native.Nat.{◌+◌}
use native.Mathlib.Omega.{arith}
use lib.ListN.{length}
use Rattle.coded_tree.proofs.HashLaws.{hash_put, hashed-room}
use Rattle.symbol_hash.proofs.Laws.{length-symbol_hash}
use Rattle.coded_tree.proofs.hashes.put_hash.Goals as goal

pub nonzero_rem-i : goal.nonzero_rem-i
nonzero_rem-i c = omega (arith, hashed-room c.args.tree.now _ _ _ _ _ c.requires)

pub overflow_add-above : goal.overflow_add-above
overflow_add-above c = omega (arith, hashed-room c.args.tree.now _ _ _ _ _ c.requires)

pub overflow_mul-above : goal.overflow_mul-above
overflow_mul-above c = omega (arith, hashed-room c.args.tree.now _ _ _ _ _ c.requires)

pub nonzero_div-i : goal.nonzero_div-i
nonzero_div-i c = omega (arith, hashed-room c.args.tree.now _ _ _ _ _ c.requires)

pub overflow_add-above-2 : goal.overflow_add-above-2
overflow_add-above-2 c = omega (arith, hashed-room c.args.tree.now _ _ _ _ _ c.requires)

pub copy_at-requires : goal.copy_at-requires
copy_at-requires c =
    omega
    (arith, hashed-room c.args.tree.now _ _ _ _ _ c.requires, ap length c.hash-h.ensures, length-symbol_hash c.args.kind (c.args.j + 1) c.args.i c.symbol_at.result.now)

pub returns : goal.returns
returns c = hash_put c.args.kind c.args.tree.now _ _ _ _ _ _ _ _ c.requires.0 c.requires.1 c.requires.2 c.symbol_at.ensures.symbol c.hash-h.ensures c.copy_at.ensures
