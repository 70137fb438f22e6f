-- `data_count` meets its contract: a shift that loses nothing.
use Prim.Native.Nat.{◌^◌, ◌≤◌}
use native.Mathlib.Omega.{arith}
use Rattle.parity_table.specs.Shape.{max_depth, k_of}
use lib.Pow.{pow_mono}
use Rattle.parity_table.proofs.data_count.Goals as goal

pub returns : goal.returns
unfolding k_of
returns c = let p : 2 ^ c.args.j ≤ 2 ^ max_depth = pow_mono {i = c.args.j} {j = max_depth} (omega arith) in omega arith
