-- `processed` meets its contract. The loop keeps: the first i blocks are taken in.
use Rattle.std.proofs.Common.{◌≡◌}
use Rattle.sha256.specs.Hash.{processed}
use Rattle.sha256.proofs.hash.processed.Given as goal

abbrev pub invariant-loop-i : goal.invariant-loop-i
invariant-loop-i l = l.state.h ≡ processed l.initial.state.h l.p l.i
