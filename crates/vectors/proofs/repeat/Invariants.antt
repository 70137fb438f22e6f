-- What is written lies in the message.
use Rattle.std.proofs.Common.{◌≤◌, length}
use Rattle.vectors.proofs.repeat.Given as goal

abbrev pub invariant-loop : goal.invariant-loop
invariant-loop l = l.n ≤ length l.message
