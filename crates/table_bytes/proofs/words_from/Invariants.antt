-- `words_from` meets its contract. The loop keeps: the first i words are written.
use mathlib.Core.Path.{◌≡◌}
use mathlib.Core.List.{◌++◌}
use lib.ListN.{drop}
use Rattle.octets.specs.BigEndian.{words}
use Rattle.table_bytes.proofs.words_from.Given as goal

abbrev pub invariant-loop-i : goal.invariant-loop-i
invariant-loop-i l = l.front ≡ words l.b l.i ++ drop l.i l.initial.front
