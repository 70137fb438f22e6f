-- `is_zero` meets its contract: the greatest byte tells.
use mathlib.Core.Path.{ap, ◌∙◌}
use Prim.Native.Nat.{ℕ}
use lib.Dec.{eqb}
use Rattle.octets.proofs.ListLaws.{zeros_by_max}
use Rattle.octets.proofs.lists.is_zero.Goals as goal

pub returns : goal.returns
returns c = ap (λ (n : ℕ). eqb n 0) c.greatest.ensures ∙ zeros_by_max c.args.s.now
