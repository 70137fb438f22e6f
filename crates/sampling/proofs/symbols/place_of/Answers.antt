-- `place_of` meets its contract: the layers above have four times k − 4 symbols.
use mathlib.Core.Path.{ap, ◌∙◌}
use Prim.Native.Nat.{ℕ, ◌+◌, ◌-◌, ◌*◌}
use native.Mathlib.Omega.{arith}
use Rattle.parity_table.proofs.Shape.{k_small}
use Rattle.model.proofs.Shapes.{n_small}
use Rattle.sampling.proofs.SymbolLaws.{k-some, place_is}
use Rattle.sampling.proofs.symbols.place_of.Goals as goal

pub overflow_sub-result : goal.overflow_sub-result
overflow_sub-result c =
    omega
    (arith, c.data_count.ensures, k-some c.args.layer, k_small c.args.layer c.requires.0, n_small c.args.layer c.requires.0)

pub overflow_mul-result : goal.overflow_mul-result
overflow_mul-result c =
    omega
    (arith, c.data_count.ensures, k-some c.args.layer, k_small c.args.layer c.requires.0, n_small c.args.layer c.requires.0)

pub overflow_add-result : goal.overflow_add-result
overflow_add-result c =
    omega
    (arith, c.data_count.ensures, k-some c.args.layer, k_small c.args.layer c.requires.0, n_small c.args.layer c.requires.0)

pub returns : goal.returns
returns c =
    ap (λ (k : ℕ). 4 * (k - 4) + c.args.number) c.data_count.ensures ∙ place_is c.args.layer
    c.args.number
