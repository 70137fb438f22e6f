-- `number_of` meets its contract: the base symbol, a data symbol, a parity symbol.
use mathlib.Core.Path.{sym, ap, ◌∙◌}
use Prim.Native.Nat.{ℕ, ◌+◌, ◌*◌, ◌%◌}
use native.Mathlib.Omega.{arith}
use Rattle.model.specs.Sampling.{sample_number}
use Rattle.model.specs.Shape.{tree}
use Rattle.parity_table.specs.Shape.{k_of}
use Rattle.parity_table.proofs.Shape.{k_small}
use Rattle.sampling.proofs.SymbolLaws.{k-some, layer_lt, number_data, number_parity}
use native.Mathlib.Nat.{mod-lt}
use Rattle.sampling.proofs.symbols.number_of.Goals as goal

pub returns-then-x-eq0 : goal.returns-then-x-eq0
unfolding sample_number
returns-then-x-eq0 c = ap (sample_number tree c.args.depth c.args.i) (sym c.if-x-eq0.true)

pub data_count-k-requires : goal.data_count-k-requires
data_count-k-requires c =
    omega
    (arith, c.layer_of.ensures, layer_lt c.args.depth c.args.x c.requires.1)

pub nonzero_rem-result : goal.nonzero_rem-result
nonzero_rem-result c =
    omega
    (arith, c.data_count-k.ensures, c.layer_of.ensures, k-some c.layer_of.result, k_small c.layer_of.result (omega (arith, c.layer_of.ensures, layer_lt c.args.depth c.args.x c.requires.1)))

pub returns-then-x-eq1 : goal.returns-then-x-eq1
returns-then-x-eq1 c =
    ap (λ (k : ℕ). c.args.i % k)
    (c.data_count-k.ensures ∙ ap k_of c.layer_of.ensures) ∙ number_data
    c.args.depth c.args.i
    c.args.x c.if-x-eq1.true

pub overflow_mul-result : goal.overflow_mul-result
overflow_mul-result c =
    omega
    (arith, c.data_count-k.ensures, c.layer_of.ensures, k-some c.layer_of.result, k_small c.layer_of.result (omega (arith, c.layer_of.ensures, layer_lt c.args.depth c.args.x c.requires.1)))

pub nonzero_rem-result-2 : goal.nonzero_rem-result-2
nonzero_rem-result-2 c =
    omega
    (arith, c.data_count-k.ensures, c.layer_of.ensures, k-some c.layer_of.result, k_small c.layer_of.result (omega (arith, c.layer_of.ensures, layer_lt c.args.depth c.args.x c.requires.1)))

pub overflow_add-result : goal.overflow_add-result
overflow_add-result c =
    omega
    (arith, c.data_count-k.ensures, c.layer_of.ensures, k-some c.layer_of.result, k_small c.layer_of.result (omega (arith, c.layer_of.ensures, layer_lt c.args.depth c.args.x c.requires.1)), mod-lt c.args.i {m = 3 * c.data_count-k.result} (omega (arith, c.data_count-k.ensures, k-some c.layer_of.result)))

pub returns : goal.returns
returns c =
    ap (λ (k : ℕ). k + c.args.i % (3 * k))
    (c.data_count-k.ensures ∙ ap k_of c.layer_of.ensures) ∙ number_parity
    c.args.depth c.args.i
    c.args.x c.if-x-eq0.false c.if-x-eq1.false
