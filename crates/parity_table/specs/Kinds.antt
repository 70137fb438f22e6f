-- The kinds of words, by the top two bits: which words are of each. Definitions only.
use Rattle.std.specs.Prelude.{ℕ, ◌≤◌, ◌<◌}
use Rattle.parity_table.specs.declared.WordKind.{WordKind}
use Rattle.parity_table.specs.declared.WordKind.TheVariants as kind
use Rattle.parity_table.specs.Table.{layer_word, equation_word, end_word}

-- word w is of this kind
abbrev pub HasKind : WordKind → ℕ → Type 0
HasKind kind.Member w = w < layer_word 0
HasKind kind.Layer w = (layer_word 0 ≤ w) × (w < equation_word 0)
HasKind kind.Equation w = (equation_word 0 ≤ w) × (w < end_word 0)
HasKind kind.End w = end_word 0 ≤ w
