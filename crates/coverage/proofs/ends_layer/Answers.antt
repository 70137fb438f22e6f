-- `ends_layer` meets its contract: by the word's kind.
use Rattle.std.proofs.Common.{◌≡◌, ℕ, Bool, true, false, refl, sym, ap, ◌∙◌, inl, inr, arith}
use borrow.Author.Tests.{le-leb, lt-leb}
use Rattle.parity_table.specs.declared.WordKind.{WordKind}
use Rattle.parity_table.specs.declared.WordKind.TheVariants as kind
use Rattle.parity_table.specs.Kinds.{HasKind}
use Rattle.parity_table.specs.Table.{end_word}
use Rattle.coverage.specs.Counting.{ends_layer}
use Rattle.coverage.proofs.Tallies.{ends_low, ends-layer, ends-equation}
use Rattle.coverage.proofs.ends_layer.Goals as goal

abbrev ends : WordKind → Bool
ends kind.Member = false
ends kind.Layer = true
ends kind.Equation = false
ends kind.End = true

by_kind : (w : ℕ) (k : WordKind) → HasKind k w → ends k ≡ ends_layer w
by_kind w kind.Member h = ends_low w h
by_kind w kind.Layer h = ends-layer w h.0 h.1
by_kind w kind.Equation h = sym (lt-leb (end_word 0) w h.1) ∙ ends-equation w h.0
by_kind w kind.End h = sym (le-leb (end_word 0) w h) ∙ ends-equation w (omega arith)

neither : (k : WordKind) → (k ≡ kind.Layer → ⊥) → (k ≡ kind.End → ⊥) → false ≡ ends k
neither kind.Member l e = refl
neither kind.Layer l e = absurd (l refl)
neither kind.Equation l e = refl
neither kind.End l e = absurd (e refl)

pub returns-in-Layer : goal.returns-in-Layer
returns-in-Layer c =
    elim c.in-Layer.is [
      | inl q ↦ sym (ap ends q) ∙ by_kind c.args.w c.of.result c.of.ensures
      | inr q ↦ sym (ap ends q) ∙ by_kind c.args.w c.of.result c.of.ensures
    ]

pub returns-in_default : goal.returns-in_default
returns-in_default c = neither c.of.result c.in_default.not-Layer c.in_default.not-End ∙ by_kind c.args.w c.of.result c.of.ensures
