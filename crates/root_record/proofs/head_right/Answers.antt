-- `head_right` meets its contract: the words of the head, one after the other.
use mathlib.Core.Path.{sym, ◌∙◌}
use native.Mathlib.Omega.{arith}
use borrow.Author.Tests.{eqb-true, eq-eqb, le-ltb}
use Rattle.octets.proofs.Choice.{both}
use Rattle.root_record.proofs.RecordLaws.{right_kind, right-depth, right-size, right-last}
use Rattle.root_record.proofs.head_right.Goals as goal
use Rattle.root_record.proofs.head_right.Goals.{then-kind_at-lt-KINDS, else-kind_at-lt-KINDS, then-value_at-depth, else-value_at-depth}

pub returns-else-names : goal.returns-else-names
returns-else-names c =
    let r = c.args.root_record.now in
    elim c.if-value_at-depth.branch [
      | then-value_at-depth w ↦
          c.if-names.false ∙ right-size _ r _ w.data_count.ensures _ w.names.ensures (sym w.value-is ∙ c.if-names.false)
      | else-value_at-depth w ↦
          c.if-names.false
          ∙ elim c.if-kind_at-lt-KINDS.branch [
            | then-kind_at-lt-KINDS v ↦
                right-depth _ r _ v.value_at.ensures (λ e. both (eq-eqb _ _ e) (sym v.value-is ∙ w.if-value_at-depth.false))
            | else-kind_at-lt-KINDS v ↦ right_kind _ r _ c.kind_at.ensures (omega arith)
          ]
    ]

pub returns-then-names : goal.returns-then-names
returns-then-names c =
    let r = c.args.root_record.now in
    elim c.if-value_at-depth.branch [
      | then-value_at-depth w ↦
          elim c.if-kind_at-lt-KINDS.branch [
            | then-kind_at-lt-KINDS v ↦
                right-last _ r _ w.data_count.ensures _ w.names.ensures _ _ _ c.kind_at.ensures (omega arith) v.value_at.ensures
                (eqb-true _ _ (sym v.value-is ∙ w.if-value_at-depth.true)) (sym w.value-is ∙ c.if-names.true) c.kind_at-then-names.ensures
            | else-kind_at-lt-KINDS v ↦ both (sym v.value-is ∙ w.if-value_at-depth.true) (le-ltb _ _ v.if-kind_at-lt-KINDS.false)
          ]
      | else-value_at-depth w ↦ both (sym w.value-is ∙ c.if-names.true) w.if-value_at-depth.false
    ]
