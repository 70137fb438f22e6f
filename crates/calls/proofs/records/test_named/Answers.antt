-- `test_named` meets its contract: another table, or the one that is named.
use mathlib.Core.Path.{sym, ◌∙◌}
use Rattle.calls.proofs.RecordLaws.{other-table, named_table}
use Rattle.calls.proofs.records.test_named.Goals as goal

pub returns-then-not-names_table : goal.returns-then-not-names_table
returns-then-not-names_table c =
    other-table c.args.root_record.now c.args.table.now (sym c.names_table.ensures ∙ c.if-not-names_table.true)

pub returns : goal.returns
returns c =
    named_table c.args.root_record.now c.args.table.now (sym c.names_table.ensures ∙ c.if-not-names_table.false)
