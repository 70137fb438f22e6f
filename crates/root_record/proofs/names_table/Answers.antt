-- `names_table` meets its contract: the word count, then the hash.
use mathlib.Core.Path.{◌∙◌}
use borrow.Author.Tests.{ne_eqb}
use Rattle.root_record.proofs.RecordLaws.{names_count, names_hash}
use Rattle.root_record.proofs.names_table.Goals as goal

pub returns-else-value_at-table : goal.returns-else-value_at-table
returns-else-value_at-table c =
    let a = c.args in
    ne_eqb _ _ c.if-value_at-table.false ∙ names_count a.root_record.now a.table.now c.value_at.result c.value_at.ensures c.if-value_at-table.false

pub returns-then-value_at-table : goal.returns-then-value_at-table
returns-then-value_at-table c =
    let a = c.args in
    c.equal_at.ensures ∙ names_hash a.root_record.now a.table.now c.value_at.result c.value_at.ensures _ c.if-value_at-table.true c.digest_of.ensures
