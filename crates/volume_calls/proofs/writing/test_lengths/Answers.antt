-- `test_lengths` meets its contract: both lengths are one test.
use mathlib.Core.Path.{◌≡◌, ap, ◌∙◌}
use mathlib.Core.Bool.{◌&&◌}
use borrow.Author.Rules.{rules}
use Rattle.parity_table.specs.Shape.{depth_fits}
use Rattle.table_bytes.specs.Bytes.{length_fits}
use Rattle.calls.specs.Tests.{opened}
use Rattle.calls.proofs.TestLaws.{opened_both}
use Rattle.volume_calls.specs.Writing.{write_sized}
use Rattle.volume_calls.proofs.writing.test_lengths.Goals as goal

pub returns : goal.returns
returns c =
    let a = c.args in
    let w = write_sized a.depth a.block a.tree a.marks a.record_len in
    let l : c.if-sizes_fit.enter ≡ ((depth_fits a.depth && w) && length_fits a.table) = search rules in
    c.enter.ensures ∙ ap (opened a.depth) l ∙ opened_both a.depth w (length_fits a.table)
