-- `write_tree_by` meets its contract: the kind of this number, or 11 after tests 1 and 2.
use mathlib.Core.Path.{refl, ap, ◌∙◌}
use Rattle.std.proofs.lemmas.Result.{err_from_is_err_and}
use Rattle.symbol_hash.specs.declared.Kind.{Kind}
use Rattle.calls.specs.declared.Stop.TheVariants.{Record}
use Rattle.calls.specs.Stops.{Done}
use Rattle.volume_calls.specs.Writing.{tree_written}
use Rattle.volume_calls.proofs.WritingLaws.{kind-is, as_kind, no_kind}
use Rattle.volume_calls.proofs.writing.write_tree_by.Goals as goal

pub returns-in-Ok : goal.returns-in-Ok
returns-in-Ok c =
    let a = c.args in
    let k = kind-is c.in-Ok.kind a.number c.in-Ok.ensures in
    c.write_tree.ensures
    ∙ ap (λ (k : Kind). tree_written a.depth k a.table.now a.block.now a.tree.now a.marks.now a.root_record.now) k.0
    ∙ as_kind a.depth a.number a.table.now a.block.now a.tree.now a.marks.now a.root_record.now k.1

pub returns-in_err-test_lengths : goal.returns-in_err-test_lengths
returns-in_err-test_lengths c =
    let a = c.args in
    let p = err_from_is_err_and c.from_residual.result c.from_residual.ensures.1 in
    rw (p.1, p.2)
    (no_kind a.depth a.number a.table.now a.block.now a.tree.now a.marks.now a.root_record.now c.in_default.ensures _ c.in_err-test_lengths.ensures _ refl)

pub returns : goal.returns
returns c =
    let a = c.args in
    no_kind a.depth a.number a.table.now a.block.now a.tree.now a.marks.now a.root_record.now c.in_default.ensures Done c.in_ok-test_lengths.ensures Record refl
