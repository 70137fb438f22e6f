-- `cmt_tree_write` meets its contract: what the call answers, packed, and leaves.
use mathlib.Core.Path.{sym, ap, subst}
use Rattle.calls.specs.Stops.{Small}
use Rattle.volume_calls.proofs.WritingLaws.{small_by}
use Rattle.calls.specs.Stops.{Answer}
use Rattle.volume_calls.specs.Writing.{TreeLeft}
use Rattle.cedunmi_c.proofs.ResultLaws.{tree-left}
use Rattle.cedunmi_c.proofs.cmt_tree_write.Goals as goal

pub call_result-requires : goal.call_result-requires
call_result-requires c =
    let g = c.args in
    subst Small (sym (ap (λ (w : TreeLeft Answer). w.answer) c.write_tree_by.ensures)) (small_by g.depth g.kind g.table.now g.block.now g.tree.now g.marks.now g.root_record.now)

pub returns : goal.returns
returns c = tree-left _ _ c.call_result.ensures _ _ _ _ c.write_tree_by.ensures
