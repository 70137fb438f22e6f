-- `cmt_recode` meets its contract: what the call answers, packed, and leaves.
use mathlib.Core.Path.{sym, ap, subst}
use Rattle.calls.specs.Stops.{Small}
use Rattle.calls.specs.Stops.{Answer}
use Rattle.volume_calls.specs.Writing.{TreeLeft}
use Rattle.recoding.proofs.RecodingLaws.{small}
use Rattle.cedunmi_c.proofs.ResultLaws.{tree-left}
use Rattle.cedunmi_c.proofs.cmt_recode.Goals as goal

pub call_result-requires : goal.call_result-requires
call_result-requires c =
    let g = c.args in
    subst Small (sym (ap (λ (w : TreeLeft Answer). w.answer) c.recode.ensures)) (small g.depth g.root_record.now g.table.now g.tree.now g.marks.now g.new_tree.now g.new_marks.now g.new_record.now)

pub returns : goal.returns
returns c = tree-left _ _ c.call_result.ensures _ _ _ _ c.recode.ensures
