-- `cmt_block_read` meets its contract: what the call answers, packed, and leaves.
use mathlib.Core.Path.{sym, ap, subst}
use Rattle.calls.specs.Stops.{Small}
use Rattle.volume_calls.proofs.ReadingLaws.{small}
use Rattle.calls.specs.Stops.{Answer}
use Rattle.volume_calls.specs.Reading.{BlockLeft}
use Rattle.cedunmi_c.proofs.ResultLaws.{block-left}
use Rattle.cedunmi_c.proofs.cmt_block_read.Goals as goal

pub call_result-requires : goal.call_result-requires
call_result-requires c =
    let g = c.args in
    subst Small (sym (ap (λ (w : BlockLeft Answer). w.answer) c.read_block.ensures)) (small g.depth g.root_record.now g.tree.now g.marks.now g.block.now)

pub returns : goal.returns
returns c = block-left _ _ c.call_result.ensures _ _ c.read_block.ensures
