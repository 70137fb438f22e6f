-- `cmt_sample_take` meets its contract: what the call answers, packed, and leaves.
use mathlib.Core.Path.{sym, ap, subst}
use Rattle.calls.specs.Stops.{Small}
use Rattle.sample_calls.proofs.TakingLaws.{small}
use Rattle.calls.specs.Stops.{Answer}
use Rattle.sample_calls.specs.Taking.{SampleLeft}
use Rattle.cedunmi_c.proofs.ResultLaws.{sample-left}
use Rattle.cedunmi_c.proofs.cmt_sample_take.Goals as goal

pub call_result-requires : goal.call_result-requires
call_result-requires c =
    let g = c.args in
    subst Small (sym (ap (λ (w : SampleLeft Answer). w.answer) c.take.ensures)) (small g.depth g.number g.tree.now g.marks.now g.sample.now)

pub returns : goal.returns
returns c = sample-left _ _ c.call_result.ensures _ _ c.take.ensures
