-- `enter` meets its contract: the depth, then the lengths.
use mathlib.Core.Path.{sym, ◌∙◌}
use Rattle.calls.proofs.TestLaws.{no_depth, no_length, opens}
use Rattle.calls.proofs.admission.enter.Goals as goal

pub returns-then-not-depth_fits : goal.returns-then-not-depth_fits
returns-then-not-depth_fits c =
    let g = c.args in
    no_depth g.depth g.sized (sym c.depth_fits.ensures ∙ c.if-not-depth_fits.true)

pub returns-then-not-sized : goal.returns-then-not-sized
returns-then-not-sized c =
    let g = c.args in
    no_length g.depth g.sized (sym c.depth_fits.ensures ∙ c.if-not-depth_fits.false) c.if-not-sized.true

pub returns : goal.returns
returns c =
    let g = c.args in
    opens g.depth g.sized (sym c.depth_fits.ensures ∙ c.if-not-depth_fits.false) c.if-not-sized.false
