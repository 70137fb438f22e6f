-- `read` meets its contract: the depth, then the table.
use Rattle.std.proofs.Common.{sym, ◌∙◌}
use Rattle.parity_table.proofs.Shape.{depth_is}
use Rattle.parity_table.proofs.Accepts.{read-depth, read-run}
use Rattle.table_reader.proofs.Steps.{refused_by}
use Rattle.table_reader.proofs.read.Goals as goal

pub returns-then-not-depth_fits : goal.returns-then-not-depth_fits
returns-then-not-depth_fits c =
    let a = c.args in
    read-depth a.depth a.ws.now (sym c.depth_fits.ensures ∙ c.if-not-depth_fits.true)

pub layers-requires : goal.layers-requires
layers-requires c = (depth_is c.args.depth (sym c.depth_fits.ensures ∙ c.if-not-depth_fits.false)).1

pub returns-in_err-layers : goal.returns-in_err-layers
returns-in_err-layers c =
    let d = c.args.depth in
    let ws = c.args.ws.now in
    sym (refused_by d _ ws _ c.layers.result c.from_residual.result c.in_err-layers.was c.from_residual.ensures.1)
    ∙ sym c.layers.ensures.read
    ∙ read-run d ws (sym c.depth_fits.ensures ∙ c.if-not-depth_fits.false)

pub returns : goal.returns
returns c =
    let d = c.args.depth in
    let ws = c.args.ws.now in
    rw c.layers.ensures.same at (c.end.ensures d)
    ∙ sym c.in_ok-layers.ensures.read
    ∙ read-run d ws (sym c.depth_fits.ensures ∙ c.if-not-depth_fits.false)
