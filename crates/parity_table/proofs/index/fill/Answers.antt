-- `fill` meets its contract. The loop keeps `Filling`: the starts found in the words passed are written.
use Rattle.std.proofs.Common.{sym, ◌∙◌, arith}
use Rattle.parity_table.proofs.Starts.{filling_skip, filling_room, filling_put, filling_end}
use Rattle.parity_table.proofs.index.fill.Goals as goal
use Rattle.parity_table.proofs.index.fill.Goals.{then-opens_equation, else-opens_equation}

pub bounds-starts-found : goal.bounds-starts-found
bounds-starts-found c =
    let l = c.loop-i in
    filling_room c.args.ws.now c.args.starts.now l.starts l.found l.i l.invariant (omega arith) (sym c.opens_equation.ensures ∙ c.if-opens_equation.true)

pub loop-i-preserved : goal.loop-i-preserved
loop-i-preserved c =
    let a = c.args in
    let l = c.loop-i in
    elim c.if-opens_equation.branch [
      | then-opens_equation w ↦ rw (w.starts-is, w.found-is) (filling_put a.ws.now a.starts.now l.starts l.found l.i l.invariant (omega arith) (sym c.opens_equation.ensures ∙ w.if-opens_equation.true))
      | else-opens_equation w ↦ rw (w.starts-is, w.found-is) (filling_skip a.ws.now a.starts.now l.starts l.found l.i l.invariant (omega arith) (sym c.opens_equation.ensures ∙ w.if-opens_equation.false))
    ]

pub returns : goal.returns
returns c =
    let l = c.loop-i in
    filling_end c.args.ws.now c.args.starts.now l.starts l.found l.i l.invariant (omega arith)
