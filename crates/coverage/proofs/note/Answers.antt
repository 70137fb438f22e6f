-- `note` meets its contract: a word that is the number of a data symbol, and one that isn't.
use native.Mathlib.Omega.{arith}
use Rattle.coverage.proofs.Tallies.{ends_low, noted_yes, noted_no}
use Rattle.coverage.proofs.note.Goals as goal

pub overflow_add-seen : goal.overflow_add-seen
overflow_add-seen c =
    omega (arith, c.requires.1 c.args.w c.if-i-seen.true)

pub returns-then-i-seen : goal.returns-then-i-seen
returns-then-i-seen c =
    let h = c.if-i-seen.true in
    (ends_low c.args.w (omega (arith, c.requires.0)), noted_yes c.args.seen.now c.args.w h)

pub returns : goal.returns
returns c =
    let a = c.args in
    (c.ends_layer.ensures, noted_no a.seen.now a.w c.if-i-seen.false)
