-- `put_number` meets its contract: one digit, or two.
use mathlib.Core.Path.{ap, ◌∙◌}
use native.Mathlib.Omega.{arith}
use lib.ListN.{length}
use lib.Seq.{sets}
use Rattle.listing.proofs.TextLaws.{one_digit, two_digits, two-stores}
use Rattle.listing.proofs.text.put_number.Goals as goal

pub bounds-text-at : goal.bounds-text-at
bounds-text-at c = omega (arith, ap length (one_digit c.args.n c.if-n-lt10.true))

pub returns-then-n-lt10 : goal.returns-then-n-lt10
returns-then-n-lt10 c =
    let a = c.args in
    let e = one_digit a.n c.if-n-lt10.true in
    (omega (arith, ap length e), ap (sets a.text.now a.at) e)

pub bounds-text-at-2 : goal.bounds-text-at-2
bounds-text-at-2 c = omega (arith, ap length (two_digits c.args.n c.if-n-lt10.false))

pub bounds-text-at-3 : goal.bounds-text-at-3
bounds-text-at-3 c = omega (arith, ap length (two_digits c.args.n c.if-n-lt10.false))

pub returns : goal.returns
returns c =
    let a = c.args in
    let e = two_digits a.n c.if-n-lt10.false in
    (omega (arith, ap length e), two-stores a.text.now a.at _ _ ∙ ap (sets a.text.now a.at) e)
