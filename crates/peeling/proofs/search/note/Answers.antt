-- `note` meets its contract: the equation enters the order where it has become one to take, and is before the cursor.
use mathlib.Core.Path.{refl}
use native.Mathlib.Omega.{arith}
use Rattle.peeling.proofs.OrderLaws.{noted_late, noted_many, noted-ready, noted-used}
use Rattle.peeling.proofs.search.note.Goals as goal

pub returns-then-left-ne1 : goal.returns-then-left-ne1
returns-then-left-ne1 c =
    (refl, noted_many c.args.used.now c.args.absent.now c.args.at c.requires.0 c.args.q c.requires.1 c.requires.3 c.requires.4 c.if-left-ne1.true)

pub returns-then-at-q : goal.returns-then-at-q
returns-then-at-q c =
    (refl, noted_late c.args.used.now c.args.absent.now c.args.at c.requires.0 c.args.q c.requires.1 c.requires.3 c.requires.4 c.if-at-q.true)

pub returns-then-used-q-ne0 : goal.returns-then-used-q-ne0
returns-then-used-q-ne0 c =
    (refl, noted-used c.args.used.now c.args.absent.now c.args.at c.requires.0 c.args.q c.requires.1 c.requires.3 c.requires.4 c.if-used-q-ne0.true)

pub returns : goal.returns
returns c =
    (refl, noted-ready c.args.used.now c.args.absent.now c.args.at c.requires.0 c.args.q c.requires.1 c.requires.3 c.requires.4 (omega (arith, c.if-at-q.false)) c.if-used-q-ne0.false c.if-left-ne1.false _ c.set.ensures)
