-- `pick` meets its contract: by the order's least entry, and where it has none, by the search from the cursor on.
use mathlib.Core.Path.{refl}
use native.Mathlib.Omega.{arith}
use Rattle.peeling.proofs.PickLaws.{picked_after, picked_before}
use Rattle.peeling.proofs.search.pick.Goals as goal

pub least-e-requires : goal.least-e-requires
least-e-requires c = (c.requires.0.tournament, omega (arith, c.requires.0.sized, c.requires.2))

pub next_ready-requires : goal.next_ready-requires
next_ready-requires c = (c.requires.4, c.requires.1)

pub returns-then-n-e : goal.returns-then-n-e
returns-then-n-e c =
    picked_after c.args.used.now c.args.absent.now c.args.at c.requires.0 c.least-e.ensures c.if-n-e.true _ c.next_ready.ensures

pub overflow_cast-n : goal.overflow_cast-n
overflow_cast-n c = omega (arith, c.requires.3)

pub set-requires : goal.set-requires
set-requires c = (c.requires.0.tournament, omega (arith, c.requires.0.sized, c.if-n-e.false))

pub shape_of-order : goal.shape_of-order
shape_of-order c = c.set.auto.tree

pub returns : goal.returns
returns c =
    picked_before c.args.used.now c.args.absent.now c.args.at c.requires.0 c.least-e.ensures (omega (arith, c.if-n-e.false)) _ _ refl c.set.ensures
