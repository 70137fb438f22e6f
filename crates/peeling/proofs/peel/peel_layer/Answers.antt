-- `peel_layer` meets its contract. The loop keeps: what is left to do gives what all of it gives, and the lists of the search are right.
-- every turn takes an equation
use Rattle.std.proofs.Common.{arith}
use Rattle.peeling.proofs.LoopLaws.{lower_asks, search_over, search_refuted, search_start, search_stored, search_used, stored_less, take_asks, used_less}
use Rattle.peeling.proofs.PeelLaws.{stored-few}
use Rattle.peeling.proofs.TurnLaws.{stored_turn, used_turn}
use Rattle.peeling.proofs.peel.peel_layer.Goals as goal

pub loop-e-init : goal.loop-e-init
loop-e-init c = search_start c.requires.0 c.args.kind c.args.stored

pub take-turn-requires : goal.take-turn-requires
take-turn-requires c = take_asks c.requires.0 c.loop-e.invariant c.in-Some.ensures

pub loop-e-smaller-in-Ok-None : goal.loop-e-smaller-in-Ok-None
loop-e-smaller-in-Ok-None c =
    used_less c.requires.0 c.loop-e.invariant c.in-Some.ensures c.past-at.ensures c.take-turn.ensures (used_turn c.in-Some.e _ (cc))

pub loop-e-preserved-in-Ok-None : goal.loop-e-preserved-in-Ok-None
loop-e-preserved-in-Ok-None c =
    let k = c.take-turn.auto in
    search_used c.requires.0 c.loop-e.invariant c.in-Some.ensures c.past-at.ensures c.take-turn.ensures k.tree k.marks k.out k.used (used_turn c.in-Some.e _ (cc))

pub overflow_add-stored : goal.overflow_add-stored
overflow_add-stored c = omega (arith, stored-few c.loop-e.invariant.peeling, c.requires.1, c.requires.0.lent.low)

pub lower-requires : goal.lower-requires
lower-requires c =
    let k = c.take-turn.auto in
    lower_asks c.requires.0 c.loop-e.invariant c.in-Some.ensures c.past-at.ensures c.take-turn.ensures k.tree k.marks k.out k.used _ (stored_turn c.in-Some.e _ _ (cc))

pub loop-e-smaller : goal.loop-e-smaller
loop-e-smaller c =
    stored_less c.requires.0 c.loop-e.invariant c.in-Some.ensures c.past-at.ensures c.take-turn.ensures _ (stored_turn c.in-Some.e c.in-Ok-Some.x _ (cc))

pub loop-e-preserved : goal.loop-e-preserved
loop-e-preserved c =
    let y = c.lower in
    let k = c.take-turn.auto in
    search_stored c.requires.0 c.loop-e.invariant c.in-Some.ensures c.past-at.ensures c.take-turn.ensures k.tree k.marks k.out k.used _ (stored_turn c.in-Some.e _ _ (cc)) _ _ y.auto.absent y.ensures.0 y.ensures.1

pub returns-in-Err : goal.returns-in-Err
returns-in-Err c =
    (search_refuted c.requires.0 c.loop-e.invariant c.in-Some.ensures c.past-at.ensures c.take-turn.ensures _ (cc), stored-few c.loop-e.invariant.peeling, tt)

pub returns : goal.returns
returns c = search_over c.requires.0 c.loop-e.invariant c.in_default.ensures
