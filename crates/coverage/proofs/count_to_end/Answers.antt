-- `count_to_end` meets its contract. The loop keeps: the pass from here on comes to what all of it comes to, and some word ends the layer; no symbol
-- was seen more often than there were words.
use mathlib.Core.Path.{refl, sym, ap, ◌∙◌, subst}
use mathlib.Core.List.{List}
use Prim.Native.Nat.{ℕ, ◌+◌}
use native.Mathlib.Omega.{arith}
use lib.ListN.{length, get_or, drop}
use Rattle.coverage.specs.Counting.{Below, tallied, tally}
use Rattle.coverage.proofs.Tallies.{end-inside, end_later, noted-length, noted-below, noted-end, tally-end, tally_on}
use Rattle.coverage.proofs.count_to_end.Goals as goal

pub loop-end-init : goal.loop-end-init
loop-end-init c = let p = c.requires in (p.0, p.2, refl, refl)

pub offset_bounds-ws-end : goal.offset_bounds-ws-end
offset_bounds-ws-end c =
    let l = c.loop-end in
    omega (arith, end-inside c.args.ws.now l.end l.invariant.0, c.well_formed)

pub bounds-ws-end : goal.bounds-ws-end
bounds-ws-end c = let l = c.loop-end in end-inside c.args.ws.now l.end l.invariant.0

pub note-requires : goal.note-requires
note-requires c =
    let l = c.loop-end in
    let h = end-inside c.args.ws.now l.end l.invariant.0 in
    (omega (arith, c.requires.1, l.invariant.2), λ i q. omega (arith, l.invariant.1 i q, c.requires.3))

pub returns : goal.returns
returns c =
    let ws = c.args.ws.now in
    let l = c.loop-end in
    let n = c.note.ensures in
    let t = sym n.0 ∙ c.loop-end-test.false in
    let h = end-inside ws l.end l.invariant.0 in
    let e = n.1 ∙ noted-end l.seen (get_or ws l.end 0) (omega (arith, c.requires.1, l.invariant.2)) t in
    (omega arith, ap (λ (x : List ℕ). tallied x (drop l.end ws)) e ∙ tally-end l.seen ws l.end h t ∙ l.invariant.3)

pub overflow_add-end : goal.overflow_add-end
overflow_add-end c =
    let l = c.loop-end in
    omega (arith, end-inside c.args.ws.now l.end l.invariant.0, c.well_formed)

pub loop-end-smaller : goal.loop-end-smaller
loop-end-smaller c = let l = c.loop-end in omega (arith, end-inside c.args.ws.now l.end l.invariant.0)

pub loop-end-preserved : goal.loop-end-preserved
loop-end-preserved c =
    let ws = c.args.ws.now in
    let l = c.loop-end in
    let n = c.note.ensures in
    let t = sym n.0 ∙ c.loop-end-test.true in
    let w = get_or ws l.end 0 in (
      end_later ws l.end l.invariant.0 t,
      subst (λ (x : List ℕ). Below x (l.end + 1)) (sym n.1) (noted-below l.seen w l.end l.invariant.1),
      ap length n.1 ∙ noted-length l.seen w ∙ l.invariant.2,
      ap (λ (x : List ℕ). tally x (drop (l.end + 1) ws)) n.1 ∙ tally_on l.seen ws l.end (end-inside ws l.end l.invariant.0) t ∙ l.invariant.3,
    )
