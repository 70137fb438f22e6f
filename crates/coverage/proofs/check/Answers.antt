-- `check` meets its contract. The loop keeps: layer j begins at word `at`, and the first layer with such a symbol, from j on, is the first of all.
use Rattle.std.proofs.Common.{◌≡◌, ◌∙◌, ap, subst, arith, ℕ, ◌+◌, ◌-◌, ◌*◌, ◌^◌, ◌<◌, List, length, take, Err}
use mathlib.Core.Path.{ap₂}
use lib.ListN.{length-take}
use Rattle.std.proofs.lemmas.Result.{err_from_is_err_and}
use Rattle.parity_table.specs.Shape.{max_depth, k_of}
use Rattle.parity_table.specs.Parse.{table_of}
use Rattle.parity_table.proofs.Shape.{k-low}
use Rattle.coverage.specs.Coverage.{Coverage, UncoveredAt}
use Rattle.coverage.specs.Counting.{LayerCounted}
use Rattle.coverage.proofs.Layers.{few_words, stands-first, known, past_opener, layer-ends, stands-next, lowest_there, from_first, thin_found, none_thin, all_covered}
use Rattle.coverage.proofs.check.Goals as goal

pub loop-j-init : goal.loop-j-init
loop-j-init c =
    let a = c.args in
    record { accepted = c.requires; stands = stands-first a.depth a.ws.now c.requires; from = from_first a.depth (table_of a.ws.now) }

pub data_count-requires : goal.data_count-requires
data_count-requires c =
    let i = c.loop-j.invariant in
    known c.args.depth c.args.ws.now i.accepted c.loop-j.at c.loop-j.j i.stands (omega arith)

pub overflow_add-at : goal.overflow_add-at
overflow_add-at c =
    let i = c.loop-j.invariant in
    omega (arith, past_opener c.args.depth c.args.ws.now i.accepted c.loop-j.at c.loop-j.j i.stands (omega arith), c.well_formed)

pub slice_bounds-seen-end : goal.slice_bounds-seen-end
slice_bounds-seen-end c =
    let i = c.loop-j.invariant in
    let h = known c.args.depth c.args.ws.now i.accepted c.loop-j.at c.loop-j.j i.stands (omega arith) in
    omega (arith, c.data_count.ensures, k-low c.loop-j.j h)

-- a layer's entries, in front of those that there are for the lowest
long : (j k : ℕ) (seen : List ℕ) → j < max_depth → k ≡ k_of j → length seen ≡ 4 * 2 ^ (max_depth - 1) → length (take k seen) ≡ k_of j
long j k seen h e n = omega (arith, length-take k seen, k-low j h)

pub slice_bounds-check_layer-end : goal.slice_bounds-check_layer-end
slice_bounds-check_layer-end c =
    let i = c.loop-j.invariant in
    let h = known c.args.depth c.args.ws.now i.accepted c.loop-j.at c.loop-j.j i.stands (omega arith) in
    omega (arith, long c.loop-j.j _ c.loop-j.seen h c.data_count.ensures c.data_count.array_long, c.data_count.ensures)

pub check_layer-requires : goal.check_layer-requires
check_layer-requires c =
    let a = c.args in
    let l = c.loop-j in
    let i = l.invariant in
    let h = known a.depth a.ws.now i.accepted l.at l.j i.stands (omega arith) in (
      layer-ends a.depth a.ws.now i.accepted l.at l.j i.stands (omega arith),
      omega (arith, long l.j _ l.seen h c.data_count.ensures c.data_count.array_long, k-low l.j h),
      few_words a.depth a.ws.now i.accepted,
    )

pub returns-in_err-at : goal.returns-in_err-at
returns-in_err-at c =
    let a = c.args in
    let l = c.loop-j in
    let i = l.invariant in
    let h = known a.depth a.ws.now i.accepted l.at l.j i.stands (omega arith) in
    let n = long l.j _ l.seen h c.data_count.ensures c.data_count.array_long in
    let u = c.in_err-at.field-0.0 in
    let (layer, inside, (end, counts)) = c.in_err-at.ensures in
    let low = lowest_there a.depth a.ws.now i.accepted l.at l.j i.stands (omega arith) end u.symbol (subst (λ (k : ℕ). LayerCounted a.ws.now (l.at + 1) k end u.symbol) n counts) in
    let (y, g, same) = err_from_is_err_and c.from_residual.result c.from_residual.ensures.1 in
    g
    ∙ ap {B = Coverage} Err same
    ∙ ap₂ UncoveredAt layer low
    ∙ thin_found a.depth (table_of a.ws.now) l.j i.from (omega arith) (omega (arith, low, n, inside))

pub loop-j-preserved : goal.loop-j-preserved
loop-j-preserved c =
    let a = c.args in
    let l = c.loop-j in
    let i = l.invariant in
    let h = known a.depth a.ws.now i.accepted l.at l.j i.stands (omega arith) in
    let n = long l.j _ l.seen h c.data_count.ensures c.data_count.array_long in
    let end = c.in_ok-at.at in
    let counts = subst (λ (k : ℕ). LayerCounted a.ws.now (l.at + 1) k end k) n c.in_ok-at.ensures in
    let low = lowest_there a.depth a.ws.now i.accepted l.at l.j i.stands (omega arith) end (k_of l.j) counts in record {
      accepted = i.accepted;
      stands = stands-next a.depth a.ws.now i.accepted l.at l.j i.stands (omega arith) end (k_of l.j) counts;
      from = none_thin a.depth (table_of a.ws.now) l.j i.from (omega arith) (omega (arith, low));
    }

pub returns : goal.returns
returns c =
    let i = c.loop-j.invariant in
    all_covered c.args.depth (table_of c.args.ws.now) c.loop-j.j i.from (omega arith)
