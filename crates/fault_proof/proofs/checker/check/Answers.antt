-- `check` meets its contract: the first two words of the head, then the tests of the equation that they name.
use mathlib.Core.Path.{◌≡◌, sym, ◌∙◌}
use Prim.Native.Nat.{ℕ, ◌*◌, ◌<◌}
use native.Mathlib.Omega.{arith}
use lib.ListN.{length}
use Rattle.symbol_hash.specs.SymbolHash.{symbol_hash}
use Rattle.parity_table.specs.Accepted.{Accepted, Kept}
use Rattle.parity_table.proofs.Shape.{k_small}
use Rattle.model.specs.Shape.{tree}
use Rattle.model.proofs.Hung.{tree_hangs}
use Rattle.fault_proof.proofs.HeadLaws.{layer-refused, layer_below, equation-refused, equation-below, named-judged, layer-known, layer-size, named-members}
use Rattle.fault_proof.proofs.checker.check.Goals as goal
use Rattle.fault_proof.proofs.checker.check.Goals.{After-data_count, After-value_at, After-value_at-j}

-- the table has as many layers as the depth says, the head names one of them, which has as many equations as the code counts, and one of these
depth-is : {t : Accepted} {d : ℕ} → Kept t → d ≡ t.depth → length t.layers ≡ d
depth-is kept e = kept.rules.depth ∙ sym e

layer-named : (c : After-value_at-j) → c.value_at-j.result < c.args.table.now.depth
layer-named c =
    let a = c.args in
    let h = layer_below a.table.now.layers a.proof.now c.depth.result (depth-is c.depth.ensures.kept c.depth.ensures.depth) c.names.result c.names.ensures c.if-not-names.false c.value_at-j.result c.value_at-j.ensures in
    omega (arith, h, c.depth.ensures.depth)

pub returns-then-not-names : goal.returns-then-not-names
returns-then-not-names c =
    let a = c.args in
    layer-refused a.table.now.layers a.proof.now c.depth.result (depth-is c.depth.ensures.kept c.depth.ensures.depth) c.names.result c.names.ensures tree (symbol_hash a.kind) a.root.now c.if-not-names.true

pub data_count-requires : goal.data_count-requires
data_count-requires c = layer-known c.depth.ensures.kept c.value_at-j.result (layer-named (goal.at.data_count-requires c).After-value_at-j)

pub overflow_mul-data_count : goal.overflow_mul-data_count
overflow_mul-data_count c =
    let known = layer-known c.depth.ensures.kept c.value_at-j.result (layer-named (goal.at.overflow_mul-data_count c).After-value_at-j) in
    omega (arith, c.data_count.ensures, k_small c.value_at-j.result known)

-- the equation that the head names: it is one of the layer's
equation-named : (c : After-value_at) → c.value_at-j.result < c.args.table.now.depth → c.value_at.result < 3 * c.data_count.result
equation-named c hj =
    let a = c.args in
    let j = c.value_at-j in
    let k = c.data_count in
    let e = c.value_at in
    let kept = c.depth.ensures.kept in
    equation-below a.table.now.layers a.proof.now c.depth.result (depth-is kept c.depth.ensures.depth) c.names.result c.names.ensures c.if-not-names.false j.result j.ensures
    (3 * k.result) (layer-size kept j.result hj k.result k.ensures) c.names-2.result c.names-2.ensures c.if-not-names-2.false e.result e.ensures

pub returns-then-not-names-2 : goal.returns-then-not-names-2
returns-then-not-names-2 c =
    let a = c.args in
    let j = c.value_at-j in
    let k = c.data_count in
    let kept = c.depth.ensures.kept in
    let hj = layer-named (goal.at.returns-then-not-names-2 c).After-value_at-j in
    equation-refused a.table.now.layers a.proof.now c.depth.result (depth-is kept c.depth.ensures.depth) c.names.result c.names.ensures c.if-not-names.false j.result j.ensures
    (3 * k.result) (layer-size kept j.result hj k.result k.ensures) c.names-2.result c.names-2.ensures tree (symbol_hash a.kind) a.root.now c.if-not-names-2.true

pub members-members-requires : goal.members-members-requires
members-members-requires c =
    let hj = layer-named (goal.at.members-members-requires c).After-value_at-j in
    (hj, omega (arith, equation-named (goal.at.members-members-requires c).After-value_at hj, c.data_count.ensures))

pub judge-requires : goal.judge-requires
judge-requires c =
    let k = c.data_count in
    let hj = layer-named (goal.at.judge-requires c).After-value_at-j in
    let he = equation-named (goal.at.judge-requires c).After-value_at hj in
    (named-members c.depth.ensures.kept c.value_at-j.result hj k.result k.ensures c.value_at.result he c.args.root.now _ c.requires.0 c.members-members.ensures, c.requires.1)

pub returns : goal.returns
returns c =
    let a = c.args in
    let j = c.value_at-j in
    let k = c.data_count in
    let e = c.value_at in
    let kept = c.depth.ensures.kept in
    let hj = layer-named (goal.at.returns c).After-value_at-j in
    named-judged a.table.now.layers a.proof.now c.depth.result (depth-is kept c.depth.ensures.depth) c.names.result c.names.ensures c.if-not-names.false j.result j.ensures
    (3 * k.result) (layer-size kept j.result hj k.result k.ensures) c.names-2.result c.names-2.ensures c.if-not-names-2.false e.result e.ensures tree (symbol_hash a.kind) a.root.now _
    c.members-members.ensures _ (c.judge.ensures tree (tree_hangs j.result))
