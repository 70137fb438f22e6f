-- `check` meets its contract: refused by a test, or as the hashes say.
use mathlib.Core.Path.{sym, ap, ap₂, ◌∙◌}
use mathlib.Core.List.{List}
use Prim.Native.Nat.{ℕ}
use native.Mathlib.Omega.{arith}
use lib.ListN.{length}
use Rattle.std.proofs.lemmas.Result.{err_from_is_err_and}
use borrow.Author.Rules.{rules}
use Rattle.calls.proofs.RecordLaws.{root_length, root_part_lem}
use Rattle.model.specs.Shape.{tree}
use Rattle.model.specs.SampleCheck.{sample_check}
use Rattle.symbol_hash.specs.SymbolHash.{symbol_hash}
use Rattle.symbol_hash.specs.declared.Kind.{Kind}
use Rattle.sample_calls.specs.Checking.{led}
use Rattle.sample_calls.proofs.CheckingLaws.{passed, sizes, by_way, by_hashes}
use Rattle.sample_calls.proofs.checking.check.Goals as goal

pub returns-in_err-tests : goal.returns-in_err-tests
returns-in_err-tests c =
    let g = c.args in
    let p = err_from_is_err_and c.from_residual.result c.from_residual.ensures.1 in
    rw (p.1, p.2) (by_hashes g.depth g.number g.root_record.now g.sample.now _ c.in_err-tests.ensures)

pub kind-kind-requires : goal.kind-kind-requires
kind-kind-requires c =
    let g = c.args in
    let (k, b) = passed g.depth g.number g.root_record.now (length g.sample.now) (sym c.in_ok-tests.ensures) in
    (sizes g.depth (length g.root_record.now) (length g.sample.now) k.opened-is.lengths).0

pub slice_bounds-root-count : goal.slice_bounds-root-count
slice_bounds-root-count c =
    let g = c.args in
    let (k, b) = passed g.depth g.number g.root_record.now (length g.sample.now) (sym c.in_ok-tests.ensures) in
    let n = sizes g.depth (length g.root_record.now) (length g.sample.now) k.opened-is.lengths in
    omega (arith, n.0)

pub slice_bounds-root-start : goal.slice_bounds-root-start
slice_bounds-root-start c =
    let g = c.args in
    let (k, b) = passed g.depth g.number g.root_record.now (length g.sample.now) (sym c.in_ok-tests.ensures) in
    let n = sizes g.depth (length g.root_record.now) (length g.sample.now) k.opened-is.lengths in
    omega (arith, n.0)

pub check-requires : goal.check-requires
check-requires c =
    let g = c.args in
    let (k, b) = passed g.depth g.number g.root_record.now (length g.sample.now) (sym c.in_ok-tests.ensures) in
    let n = sizes g.depth (length g.root_record.now) (length g.sample.now) k.opened-is.lengths in
    (b, ap length (root_part_lem g.root_record.now) ∙ root_length g.root_record.now n.0, n.1)

pub returns : goal.returns
returns c =
    let g = c.args in
    by_way c.check.result c.map_err.result c.map_err.ensures.cases (λ b s k. search rules)
    ∙ ap led
    (c.check.ensures
    ∙ ap₂ (λ (x : Kind) (q : List ℕ). sample_check tree (symbol_hash x) q g.depth g.number g.sample.now) c.kind-kind.ensures (root_part_lem g.root_record.now))
    ∙ by_hashes g.depth g.number g.root_record.now g.sample.now _ c.in_ok-tests.ensures
