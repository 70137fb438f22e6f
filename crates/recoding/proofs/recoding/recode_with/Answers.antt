-- `recode_with` meets its contract: refused by a test, or the source's block written.
use mathlib.Core.List.{List}
use mathlib.Core.Path.{◌≡◌, ◌∙◌, ap, ap₂}
use Prim.Native.Nat.{ℕ, ◌+◌, ◌-◌, ◌*◌, ◌≤◌}
use native.Mathlib.Omega.{arith}
use lib.ListN.{length, take}
use Rattle.std.proofs.lemmas.Result.{err_from_is_err_and}
use Rattle.parity_table.specs.Shape.{k_of}
use Rattle.symbol_hash.specs.declared.Kind.{Kind}
use Rattle.model.specs.Shape.{tree, places}
use Rattle.model.specs.Writer.{block_of}
use Rattle.coded_tree.proofs.BlockLaws.{base-room, block_part}
use Rattle.calls.specs.Stops.{Answer, Done}
use Rattle.volume_calls.specs.Writing.{written_by}
use Rattle.recoding.specs.Recoding.{other_kind}
use Rattle.recoding.proofs.RecodingLaws.{block-short}
use Rattle.recoding.proofs.recoding.recode_with.Goals as goal
use Rattle.recoding.proofs.recoding.recode_with.Goals.{After-first_place-from}

pub returns-in_err-test_source : goal.returns-in_err-test_source
returns-in_err-test_source c =
    let a = c.args in
    let p = err_from_is_err_and c.from_residual.result c.from_residual.ensures.1 in
    rw (p.1, p.2)
    (ap (λ (x : Answer). written_by x a.table.now.depth (other_kind a.kind) a.bytes.now (take a.n (block_of tree a.table.now.depth a.tree.now)) a.new_tree.now a.new_marks.now a.new_record.now) c.in_err-test_source.ensures)

pub overflow_sub-depth : goal.overflow_sub-depth
overflow_sub-depth c = omega (arith, c.depth.ensures.kept.some, c.depth.ensures.depth)

pub first_place-from-requires : goal.first_place-from-requires
first_place-from-requires c = omega (arith, c.depth.ensures.kept.some, c.depth.ensures.kept.shallow, c.depth.ensures.depth)

-- the block's first place
base-is : (c : After-first_place-from) → c.first_place-from.result ≡ places tree (c.args.table.now.depth - 1)
base-is c = c.first_place-from.ensures ∙ ap (λ (d : ℕ). places tree (d - 1)) c.depth.ensures.depth

-- the block is in the tree
room : (c : After-first_place-from) → 256 * c.first_place-from.result + 256 * k_of (c.args.table.now.depth - 1) ≤ length c.args.tree.now
room c = base-room c.args.table.now.depth _ c.args.tree.now c.depth.ensures.kept.some (base-is c) c.requires.source.tree-full

pub overflow_mul-from : goal.overflow_mul-from
overflow_mul-from c = omega (arith, c.requires.size_fits, room (goal.at.overflow_mul-from c).After-first_place-from)

pub overflow_add-to : goal.overflow_add-to
overflow_add-to c = omega (arith, c.requires.size_fits, room (goal.at.overflow_add-to c).After-first_place-from)

pub slice_bounds-write_with-end : goal.slice_bounds-write_with-end
slice_bounds-write_with-end c = omega (arith, c.requires.size_fits, room (goal.at.slice_bounds-write_with-end c).After-first_place-from)

pub write_with-requires : goal.write_with-requires
write_with-requires c =
    let k = c.requires in
    k.writable _ (block-short c.args.table.now.depth _ c.args.tree.now c.depth.ensures.kept.some (base-is (goal.at.write_with-requires c).After-first_place-from) k.source.tree-full c.args.n k.size_fits)

pub returns : goal.returns
returns c =
    let a = c.args in
    let d = a.table.now.depth in
    let k = c.requires in
    c.write_with.ensures
    ∙ ap₂ (λ (k : Kind) (b : List ℕ). written_by Done d k a.bytes.now b a.new_tree.now a.new_marks.now a.new_record.now) c.other.ensures (block_part d _ a.tree.now c.depth.ensures.kept.some (base-is (goal.at.returns c).After-first_place-from) k.source.tree-full a.n k.size_fits)
    ∙ ap (λ (x : Answer). written_by x d (other_kind a.kind) a.bytes.now (take a.n (block_of tree d a.tree.now)) a.new_tree.now a.new_marks.now a.new_record.now) c.in_ok-test_source.ensures
