-- `write_by` meets its contract: refused by a test, or written.
use mathlib.Core.Path.{ap, sym, ◌∙◌}
use Prim.Native.Nat.{ℕ}
use native.Mathlib.Omega.{arith}
use lib.ListN.{length, length-replicate}
use Rattle.std.proofs.lemmas.Result.{err_from_is_err_and}
use Rattle.parity_table.specs.Accepted.{Accepted}
use Rattle.parity_table.specs.Parse.{table_of}
use Rattle.parity_table.specs.Shape.{depth_fits}
use Rattle.octets.proofs.Choice.{and_yes}
use Rattle.calls.specs.Stops.{Done}
use Rattle.calls.proofs.AdmissionLaws.{ready}
use Rattle.calls.proofs.RecordLaws.{table-short}
use Rattle.volume_calls.specs.Writing.{write_sized, written_by}
use Rattle.volume_calls.proofs.WritingLaws.{by_admitted, sizes}
use Rattle.volume_calls.proofs.writing.write_by.Goals as goal

pub returns-in_err-admit : goal.returns-in_err-admit
returns-in_err-admit g0 c =
    let g = c.args in
    let p = err_from_is_err_and c.from_residual.result c.from_residual.ensures.1 in
    rw (p.1, p.2)
    (by_admitted g.depth g.kind g.table.now g.block.now g.tree.now g.marks.now g.root_record.now _ c.sizes_fit-sized.ensures _ c.in_err-admit.ensures.0)

pub shared_whole_as_front-new : goal.shared_whole_as_front-new
shared_whole_as_front-new g0 c =
    let g = c.args in
    let k = ready g.depth c.sizes_fit-sized.result g.table.now c.in_ok-admit.ensures.0 _ _ _ _ c.requires.room c.admit.ensures.1 c.admit.ensures.2 in
    let most = c.requires.most in
    (omega (arith, k.words-room, c.admit.auto.words, length-replicate {A = ℕ} g0.row.WORDS 0), omega (arith, most))

pub slice_bounds-new-end : goal.slice_bounds-new-end
slice_bounds-new-end g0 c =
    let g = c.args in
    (ready g.depth c.sizes_fit-sized.result g.table.now c.in_ok-admit.ensures.0 _ _ _ _ c.requires.room c.admit.ensures.1 c.admit.ensures.2).words_count

pub new-accepted-requires : goal.new-accepted-requires
new-accepted-requires g0 c =
    let g = c.args in
    (ready g.depth c.sizes_fit-sized.result g.table.now c.in_ok-admit.ensures.0 _ _ _ _ c.requires.room c.admit.ensures.1 c.admit.ensures.2).indexed

pub write_with-requires : goal.write_with-requires
write_with-requires g0 c =
    let g = c.args in
    let k = ready g.depth c.sizes_fit-sized.result g.table.now c.in_ok-admit.ensures.0 _ _ _ _ c.requires.room c.admit.ensures.1 c.admit.ensures.2 in
    let (b, t, m, r) = sizes g.depth (length g.block.now) (length g.tree.now) (length g.marks.now) (length g.root_record.now) (and_yes (depth_fits g.depth) (write_sized g.depth (length g.block.now) (length g.tree.now) (length g.marks.now) (length g.root_record.now)) (sym c.sizes_fit-sized.ensures ∙ k.admits.lengths)).1 in
    rw c.new-accepted.ensures
    (record {
      layers = ap table_of k.words_there;
      table-short = table-short (length g.table.now) k.admits.taken.length-fits;
      block-fits = b;
      tree-full = t;
      marks-full = m;
      record_full = r;
    })

pub returns : goal.returns
returns g0 c =
    let g = c.args in
    c.write_with.ensures
    ∙ ap (λ (a : Accepted). written_by Done a.depth g.kind g.table.now g.block.now g.tree.now g.marks.now g.root_record.now) c.new-accepted.ensures
    ∙ by_admitted g.depth g.kind g.table.now g.block.now g.tree.now g.marks.now g.root_record.now _ c.sizes_fit-sized.ensures Done c.in_ok-admit.ensures.0
