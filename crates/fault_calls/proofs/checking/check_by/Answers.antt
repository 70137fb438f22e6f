-- `check_by` meets its contract: refused by a test, or as the verdict says.
use mathlib.Core.Path.{sym, ap, ◌∙◌}
use Prim.Native.Nat.{ℕ}
use native.Mathlib.Omega.{arith}
use lib.ListN.{length, length-replicate}
use Rattle.std.proofs.lemmas.Result.{err_from_is_err_and}
use Rattle.parity_table.specs.Accepted.{Accepted}
use Rattle.parity_table.specs.Parse.{table_of}
use Rattle.calls.proofs.RecordLaws.{ready_by, root_length, root_part_lem}
use Rattle.fault_calls.proofs.CheckingLaws.{lengths, refused, sizes, went_on}
use Rattle.fault_calls.proofs.checking.check_by.Goals as goal

pub admit_by-requires : goal.admit_by-requires
admit_by-requires over c = (c.requires.room, λ e. (sizes _ _ (sym c.sizes_fit-sized.ensures ∙ e)).0)

pub returns-in_err-admit_by : goal.returns-in_err-admit_by
returns-in_err-admit_by over c =
    let g = c.args in
    let p = err_from_is_err_and c.from_residual.result c.from_residual.ensures.1 in
    rw (p.1, p.2) (refused g.depth g.root_record.now g.table.now g.proof.now c.sizes_fit-sized.ensures _ c.in_err-admit_by.ensures.0)

pub kind-kind-requires : goal.kind-kind-requires
kind-kind-requires over c =
    let g = c.args in
    (lengths g.depth g.root_record.now g.table.now g.proof.now c.sizes_fit-sized.ensures c.in_ok-admit_by.ensures.0).0

pub slice_bounds-root-start : goal.slice_bounds-root-start
slice_bounds-root-start over c =
    let g = c.args in
    omega (arith, (lengths g.depth g.root_record.now g.table.now g.proof.now c.sizes_fit-sized.ensures c.in_ok-admit_by.ensures.0).0)

pub slice_bounds-root-count : goal.slice_bounds-root-count
slice_bounds-root-count over c =
    let g = c.args in
    omega (arith, (lengths g.depth g.root_record.now g.table.now g.proof.now c.sizes_fit-sized.ensures c.in_ok-admit_by.ensures.0).0)

pub shared_whole_as_front-new : goal.shared_whole_as_front-new
shared_whole_as_front-new over c =
    let g = c.args in
    let k = ready_by g.depth _ g.root_record.now g.table.now c.in_ok-admit_by.ensures.0 _ _ _ _ c.requires.room c.admit_by.ensures.1 c.admit_by.ensures.2 in
    (omega (arith, k.words-room, c.admit_by.auto.words, length-replicate {A = ℕ} over.row.WORDS 0), omega (arith, c.requires.most))

pub new-table-requires : goal.new-table-requires
new-table-requires over c =
    let g = c.args in
    (ready_by g.depth _ g.root_record.now g.table.now c.in_ok-admit_by.ensures.0 _ _ _ _ c.requires.room c.admit_by.ensures.1 c.admit_by.ensures.2).indexed

pub check-requires : goal.check-requires
check-requires over c =
    let g = c.args in
    let (r, l) = lengths g.depth g.root_record.now g.table.now g.proof.now c.sizes_fit-sized.ensures c.in_ok-admit_by.ensures.0 in
    (ap length (root_part_lem g.root_record.now) ∙ root_length g.root_record.now r, l)

pub returns : goal.returns
returns over c =
    let g = c.args in
    let e = c.in_ok-admit_by.ensures.0 in
    let k = ready_by g.depth _ g.root_record.now g.table.now e _ _ _ _ c.requires.room c.admit_by.ensures.1 c.admit_by.ensures.2 in
    c.answer_of.ensures
    ∙ went_on g.depth g.root_record.now g.table.now g.proof.now c.sizes_fit-sized.ensures _ _ _ _ c.kind-kind.ensures (root_part_lem g.root_record.now) (ap (λ (t : Accepted). t.layers) c.new-table.ensures ∙ ap table_of k.words_there) c.check.ensures e
