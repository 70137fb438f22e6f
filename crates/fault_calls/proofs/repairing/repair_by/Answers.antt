-- `repair_by` meets its contract: refused by a test, or handed on.
use mathlib.Core.Path.{ap, ◌∙◌}
use Prim.Native.Nat.{ℕ}
use native.Mathlib.Omega.{arith}
use lib.ListN.{length, length-replicate}
use mathlib.Core.List.{List}
use Rattle.parity_table.specs.Accepted.{accepted}
use Rattle.parity_table.specs.Parse.{table_of}
use Rattle.std.proofs.lemmas.Result.{err_from_is_err_and}
use Rattle.calls.proofs.RecordLaws.{ready_by, root_length, root_part_lem}
use Rattle.root_record.proofs.RecordLaws.{head-parts}
use Rattle.fault_calls.proofs.RepairingLaws.{formed_by, record_sized_so, refused, went_on}
use Rattle.fault_calls.proofs.repairing.repair_by.Goals as goal

pub admit_by-requires : goal.admit_by-requires
admit_by-requires over c =
    let g = c.args in
    (c.requires.room, record_sized_so g.depth g.root_record.now g.table.now g.tree.now g.marks.now g.out.now c.sizes_fit-sized.ensures)

pub returns-in_err-admit_by : goal.returns-in_err-admit_by
returns-in_err-admit_by over c =
    let g = c.args in
    let p = err_from_is_err_and c.from_residual.result c.from_residual.ensures.1 in
    rw (p.1, p.2) (refused g.depth g.root_record.now g.table.now g.tree.now g.marks.now g.out.now c.sizes_fit-sized.ensures _ c.in_err-admit_by.ensures.0)

pub kind-requires : goal.kind-requires
kind-requires over c =
    let g = c.args in
    (formed_by g.depth g.root_record.now g.table.now g.tree.now g.marks.now g.out.now c.sizes_fit-sized.ensures c.in_ok-admit_by.ensures.0).record_full

pub shared_whole_as_front-new : goal.shared_whole_as_front-new
shared_whole_as_front-new over c =
    let g = c.args in
    let k = ready_by g.depth _ g.root_record.now g.table.now c.in_ok-admit_by.ensures.0 _ _ _ _ c.requires.room c.admit_by.ensures.1 c.admit_by.ensures.2 in
    (omega (arith, k.words-room, c.admit_by.auto.words, length-replicate {A = ℕ} over.row.WORDS 0), omega (arith, c.requires.most))

pub slice_bounds-repair_with-start : goal.slice_bounds-repair_with-start
slice_bounds-repair_with-start over c =
    let g = c.args in
    omega (arith, (formed_by g.depth g.root_record.now g.table.now g.tree.now g.marks.now g.out.now c.sizes_fit-sized.ensures c.in_ok-admit_by.ensures.0).record_full)

pub slice_bounds-repair_with-count : goal.slice_bounds-repair_with-count
slice_bounds-repair_with-count over c =
    let g = c.args in
    omega (arith, (formed_by g.depth g.root_record.now g.table.now g.tree.now g.marks.now g.out.now c.sizes_fit-sized.ensures c.in_ok-admit_by.ensures.0).record_full)

pub new-table-requires : goal.new-table-requires
new-table-requires over c =
    let g = c.args in
    (ready_by g.depth _ g.root_record.now g.table.now c.in_ok-admit_by.ensures.0 _ _ _ _ c.requires.room c.admit_by.ensures.1 c.admit_by.ensures.2).indexed

pub size-requires : goal.size-requires
size-requires over c =
    let g = c.args in
    (formed_by g.depth g.root_record.now g.table.now g.tree.now g.marks.now g.out.now c.sizes_fit-sized.ensures c.in_ok-admit_by.ensures.0).record_full

pub repair_with-requires : goal.repair_with-requires
repair_with-requires over c =
    let g = c.args in
    let e = c.in_ok-admit_by.ensures.0 in
    let f = formed_by g.depth g.root_record.now g.table.now g.tree.now g.marks.now g.out.now c.sizes_fit-sized.ensures e in
    rw c.new-table.ensures (
      record { root_full = ap length (root_part_lem g.root_record.now) ∙ root_length g.root_record.now f.record_full; tree-full = f.tree-full; marks-full = f.marks-full; out-full = f.out-full },
      omega (arith, c.size.ensures, (head-parts g.depth g.root_record.now f.admits.head).3),
      c.requires.lists f.admits.taken.deep,
    )

pub returns : goal.returns
returns over c =
    let g = c.args in
    let e = c.in_ok-admit_by.ensures.0 in
    let k = ready_by g.depth _ g.root_record.now g.table.now e _ _ _ _ c.requires.room c.admit_by.ensures.1 c.admit_by.ensures.2 in
    went_on g.depth g.root_record.now g.table.now g.tree.now g.marks.now g.out.now c.sizes_fit-sized.ensures _ c.new-table.result _ _ _ c.kind.ensures (root_part_lem g.root_record.now) c.size.ensures
    (c.new-table.ensures ∙ ap (λ (ws : List ℕ). accepted g.depth (table_of ws)) k.words_there) c.repair_with.ensures e
