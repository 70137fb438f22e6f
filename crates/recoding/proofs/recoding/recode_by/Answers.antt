-- `recode_by` meets its contract: refused by a test, or handed on.
use mathlib.Core.Path.{ap, ◌∙◌}
use Prim.Native.Nat.{ℕ}
use native.Mathlib.Omega.{arith}
use lib.ListN.{length, length-replicate}
use Rattle.std.proofs.lemmas.Result.{err_from_is_err_and}
use Rattle.parity_table.specs.Accepted.{accepted}
use Rattle.parity_table.specs.Parse.{table_of}
use Rattle.calls.proofs.RecordLaws.{ready_by, root_length, root_part_lem, table-short}
use Rattle.recoding.proofs.RecodingLaws.{formed_by, record_sized_so, refused, went_on}
use Rattle.recoding.proofs.recoding.recode_by.Goals as goal

pub admit_by-requires : goal.admit_by-requires
admit_by-requires over c =
    let g = c.args in
    (c.requires.room, record_sized_so g.depth g.root_record.now g.table.now g.tree.now g.marks.now g.new_tree.now g.new_marks.now g.new_record.now c.sizes_fit-sized.ensures)

pub returns-in_err-admit_by : goal.returns-in_err-admit_by
returns-in_err-admit_by over c =
    let g = c.args in
    let p = err_from_is_err_and c.from_residual.result c.from_residual.ensures.1 in
    rw (p.1, p.2) (refused g.depth g.root_record.now g.table.now g.tree.now g.marks.now g.new_tree.now g.new_marks.now g.new_record.now c.sizes_fit-sized.ensures _ c.in_err-admit_by.ensures.0)

pub kind-requires : goal.kind-requires
kind-requires over c =
    let g = c.args in
    (formed_by g.depth g.root_record.now g.table.now g.tree.now g.marks.now g.new_tree.now g.new_marks.now g.new_record.now c.sizes_fit-sized.ensures c.in_ok-admit_by.ensures.0).record_full

pub shared_whole_as_front-new : goal.shared_whole_as_front-new
shared_whole_as_front-new over c =
    let g = c.args in
    let k = ready_by g.depth _ g.root_record.now g.table.now c.in_ok-admit_by.ensures.0 _ _ _ _ c.requires.room c.admit_by.ensures.1 c.admit_by.ensures.2 in
    (omega (arith, k.words-room, c.admit_by.auto.words, length-replicate {A = ℕ} over.row.WORDS 0), omega (arith, c.requires.most))

pub slice_bounds-recode_with-start : goal.slice_bounds-recode_with-start
slice_bounds-recode_with-start over c =
    let g = c.args in
    omega (arith, (formed_by g.depth g.root_record.now g.table.now g.tree.now g.marks.now g.new_tree.now g.new_marks.now g.new_record.now c.sizes_fit-sized.ensures c.in_ok-admit_by.ensures.0).record_full)

pub slice_bounds-recode_with-count : goal.slice_bounds-recode_with-count
slice_bounds-recode_with-count over c =
    let g = c.args in
    omega (arith, (formed_by g.depth g.root_record.now g.table.now g.tree.now g.marks.now g.new_tree.now g.new_marks.now g.new_record.now c.sizes_fit-sized.ensures c.in_ok-admit_by.ensures.0).record_full)

pub size-requires : goal.size-requires
size-requires over c =
    let g = c.args in
    (formed_by g.depth g.root_record.now g.table.now g.tree.now g.marks.now g.new_tree.now g.new_marks.now g.new_record.now c.sizes_fit-sized.ensures c.in_ok-admit_by.ensures.0).record_full

pub new-accepted-requires : goal.new-accepted-requires
new-accepted-requires over c =
    let g = c.args in
    (ready_by g.depth _ g.root_record.now g.table.now c.in_ok-admit_by.ensures.0 _ _ _ _ c.requires.room c.admit_by.ensures.1 c.admit_by.ensures.2).indexed

pub recode_with-requires : goal.recode_with-requires
recode_with-requires over c =
    let g = c.args in
    let k = formed_by g.depth g.root_record.now g.table.now g.tree.now g.marks.now g.new_tree.now g.new_marks.now g.new_record.now c.sizes_fit-sized.ensures c.in_ok-admit_by.ensures.0 in
    let w = ready_by g.depth _ g.root_record.now g.table.now c.in_ok-admit_by.ensures.0 _ _ _ _ c.requires.room c.admit_by.ensures.1 c.admit_by.ensures.2 in
    rw c.new-accepted.ensures
    (record {
      source = record {
        root_full = ap length (root_part_lem g.root_record.now) ∙ root_length g.root_record.now k.record_full;
        tree-full = k.tree-full;
        marks-full = k.marks-full;
      };
      size_fits = omega (arith, c.size.ensures, k.size_fits);
      writable = λ b h. record {
        layers = ap table_of w.words_there;
        table-short = table-short (length g.table.now) k.admits.taken.length-fits;
        block-fits = h;
        tree-full = k.new_tree-full;
        marks-full = k.new_marks-full;
        record_full = k.new_record-full;
      };
    })

pub returns : goal.returns
returns over c =
    let g = c.args in
    let e = c.in_ok-admit_by.ensures.0 in
    let w = ready_by g.depth _ g.root_record.now g.table.now e _ _ _ _ c.requires.room c.admit_by.ensures.1 c.admit_by.ensures.2 in
    went_on g.depth g.root_record.now g.table.now g.tree.now g.marks.now g.new_tree.now g.new_marks.now g.new_record.now c.sizes_fit-sized.ensures _ _ _ _ _ c.kind.ensures (root_part_lem g.root_record.now) c.size.ensures (c.new-accepted.ensures ∙ ap (accepted g.depth) (ap table_of w.words_there)) c.recode_with.ensures e
