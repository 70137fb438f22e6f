-- `test_table` meets its contract: 1 and 2, the table's length, then its words.
use mathlib.Core.Path.{◌≡◌, sym, ap, ◌∙◌}
use mathlib.Core.Bool.{◌&&◌}
use native.Mathlib.Omega.{arith}
use lib.ListN.{length}
use borrow.Author.Rules.{rules}
use Rattle.table_bytes.specs.Bytes.{words_of, length_fits}
use Rattle.table_bytes.proofs.ByteForm.{front_length}
use Rattle.calls.specs.Stops.{Done}
use Rattle.calls.specs.Tests.{opened, words_tested}
use Rattle.calls.proofs.AdmissionLaws.{by_begun, front_there, tested_front}
use Rattle.calls.proofs.TestLaws.{opened_by}
use Rattle.calls.proofs.admission.test_table.Goals as goal

pub slice_bounds-check_words-end : goal.slice_bounds-check_words-end
slice_bounds-check_words-end c =
    let a = c.args in
    let w = c.words_from-n in
    omega (arith, w.ensures.0, w.auto, front_length a.table.now (length a.words.now))

pub slice_bounds-check_words-end-2 : goal.slice_bounds-check_words-end-2
slice_bounds-check_words-end-2 c =
    let a = c.args in
    let w = c.words_from-n.ensures in
    w.0 ∙ sym (ap length (front_there a.table.now a.words.now _ _ w.0 w.1))

pub returns : goal.returns
returns c =
    let a = c.args in
    let w = c.words_from-n.ensures in
    let l : c.if-sized.enter ≡ (a.sized && length_fits (length a.table.now)) = search rules in
    let (x, y) = by_begun a.depth a.sized a.table.now Done (c.in_ok-enter.ensures ∙ ap (opened a.depth) l) a.words.now in
    let h = c.requires (opened_by a.depth _ (sym c.in_ok-enter.ensures)).deep in (
      c.check_words.ensures
          ∙ ap (words_tested a.depth) (front_there a.table.now a.words.now _ _ w.0 w.1)
          ∙ tested_front a.depth (length a.words.now) (words_of a.table.now) h
          ∙ x,
      w.1 ∙ y,
    )
