-- `admit` meets its contract: the tests, then the index of a table that has passed them.
use mathlib.Core.Path.{ap, ◌∙◌}
use mathlib.Core.List.{List}
use Prim.Native.Nat.{ℕ}
use lib.ListN.{length}
use Rattle.parity_table.specs.Parse.{index_of, over}
use Rattle.calls.specs.Stops.{Done}
use Rattle.calls.proofs.AdmissionLaws.{words_there, words_count, words-room, starts-room, starts_by}
use Rattle.calls.proofs.admission.admit.Goals as goal

pub test_table-requires : goal.test_table-requires
test_table-requires c = c.requires.words-room

pub slice_bounds-fill-end : goal.slice_bounds-fill-end
slice_bounds-fill-end c =
    let a = c.args in
    words-room a.depth a.sized a.table.now c.in_ok-test_table.ensures.0 _ a.words.now c.requires.words-room c.test_table.ensures.1

pub slice_bounds-fill-end-2 : goal.slice_bounds-fill-end-2
slice_bounds-fill-end-2 c =
    let a = c.args in
    words_count a.depth a.sized a.table.now c.in_ok-test_table.ensures.0 _ a.words.now c.requires.words-room c.test_table.ensures.1

pub fill-requires : goal.fill-requires
fill-requires c =
    let a = c.args in
    let p = c.requires in
    starts-room a.depth a.sized a.table.now c.in_ok-test_table.ensures.0 _ a.words.now p.words-room c.test_table.ensures.1 (length a.starts.now) p.starts-room

pub returns : goal.returns
returns c =
    let a = c.args in
    let t = c.test_table.ensures in
    let e = c.in_ok-test_table.ensures.0 in (
      e,
      t.1,
      c.fill.ensures
          ∙ ap (λ (l : List ℕ). over (index_of l) a.starts.now) (words_there a.depth a.sized a.table.now e _ a.words.now c.requires.words-room t.1)
          ∙ starts_by a.depth a.sized a.table.now Done e a.starts.now,
    )
