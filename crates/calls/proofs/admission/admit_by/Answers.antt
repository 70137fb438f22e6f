-- `admit_by` meets its contract: 1, 2 and 11, then 3 and 10, then 12.
use mathlib.Core.Path.{◌≡◌, sym, ap, ◌∙◌}
use mathlib.Core.Bool.{Bool, ◌&&◌}
use lib.ListN.{length}
use borrow.Author.Rules.{rules}
use Rattle.octets.proofs.Choice.{and_yes}
use Rattle.table_bytes.specs.Bytes.{length_fits}
use Rattle.calls.specs.Stops.{Answer}
use Rattle.calls.specs.Tests.{left, headed, words_left, starts_left}
use Rattle.calls.proofs.RecordLaws.{by_words, headed_by, table-short}
use Rattle.calls.proofs.admission.admit_by.Goals as goal

pub test_named-requires : goal.test_named-requires
test_named-requires c =
    let g = c.args in
    let l : c.if-sized.enter_by ≡ (g.sized && length_fits (length g.table.now)) = search rules in
    let k = (headed_by g.depth _ g.root_record.now (sym c.in_ok-enter_by.ensures)).opened-is.lengths in
    let (sized, long) = and_yes g.sized (length_fits (length g.table.now)) (sym l ∙ k) in
    (c.requires.1 sized, table-short (length g.table.now) long)

pub returns : goal.returns
returns c =
    let g = c.args in
    let l : c.if-sized.enter_by ≡ (g.sized && length_fits (length g.table.now)) = search rules in
    let b = c.in_ok-enter_by.ensures ∙ ap (λ (s : Bool). headed g.depth s g.root_record.now) l in (
      c.test_named.ensures ∙ by_words g.depth g.sized g.root_record.now g.table.now b _ c.in_ok-admit.ensures.0,
      c.admit.ensures.1 ∙ ap (λ (a : Answer). left a (words_left g.depth g.sized g.table.now g.words.now) g.words.now) b,
      c.admit.ensures.2 ∙ ap (λ (a : Answer). left a (starts_left g.depth g.sized g.table.now g.starts.now) g.starts.now) b,
    )
