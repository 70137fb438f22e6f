-- `write` meets its contract: two tests, then the table.
use mathlib.Core.Path.{refl, sym, ◌∙◌}
use lib.ListN.{length}
use Rattle.house_table.specs.House.{house_words}
use Rattle.house_table.proofs.HouseParts.{answer-depth, answer-length, answer-whole}
use Rattle.parity_table.proofs.Shape.{depth_is}
use Rattle.house_table.proofs.write.Goals as goal

pub returns-then-not-depth_fits : goal.returns-then-not-depth_fits
returns-then-not-depth_fits c =
    let a = c.args in (
      answer-depth a.depth (length a.out.now) (length (house_words a.depth))
          (sym c.depth_fits.ensures ∙ c.if-not-depth_fits.true),
      refl,
    )

pub word_count-requires : goal.word_count-requires
word_count-requires c =
    (depth_is c.args.depth (sym c.depth_fits.ensures ∙ c.if-not-depth_fits.false)).1

pub returns-then-out-word_count : goal.returns-then-out-word_count
returns-then-out-word_count c =
    let a = c.args in (
      answer-length a.depth (length a.out.now) (length (house_words a.depth))
          (sym c.depth_fits.ensures ∙ c.if-not-depth_fits.false)
          (λ q. c.if-out-word_count.true (q ∙ sym c.word_count.ensures.0)),
      refl,
    )

pub put_table-requires : goal.put_table-requires
put_table-requires c =
    let a = c.args in (
      (depth_is a.depth (sym c.depth_fits.ensures ∙ c.if-not-depth_fits.false)
          ).1,
      c.if-out-word_count.false ∙ c.word_count.ensures.0,
    )

pub returns : goal.returns
returns c =
    let a = c.args in
    let depth-fits = c.depth_fits in
    let if1 = c.if-not-depth_fits in
    let word_count = c.word_count in (
      answer-whole a.depth (length a.out.now) (length (house_words a.depth)) (sym depth-fits.ensures ∙ if1.false)
          (c.if-out-word_count.false ∙ word_count.ensures.0),
      c.put_table.ensures,
    )
