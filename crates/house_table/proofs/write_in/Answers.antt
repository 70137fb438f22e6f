-- `write_in` meets its contract: two tests, then the table.
use mathlib.Core.Path.{refl, sym, ap, ◌∙◌}
use Prim.Native.Nat.{ℕ, ◌*◌}
use lib.ListN.{length}
use Rattle.house_table.specs.House.{house_words}
use Rattle.house_table.proofs.HouseParts.{answer-depth, answer-length, answer-whole}
use Rattle.parity_table.proofs.Shape.{depth_is}
use Rattle.house_table.proofs.write_in.Goals as goal

pub returns-then-not-depth_fits : goal.returns-then-not-depth_fits
returns-then-not-depth_fits c =
    let a = c.args in (
      answer-depth a.depth (length a.out.now) (length (house_words a.depth) * 4)
          (sym c.depth_fits.ensures ∙ c.if-not-depth_fits.true),
      refl,
    )

pub word_count-requires : goal.word_count-requires
word_count-requires c =
    (depth_is c.args.depth (sym c.depth_fits.ensures ∙ c.if-not-depth_fits.false)).1

pub returns-then-out-word_count : goal.returns-then-out-word_count
returns-then-out-word_count c =
    let a = c.args in (
      answer-length a.depth (length a.out.now) (length (house_words a.depth) * 4)
          (sym c.depth_fits.ensures ∙ c.if-not-depth_fits.false)
          (λ q. c.if-out-word_count.true (q ∙ ap (λ (n : ℕ). n * 4) (sym c.word_count.ensures.0))),
      refl,
    )

pub put_bytes-requires : goal.put_bytes-requires
put_bytes-requires c =
    let a = c.args in
    let depth-fits = c.depth_fits in
    let f = sym depth-fits.ensures ∙ c.if-not-depth_fits.false in
    let d = (depth_is a.depth f).1 in
    (d, c.if-out-word_count.false ∙ ap (λ (n : ℕ). n * 4) c.word_count.ensures.0, c.requires f)

pub returns : goal.returns
returns c =
    let a = c.args in
    let depth-fits = c.depth_fits in
    let if1 = c.if-not-depth_fits in
    let if2 = c.if-out-word_count in
    let word_count = c.word_count in (
      answer-whole a.depth (length a.out.now) (length (house_words a.depth) * 4) (sym depth-fits.ensures ∙ if1.false)
          (if2.false ∙ ap (λ (n : ℕ). n * 4) word_count.ensures.0),
      c.put_bytes.ensures,
    )
