-- `put` meets its contract: both writers do what they are asked, and nothing is listed of an input of another length.
use mathlib.Core.Path.{◌≡◌, refl, ap, ◌∙◌}
use native.Mathlib.Omega.{arith}
use lib.ListN.{length, replicate, length-take}
use lib.Seq.{take_all}
use Rattle.listing.proofs.TextLaws.{listing-length}
use Rattle.listing.proofs.CodedLaws.{house-done, house-written, printed_nothing, printed-block, block-done}
use Rattle.listing.proofs.text.put.Goals as goal

pub unwrap-requires : goal.unwrap-requires
unwrap-requires c = rw (house-done c.write_bytes.result (replicate 244 0) refl c.write_bytes.ensures.0) refl

pub unwrap-requires-2 : goal.unwrap-requires-2
unwrap-requires-2 c =
    let h = c.write_bytes in
    let w = c.write_tree in
    let e = house-written h.result (replicate 244 0) h.new.out refl h.ensures.0 h.ensures.1 in
    rw (block-done h.new.out c.args.input.now e c.if-input-ne1024.false w.result w.new.tree _ _ w.ensures) refl

pub returns-then-input-ne1024 : goal.returns-then-input-ne1024
returns-then-input-ne1024 c =
    record { prefix_len = (omega arith, refl); text_after = printed_nothing c.args.input.now c.if-input-ne1024.true }

pub returns : goal.returns
returns c =
    let i = c.args.input.now in
    let h = c.write_bytes in
    let w = c.write_tree in
    let l : length c.list.new.text ≡ 96 = ap length c.list.ensures ∙ listing-length w.new.tree in
    let e = house-written h.result (replicate 244 0) h.new.out refl h.ensures.0 h.ensures.1 in
    record {
      prefix_len = (omega arith, simp length-take (omega arith));
      text_after = take_all 96 c.list.new.text (omega arith)
          ∙ c.list.ensures
          ∙ printed-block h.new.out i e c.if-input-ne1024.false w.result w.new.tree _ _ w.ensures;
    }
