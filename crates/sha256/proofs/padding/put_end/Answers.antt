-- `put_end` meets its contract: the rest copied into zeros, a byte after it, and the length at the end.
use Rattle.std.proofs.Common.{◌≡◌, ◌-◌, ◌*◌, ◌/◌, length, take, drop, set, replicate, refl, ap, ◌∙◌, arith, length-drop, length-set, take_all}
use lib.Seq.{paste}
use Rattle.sha256.proofs.PaddingLaws.{length-pad, buffer_length, in_buffer, end_is}
use Rattle.sha256.proofs.padding.put_end.Goals as goal

pub overflow_mul-end_blocks : goal.overflow_mul-end_blocks
overflow_mul-end_blocks c = omega (arith, length-pad c.args.m.now, c.end_blocks.ensures)

pub overflow_sub-end_blocks : goal.overflow_sub-end_blocks
overflow_sub-end_blocks c = omega (arith, length-pad c.args.m.now, c.end_blocks.ensures)

pub put_word-requires : goal.put_word-requires
put_word-requires c =
    let m = c.args.m.now in
    let e = set c.copy_at.new.d (length m - length m / 64 * 64) 0x80 in
    let l : length e ≡ 128 = simp length-set (c.copy_at.auto.d ∙ buffer_length _ c.requires.1) in
    in_buffer e _ l (omega (arith, length-pad m, c.end_blocks.ensures))

pub returns : goal.returns
returns c =
    let m = c.args.m.now in
    let x = drop (length m / 64 * 64) m in
    let all : take (length m - length m / 64 * 64) x ≡ x = take_all (length m - length m / 64 * 64) x (omega (arith, length-drop (length m / 64 * 64) m)) in
    end_is m c.args.n (omega arith) _ _ _ _ _ refl c.end_blocks.ensures
    (c.copy_at.ensures ∙ ap (λ v. paste v 0 (take (length m - length m / 64 * 64) x) (length (take (length m - length m / 64 * 64) x))) c.requires.1 ∙ ap (λ v. paste (replicate 128 0) 0 v (length v)) all) refl
    c.put_word.ensures
