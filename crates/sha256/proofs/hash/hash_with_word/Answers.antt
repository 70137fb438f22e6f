-- `hash_with_word` meets its contract: the first block, then the blocks of what is left of the message and those of its end.
use Rattle.std.proofs.Common.{◌-◌, length, drop, refl, arith, length-drop, length-take-le, take_all, rules}
use Rattle.sha256.proofs.HashLaws.{word_first}
use Rattle.sha256.proofs.hash.hash_with_word.Goals as goal

pub copy_at-requires : goal.copy_at-requires
copy_at-requires c = let l = length-take-le 60 c.args.m.now c.requires.0 in search rules

pub returns : goal.returns
returns c =
    let m = c.args.m.now in
    word_first c.args.word m c.requires.0 _ _ _ _ _ _ _ _ _ refl c.put_word.ensures c.copy_at.ensures c.new-initial.ensures
    c.after_block-s.ensures (take_all (length m - 60) (drop 60 m) (omega (arith, length-drop 60 m))) c.put_end.ensures c.finished.ensures
