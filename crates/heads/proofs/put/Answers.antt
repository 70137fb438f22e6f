-- `put` meets its contract: three words, one after the other.
use Rattle.heads.proofs.HeadLaws.{head_put}
use Rattle.heads.proofs.put.Goals as goal

pub returns : goal.returns
returns c =
    head_put c.args.kind c.args.first c.args.second c.args.third c.args.out.now _ _ _ c.requires.4 c.put_word.ensures c.put_word-2.ensures c.put_word-3.ensures
