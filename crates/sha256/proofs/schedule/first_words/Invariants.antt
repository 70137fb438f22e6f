-- `first_words` meets its contract. The loop keeps: the first t words are the block's.
use Rattle.std.proofs.Common.{◌≡◌, length, take}
use Rattle.sha256.proofs.schedule.first_words.Given as goal

abbrev pub invariant-loop-t : goal.invariant-loop-t
invariant-loop-t l = (length l.w ≡ 64) × (take l.t l.w ≡ take l.t l.word-items)
