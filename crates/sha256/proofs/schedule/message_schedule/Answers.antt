-- `message_schedule` meets its contract: sixteen words, and three times sixteen more.
use Rattle.std.proofs.Common.{ap, ◌∙◌, rules}
use Rattle.sha256.specs.Hash.{extended}
use Rattle.sha256.proofs.Runs.{more}
use Rattle.sha256.proofs.ScheduleLaws.{extended_split, schedule_is}
use Rattle.sha256.proofs.schedule.message_schedule.Goals as goal

pub returns : goal.returns
returns c = schedule_is _ _ (search rules)
    (more (λ t n v. extended v t n) extended_split 16 32 16
    (more (λ t n v. extended v t n) extended_split 16 16 16 (c.sixteen_words-w.ensures ∙ ap (λ v. extended v 16 16) c.first_words-w.ensures) c.sixteen_words-w-2.ensures)
    c.sixteen_words.ensures)
