-- `sixteen_words` meets its contract: eight times two words more.
use Rattle.sha256.specs.Hash.{extended}
use Rattle.sha256.proofs.Runs.{eight_twos}
use Rattle.sha256.proofs.ScheduleLaws.{extended_split, two_more}
use Rattle.sha256.proofs.schedule.sixteen_words.Goals as goal

pub returns : goal.returns
returns g c =
    let t = g.row.T in
    eight_twos (λ t n v. extended v t n) extended_split t
    c.extended_twice-w.ensures
    (two_more t 2 _ _ c.extended_twice-w-2.ensures)
    (two_more t 4 _ _ c.extended_twice-w-3.ensures)
    (two_more t 6 _ _ c.extended_twice-w-4.ensures)
    (two_more t 8 _ _ c.extended_twice-w-5.ensures)
    (two_more t 10 _ _ c.extended_twice-w-6.ensures)
    (two_more t 12 _ _ c.extended_twice-w-7.ensures)
    (two_more t 14 _ _ c.extended_twice.ensures)
