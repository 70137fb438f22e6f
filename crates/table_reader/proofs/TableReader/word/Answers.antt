-- `word` meets its contract: where the word is there, a place follows it.
use Rattle.std.proofs.Common.{◌+◌, sym, ◌∙◌, arith}
use Rattle.table_reader.proofs.Steps.{word-inside}
use Rattle.table_reader.proofs.TableReader.word.Goals as goal

pub overflow_add-self : goal.overflow_add-self
overflow_add-self c =
    let a = c.args in
    omega (arith, word-inside a.self.now.words.now a.self.now.at (a.base + a.v) (sym c.next_is.ensures ∙ c.if-not-next_is.false))
