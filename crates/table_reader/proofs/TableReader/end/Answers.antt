-- `end` meets its contract: the end word, then one case for each test.
use Rattle.std.proofs.Common.{sym, ◌∙◌}
use Rattle.parity_table.specs.Reader.{Whole}
use Rattle.table_reader.proofs.Steps.{end-leads, end_more, end-last, refused_by}
use Rattle.table_reader.proofs.TableReader.end.Goals as goal

pub returns-in_err-word : goal.returns-in_err-word
returns-in_err-word c =
    let was = c.args.self.now in
    λ d.
    sym
    (end-leads d was.at c.word.new.self.at was.words.now c.word.result c.word.ensures.read
    ∙ refused_by d _ was.words.now _ c.word.result c.from_residual.result c.in_err-word.was c.from_residual.ensures.1)

pub returns-then-self : goal.returns-then-self
returns-then-self c =
    let was = c.args.self.now in
    let to = c.word.new.self.at in
    λ d. sym (end-leads d was.at to was.words.now Whole c.in_ok-word.ensures.read ∙ end_more d to was.words.now (rw c.word.ensures.same at c.if-self.true))

pub returns : goal.returns
returns c =
    let was = c.args.self.now in
    let to = c.word.new.self.at in
    λ d. sym (end-leads d was.at to was.words.now Whole c.in_ok-word.ensures.read ∙ end-last d to was.words.now (rw c.word.ensures.same at c.if-self.false))
