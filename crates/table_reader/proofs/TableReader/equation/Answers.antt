-- `equation` meets its contract: the opener, then the members.
use Rattle.std.proofs.Common.{ℕ, ◌+◌, ap, ◌∙◌}
use Rattle.parity_table.specs.Reader.{Whole}
use Rattle.table_reader.proofs.Steps.{equation-leads, handed_on}
use Rattle.table_reader.proofs.TableReader.equation.Goals as goal

pub returns-in_err-word-clause-read : goal.returns-in_err-word-clause-read
returns-in_err-word-clause-read c =
    let was = c.args.self.now in
    λ d j q.
    equation-leads d was.at c.word.new.self.at was.words.now c.word.result j c.args.e c.word.ensures.read
    ∙ handed_on d _ _ was.words.now _ _ c.word.result c.from_residual.result c.in_err-word.was c.from_residual.ensures.1

pub returns-clause-read : goal.returns-clause-read
returns-clause-read c =
    let was = c.args.self.now in
    let members = rw c.word.ensures.same at c.members.ensures.read in
    λ d j q.
    equation-leads d was.at c.word.new.self.at was.words.now Whole j c.args.e c.in_ok-word.ensures.read
    ∙ members d j c.args.e (ap (λ (n : ℕ). n + c.args.e) q)
