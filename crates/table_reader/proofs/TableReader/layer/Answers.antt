-- `layer` meets its contract: the opener, then the equations.
use Rattle.std.proofs.Common.{sym, ◌∙◌, arith}
use Rattle.parity_table.proofs.Shape.{k_small}
use Rattle.parity_table.specs.Reader.{Whole}
use Rattle.table_reader.proofs.Steps.{layer-leads, handed_on}
use Rattle.table_reader.proofs.TableReader.layer.Goals as goal

pub returns-in_err-word-clause-read : goal.returns-in_err-word-clause-read
returns-in_err-word-clause-read c =
    let was = c.args.self.now in
    λ d.
    layer-leads d was.at c.word.new.self.at was.words.now c.word.result c.args.j c.word.ensures.read
    ∙ handed_on d _ _ was.words.now _ _ c.word.result c.from_residual.result c.in_err-word.was c.from_residual.ensures.1

pub equations-requires : goal.equations-requires
equations-requires c = omega (arith, c.data_count.ensures, k_small c.args.j c.requires)

pub returns-clause-read : goal.returns-clause-read
returns-clause-read c =
    let was = c.args.self.now in
    let equations = rw c.word.ensures.same at c.equations.ensures.read in
    λ d.
    layer-leads d was.at c.word.new.self.at was.words.now Whole c.args.j c.in_ok-word.ensures.read
    ∙ equations d c.args.j (sym c.data_count.ensures)
