-- `kind` meets its contract: the kind of the first word.
use mathlib.Core.Path.{ap, ◌∙◌}
use Rattle.root_record.specs.Records.{kind_of, kind_in}
use Rattle.root_record.proofs.kind.Goals as goal

pub returns : goal.returns
unfolding kind_in
returns c = c.kind_of.ensures ∙ ap kind_of (c.from.ensures ∙ c.kind_at.ensures)
