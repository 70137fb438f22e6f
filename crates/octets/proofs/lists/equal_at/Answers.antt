-- `equal_at` meets its contract: `==` of slices is `same`.
use mathlib.Core.Path.{ap, ◌∙◌}
use lib.ListN.{length}
use Rattle.octets.specs.ByteLists.{same}
use Rattle.octets.proofs.ListLaws.{part_ends, same_is}
use Rattle.octets.proofs.lists.equal_at.Goals as goal

pub returns : goal.returns
returns c =
    let a = c.args in
    c.eq.ensures ∙ same_is _ _ ∙ ap (same a.s.now) (part_ends a.t.now a.at (length a.s.now))
