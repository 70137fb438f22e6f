-- `first_place` meets its contract: 16·(2^j−1) is what the layers above come to.
use mathlib.Core.Path.{sym, ap, ◌∙◌}
use Prim.Native.Nat.{◌-◌, ◌*◌}
use Rattle.model.proofs.Shapes.{tree_places}
use Rattle.parity_table.proofs.Shape.{shift_is}
use Rattle.coded_tree.proofs.first_place.Goals as goal

pub returns : goal.returns
returns c = ap (λ n. 16 * (n - 1)) (shift_is c.args.j c.requires) ∙ sym (tree_places c.args.j)
