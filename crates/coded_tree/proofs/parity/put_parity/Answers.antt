-- `put_parity` meets its contract: the other members gathered, and stored.
use mathlib.Core.Path.{refl}
use Rattle.coded_tree.proofs.ParityLaws.{parity_put}
use Rattle.model.specs.Symbols.{zeros}
use Rattle.parity_table.specs.Shape.{n_of}
use Rattle.coded_tree.proofs.parity.put_parity.Goals as goal

pub xor_others-requires : goal.xor_others-requires
unfolding zeros
xor_others-requires c =
    (refl, (n_of c.args.j, c.requires.1, c.requires.3))

pub returns : goal.returns
returns c =
    let a = c.args in
    parity_put a.tree.now _ a.j a.base a.x a.members.now c.requires.0 c.requires.1 c.requires.3
    c.xor_others.ensures _ c.copy_at.ensures
