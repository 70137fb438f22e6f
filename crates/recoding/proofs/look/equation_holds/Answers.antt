-- `equation_holds` meets its contract: the equation's members can be gathered.
use mathlib.Core.List.{List}
use mathlib.Core.Path.{◌∙◌, ap}
use Prim.Native.Nat.{ℕ}
use Rattle.octets.specs.ByteLists.{same}
use Rattle.model.specs.Shape.{tree}
use Rattle.model.specs.Symbols.{xor_of, zeros, sym_at}
use Rattle.recoding.proofs.LookLaws.{members_of_lem}
use Rattle.recoding.proofs.look.equation_holds.Goals as goal

pub holds-requires : goal.holds-requires
holds-requires c =
    let k = c.requires in
    members_of_lem k.0 c.args.tree.now c.args.j k.1 c.args.e _ k.2 k.3 c.members.ensures

pub returns : goal.returns
returns c =
    let a = c.args in
    c.holds.ensures ∙ ap (λ (ms : List ℕ). same (xor_of (sym_at tree a.tree.now a.j) ms) zeros) c.members.ensures
