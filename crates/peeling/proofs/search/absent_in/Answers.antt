-- `absent_in` meets its contract: the part of the words that is handed on is the equation's members.
use mathlib.Core.List.{List}
use mathlib.Core.Path.{◌∙◌, ap, subst, sym}
use Prim.Native.Nat.{ℕ}
use native.Mathlib.Omega.{arith}
use Rattle.model.specs.Repair.{absent_at}
use Rattle.model.specs.Shape.{tree}
use Rattle.model.specs.Symbols.{count}
use Rattle.equation.proofs.TurnLaws.{members-are, members_fit}
use Rattle.equation.specs.Rooms.{Marked}
use Rattle.peeling.proofs.search.absent_in.Goals as goal

pub overflow_add-end : goal.overflow_add-end
overflow_add-end c =
    omega (arith, c.count_members.ensures, members_fit c.args.words.now c.args.starts.now c.args.number c.requires.0)

pub slice_bounds-count_absent-end : goal.slice_bounds-count_absent-end
slice_bounds-count_absent-end c =
    omega (arith, c.count_members.ensures, members_fit c.args.words.now c.args.starts.now c.args.number c.requires.0)

pub count_absent-requires : goal.count_absent-requires
count_absent-requires c =
    subst (λ (l : List ℕ). Marked c.args.marks.now l c.args.j)
    (sym (members-are c.args.words.now c.args.starts.now c.args.number c.requires.0 _ c.count_members.ensures)) c.requires.1

pub returns : goal.returns
returns c =
    c.count_absent.ensures
    ∙ ap (count (absent_at tree c.args.marks.now c.args.j)) (members-are c.args.words.now c.args.starts.now c.args.number c.requires.0 _ c.count_members.ensures)
