-- `take` meets its contract: the equation is taken by its members.
use mathlib.Core.Bool.{true}
use mathlib.Core.List.{List}
use mathlib.Core.Path.{◌≡◌, subst, sym}
use Prim.Native.Nat.{ℕ}
use native.Mathlib.Omega.{arith}
use Rattle.equation.proofs.TurnLaws.{members-are, members_fit, took_there}
use Rattle.equation.specs.Rooms.{Turnable, members_at}
use Rattle.equation.specs.Turns.{few}
use Rattle.equation.proofs.cases.take.Goals as goal

pub overflow_add-at : goal.overflow_add-at
overflow_add-at c =
    omega (arith, c.count_members-size.ensures, members_fit c.args.words.now c.args.starts.now c.args.number c.requires.0)

pub slice_bounds-settle-end : goal.slice_bounds-settle-end
slice_bounds-settle-end c =
    omega (arith, c.count_members-size.ensures, members_fit c.args.words.now c.args.starts.now c.args.number c.requires.0)

pub settle-requires : goal.settle-requires
settle-requires c =
    let a = c.args in
    subst (λ (l : List ℕ). Turnable a.root.now l a.tree.now a.marks.now a.out.now a.used.now a.j a.e × (few a.j a.marks.now l ≡ true))
    (sym (members-are a.words.now a.starts.now a.number c.requires.0 _ c.count_members-size.ensures)) (c.requires.1, c.requires.2)

pub returns : goal.returns
returns c =
    let a = c.args in
    took_there a.kind a.root.now (members_at a.words.now a.starts.now a.number) a.j a.e a.tree.now a.marks.now a.out.now a.used.now _ _ _ _ _ _
    (members-are a.words.now a.starts.now a.number c.requires.0 _ c.count_members-size.ensures) c.settle.ensures
