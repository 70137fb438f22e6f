-- `put_path` meets its contract: the way of the symbol above, where there is one.
use mathlib.Core.Path.{refl, subst, sym}
use Prim.Native.Nat.{◌%◌, ◌-◌, suc, ℕ}
use native.Mathlib.Omega.{arith}
use Rattle.fault_writer.proofs.WayLaws.{above-layers, path-none, path_put}
use Rattle.fault_writer.specs.Room.{Layers}
use Rattle.model.proofs.Shapes.{tree_ok}
use Rattle.model.specs.Shape.{tree}
use Rattle.model.specs.Symbols.{sym_at}
use Rattle.fault_writer.proofs.way.put_path.Goals as goal

pub nonzero_rem-i : goal.nonzero_rem-i
nonzero_rem-i c = omega (arith, c.data_count.ensures, tree_ok.shape.some (c.args.j - 1))

pub put_way-requires : goal.put_way-requires
put_way-requires c = (
  subst (λ (q : ℕ). Layers (c.args.j - 1) (suc (c.args.i % q)) c.args.tree.now) (sym c.data_count.ensures)
      (above-layers c.args.tree.now c.args.j 0 (c.args.j - 1) c.args.i (omega arith) c.requires.0),
  omega (arith, c.requires.1),
)

pub returns-then-j-gt0 : goal.returns-then-j-gt0
returns-then-j-gt0 c =
    path_put (sym_at tree c.args.tree.now) c.args.out.now _ c.args.at c.args.i c.args.j _ c.if-j-gt0.true c.data_count.ensures c.put_way.ensures

pub returns-else-j-gt0 : goal.returns-else-j-gt0
returns-else-j-gt0 c =
    path-none (sym_at tree c.args.tree.now) c.args.out.now c.args.out.now c.args.at c.args.i c.args.j c.if-j-gt0.false refl
