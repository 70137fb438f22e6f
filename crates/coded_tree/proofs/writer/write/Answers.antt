-- `write` meets its contract: the block, the layers, the marks, the root.
use mathlib.Core.Path.{ap, ◌∙◌}
use Prim.Native.Nat.{◌-◌, ◌*◌}
use native.Mathlib.Omega.{arith}
use lib.ListN.{replicate}
use lib.Seq.{paste}
use Rattle.coded_tree.proofs.WriterLaws.{written-tree, top-room}
use Rattle.model.specs.Shape.{tree, place}
use Rattle.model.specs.Writer.{filled, written_marks, written_root}
use Rattle.parity_table.specs.Shape.{k_of}
use Rattle.coded_tree.proofs.writer.write.Goals as goal

pub put_block-requires : goal.put_block-requires
put_block-requires c = rw c.depth.ensures.depth (c.depth.ensures.kept.some, c.depth.ensures.kept.shallow, c.requires.0, c.requires.1)

pub put_root-requires : goal.put_root-requires
put_root-requires c =
    let kept = c.depth.ensures.kept in
    (omega (arith, top-room c.args.table.now.depth c.args.tree.now kept.some c.requires.1), c.requires.3)

pub returns : goal.returns
unfolding written_marks written_root
returns c =
    let a = c.args in
    let d = a.table.now.depth in
    let put =
    c.put_block.ensures
    ∙ ap (λ n. paste a.tree.now (256 * place tree (n - 1) 0) (filled tree n a.block.now) (256 * k_of (n - 1))) c.depth.ensures.depth in (
      written-tree a.kind a.table.now.layers d (filled tree d a.block.now) a.tree.now _ _ c.depth.ensures.kept.rules.depth put c.code_layers.ensures,
      c.fill.ensures.after (λ y e. e) ∙ ap (λ n. replicate n 1) c.requires.2,
      c.put_root.ensures,
    )
