-- `write_with` meets its contract: tree, marks and root are written, and the record's head in front of the root.
use mathlib.Core.Path.{◌∙◌, ap₂}
use Prim.Native.Nat.{◌-◌, ◌<◌, ℕ}
use native.Mathlib.Omega.{arith}
use lib.ListN.{length}
use mathlib.Core.List.{List}
use borrow.Author.Rules.{rules}
use Rattle.parity_table.specs.Shape.{max_depth}
use Rattle.parity_table.proofs.Shape.{k_small}
use Rattle.root_record.specs.Records.{record_of}
use Rattle.volume_calls.proofs.WritingLaws.{root_put, written}
use Rattle.volume_calls.proofs.writing.write_with.Goals as goal

pub put-requires : goal.put-requires
put-requires c =
    let k = c.requires in
    let d = c.args.table.now.depth in
    let kept = c.depth.ensures.kept in
    let few : d - 1 < max_depth = omega (arith, kept.some, kept.shallow) in
    (omega (arith, c.depth.ensures.depth, kept.shallow), omega (arith, k.block-fits, k_small (d - 1) few), k.table-short, search (rules, k.record_full))

pub returns : goal.returns
returns c =
    let a = c.args in
    let d = a.table.now.depth in
    written d a.kind a.bytes.now a.block.now a.tree.now a.marks.now a.root_record.now _ _ _ _ _ c.requires.layers
    c.write.ensures.0 c.write.ensures.1 c.write.ensures.2
    (c.put.ensures
    ∙ ap₂ (λ (n : ℕ) (r : List ℕ). record_of a.kind n (length a.block.now) a.bytes.now r) c.depth.ensures.depth
    (root_put a.root_record.now _ c.requires.record_full))
