-- `code_layers` meets its contract. The loop keeps: coding what is left gives what coding all gives.
use mathlib.Core.Path.{◌≡◌, refl, sym, ap, ◌∙◌}
use Prim.Native.Nat.{suc, ◌-◌}
use native.Mathlib.Omega.{arith}
use borrow.Author.Rules.{rules}
use Rattle.coded_tree.proofs.WriterLaws.{layer-room, code_step, code-top, layer-room_up}
use Rattle.model.specs.Writer.{code}
use Rattle.symbol_hash.specs.SymbolHash.{symbol_hash}
use Rattle.model.specs.Shape.{tree as shape}
use Rattle.coded_tree.proofs.writer.code_layers.Goals as goal

pub loop-j-init : goal.loop-j-init
loop-j-init c =
    let depth = c.depth-j.ensures.depth in (
      omega (arith, depth, c.depth-j.ensures.kept.some),
      refl,
      ap (λ n. code shape (symbol_hash c.args.kind) c.args.table.now.layers n c.args.tree.now) depth,
    )

pub put_parities-requires : goal.put_parities-requires
put_parities-requires c =
    let l = c.loop-j in
    let kept = c.depth-j.ensures.kept in
    (kept, omega (arith, c.depth-j.ensures.depth), layer-room c.args.table.now.depth (l.j - 1) l.tree (omega (arith, c.depth-j.ensures.depth)) (l.invariant.1 ∙ c.requires))

pub put_hashes-requires : goal.put_hashes-requires
put_hashes-requires c =
    let l = c.loop-j in
    let depth = c.depth-j.ensures.depth in (
      omega (arith, depth, c.depth-j.ensures.kept.shallow),
      omega (arith, layer-room_up c.args.table.now.depth (l.j - 1) l.tree (omega arith) (omega (arith, depth)) (l.invariant.1 ∙ c.requires)),
    )

pub loop-j-preserved : goal.loop-j-preserved
loop-j-preserved c =
    let l = c.loop-j in
    let kind = c.args.kind in
    let tbl = c.args.table.now.layers in
    let here : l.j ≡ suc (l.j - 1) = omega arith in
    let next : suc (l.j - 1 - 1) ≡ l.j - 1 = omega arith in (
      omega arith,
      search rules,
      ap (λ n. code shape (symbol_hash kind) tbl n c.put_hashes.new.tree) (sym next)
          ∙ sym (code_step kind tbl (l.j - 1) l.tree _ _ (omega arith) c.put_parities.ensures c.put_hashes.ensures)
          ∙ ap (λ n. code shape (symbol_hash kind) tbl n l.tree) (sym here)
          ∙ l.invariant.2,
    )

pub put_parities-requires-2 : goal.put_parities-requires-2
put_parities-requires-2 c =
    let l = c.loop-j in
    let kept = c.depth-j.ensures.kept in
    (kept, kept.some, layer-room c.args.table.now.depth 0 l.tree kept.some (l.invariant.1 ∙ c.requires))

pub returns : goal.returns
returns c =
    let l = c.loop-j in
    let kind = c.args.kind in
    let tbl = c.args.table.now.layers in
    let top : l.j ≡ suc 0 = omega arith in
    sym (code-top kind tbl 0 l.tree _ refl c.put_parities-2.ensures)
    ∙ ap (λ n. code shape (symbol_hash kind) tbl n l.tree) (sym top)
    ∙ l.invariant.2
