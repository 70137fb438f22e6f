-- `test_source` meets its contract: the marks, then the look, then what fills up the block.
use mathlib.Core.Bool.{Bool, ◌&&◌}
use Prim.Native.Nat.{ℕ}
use mathlib.Core.Path.{◌∙◌, ap, ap₂, sym}
use Rattle.model.specs.Shape.{tree}
use Rattle.model.specs.Writer.{zero_filled}
use Rattle.model.specs.Look.{intact}
use Rattle.symbol_hash.specs.SymbolHash.{symbol_hash}
use Rattle.recoding.proofs.RecodingLaws.{seen_not, seen-whole}
use Rattle.recoding.proofs.recoding.test_source.Goals as goal
use Rattle.recoding.proofs.recoding.test_source.Goals.{then-not-is_intact-via-then-not-is_intact, then-not-is_intact-via-else-not-is_intact+then-not-zero_filled}

pub returns-then-not-is_intact : goal.returns-then-not-is_intact
returns-then-not-is_intact c =
    let a = c.args in
    let p : Bool = intact tree (symbol_hash a.kind) a.root.now a.table.now.layers a.tree.now a.marks.now in
    let q : Bool = zero_filled tree a.table.now.depth a.n a.tree.now in
    seen_not _ p q c.in_ok-test_marks.ensures
    (elim c.then-not-is_intact.branch [
      | then-not-is_intact-via-then-not-is_intact w ↦ ap (λ (b : Bool). b && q) (sym c.is_intact.ensures ∙ w.if-not-is_intact.true)
      | then-not-is_intact-via-else-not-is_intact+then-not-zero_filled w ↦
          ap₂ (λ (x y : Bool). x && y) (sym c.is_intact.ensures ∙ w.if-not-is_intact.false) (sym (w.zero_filled.ensures ∙ ap (λ (d : ℕ). zero_filled tree d a.n a.tree.now) c.depth-depth.ensures.depth) ∙ w.if-not-zero_filled.true)
    ])

pub zero_filled-requires : goal.zero_filled-requires
zero_filled-requires c =
    let kept = c.depth-depth.ensures.kept in
    rw c.depth-depth.ensures.depth (kept.some, kept.shallow, c.requires.0.tree-full, c.requires.1)

pub returns : goal.returns
returns c =
    let a = c.args in
    let p : Bool = intact tree (symbol_hash a.kind) a.root.now a.table.now.layers a.tree.now a.marks.now in
    let q : Bool = zero_filled tree a.table.now.depth a.n a.tree.now in
    seen-whole _ p q c.in_ok-test_marks.ensures
    (ap₂ (λ (x y : Bool). x && y) (sym c.is_intact.ensures ∙ c.if-not-is_intact.false) (sym (c.zero_filled.ensures ∙ ap (λ (d : ℕ). zero_filled tree d a.n a.tree.now) c.depth-depth.ensures.depth) ∙ c.if-not-zero_filled.false))
