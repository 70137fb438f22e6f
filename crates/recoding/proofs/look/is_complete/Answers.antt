-- `is_complete` meets its contract: the layer's symbols, then its equations.
use mathlib.Core.Path.{◌∙◌, sym}
use mathlib.Core.Bool.{true, false}
use Rattle.recoding.proofs.LookLaws.{complete_by, level}
use Rattle.recoding.proofs.look.is_complete.Goals as goal

pub no_gaps-requires : goal.no_gaps-requires
no_gaps-requires c = level c.requires.0 c.requires.1 c.args.j c.requires.2

pub all_hold-requires : goal.all_hold-requires
all_hold-requires c = (c.requires.0, c.requires.2, (level c.requires.0 c.requires.1 c.args.j c.requires.2).layers)

pub returns-then-no_gaps : goal.returns-then-no_gaps
returns-then-no_gaps c =
    let a = c.args in
    c.all_hold.ensures
    ∙ complete_by a.kind a.root.now a.table.now.layers a.tree.now a.marks.now a.j true (sym c.no_gaps.ensures ∙ c.if-no_gaps.true)

pub returns-else-no_gaps : goal.returns-else-no_gaps
returns-else-no_gaps c =
    let a = c.args in
    c.if-no_gaps.false
    ∙ complete_by a.kind a.root.now a.table.now.layers a.tree.now a.marks.now a.j false (sym c.no_gaps.ensures ∙ c.if-no_gaps.false)
