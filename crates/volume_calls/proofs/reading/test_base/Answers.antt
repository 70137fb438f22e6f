-- `test_base` meets its contract: there is a first absent symbol below k, or none.
use mathlib.Core.Path.{ap, ◌∙◌}
use Prim.Native.Nat.{◌-◌}
use native.Mathlib.Omega.{arith}
use Rattle.std.specs.Prelude.{Some, None}
use Rattle.model.specs.Shape.{tree}
use Rattle.model.specs.Symbols.{found}
use Rattle.model.specs.Repair.{absent_at}
use Rattle.volume_calls.proofs.ReadingLaws.{base-room, base_found}
use Rattle.volume_calls.proofs.reading.test_base.Goals as goal

pub first_absent-requires : goal.first_absent-requires
first_absent-requires c =
    (omega (arith, c.requires.0, c.requires.1), omega (arith, c.data_count-k.ensures, base-room c.args.depth c.requires.0, c.requires.2))

pub returns-in-Some : goal.returns-in-Some
returns-in-Some c =
    let g = c.args in
    base_found g.depth g.marks.now (Some c.in-Some.x) (c.in-Some.ensures ∙ ap (found (absent_at tree g.marks.now (g.depth - 1))) c.data_count-k.ensures)

pub returns-in-None : goal.returns-in-None
returns-in-None c =
    let g = c.args in
    base_found g.depth g.marks.now None (c.in-None.ensures ∙ ap (found (absent_at tree g.marks.now (g.depth - 1))) c.data_count-k.ensures)
