-- `repair_with` meets its contract: refused by a mark, or repaired.
use Rattle.std.proofs.lemmas.Result.{err_from_is_err_and}
use borrow.Author.Rules.{rules}
use Rattle.fault_calls.proofs.RepairingLaws.{marks_refuse, repairs}
use Rattle.fault_calls.proofs.repairing.repair_with.Goals as goal

pub returns-in_err-test_marks : goal.returns-in_err-test_marks
returns-in_err-test_marks c =
    let g = c.args in
    let p = err_from_is_err_and c.from_residual.result c.from_residual.ensures.1 in
    rw (p.1, p.2) (marks_refuse g.kind g.root.now g.table.now.layers g.table.now.depth g.n g.tree.now g.marks.now g.out.now _ c.in_err-test_marks.ensures)

pub repair-report-requires : goal.repair-report-requires
repair-report-requires c = (c.requires.0, c.requires.2)

pub ended-requires : goal.ended-requires
ended-requires c =
    let k = c.depth.ensures in
    rw k.depth (k.kept.some, k.kept.shallow, search (rules, c.requires.0.tree-full), c.requires.1)

pub returns : goal.returns
returns c =
    let g = c.args in
    rw (← c.depth.ensures.depth) (repairs g.kind g.root.now g.table.now.layers c.depth.result g.n g.tree.now g.marks.now g.out.now _ _ _ _ _ _ c.repair-report.ensures.0 c.in_ok-test_marks.ensures c.ended.ensures)
