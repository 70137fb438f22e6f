-- `settle` meets its contract: gaps left after peeling, or an end of peeling.
use mathlib.Core.Path.{◌∙◌, ◌≡◌, ap, sym}
use Prim.Native.Nat.{◌*◌, ℕ}
use native.Mathlib.Omega.{arith}
use Rattle.std.proofs.Common.{rules}
use Rattle.model.specs.Repair.{absent_at}
use Rattle.model.specs.Shape.{places, tree}
use Rattle.model.specs.Symbols.{found}
use Rattle.parity_table.proofs.Shape.{k_small}
use Rattle.parity_table.specs.Shape.{n_of}
use Rattle.peeling.specs.States.{Outcome}
use Rattle.repair.proofs.LayerLaws.{settled_by}
use Rattle.repair.specs.Reports.{settled}
use Rattle.repair.proofs.layer.settle.Goals as goal

pub overflow_mul-n : goal.overflow_mul-n
overflow_mul-n c = omega (arith, c.data_count-n.ensures, k_small c.args.j c.requires.0)

pub first_absent-requires : goal.first_absent-requires
unfolding places n_of
first_absent-requires c =
    (c.requires.0, omega (arith, c.requires.1, c.data_count-n.ensures))

pub returns-in-Ok : goal.returns-in-Ok
unfolding n_of
returns-in-Ok c =
    let n : 4 * c.data_count-n.result ≡ tree.n c.args.j = ap (λ (q : ℕ). 4 * q) c.data_count-n.ensures in
    settled_by c.args.marks.now c.args.j c.first_absent.result c.map.result (c.first_absent.ensures ∙ ap (found (absent_at tree c.args.marks.now c.args.j)) n) c.map.ensures.cases (λ x e q. search rules)
    ∙ ap (λ (z : Outcome). settled z c.args.marks.now c.args.j) (sym c.in-Ok.is)
