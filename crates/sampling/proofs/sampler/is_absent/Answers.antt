-- `is_absent` meets its contract: the symbol's mark is where the tree has it.
use Prim.Native.Nat.{ℕ}
use mathlib.Core.Bool.{not}
use mathlib.Core.Path.{ap}
use native.Mathlib.Omega.{arith}
use lib.Dec.{eqb}
use lib.ListN.{get_or}
use Rattle.model.specs.Repair.{absent_at}
use Rattle.sampling.specs.Absent.{absent}
use Rattle.sampling.proofs.SymbolLaws.{sample-place_lt}
use Rattle.sampling.proofs.sampler.is_absent.Goals as goal

pub bounds-marks-sample_place : goal.bounds-marks-sample_place
bounds-marks-sample_place c =
    let a = c.args in
    omega (arith, sample-place_lt a.depth a.i a.x c.requires.0 c.requires.1.1, c.sample_place.ensures, c.requires.2)

pub returns : goal.returns
unfolding absent absent_at
returns c = ap (λ (p : ℕ). not (eqb (get_or c.args.marks.now p 0) 1)) c.sample_place.ensures
