-- `call_result` meets its contract: the answer's numbers, packed.
use mathlib.Core.Path.{◌∙◌}
use native.Mathlib.Omega.{arith}
use Rattle.calls.proofs.TestLaws.{number-low}
use Rattle.cedunmi_c.proofs.ResultLaws.{packed-is}
use Rattle.cedunmi_c.proofs.call_result.Goals as goal

pub pack-requires : goal.pack-requires
pack-requires c =
    let n = c.numbers_of.ensures in
    let a = c.args.a in
    let h = c.requires in
    (omega (arith, n.0, number-low a), omega (arith, n.1, h.first), omega (arith, n.2, h.second))

pub returns : goal.returns
returns c = let n = c.numbers_of.ensures in c.pack.ensures ∙ packed-is _ _ _ _ _ _ n.0 n.1 n.2
