-- `big_sigma_0` meets its contract, (4.4).
use Rattle.std.proofs.Common.{ap₂}
use lib.Bits.{bit_xor}
use Rattle.sha256.specs.Functions.{big_sigma0}
use Rattle.sha256.proofs.functions.big_sigma_0.Goals as goal

pub returns : goal.returns
unfolding big_sigma0
returns c = ap₂ bit_xor (ap₂ bit_xor c.rotr.ensures c.rotr-2.ensures) c.rotr-3.ensures
