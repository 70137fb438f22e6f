-- `small_sigma_1` meets its contract, (4.7): its rotations nested are the standard's two.
use Rattle.std.proofs.Common.{◌/◌, ◌^◌, ap, ◌∙◌, arith}
use lib.Bits.{bit_xor}
use Rattle.sha256.specs.Functions.{small_sigma1}
use Rattle.sha256.specs.Words.{rotr}
use Rattle.sha256.proofs.BitForms.{rotr_nested}
use Rattle.sha256.proofs.functions.small_sigma_1.Goals as goal

pub returns : goal.returns
unfolding small_sigma1
returns c = let x = c.args.x in
    ap (λ v. bit_xor v (x / 2 ^ 10)) (c.rotr-2.ensures ∙ ap (λ v. rotr 17 (bit_xor x v)) c.rotr.ensures ∙ rotr_nested 17 2 x (omega arith) (omega arith))
