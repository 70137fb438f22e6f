-- `big_sigma_1` meets its contract, (4.5): its last two rotations nested are the standard's.
use Rattle.std.proofs.Common.{sym, ap, ◌∙◌, ap₂, arith}
use lib.Bits.{bit_xor, xor_assoc}
use Rattle.sha256.specs.Functions.{big_sigma1}
use Rattle.sha256.specs.Words.{rotr}
use Rattle.sha256.proofs.BitForms.{rotr_nested}
use Rattle.sha256.proofs.functions.big_sigma_1.Goals as goal

pub returns : goal.returns
unfolding big_sigma1
returns c =
    let x = c.args.x in
    ap₂ bit_xor c.rotr.ensures (c.rotr-3.ensures ∙ ap (λ v. rotr 11 (bit_xor x v)) c.rotr-2.ensures ∙ rotr_nested 11 14 x (omega arith) (omega arith))
    ∙ sym (xor_assoc (rotr 6 x) (rotr 11 x) (rotr 25 x))
