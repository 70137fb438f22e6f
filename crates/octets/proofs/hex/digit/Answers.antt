-- `digit` meets its contract.
use Rattle.octets.proofs.HexLaws.{digit_low, digit_high}
use Rattle.octets.proofs.hex.digit.Goals as goal

pub returns-then-n-lt10 : goal.returns-then-n-lt10
returns-then-n-lt10 c = digit_low _ _ c.if-n-lt10.true

pub returns-else-n-lt10 : goal.returns-else-n-lt10
returns-else-n-lt10 c = digit_high _ _ c.if-n-lt10.false
