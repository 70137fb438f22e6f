-- `digest` meets its contract: the refusal, and the digest.
use Rattle.std.proofs.Common.{arith}
use Rattle.sha256.proofs.CallLaws.{too_long, other_digest, hashed_call}
use Rattle.sha256.proofs.DigestLaws.{sha256-is}
use Rattle.sha256.proofs.digest.Goals as goal
use Rattle.sha256.proofs.digest.Goals.{then-message-gt-LONGEST-via-then-message-gt-LONGEST, then-message-gt-LONGEST-via-else-message-gt-LONGEST+then-digest-ne32}

pub returns-then-message-gt-LONGEST : goal.returns-then-message-gt-LONGEST
returns-then-message-gt-LONGEST c =
    elim c.then-message-gt-LONGEST.branch [
      | then-message-gt-LONGEST-via-then-message-gt-LONGEST w ↦ too_long _ _ w.if-message-gt-LONGEST.true
      | then-message-gt-LONGEST-via-else-message-gt-LONGEST+then-digest-ne32 w ↦ other_digest _ _ w.if-message-gt-LONGEST.false w.if-digest-ne32.true
    ]

pub returns : goal.returns
returns c =
    hashed_call _ _ _ c.if-message-gt-LONGEST.false (omega arith)
    (sha256-is _ _ _ c.hash.ensures c.put_digest.ensures)
