-- `cmt_sha256` meets its contract: the hasher's answer, packed, and the digest that it leaves.
use mathlib.Core.Path.{sym, ap, ◌∙◌, subst}
use Rattle.calls.specs.Stops.{Small}
use Rattle.cedunmi_c.specs.Result.{call_result, hash_answer}
use Rattle.cedunmi_c.proofs.ResultLaws.{small_hash}
use Rattle.cedunmi_c.proofs.cmt_sha256.Goals as goal

pub call_result-requires : goal.call_result-requires
call_result-requires c = subst Small (sym c.hash_answer.ensures) (small_hash c.digest.result)

pub returns : goal.returns
returns c =
    (c.call_result.ensures ∙ ap call_result (c.hash_answer.ensures ∙ ap hash_answer c.digest.ensures.0), c.digest.ensures.1)
