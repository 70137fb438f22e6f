-- `cmt_house_table` meets its contract: the writer's answer as a call's has room in the number for C.
use Rattle.std.proofs.Common.{rules, ◌≡◌, ◌*◌, length}
use mathlib.Core.Path.{sym, ◌∙◌, subst}
use Rattle.calls.specs.Stops.{Small}
use Rattle.calls.specs.Tests.{read_answer}
use Rattle.calls.proofs.AdmissionLaws.{small_read}
use Rattle.house_table.specs.House.{house_words}
use Rattle.house_table.proofs.HouseParts.{answer_not_wrong}
use Rattle.cedunmi_c.proofs.cmt_house_table.Goals as goal

pub call_result-requires : goal.call_result-requires
call_result-requires c =
    let g = c.args in
    let e : c.map_err.result ≡ read_answer c.write_bytes.result = search rules in
    subst Small (sym e) (small_read c.write_bytes.result (λ i q. absurd (answer_not_wrong g.depth (length g.table.now) (length (house_words g.depth) * 4) i (sym c.write_bytes.ensures.0 ∙ q))))
