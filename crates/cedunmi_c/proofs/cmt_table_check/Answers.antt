-- `cmt_table_check` meets its contract: the answer on a table, packed.
use mathlib.Core.Path.{sym, ap, ◌∙◌, subst}
use mathlib.Core.Bool.{true}
use Rattle.calls.specs.Stops.{Small}
use Rattle.calls.proofs.AdmissionLaws.{small_admitted}
use Rattle.cedunmi_c.specs.Result.{call_result}
use Rattle.cedunmi_c.proofs.cmt_table_check.Goals as goal

pub call_result-requires : goal.call_result-requires
call_result-requires c =
    let g = c.args in subst Small (sym c.check_table.ensures) (small_admitted g.depth true g.table.now)

pub returns : goal.returns
returns c = c.call_result.ensures ∙ ap call_result c.check_table.ensures
