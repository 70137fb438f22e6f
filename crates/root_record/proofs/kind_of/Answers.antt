-- `kind_of` meets its contract: 0, or another number.
use native.Mathlib.Omega.{arith}
use Rattle.root_record.proofs.RecordLaws.{kind_zero, kind_other}
use Rattle.root_record.proofs.kind_of.Goals as goal

pub returns-in-0 : goal.returns-in-0
returns-in-0 c = kind_zero _ c.in-0.is

pub returns-in_default : goal.returns-in_default
returns-in_default c = kind_other _ (omega arith)
