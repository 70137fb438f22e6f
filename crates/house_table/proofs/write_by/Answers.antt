-- `write_by` meets its contract: its array has the words that it is told to have.
use native.Mathlib.Omega.{arith}
use Rattle.house_table.proofs.write_by.Goals as goal

pub write_in-requires : goal.write_in-requires
write_in-requires g c = λ f. omega (arith, c.requires.room f)
