-- Terms that the demands share. Definitions only.
use Rattle.std.specs.Prelude.{List, ℕ}
use Rattle.table_bytes.specs.Bytes.{words_of}
use Rattle.parity_table.specs.Parse.{table_of}

-- the layers, equations and members that a table, lent as bytes, says
abbrev pub equations_of : List ℕ → List (List (List ℕ))
equations_of table = table_of (words_of table)
