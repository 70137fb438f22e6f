-- What a clause sees of a `Table`: its depth, and the layers that its words say. Definitions only.
use Rattle.std.specs.Prelude.{List, ℕ, ◌≤◌}
use Rattle.parity_table.specs.Shape.{max_depth}
use Rattle.parity_table.specs.Table.{TableOk}

pub record Accepted : Type 0 where
  pub depth : ℕ
  pub layers : List (List (List ℕ))

abbrev pub accepted : ℕ → List (List (List ℕ)) → Accepted
accepted d tbl = record { depth = d; layers = tbl }

-- what is true of each `Table`: its depth is one of a tree, and its layers keep the rules of a table of that depth
pub record Kept (t : Accepted) : Type 0 where
  pub some : 1 ≤ t.depth
  pub shallow : t.depth ≤ max_depth
  pub rules : TableOk t.depth t.layers
