-- Demand 3, of repair: "whatever symbols and marks the shops send back, right, wrong or none, every repair of well-formed input [..] ends in
-- one of these four ways". Statements only.
use Rattle.std.specs.Prelude.{◌≡◌, List, ℕ, take}
use Rattle.table_bytes.specs.Bytes.{words_of}
use Rattle.parity_table.specs.Parse.{table_of}
use Rattle.symbol_hash.specs.SymbolHash.{symbol_hash}
use Rattle.model.specs.Shape.{tree}
use Rattle.model.specs.Coded.{Agrees}
use Rattle.model.specs.Repair.{fault}
use Rattle.model.specs.Ends.{Ended}
use Rattle.root_record.specs.Records.{kind_in, root_in}
use Rattle.calls.specs.Stops.{Done}
use Rattle.fault_calls.specs.Checking.{proof_checked}
use Rattle.fault_calls.specs.Repairing.{repair_tested, repair_of}
use Rattle.fault_calls.specs.Sound.{Colliding}

-- a call of repair on well-formed input
module _ (depth : ℕ) (r table t m o : List ℕ) where
  -- one of the four ends, with what holds at every end
  abbrev pub FourWays : Type 0
  FourWays = repair_tested depth r table t m o ≡ Done → Ended tree (symbol_hash (kind_in r)) (root_in r) (table_of (words_of table)) t m o (repair_of r table t m o)

  -- "with a fault proof that the checker accepts for them": the call that checks proofs, on the n bytes that are written
  abbrev pub FaultAccepted : Type 0
  FaultAccepted =
      repair_tested depth r table t m o ≡ Done → (j e x n : ℕ) → (repair_of r table t m o).end ≡ fault j e x n
      → proof_checked depth r table (take n (repair_of r table t m o).out) ≡ Done

  -- so a fault together with a tree that agrees shows two different symbols of equal hash
  abbrev pub FaultCollides : Type 0
  FaultCollides =
      repair_tested depth r table t m o ≡ Done → (j e x n : ℕ) → (repair_of r table t m o).end ≡ fault j e x n
      → (f : ℕ → ℕ → List ℕ) → Agrees tree (symbol_hash (kind_in r)) (table_of (words_of table)) (root_in r) f
      → Colliding (kind_in r) (table_of (words_of table)) (take n (repair_of r table t m o).out) f
