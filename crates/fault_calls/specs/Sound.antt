-- Demand 3, of the checker: "For every root and table, every correctly coded tree that agrees with them, and whatever bytes anyone sends as
-- a fault proof, the checker accepts the bytes for that root and table only when proof and tree hold, at one layer and number, two different
-- symbols of equal SHA-256"; of a kind 00 volume "equal hashes meaning those of place and symbol together". Statements only.
use Rattle.std.specs.Prelude.{◌≡◌, List, ℕ, length}
use Rattle.table_bytes.specs.Bytes.{words_of}
use Rattle.parity_table.specs.Parse.{table_of}
use Rattle.symbol_hash.specs.SymbolHash.{symbol_hash}
use Rattle.symbol_hash.specs.declared.Kind.{Kind}
use Rattle.model.specs.Shape.{tree}
use Rattle.model.specs.Coded.{Agrees, CollisionWith}
use Rattle.model.specs.Fault.{ProofHolds}
use Rattle.root_record.specs.Records.{kind_in, root_in}
use Rattle.calls.specs.Stops.{Done}
use Rattle.fault_calls.specs.Checking.{proof_checked}

-- the proof b holds, at one layer and number, another symbol than the tree f, of equal hash
pub record Colliding (kind : Kind) (tbl : List (List (List ℕ))) (b : List ℕ) (f : ℕ → ℕ → List ℕ) : Type 0 where
  pub collision : CollisionWith tree (symbol_hash kind) tbl (ProofHolds tree tbl b) f
  pub sized : length collision.symbol ≡ 256
  pub sized_in_tree : length (f collision.layer collision.number) ≡ 256
  pub equal : symbol_hash kind collision.layer collision.number collision.symbol
      ≡ symbol_hash kind collision.layer collision.number (f collision.layer collision.number)

abbrev pub CheckerSound : Type 0
CheckerSound =
    (depth : ℕ) (r table b : List ℕ) → proof_checked depth r table b ≡ Done
    → (f : ℕ → ℕ → List ℕ) → Agrees tree (symbol_hash (kind_in r)) (table_of (words_of table)) (root_in r) f → Colliding (kind_in r) (table_of (words_of table)) b f
