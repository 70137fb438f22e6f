-- What a call that checks a fault proof answers, for every input. Definitions only.
use Rattle.std.specs.Prelude.{Bool, ◌&&◌, List, ℕ, length, leb}
use Rattle.table_bytes.specs.Bytes.{words_of}
use Rattle.parity_table.specs.Parse.{table_of}
use Rattle.symbol_hash.specs.SymbolHash.{symbol_hash}
use Rattle.model.specs.Shape.{tree}
use Rattle.model.specs.Fault.{Verdict, accepted, wrong_head, wrong_length, broken, no_fault, verdict}
use Rattle.calls.specs.declared.Stop.TheVariants.{Length, Head, Hash, NoFault}
use Rattle.calls.specs.Stops.{Answer, Done, Stopped}
use Rattle.root_record.specs.Records.{kind_in, root_in}
use Rattle.calls.specs.Lengths.{record_sized}
use Rattle.calls.specs.Tests.{◌then◌, admitted_by}

-- a record has its length, and a proof is long enough for a head
abbrev pub proof_sized : ℕ → ℕ → Bool
proof_sized r b = record_sized r && leb 12 b

-- the checker's verdict as an answer
abbrev pub judged : Verdict → Answer
judged accepted = Done
judged wrong_head = Stopped Head
judged wrong_length = Stopped Length
judged (broken l p) = Stopped (Hash l p)
judged no_fault = Stopped NoFault

-- "A proof is tested 1, 2, 3, 6, then 2 again for the length its head demands, 7, 8", 10 "right after 3", "11 after 2", and "12 after 10"; "The fault
-- promise concerns the 512 bytes inside."
unfoldable pub proof_checked : ℕ → List ℕ → List ℕ → List ℕ → Answer
proof_checked d r table b =
    admitted_by d (proof_sized (length r) (length b)) r table then judged (verdict tree (symbol_hash (kind_in r)) (root_in r) (table_of (words_of table)) b)
