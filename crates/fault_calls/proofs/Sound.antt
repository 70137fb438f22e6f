-- The checker is sound, at the entry: demand 3.
use mathlib.Core.List.{List}
use Prim.Native.Nat.{ℕ}
use Rattle.table_bytes.specs.Bytes.{words_of}
use Rattle.parity_table.specs.Parse.{table_of}
use Rattle.symbol_hash.specs.SymbolHash.{symbol_hash}
use Rattle.symbol_hash.proofs.Laws.{length-symbol_hash}
use Rattle.root_record.specs.Records.{kind_in, root_in}
use Rattle.model.specs.Shape.{tree}
use Rattle.model.proofs.Shapes.{tree_ok}
use Rattle.model.proofs.Tables.{TableLaws}
use Rattle.model.proofs.Sound.{sound}
use Rattle.model.proofs.Outcomes.{held-sized}
use Rattle.fault_calls.specs.Sound.{CheckerSound}
use Rattle.calls.proofs.AdmissionLaws.{table_laws_of}
use Rattle.fault_calls.proofs.CheckingLaws.{passed}

pub checker_sound : CheckerSound
checker_sound d r table b e f agr =
    let p = passed d r table b e in
    let tbl : List (List (List ℕ)) = table_of (words_of table) in
    let laws : TableLaws tree tbl = table_laws_of d table p.admits.taken.accepted in
    let c = sound tree tree_ok.shape (symbol_hash (kind_in r)) (length-symbol_hash (kind_in r)) tbl (root_in r) f agr laws b p.accepts in
    record {
      collision = c;
      sized = held-sized tree (symbol_hash (kind_in r)) (root_in r) tbl laws b p.accepts c.layer c.number c.symbol c.is_held;
      sized_in_tree = agr.coded.sized c.layer c.number c.inside;
      equal = c.collide.equal;
    }
