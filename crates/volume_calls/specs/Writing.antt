-- What a call that writes a tree answers and leaves, for every input. Definitions only.
use Rattle.std.specs.Prelude.{◌≡◌, Bool, ◌&&◌, List, ℕ, ◌-◌, ◌*◌, ◌≤◌, length, leb}
use Rattle.octets.specs.Choice.{pick}
use Rattle.table_bytes.specs.Bytes.{words_of, length_fits}
use Rattle.parity_table.specs.Shape.{k_of}
use Rattle.parity_table.specs.Parse.{table_of}
use Rattle.parity_table.specs.Accepted.{Accepted}
use Rattle.sha256.specs.Call.{longest}
use Rattle.symbol_hash.specs.SymbolHash.{symbol_hash}
use Rattle.symbol_hash.specs.declared.Kind.{Kind}
use Rattle.model.specs.Shape.{places, tree}
use Rattle.model.specs.Writer.{write_tree, written_marks, written_root, filled}
use Rattle.root_record.specs.Records.{kind_of, record_of}
use Rattle.calls.specs.declared.Stop.TheVariants.{Record}
use Rattle.calls.specs.Stops.{Answer, Done, Stopped}
use Rattle.calls.specs.Lengths.{tree_sized, block_fits, record_sized}
use Rattle.calls.specs.Tests.{◌then◌, left, opened, words_tested, admitted}

-- the answer, and the lent buffers as they are left
pub record TreeLeft (A : Type 0) : Type 0 where
  pub answer : A
  pub tree : List ℕ
  pub marks : List ℕ
  pub root_record : List ℕ

abbrev pub leaves : {A : Type 0} → A → List ℕ → List ℕ → List ℕ → TreeLeft A
leaves a t m r = record { answer = a; tree = t; marks = m; root_record = r }

-- block, tree, marks and record have the lengths of depth d
abbrev pub write_sized : ℕ → ℕ → ℕ → ℕ → ℕ → Bool
write_sized d b t m r = tree_sized d t m && (block_fits d b && record_sized r)

-- what is written for the block b: "the writer fills up with zeros"; "Demand 2's root is now this record"; "the writer is told which kind to make"
module _ (d : ℕ) (kind : Kind) (table b t : List ℕ) where
  abbrev pub written_tree : List ℕ
  written_tree = write_tree tree (symbol_hash kind) (table_of (words_of table)) (filled tree d b) t

  abbrev pub written_record : List ℕ
  written_record = record_of kind d (length b) table (written_root tree (symbol_hash kind) written_tree)

-- what writing asks of a table that is admitted, of its bytes, and of the buffers of its depth
pub record Writable (a : Accepted) (table b t m r : List ℕ) : Type 0 where
  pub layers : a.layers ≡ table_of (words_of table)
  pub table-short : length table ≤ longest
  pub block-fits : length b ≤ 256 * k_of (a.depth - 1)
  pub tree-full : length t ≡ 256 * places tree a.depth
  pub marks-full : length m ≡ places tree a.depth
  pub record_full : length r ≡ 556

-- by the tests' answer a: tree, marks and record are written, or left
abbrev pub written_by : Answer → ℕ → Kind → List ℕ → List ℕ → List ℕ → List ℕ → List ℕ → TreeLeft Answer
written_by a d kind table b t m r =
    leaves a (left a (written_tree d kind table b t) t) (left a (written_marks tree d) m) (left a (written_record d kind table b t) r)

-- tests 1, 2, 3, 10
abbrev pub write_tested : ℕ → List ℕ → List ℕ → List ℕ → List ℕ → List ℕ → Answer
write_tested d table b t m r = admitted d (write_sized d (length b) (length t) (length m) (length r)) table

unfoldable pub tree_written : ℕ → Kind → List ℕ → List ℕ → List ℕ → List ℕ → List ℕ → TreeLeft Answer
tree_written d kind table b t m r = written_by (write_tested d table b t m r) d kind table b t m r

-- ---- the kind as a number, as it comes from C

-- 11: a kind other than 0 or 1
unfoldable pub test_kind : ℕ → Answer
test_kind number = pick (leb number 1) Done (Stopped Record)

-- tests 1, 2, 11, 3, 10
abbrev pub number_tested : ℕ → ℕ → List ℕ → List ℕ → List ℕ → List ℕ → List ℕ → Answer
number_tested d number table b t m r =
    opened d (write_sized d (length b) (length t) (length m) (length r) && length_fits (length table)) then test_kind number then words_tested d (words_of table)

unfoldable pub tree_written_by : ℕ → ℕ → List ℕ → List ℕ → List ℕ → List ℕ → List ℕ → TreeLeft Answer
tree_written_by d number table b t m r = written_by (number_tested d number table b t m r) d (kind_of number) table b t m r
