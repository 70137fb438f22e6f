-- What a call that reads a block back answers and leaves, for every input. Definitions only.
use Rattle.std.specs.Prelude.{Bool, ◌&&◌, List, ◌++◌, ℕ, ◌-◌, length, take, drop, ltb}
use Rattle.octets.specs.Choice.{pick}
use Rattle.parity_table.specs.Shape.{k_of}
use Rattle.model.specs.Shape.{tree}
use Rattle.model.specs.Symbols.{lowest}
use Rattle.model.specs.Repair.{absent_at}
use Rattle.model.specs.Writer.{block_of}
use Rattle.root_record.specs.Records.{size_in}
use Rattle.calls.specs.declared.Stop.TheVariants.{Absent}
use Rattle.calls.specs.Stops.{Answer, Done, Stopped}
use Rattle.calls.specs.Lengths.{tree_sized, block_sized, record_sized}
use Rattle.calls.specs.Tests.{◌then◌, left, headed, test_marks}

-- the answer, and the lent block as it is left
pub record BlockLeft (A : Type 0) : Type 0 where
  pub answer : A
  pub block : List ℕ

abbrev pub leaves : {A : Type 0} → A → List ℕ → BlockLeft A
leaves a b = record { answer = a; block = b }

-- record, tree, marks and block have the lengths of depth d
abbrev pub read_sized : ℕ → ℕ → ℕ → ℕ → ℕ → Bool
read_sized d r t m b = tree_sized d t m && (record_sized r && block_sized d b)

-- the number of the base's first absent data symbol, or k
abbrev pub lowest_absent : ℕ → List ℕ → ℕ
lowest_absent d m = lowest (absent_at tree m (d - 1)) 0 (k_of (d - 1))

-- 9: "a needed symbol absent", with "its base number"
unfoldable pub test_base : ℕ → List ℕ → Answer
test_base d m = pick (ltb (lowest_absent d m) (k_of (d - 1))) (Stopped (Absent (lowest_absent d m))) Done

-- tests 1, 2, 11, 4, 9, tree and block having so many bytes
abbrev pub block_tested : ℕ → List ℕ → ℕ → List ℕ → ℕ → Answer
block_tested d r t m b = headed d (read_sized d (length r) t (length m) b) r then test_marks m then test_base d m

-- "gets the first length ones and leaves the rest": of the base's data symbols, in the lent block b
abbrev pub block_given : ℕ → List ℕ → List ℕ → List ℕ → List ℕ
block_given d r t b = take (size_in r) (block_of tree d t) ++ drop (size_in r) b

-- by the tests' answer a: the block is copied out, or the buffer is left
abbrev pub read_by : Answer → ℕ → List ℕ → List ℕ → List ℕ → BlockLeft Answer
read_by a d r t b = leaves a (left a (block_given d r t b) b)

unfoldable pub block_read : ℕ → List ℕ → List ℕ → List ℕ → List ℕ → BlockLeft Answer
block_read d r t m b = read_by (block_tested d r (length t) m (length b)) d r t b
