-- What a call that codes a volume anew answers and leaves, for every input. Definitions only.
use Rattle.std.specs.Prelude.{Bool, false, ◌&&◌, List, ℕ, ◌+◌, ◌-◌, ◌*◌, ◌≤◌, length, take, replicate, eqb}
use Rattle.octets.specs.Choice.{pick}
use Rattle.parity_table.specs.Shape.{k_of}
use Rattle.parity_table.specs.Accepted.{Accepted}
use Rattle.symbol_hash.specs.declared.Kind.{Kind}
use Rattle.symbol_hash.specs.declared.Kind.TheVariants.{Plain, Placed}
use Rattle.model.specs.Shape.{tree}
use Rattle.model.specs.Writer.{block_of}
use Rattle.model.specs.Look.{is_whole}
use Rattle.root_record.specs.Records.{kind_in, size_in}
use Rattle.calls.specs.declared.Stop.TheVariants.{NotWhole}
use Rattle.calls.specs.Stops.{Answer, Done, Stopped}
use Rattle.calls.specs.Lengths.{tree_sized, record_sized}
use Rattle.calls.specs.Tests.{◌then◌, admitted_by, test_marks}
use Rattle.volume_calls.specs.Writing.{TreeLeft, Writable, written_by}
use Rattle.fault_calls.specs.Repairing.{Result, ended, misfilled, stopped, repaired}
use Rattle.recoding.specs.Look.{Lent}

-- "A recoder turns a complete tree of either kind into the other"
abbrev pub other_kind : Kind → Kind
other_kind Plain = Placed
other_kind Placed = Plain

-- tree, marks and record of the source, and of the volume to be written, have the lengths of depth d
abbrev pub recode_sized : ℕ → ℕ → ℕ → ℕ → ℕ → ℕ → ℕ → Bool
recode_sized d r t m t' m' r' = tree_sized d t m && (tree_sized d t' m' && (record_sized r && record_sized r'))

-- a repair came out whole "without storing anything"
abbrev pub nothing_to_do : Result → Bool
nothing_to_do (ended s z) = is_whole z && eqb s 0
nothing_to_do (misfilled s) = false
nothing_to_do (stopped w) = false

-- .. where it is one of copies of tree and marks, with an output buffer of its own
abbrev pub called_whole : ℕ → List ℕ → List ℕ → List ℕ → List ℕ → Bool
called_whole d r table t m = nothing_to_do (repaired d r table t m (replicate (12 + 256 * (8 * d - 1)) 0)).answer

-- 14: "A source tree that repair doesn't call whole without storing anything stops the recoder with 14"
unfoldable pub test_whole : Bool → Answer
test_whole called = pick called Done (Stopped NotWhole)

-- tests 1, 2, 11, 3, 10, 12, 4, 14, the buffers to be written having so many bytes
abbrev pub recode_tested : ℕ → List ℕ → List ℕ → List ℕ → List ℕ → ℕ → ℕ → ℕ → Answer
recode_tested d r table t m t' m' r' =
    admitted_by d (recode_sized d (length r) (length t) (length m) t' m' r') r table then test_marks m then test_whole (called_whole d r table t m)

-- "block unchanged; its result is what the writer would make", in the lent tree, marks and record t', m' and r'; or these "untouched"
unfoldable pub recoded : ℕ → List ℕ → List ℕ → List ℕ → List ℕ → List ℕ → List ℕ → List ℕ → TreeLeft Answer
recoded d r table t m t' m' r' =
    written_by (recode_tested d r table t m (length t') (length m') (length r')) d (other_kind (kind_in r)) table (take (size_in r) (block_of tree d t)) t' m' r'

-- what is asked once the table is admitted, of a source with a block of n bytes
pub record Recodable (a : Accepted) (n : ℕ) (table root t m t' m' r' : List ℕ) : Type 0 where
  pub source : Lent a.depth root t m
  pub size_fits : n ≤ 256 * k_of (a.depth - 1)
  pub writable : (b : List ℕ) → length b ≤ 256 * k_of (a.depth - 1) → Writable a table b t' m' r'
