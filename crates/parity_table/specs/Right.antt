-- What is right of an answer, in the words of 01, "Parity table". Definitions only.
use Rattle.std.specs.Prelude.{◌≡◌, true, false, List, ℕ, Ok, Err}
use Rattle.parity_table.specs.declared.TableError.TheVariants as error
use Rattle.parity_table.specs.Shape.{depth_fits}
use Rattle.parity_table.specs.Table.{WellFormed, FirstWrong}
use Rattle.parity_table.specs.Reader.{Answer}

-- the answer is right of a list of words, read for depth d: a length is never wrong of these
abbrev pub Right : ℕ → List ℕ → Answer → Type 0
Right d ws (Err error.Depth) = depth_fits d ≡ false
Right d ws (Err error.Length) = ⊥
Right d ws (Err (error.Wrong i)) = (depth_fits d ≡ true) × FirstWrong d ws i
Right d ws (Ok _) = (depth_fits d ≡ true) × WellFormed d ws
