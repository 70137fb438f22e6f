-- The arrays of a call that is lent a table. Definitions only.
use Rattle.std.specs.Prelude.{◌≡◌, Bool, true, ◌&&◌, List, ℕ, ◌≤◌, ◌<◌, length, eqb, ltb}
use Rattle.parity_table.specs.Shape.{depth_fits}
use Rattle.parity_table.specs.Longest.{longest}
use Rattle.parity_table.specs.Parse.{equations_above}
use Rattle.calls.specs.Stops.{Answer, number_of}

-- more words than the longest table of depth d has, so that a longer list shows its first wrong word in front
abbrev pub WordsRoom : ℕ → List ℕ → Type 0
WordsRoom d words = depth_fits d ≡ true → longest d < length words

-- .. and an entry for each of its equations
pub record Room (d : ℕ) (words starts : List ℕ) : Type 0 where
  pub words-room : WordsRoom d words
  pub starts-room : depth_fits d ≡ true → equations_above d ≤ length starts

-- the answer is 1, at another depth than 0
unfoldable pub stops_at_depth : ℕ → Answer → Bool
stops_at_depth d a = eqb (number_of a) 1 && ltb 0 d
