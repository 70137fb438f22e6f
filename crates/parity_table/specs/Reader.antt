-- The table reader as a definition that computes: what may stand next decides whether a word fits, and what may stand after it.
-- Its answer is the right one and no other is: `read_right`, `right_unique` of proofs/Accepts.antt. Definitions only.
use Rattle.std.specs.Prelude.{Bool, false, ◌&&◌, List, [], ◌∷◌, ℕ, suc, ◌+◌, ◌*◌, leb, ltb, eqb, Result, Ok, Err}
use Rattle.octets.specs.Choice.{pick}
use Rattle.parity_table.specs.declared.TableError.{TableError}
use Rattle.parity_table.specs.declared.TableError.TheVariants as error
use Rattle.parity_table.specs.Shape.{k_of, depth_fits}
use Rattle.parity_table.specs.Table.{layer_word, equation_word, end_word}

-- ---- what a reader of a table, or a writer of one, answers

abbrev pub Answer : Type 0
Answer = Result Unit TableError

-- the table is whole
abbrev pub Whole : Answer
Whole = Ok tt

-- the depth is not 1 to the largest
abbrev pub Depth : Answer
Depth = Err error.Depth

-- a buffer's length is wrong
abbrev pub Length : Answer
Length = Err error.Length

-- the first wrong word, or the number of words of a list that is short
abbrev pub Wrong : ℕ → Answer
Wrong i = Err (error.Wrong i)

-- ---- the reader

-- what may stand next
pub data Next : Type 0 where
  -- the word that opens layer j
  Layer : (j : ℕ) → Next
  -- the word that opens equation e of layer j
  Equation : (j e : ℕ) → Next
  -- a member, at least lo, of equation e of layer j, which has m members already
  Member : (j e m lo : ℕ) → Next
  -- the end word
  End : Next
  -- nothing: the table is whole
  Nothing : Next

-- layer j of d, or the end word past the last
unfoldable pub layered : ℕ → ℕ → Next
layered d j = pick (ltb j d) (Layer j) End

-- equation e of layer j, or the next layer past the last
unfoldable pub opened : ℕ → ℕ → ℕ → Next
opened d j e = pick (ltb e (3 * k_of j)) (Equation j e) (layered d (suc j))

-- number w may be a member after m members, at least lo, in an equation whose last is z: below z where z can still be the eighth,
-- z itself where it isn't the first
unfoldable pub member_fits : ℕ → ℕ → ℕ → ℕ → Bool
member_fits z m lo w = leb lo w && pick (ltb w z) (ltb m 7) (eqb w z && ltb 0 m)

-- word number i, w, may stand there
unfoldable pub fits : ℕ → Next → ℕ → Bool
fits i (Layer j) w = eqb w (layer_word j)
fits i (Equation j e) w = eqb w (equation_word e)
fits i (Member j e m lo) w = member_fits (k_of j + e) m lo w
fits i End w = eqb w (end_word i)
fits i Nothing w = false

-- what may stand after it, in a table of depth d
unfoldable pub after : ℕ → Next → ℕ → Next
after d (Layer j) w = opened d j 0
after d (Equation j e) w = Member j e 0 0
after d (Member j e m lo) w = pick (ltb w (k_of j + e)) (Member j e (suc m) (suc w)) (opened d j (suc e))
after d End w = Nothing
after d Nothing w = Nothing

-- the list has ended, with i words
unfoldable pub at_end : ℕ → Next → Answer
at_end i (Layer j) = Wrong i
at_end i (Equation j e) = Wrong i
at_end i (Member j e m lo) = Wrong i
at_end i End = Wrong i
at_end i Nothing = Whole

-- the words from number i on
unfoldable pub run : ℕ → ℕ → Next → List ℕ → Answer
run d i s [] = at_end i s
run d i s (w ∷ ws) = pick (fits i s w) (run d (suc i) (after d s w) ws) (Wrong i)

-- what the reader answers of a list of words, for depth d
unfoldable pub read_of : ℕ → List ℕ → Answer
read_of d ws = pick (depth_fits d) (run d 0 (layered d 0) ws) Depth
