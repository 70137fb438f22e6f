-- What the parts of the reader's code yield, in terms of its definition. Nothing outside the reader's own code cites them. Definitions only.
use Rattle.std.specs.Prelude.{Bool, ◌&&◌, List, ◌≡◌, true, false, ℕ, suc, ◌+◌, length, get_or, drop, ltb, eqb, Option, Some, None, Ok, Err}
use Rattle.octets.specs.Choice.{pick}
use Rattle.parity_table.specs.Shape.{k_of}
use Rattle.parity_table.specs.Reader.{Answer, Wrong, Next, Layer, Equation, Member, End, layered, opened, run}

-- what stands at a place
unfoldable pub word_at : List ℕ → ℕ → Option ℕ
word_at ws at = pick (ltb at (length ws)) (Some (get_or ws at 0)) None

-- word number at is w
unfoldable pub word_is : List ℕ → ℕ → ℕ → Bool
word_is ws at w = ltb at (length ws) && eqb (get_or ws at 0) w

-- the reader's answer where a part of its code has answered r and stands at word `at`, s being next there
abbrev pub goes_on : ℕ → Next → List ℕ → ℕ → Answer → Answer
goes_on d s ws at (Ok _) = run d at s (drop at ws)
goes_on d s ws at (Err e) = Err e

-- ---- what a part of the reader has found, from word `at` on, where it stands at word `to` afterwards: the answer from where it starts is the answer
-- from where it leads

-- one word
abbrev pub WordRead : List ℕ → ℕ → ℕ → ℕ → Answer → Type 0
WordRead ws at w to (Ok _) = (word_is ws at w ≡ true) × (to ≡ at + 1)
WordRead ws at w to (Err e) = (word_is ws at w ≡ false) × (Err e ≡ Wrong at)

-- the members of an equation whose last is z
abbrev pub MembersRead : List ℕ → ℕ → ℕ → ℕ → Answer → Type 0
MembersRead ws at z to r =
    (d j e : ℕ) → k_of j + e ≡ z → run d at (Member j e 0 0) (drop at ws) ≡ goes_on d (opened d j (suc e)) ws to r

-- equation e of a layer with k data symbols
abbrev pub EquationRead : List ℕ → ℕ → ℕ → ℕ → ℕ → Answer → Type 0
EquationRead ws at k e to r = (d j : ℕ) → k_of j ≡ k → run d at (Equation j e) (drop at ws) ≡ goes_on d (opened d j (suc e)) ws to r

-- all equations of such a layer
abbrev pub EquationsRead : List ℕ → ℕ → ℕ → ℕ → Answer → Type 0
EquationsRead ws at k to r = (d j : ℕ) → k_of j ≡ k → run d at (opened d j 0) (drop at ws) ≡ goes_on d (layered d (suc j)) ws to r

-- layer j
abbrev pub LayerRead : List ℕ → ℕ → ℕ → ℕ → Answer → Type 0
LayerRead ws at j to r = (d : ℕ) → run d at (Layer j) (drop at ws) ≡ goes_on d (layered d (suc j)) ws to r

-- all layers of depth d
abbrev pub LayersRead : List ℕ → ℕ → ℕ → ℕ → Answer → Type 0
LayersRead ws at d to r = run d at (layered d 0) (drop at ws) ≡ goes_on d End ws to r

-- the end word, and the end
abbrev pub EndRead : List ℕ → ℕ → Answer → Type 0
EndRead ws at r = (d : ℕ) → r ≡ run d at End (drop at ws)
