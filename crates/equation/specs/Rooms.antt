-- What a turn asks of the buffers that it is lent. Definitions only.
use Rattle.std.specs.Prelude.{◌≡◌, true, List, ℕ, ◌+◌, ◌*◌, ◌^◌, ◌≤◌, ◌<◌, drop, get_or, length, ltb}
use Rattle.parity_table.specs.Shape.{max_depth, n_of}
use Rattle.parity_table.specs.Members.{every}
use Rattle.parity_table.specs.Parse.{members_of}
use Rattle.model.specs.Shape.{tree, places}
use Rattle.model.specs.Fault.{proof_length}
use Rattle.fault_writer.specs.Room.{Layers, Members}

-- the first n symbols of layer j have their hashes: in the root, or in a tree's layer above
pub record Rooted (root : List ℕ) (j n : ℕ) : Type 0 where
  pub top : j ≡ 0 → 32 * n ≤ length root
  pub hung : 0 < j → n ≤ n_of j

-- root, tree and marks have what n symbols of layer j need
pub record Level (root t m : List ℕ) (j n : ℕ) : Type 0 where
  pub layers : Layers j n t
  pub rooted : Rooted root j n
  pub marks-room : places tree j + n ≤ length m

-- the marks m have those of the members ms of an equation of layer j
pub record Marked (m ms : List ℕ) (j : ℕ) : Type 0 where
  pub layer : j < max_depth
  pub symbols : ℕ
  pub room : places tree j + symbols ≤ length m
  pub within : every (λ y. ltb y symbols) ms ≡ true

-- equation e of layer j, which has the members ms, can be worked on, and its fault proof, or twins, have room
pub record Workable (root ms t out : List ℕ) (j e : ℕ) : Type 0 where
  pub members : Members j t ms
  pub rooted : Rooted root j members.symbols
  pub some : 1 ≤ length ms
  pub out-room : proof_length j (length ms) ≤ length out
  pub twins-room : 512 ≤ length out
  pub low : e < 2 ^ 30

-- .. and the marks and the list u of used equations have it
pub record Turnable (root ms t m out u : List ℕ) (j e : ℕ) : Type 0 where
  pub work : Workable root ms t out j e
  pub marked : Marked m ms j
  pub listed : e < length u

-- ---- an equation in the words

-- the members that start where the index's entry i says
abbrev pub members_at : List ℕ → List ℕ → ℕ → List ℕ
members_at ws starts i = members_of (drop (get_or starts i 0) ws)

-- the index has an entry i, a place in the words
pub record Stands (ws starts : List ℕ) (i : ℕ) : Type 0 where
  pub listed : i < length starts
  pub inside : get_or starts i 0 ≤ length ws
