-- The lists by which peeling finds its next equation: how many members of each equation are absent, and in a tournament the lowest equation to take
-- of those before a cursor.
-- Definitions only.
use Rattle.std.specs.Prelude.{◌≡◌, Bool, ◌&&◌, false, true, List, MatchOption, Option, ℕ, ◌+◌, ◌*◌, ◌^◌, ◌≤◌, ◌<◌, max, length, get_or, set, leb, ltb, eqb}
use Rattle.octets.specs.Choice.{pick}
use Rattle.tournament.specs.Tournament.{Tournament, entries}
use Rattle.parity_table.specs.Shape.{max_depth}
use Rattle.model.specs.Shape.{tree, places}
use Rattle.model.specs.Symbols.{count}
use Rattle.model.specs.Repair.{absent_at}
use Rattle.equation.specs.Rooms.{members_at}
use Rattle.incidence.specs.Incidence.{Listed, Narrow, Threaded}

-- ---- the lowest equation

-- a tournament of n entries: entry e is e where equation e passes the test, else n
pub record Order (n : ℕ) (p : ℕ → Bool) (order : List ℕ) : Type 0 where
  pub tournament : Tournament order
  pub sized : length order ≡ 2 * n
  pub entry : (e : ℕ) → e < n → get_or (entries order) e 0 ≡ pick (p e) e n

-- equation e is unused and has at most one absent member
abbrev pub ready : List ℕ → List ℕ → ℕ → Bool
ready used absent e = eqb (get_or used e 0) 0 && leb (get_or absent e 0) 1

-- the order has those before the cursor `at` that are so
abbrev pub Ordered : List ℕ → List ℕ → ℕ → List ℕ → Type 0
Ordered used absent at order = Order (length used) (λ e. ltb e at && ready used absent e) order

-- the lowest equation from `at` on that is so, if any
abbrev pub Next : List ℕ → List ℕ → ℕ → Option ℕ → Type 0
Next used absent at r =
    MatchOption r ((x : ℕ) → at ≤ x → x < length used → ready used absent x ≡ false)
    (λ e. (at ≤ e) × (e < length used) × (ready used absent e ≡ true) × ((x : ℕ) → at ≤ x → x < e → ready used absent x ≡ false))

-- equation e is the lowest of all that are so: once it is used, the order is right for a cursor past it
pub record Picked (used absent : List ℕ) (at e : ℕ) (order : List ℕ) : Type 0 where
  pub inside : e < length used
  pub none : (x : ℕ) → x < e → ready used absent x ≡ false
  pub is-ready : ready used absent e ≡ true
  pub ordered : Ordered (set used e 1) absent (max at (e + 1)) order

-- none is so, and the order is right for a cursor before the first
pub record Over (used absent order : List ℕ) : Type 0 where
  pub none : (x : ℕ) → x < length used → ready used absent x ≡ false
  pub ordered : Ordered used absent 0 order

-- ---- the absent members

-- `absent` has for each of n equations, by the marks m, how many of its members are absent
pub record Counted (ws starts : List ℕ) (from j n : ℕ) (m absent : List ℕ) : Type 0 where
  pub sized : length absent ≡ n
  pub counts : (e : ℕ) → e < n → get_or absent e 0 ≡ count (absent_at tree m j) (members_at ws starts (from + e))

-- what counting them asks
pub record Countable (ws starts : List ℕ) (from j n : ℕ) (m : List ℕ) : Type 0 where
  pub layer : j < max_depth
  pub symbols : ℕ
  pub room : places tree j + symbols ≤ length m
  pub listed : Listed ws starts from n symbols
  pub narrow : (e : ℕ) → e < n → Narrow ws starts from e
  pub low : n ≤ 2 ^ 30

-- ---- a symbol that is stored

-- the thread of symbol x leads through n equations
pub record Thread (ws starts : List ℕ) (from n : ℕ) (last next : List ℕ) (x : ℕ) : Type 0 where
  pub threaded : Threaded ws starts from n last next
  pub narrow : (e : ℕ) → e < n → Narrow ws starts from e
  pub known : x < length last
  pub room : 8 * n ≤ length next

-- the equations of a thread, and each has as many absent members as it has members x
pub record Lowerable (last next used absent order : List ℕ) (at x : ℕ) : Type 0 where
  pub words : List ℕ
  pub starts : List ℕ
  pub from : ℕ
  pub thread : Thread words starts from (length used) last next x
  pub enough : (e : ℕ) → e < length used → count (λ y. eqb y x) (members_at words starts (from + e)) ≤ get_or absent e 0
  pub ordered : Ordered used absent at order
  pub sized : length absent ≡ length used
  pub low : length used ≤ 2 ^ 30

-- each has lost its members x
abbrev pub Lowered : List ℕ → List ℕ → ℕ → ℕ → ℕ → List ℕ → List ℕ → Type 0
Lowered ws starts from n x absent after =
    (e : ℕ) → e < n → get_or after e 0 + count (λ y. eqb y x) (members_at ws starts (from + e)) ≡ get_or absent e 0
