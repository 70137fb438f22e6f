-- The equations that each symbol of a layer stands in. An equation has at most 8 members: member i of equation e has slot 8 e + i, and the slots past its
-- members hold nothing. Definitions only.
use Rattle.std.specs.Prelude.{◌≡◌, Bool, true, ◌&&◌, List, ℕ, zero, suc, ◌+◌, ◌-◌, ◌*◌, ◌/◌, ◌%◌, ◌^◌, ◌≤◌, ◌<◌, drop, get_or, length, eqb, ltb}
use Rattle.octets.specs.Choice.{pick}
use Rattle.parity_table.specs.Members.{every}
use Rattle.model.specs.Symbols.{count}
use Rattle.equation.specs.Rooms.{Stands, members_at}

-- n equations, the first being number `from` of the index, are in the words, and their members are below `symbols`
pub record Listed (ws starts : List ℕ) (from n symbols : ℕ) : Type 0 where
  pub stands : (e : ℕ) → e < n → Stands ws starts (from + e)
  pub within : (e : ℕ) → e < n → every (λ y. ltb y symbols) (members_at ws starts (from + e)) ≡ true

module _ (ws starts : List ℕ) (from : ℕ) where
  -- slot s holds symbol x: it is member s % 8 of equation s / 8
  unfoldable pub holds_at : ℕ → ℕ → Bool
  holds_at x s = ltb (s % 8) (length (members_at ws starts (from + s / 8))) && eqb (get_or (members_at ws starts (from + s / 8)) (s % 8) 0) x

  -- the highest slot below b that holds x, counted from 1; 0 where none does
  unfoldable pub below : ℕ → ℕ → ℕ
  below x zero = 0
  below x (suc b) = pick (holds_at x b) (suc b) (below x b)

  -- last and next lead through the slots below b of every symbol, from the last to the first: `last` has an entry for each symbol, `next` one for each slot,
  -- and they count slots from 1, 0 being none
  pub record ThreadedTo (b : ℕ) (last next : List ℕ) : Type 0 where
    pub ends : (x : ℕ) → x < length last → get_or last x 0 ≡ below x b
    pub links : (x s : ℕ) → s < b → holds_at x s ≡ true → get_or next s 0 ≡ below x s

  -- .. of n equations
  abbrev pub Threaded : ℕ → List ℕ → List ℕ → Type 0
  Threaded n = ThreadedTo (8 * n)

  -- how many times x is a member of equation e in the slots from b on
  unfoldable pub hits : ℕ → ℕ → ℕ → ℕ
  hits x e b = count (λ y. eqb y x) (drop (b - 8 * e) (members_at ws starts (from + e)))

  -- ---- what is asked of the lent lists

  -- equation e has a slot for each member
  abbrev pub Narrow : ℕ → Type 0
  Narrow e = length (members_at ws starts (from + e)) ≤ 8

  -- n equations can be threaded through lists of `symbols` entries and of `slots`
  pub record Threadable (n symbols slots : ℕ) : Type 0 where
    pub listed : Listed ws starts from n symbols
    pub narrow : (e : ℕ) → e < n → Narrow e
    pub room : 8 * n ≤ slots
    pub low : 8 * n < 2 ^ 32
