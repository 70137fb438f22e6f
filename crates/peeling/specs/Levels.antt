-- What the steps ask of the buffers that they are lent. Definitions only.
use Rattle.std.specs.Prelude.{◌≡◌, List, ℕ, ◌+◌, ◌*◌, ◌^◌, ◌≤◌, ◌<◌, length}
use Rattle.parity_table.specs.Table.{layer_of, equation_of}
use Rattle.model.specs.Fault.{proof_length}
use Rattle.equation.specs.Rooms.{Level, members_at}
use Rattle.incidence.specs.Incidence.{Listed, Threaded}
use Rattle.peeling.specs.Search.{Counted, Ordered}

-- layer j has equations, the first being number `from` of the index: each can be worked on, u saying which of them are used
pub record Lent (root ws starts t m out u : List ℕ) (from j : ℕ) : Type 0 where
  pub symbols : ℕ
  pub numbered : symbols ≤ 2 ^ 30
  pub level : Level root t m j symbols
  pub listed : Listed ws starts from (length u) symbols
  pub low : length u ≤ 2 ^ 30
  pub most : ℕ
  pub sized : (e : ℕ) → e < length u → (1 ≤ length (members_at ws starts (from + e))) × (length (members_at ws starts (from + e)) ≤ most)
  pub out-room : proof_length j most ≤ length out
  pub twins-room : 512 ≤ length out

-- .. and the next one to take can be found: `last` and `next` lead through the equations of each symbol, `absent` has how many members of each are
-- absent, and `order` is right for a cursor before the first equation
pub record Peelable (root ws starts last next t m out u absent order : List ℕ) (from j : ℕ) : Type 0 where
  pub lent : Lent root ws starts t m out u from j
  pub some : 1 ≤ length u
  pub eight : lent.most ≤ 8
  pub threaded : Threaded ws starts from (length u) last next
  pub last-room : lent.symbols ≤ length last
  pub next-room : 8 * length u ≤ length next
  pub counted : Counted ws starts from j (length u) m absent
  pub ordered : Ordered u absent 0 order

-- layer j of the table has these n equations and no others
pub record Reads (tbl : List (List (List ℕ))) (ws starts : List ℕ) (from j n : ℕ) : Type 0 where
  pub count : length (layer_of tbl j) ≡ n
  pub members : (e : ℕ) → e < n → equation_of tbl j e ≡ members_at ws starts (from + e)
