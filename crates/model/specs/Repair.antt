-- Repair, step by step: 01, "Repair". Definitions only.
use Rattle.std.specs.Prelude.{Bool, true, false, not, ◌&&◌, List, [], ◌++◌, ℕ, zero, suc, length, get_or, set, replicate, leb, ltb, eqb}
use Rattle.octets.specs.Choice.{pick}
use Rattle.parity_table.specs.Members.{last_of}
use Rattle.parity_table.specs.Table.{layer_of, equation_of}
use Rattle.parity_table.specs.Parse.{over}
use Rattle.model.specs.Shape.{Shape, place}
use Rattle.octets.specs.ByteLists.{same}
use Rattle.model.specs.Symbols.{count, first_of, lowest, others, xor_of, zeros, committed, sym_at, put_at}
use Rattle.model.specs.Fault.{proof_bytes}

-- "The ends are: whole, fault, unavailable, twins." Before its end a repair is working.
pub data End : Type 0 where
  working : End
  whole : End
  fault : (layer equation withheld size : ℕ) → End
  unavailable : (layer : ℕ) → End
  twins : (layer number : ℕ) → End

unfoldable pub going : End → Bool
going working = true
going whole = false
going (fault j e x n) = false
going (unavailable j) = false
going (twins j x) = false

-- the lent buffers; the equations of the present layer, 1 used or 0 unused; the symbols stored; the layers entered; the end
pub record St : Type 0 where
  pub tree : List ℕ
  pub marks : List ℕ
  pub out : List ℕ
  pub used : List ℕ
  pub stored : ℕ
  pub entered : ℕ
  pub end : End

-- ---- what a step changes

unfoldable pub use_eq : ℕ → St → St
use_eq e st = record { tree = st.tree; marks = st.marks; out = st.out; used = set st.used e 1; stored = st.stored; entered = st.entered; end = working }

-- "write a fault proof withholding it and stop"
unfoldable pub write_fault : ℕ → ℕ → ℕ → List ℕ → St → St
write_fault j e x p st =
    record { tree = st.tree; marks = st.marks; out = over p st.out; used = st.used; stored = st.stored; entered = st.entered; end = fault j e x (length p) }

-- "write "twins" (the held symbol, then that exclusive-or) and stop"
unfoldable pub write_twins : ℕ → ℕ → List ℕ → List ℕ → St → St
write_twins j x s v st =
    record { tree = st.tree; marks = st.marks; out = over (s ++ v) st.out; used = st.used; stored = st.stored; entered = st.entered; end = twins j x }

-- layer j is entered, with n equations unused
unfoldable pub fresh : ℕ → ℕ → St → St
fresh j n st = record { tree = st.tree; marks = st.marks; out = st.out; used = replicate n 0; stored = st.stored; entered = suc j; end = working }

unfoldable pub end_as : End → St → St
end_as z st = record { tree = st.tree; marks = st.marks; out = st.out; used = st.used; stored = st.stored; entered = st.entered; end = z }

-- a repair that has gone through every layer ends whole
unfoldable pub finish : St → St
finish st = pick (going st.end) (end_as whole st) st

module _ (S : Shape) where
  -- symbol i of layer j is absent: "marks are one byte for each symbol, 1 held or 0 absent"
  unfoldable pub absent_at : List ℕ → ℕ → ℕ → Bool
  absent_at m j i = not (eqb (get_or m (place S j i) 0) 1)

  -- "store and mark it"
  unfoldable pub store_sym : ℕ → ℕ → ℕ → List ℕ → St → St
  store_sym j e x v st =
      record {
        tree = put_at S st.tree j x v;
        marks = set st.marks (place S j x) 1;
        out = st.out;
        used = set st.used e 1;
        stored = suc st.stored;
        entered = st.entered;
        end = working;
      }

  -- "becomes absent; absent places are zeroed"
  unfoldable pub erase_sym : ℕ → ℕ → St → St
  erase_sym j i st =
      record {
        tree = put_at S st.tree j i zeros;
        marks = set st.marks (place S j i) 0;
        out = st.out;
        used = st.used;
        stored = st.stored;
        entered = st.entered;
        end = working;
      }

  -- the exclusive-or of the members of ms other than x
  unfoldable pub rest_of : ℕ → List ℕ → ℕ → St → List ℕ
  rest_of j ms x st = xor_of (sym_at S st.tree j) (others x ms)

  -- (c) "When none can be taken: gaps left mean "unavailable" with this layer, else go on."
  unfoldable pub gaps_left : ℕ → St → Bool
  gaps_left j st = ltb (lowest (absent_at st.marks j) 0 (S.n j)) (S.n j)

  unfoldable pub settle : ℕ → St → St
  settle j st = pick (going st.end && gaps_left j st) (end_as (unavailable j) st) st

  module _ (H : ℕ → ℕ → List ℕ → List ℕ) (root : List ℕ) where
    -- the hash of s is the one committed for symbol i of layer j
    unfoldable pub fits_at : St → ℕ → ℕ → List ℕ → Bool
    fits_at st j i s = same (H j i s) (committed S root (sym_at S st.tree) j i)

    -- (a) "a held symbol whose hash isn't the committed one becomes absent; absent places are zeroed"
    unfoldable pub sweep_at : ℕ → ℕ → St → St
    sweep_at j i st = pick (not (absent_at st.marks j i) && fits_at st j i (sym_at S st.tree j i)) st (erase_sym j i st)

    unfoldable pub sweep : ℕ → ℕ → ℕ → St → St
    sweep j i zero st = st
    sweep j i (suc m) st = sweep j (suc i) m (sweep_at j i st)

    -- (b) "One absent: form it from the others; if its hash fits, store and mark it, else write a fault proof withholding it and stop."
    unfoldable pub form : ℕ → ℕ → List ℕ → ℕ → List ℕ → St → St
    form j e ms x v st = pick (fits_at st j x v) (store_sym j e x v st) (write_fault j e x (proof_bytes S (sym_at S st.tree) j e x ms) st)

    -- "None absent and the equation fails: withhold the last member; write a fault proof and stop, or, if the hash of the others' exclusive-or
    -- equals the committed one, write "twins" [..] and stop."
    unfoldable pub refute : ℕ → ℕ → List ℕ → ℕ → List ℕ → St → St
    refute j e ms x v st =
        pick (fits_at st j x v) (write_twins j x (sym_at S st.tree j x) v st) (write_fault j e x (proof_bytes S (sym_at S st.tree) j e x ms) st)

    -- equation e, with members ms, is taken
    unfoldable pub act : ℕ → ℕ → List ℕ → St → St
    act j e ms st =
        pick (eqb (count (absent_at st.marks j) ms) 0)
        (pick (same (xor_of (sym_at S st.tree j) ms) zeros) (use_eq e st) (refute j e ms (last_of ms 0) (rest_of j ms (last_of ms 0) st) st))
        (form j e ms (first_of (absent_at st.marks j) ms) (rest_of j ms (first_of (absent_at st.marks j) ms) st) st)

  -- "Take the lowest unused equation with at most one absent member."
  module _ (tbl : List (List (List ℕ))) where
    unfoldable pub takeable : ℕ → St → ℕ → Bool
    takeable j st e = eqb (get_or st.used e 0) 0 && leb (count (absent_at st.marks j) (equation_of tbl j e)) 1

    unfoldable pub lowest_eq : ℕ → St → ℕ
    lowest_eq j st = lowest (takeable j st) 0 (length (layer_of tbl j))

  module _ (H : ℕ → ℕ → List ℕ → List ℕ) (root : List ℕ) (tbl : List (List (List ℕ))) where
    -- one turn of (b); nothing changes after an end, or where no equation can be taken
    unfoldable pub step : ℕ → St → St
    step j st =
        pick (going st.end && ltb (lowest_eq tbl j st) (length (layer_of tbl j))) (act H root j (lowest_eq tbl j st) (equation_of tbl j (lowest_eq tbl j st)) st) st

    unfoldable pub peel : ℕ → ℕ → St → St
    peel j zero st = st
    peel j (suc m) st = peel j m (step j st)

    -- "Layers from the top. In each layer": (a), (b) with a turn for each equation, (c)
    unfoldable pub enter : ℕ → St → St
    enter j st = sweep H root j 0 (S.n j) (fresh j (length (layer_of tbl j)) st)

    unfoldable pub layer : ℕ → St → St
    layer j st = pick (going st.end) (settle j (peel j (length (layer_of tbl j)) (enter j st))) st

    unfoldable pub layers : ℕ → ℕ → St → St
    layers j zero st = st
    layers j (suc m) st = layers (suc j) m (layer j st)

    -- the repair of the lent tree, marks and output buffer
    unfoldable pub repair : List ℕ → List ℕ → List ℕ → St
    repair t m o = finish (layers 0 (length tbl) (record { tree = t; marks = m; out = o; used = []; stored = 0; entered = 0; end = working }))
