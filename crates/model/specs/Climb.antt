-- A way up, from a given symbol to the root: it leads there, or breaks at a layer; and ways one after another. Definitions only.
use Rattle.std.specs.Prelude.{◌≡◌, Bool, true, false, ℕ, zero, suc, ◌+◌, ◌≤◌, ◌<◌}
use Rattle.octets.specs.Choice.{pick}

pub data Climb : Type 0 where
  -- every hash is the committed one
  leads : Climb
  -- the first layer, going up, of a symbol with another hash
  breaks : (layer : ℕ) → Climb

-- 02, CR 4: "the first layer, going up from the given symbol, whose hash isn't the committed one"
-- The symbols are numbered going up; number x is of layer `layer x`, and `fits x` tests its hash. The m symbols from number x on:
unfoldable pub climb : (ℕ → Bool) → (ℕ → ℕ) → ℕ → ℕ → Climb
climb fits layer x zero = leads
climb fits layer x (suc m) = pick (fits x) (climb fits layer (suc x) m) (breaks (layer x))

-- symbol y of those is the first that doesn't fit
pub record First (fits : ℕ → Bool) (x m y : ℕ) : Type 0 where
  pub from : x ≤ y
  pub upto : y < x + m
  pub unfit : fits y ≡ false
  pub before : (z : ℕ) → x ≤ z → z < y → fits z ≡ true

-- what an answer says
abbrev pub Says : (ℕ → Bool) → (ℕ → ℕ) → ℕ → ℕ → Climb → Type 0
Says fits layer x m leads = (y : ℕ) → x ≤ y → y < x + m → fits y ≡ true
Says fits layer x m (breaks j) = (y : ℕ) × First fits x m y × (layer y ≡ j)

-- ---- ways one after another

-- what they come to
pub data Ways : Type 0 where
  -- each leads to the root
  all_lead : Ways
  -- the first that doesn't: the layer where it breaks, and its position
  break_at : (layer position : ℕ) → Ways

-- the way at position p, then those after it
unfoldable pub first_break : ℕ → Climb → Ways → Ways
first_break p leads later = later
first_break p (breaks l) later = break_at l p
