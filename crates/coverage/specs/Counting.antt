-- How a layer's data symbols are counted, in one pass over its words. Definitions only.
use Rattle.std.specs.Prelude.{◌≡◌, Bool, true, false, not, ◌&&◌, List, [], ◌∷◌, ℕ, ◌+◌, ◌≤◌, ◌<◌, length, get_or, drop, set, replicate, leb, ltb}
use Rattle.octets.specs.Choice.{pick}
use Rattle.parity_table.specs.Table.{layer_word}
use Rattle.parity_table.specs.Parse.{opens_equation}
use Rattle.model.specs.Symbols.{lowest}

-- a word that opens a layer, or the end word
unfoldable pub ends_layer : ℕ → Bool
ends_layer w = leb (layer_word 0) w && not (opens_equation w)

-- some word does
unfoldable pub has_end : List ℕ → Bool
has_end [] = false
has_end (w ∷ ws) = pick (ends_layer w) true (has_end ws)

-- word w is counted where it is the number of a data symbol, which has an entry
unfoldable pub noted : List ℕ → ℕ → List ℕ
noted seen w = pick (ltb w (length seen)) (set seen w (get_or seen w 0 + 1)) seen

-- no symbol was seen more than n times
abbrev pub Below : List ℕ → ℕ → Type 0
Below seen n = (i : ℕ) → i < length seen → get_or seen i 0 ≤ n

-- how often each data symbol was seen, and the words that are left
pub record Tally : Type 0 where
  pub seen : List ℕ
  pub rest : List ℕ

abbrev pub tallied : List ℕ → List ℕ → Tally
tallied seen rest = record { seen = seen; rest = rest }

-- the words up to the layer's end
unfoldable pub tally : List ℕ → List ℕ → Tally
tally seen [] = tallied seen []
tally seen (w ∷ ws) = pick (ends_layer w) (tallied seen (w ∷ ws)) (tally (noted seen w) ws)

-- symbol i was seen fewer than two times
unfoldable pub is_thin : List ℕ → ℕ → Bool
is_thin seen i = ltb (get_or seen i 0) 2

-- a layer of k data symbols, whose equations stand from word `at` on, ends at word `end`, and `low` is its lowest symbol that was seen fewer than two
-- times, k where none was
abbrev pub LayerCounted : List ℕ → ℕ → ℕ → ℕ → ℕ → Type 0
LayerCounted ws at k end low =
    (end ≤ length ws) × (drop end ws ≡ (tally (replicate k 0) (drop at ws)).rest)
    × (low ≡ lowest (is_thin (tally (replicate k 0) (drop at ws)).seen) 0 (length (tally (replicate k 0) (drop at ws)).seen))

-- .. ends somewhere, and `low` is that symbol
abbrev pub LayerThin : List ℕ → ℕ → ℕ → ℕ → Type 0
LayerThin ws at k low = (end : ℕ) × LayerCounted ws at k end low
