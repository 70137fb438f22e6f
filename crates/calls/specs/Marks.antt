-- Marks: "one byte for each symbol, 1 held or 0 absent". Definitions only.
use Rattle.std.specs.Prelude.{Bool, List, ℕ, length, get_or, ltb}
use Rattle.model.specs.Symbols.{lowest}

-- "a mark neither 0 nor 1", at place p
unfoldable pub is_bad : List ℕ → ℕ → Bool
is_bad m p = ltb 1 (get_or m p 0)

-- the lowest place with such a mark, or the number of marks
abbrev pub lowest_bad : List ℕ → ℕ
lowest_bad m = lowest (is_bad m) 0 (length m)
