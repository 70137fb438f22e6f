-- Lists of numbers: tests, the last, members. Definitions only.
use Rattle.std.specs.Prelude.{◌≡◌, Bool, true, ◌&&◌, List, [], ◌∷◌, ℕ, ◌<◌, length, get_or, ltb}

-- the test passes at every element
unfoldable pub every : (ℕ → Bool) → List ℕ → Bool
every p [] = true
every p (x ∷ xs) = p x && every p xs

-- strictly ascending
unfoldable pub ascending : List ℕ → Bool
ascending [] = true
ascending (x ∷ xs) = every (ltb x) xs && ascending xs

-- the last element, or z where there is none
unfoldable pub last_of : List ℕ → ℕ → ℕ
last_of [] z = z
last_of (x ∷ xs) z = last_of xs x

-- x is one of them
abbrev pub IsMember : ℕ → List ℕ → Type 0
IsMember x xs = (q : ℕ) × (q < length xs) × (get_or xs q 0 ≡ x)
