-- Step 4, as the code has its sums; the four steps, one after the other.
use Rattle.std.proofs.Common.{◌≡◌, ℕ, List, [], ◌∷◌, get_or, refl}
use Rattle.sha256.specs.Words.{◌⊞◌}
use Rattle.sha256.specs.Hash.{message_schedule, working_variables, rounds, intermediate_hash, compress}

pub sums_are : (v h : List ℕ)
    → ((get_or v 0 0 ⊞ get_or h 0 0) ∷ (get_or v 1 0 ⊞ get_or h 1 0) ∷ (get_or v 2 0 ⊞ get_or h 2 0) ∷ (get_or v 3 0 ⊞ get_or h 3 0)
    ∷ (get_or v 4 0 ⊞ get_or h 4 0) ∷ (get_or v 5 0 ⊞ get_or h 5 0) ∷ (get_or v 6 0 ⊞ get_or h 6 0) ∷ (get_or v 7 0 ⊞ get_or h 7 0) ∷ [])
    ≡ intermediate_hash v h
unfolding intermediate_hash
sums_are v h = refl

pub four_steps : (h m w start v r : List ℕ) → w ≡ message_schedule m → start ≡ working_variables h → v ≡ rounds w start → r ≡ intermediate_hash v h
    → r ≡ compress h m
unfolding compress
four_steps h m w start v r one two three four = rw (four, three, two, one)
