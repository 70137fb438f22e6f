-- Step 3: a round, from the numbers that the code computes; rounds one after the other.
use Rattle.std.proofs.Common.{◌≡◌, ℕ, zero, suc, ◌+◌, List, [], ◌∷◌, get_or, sym, ap, ◌∙◌, ap₂, add-zero, add-suc, suc-add, zero-add, add-one}
use Rattle.sha256.specs.Words.{◌⊞◌}
use Rattle.sha256.specs.Functions.{big_sigma1, ch}
use Rattle.sha256.specs.Constants.{constants}
use Rattle.sha256.specs.Hash.{temp1, temp2, round_of, round, rounds_from}

pub temp1-is : (e f g h k w a c : ℕ) → a ≡ big_sigma1 e → c ≡ ch e f g → h ⊞ a ⊞ c ⊞ k ⊞ w ≡ temp1 e f g h k w
unfolding temp1
temp1-is e f g h k w a c ea ec = rw (ea, ec)

pub round_is : (w k v : List ℕ) (t a b : ℕ) → k ≡ constants
    → a ≡ temp1 (get_or v 4 0) (get_or v 5 0) (get_or v 6 0) (get_or v 7 0) (get_or k t 0) (get_or w t 0) → b ≡ temp2 (get_or v 0 0) (get_or v 1 0) (get_or v 2 0)
    → ((a ⊞ b) ∷ get_or v 0 0 ∷ get_or v 1 0 ∷ get_or v 2 0 ∷ (get_or v 3 0 ⊞ a) ∷ get_or v 4 0 ∷ get_or v 5 0 ∷ get_or v 6 0 ∷ []) ≡ round w t v
unfolding round round_of
round_is w k v t a b ek ea eb = rw (ea, eb, ek)

pub rounds_split : (w : List ℕ) (t m n : ℕ) (s : List ℕ) → rounds_from w t (m + n) s ≡ rounds_from w (t + m) n (rounds_from w t m s)
unfolding rounds_from
rounds_split w t zero n s = ap₂ (λ u v. rounds_from w u v s) (sym (add-zero t)) (zero-add n)
rounds_split w t (suc m) n s =
    ap (λ v. rounds_from w t v s) (suc-add m n) ∙ rounds_split w (suc t) m n (round w t s)
    ∙ ap (λ u. rounds_from w u n (rounds_from w (suc t) m (round w t s))) (suc-add t m ∙ sym (add-suc t m))

pub two-rounds : (w : List ℕ) (t : ℕ) (s x y : List ℕ) → x ≡ round w t s → y ≡ round w (t + 1) x → y ≡ rounds_from w t 2 s
unfolding rounds_from
two-rounds w t s x y ex ey = ey ∙ ap₂ (round w) (add-one t) ex
