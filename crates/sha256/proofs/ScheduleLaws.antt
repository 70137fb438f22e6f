-- Step 1: the message schedule, word by word.
use Rattle.std.proofs.Common.{◌≡◌, ℕ, zero, suc, ◌+◌, ◌-◌, ◌<◌, ◌≤◌, List, [], ◌∷◌, ◌++◌, length, get_or, take, set, sym, ap, ◌∙◌, ap₂, add-zero, add-suc, suc-add, zero-add, add-one, arith, take_all, get_or-take, take-suc}
use Rattle.sha256.specs.Words.{◌⊞◌}
use Rattle.sha256.specs.Functions.{small_sigma0, small_sigma1}
use Rattle.sha256.specs.Hash.{next_word, extended, message_schedule}
use Rattle.sha256.proofs.ParsingLaws.{take_more}
use Rattle.sha256.proofs.Runs.{more}

-- ---- W_0 to W_15

-- a word of the block more
pub copied_more : (m w : List ℕ) (t v : ℕ) → t < length m → t < length w → take t w ≡ take t m → v ≡ get_or m t 0
    → take (t + 1) (set w t v) ≡ take (t + 1) m
copied_more m w t v hm hw e ev =
    take_more w t v hw ∙ ap₂ (λ x y. x ++ (y ∷ [])) e ev ∙ sym (ap (λ k. take k m) (add-one t) ∙ take-suc m t 0 hm)

-- ---- W_16 to W_63

next-take : (w : List ℕ) (t : ℕ) → 16 ≤ t
    → next_word (take t w) t
    ≡ small_sigma1 (get_or w (t - 2) 0) ⊞ get_or w (t - 7) 0 ⊞ small_sigma0 (get_or w (t - 15) 0) ⊞ get_or w (t - 16) 0
unfolding next_word
next-take w t h =
    rw (
      get_or-take t w (t - 2) 0 (omega arith),
      get_or-take t w (t - 7) 0 (omega arith),
      get_or-take t w (t - 15) 0 (omega arith),
      get_or-take t w (t - 16) 0 (omega arith),
    )

pub extended-one : (w : List ℕ) (t v : ℕ) → 16 ≤ t → t < length w
    → v ≡ small_sigma1 (get_or w (t - 2) 0) ⊞ get_or w (t - 7) 0 ⊞ small_sigma0 (get_or w (t - 15) 0) ⊞ get_or w (t - 16) 0
    → take (t + 1) (set w t v) ≡ extended (take t w) t 1
unfolding extended
extended-one w t v h l e = take_more w t v l ∙ ap (λ x. take t w ++ (x ∷ [])) (e ∙ sym (next-take w t h))

pub extended_split : (t m n : ℕ) (w : List ℕ) → extended w t (m + n) ≡ extended (extended w t m) (t + m) n
unfolding extended
extended_split t zero n w = ap₂ (extended w) (sym (add-zero t)) (zero-add n)
extended_split t (suc m) n w =
    ap (extended w t) (suc-add m n) ∙ extended_split (suc t) m n (w ++ (next_word w t ∷ []))
    ∙ ap (λ u. extended (extended (w ++ (next_word w t ∷ [])) (suc t) m) u n) (suc-add t m ∙ sym (add-suc t m))

pub extended-two : (w x y : List ℕ) (t : ℕ) → take (t + 1) x ≡ extended (take t w) t 1 → take (t + 1 + 1) y ≡ extended (take (t + 1) x) (t + 1) 1
    → take (t + 2) y ≡ extended (take t w) t 2
extended-two w x y t ex ey =
    let e : t + 2 ≡ t + 1 + 1 = omega arith in
    ap (λ k. take k y) e ∙ more (λ t n v. extended v t n) extended_split t 1 1 ex ey

-- two words more, after the k words from W_t on
pub two_more : (t k : ℕ) (w v : List ℕ) → take (t + k + 2) v ≡ extended (take (t + k) w) (t + k) 2 → take (t + (k + 2)) v ≡ extended (take (t + k) w) (t + k) 2
two_more t k w v e = let s : t + (k + 2) ≡ t + k + 2 = omega arith in ap (λ n. take n v) s ∙ e

pub schedule_is : (w m : List ℕ) → length w ≡ 64 → take 64 w ≡ extended m 16 48 → w ≡ message_schedule m
unfolding message_schedule
schedule_is w m l e = sym (take_all 64 w (omega arith)) ∙ e
