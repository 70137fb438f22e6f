-- Runs of stores into a list, and copies.
use mathlib.Core.Path.{◌≡◌, sym, ap, ◌∙◌}
use mathlib.Core.List.{List, ◌++◌}
use Prim.Native.Nat.{ℕ, ◌+◌, ◌≤◌, ◌<◌}
use native.Mathlib.Omega.{arith}
use native.Mathlib.Numerals.{add-one}
use lib.ListN.{length, get_or, take, drop, set, length-append}
use lib.Seq.{sets, sets-eq, take_at, length-take-le, paste, paste-suc}
use borrow.Rule.Slice.PartMut.{put_mid}
use Rattle.std.proofs.Common.{rules}
use Rattle.std.proofs.lemmas.Slice.{overwrites}

-- the part that a run of stores ends
pub take-sets : (l vs : List ℕ) (i : ℕ) → i + length vs ≤ length l → take (i + length vs) (sets l i vs) ≡ take i l ++ vs
take-sets l vs i h =
    let t : length (take i l) ≡ i = length-take-le i l (omega arith) in
    let a : length (take i l ++ vs) ≡ i + length vs = rw length-append (omega arith) in
    ap (take (i + length vs)) (sets-eq vs l i h) ∙ take_at (take i l ++ vs) (drop (i + length vs) l) (i + length vs) a

-- a write to the k bytes from byte i on is the run of stores
pub stores_part : (l vs : List ℕ) (i k : ℕ) → k ≡ length vs → i + k ≤ length l → put_mid i k l vs ≡ sets l i vs
stores_part l vs i k e h = rw (e, sets-eq vs l i (omega arith)) (search (rules, overwrites))

-- a byte more of a copy
pub copy_more : (d s e : List ℕ) (at i : ℕ) → at + length s ≤ length d → i < length s → e ≡ paste d at s i
    → set e (at + i) (get_or s i 0) ≡ paste d at s (i + 1)
copy_more d s e at i h l q =
    ap (λ v. set v (at + i) (get_or s i 0)) q ∙ paste-suc d at s i 0 (omega arith) l ∙ ap (paste d at s) (sym (add-one i))
