-- Bytes written into a buffer, piece after piece.
use mathlib.Core.List.{List, [], ◌++◌, append_assoc}
use mathlib.Core.Path.{◌∙◌, ◌≡◌, ap, ap₂, sym}
use Prim.Native.Nat.{◌+◌, ◌≤◌, ℕ}
use native.Mathlib.Omega.{arith}
use lib.ListN.{drop, length, length-append, take}
use lib.Seq.{drop-drop, drop-paste, paste-zero, take-length, take-paste}
use Rattle.fault_writer.specs.Room.{splice}
use Rattle.parity_table.specs.Parse.{over}

module _ (o : List ℕ) (at : ℕ) (s : List ℕ) (h : at + length s ≤ length o) where
  -- a second piece right after the first
  pub splice-more : (p : List ℕ) → splice (splice o at s) (at + length s) p ≡ splice o at (s ++ p)
  splice-more p =
      let q : List ℕ = splice o at s in
      let front : take (at + length s) q ≡ take at o ++ s =
      take-paste o at s (length s) (omega arith) (omega arith) ∙ ap (λ (l : List ℕ). take at o ++ l) (take-length s) in
      let back : drop (at + length s + length p) q ≡ drop (at + length s + length p) o =
      sym (drop-drop (length p) (at + length s) q)
      ∙ ap (drop (length p)) (drop-paste o at s (length s) (omega arith) (omega arith))
      ∙ drop-drop (length p) (at + length s) o in
      let n : at + length s + length p ≡ at + length (s ++ p) = omega (arith, length-append s p) in
      ap₂ (λ (a b : List ℕ). a ++ take (length p) p ++ b) front back
      ∙ ap₂ (λ (a : List ℕ) (k : ℕ). take at o ++ s ++ a ++ drop k o) (take-length p) n
      ∙ ap (λ (a : List ℕ). a ++ drop (at + length (s ++ p)) o) (append_assoc (take at o) s p ∙ ap (λ (a : List ℕ). take at o ++ a) (sym (take-length (s ++ p))))

pub splice-none : (o : List ℕ) (at : ℕ) → splice o at [] ≡ o
splice-none o at = sym (paste-zero o at [])

-- from the start
pub splice-over : (p o : List ℕ) → splice o 0 p ≡ over p o
splice-over p o =
    let z : 0 + length p ≡ length p = omega arith in
    ap₂ (λ (a : List ℕ) (k : ℕ). a ++ drop k o) (take-length p) z
