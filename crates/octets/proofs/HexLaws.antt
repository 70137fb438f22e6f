-- Hexadecimal digits, byte by byte.
use mathlib.Core.Path.{◌≡◌, refl, sym, ap, ap₂, ◌∙◌}
use mathlib.Core.List.{List, [], ◌∷◌, ◌++◌}
use Prim.Native.Nat.{ℕ, ◌+◌, ◌-◌, ◌*◌, ◌/◌, ◌%◌, ◌≤◌, ◌<◌}
use native.Mathlib.Omega.{arith}
use native.Mathlib.Numerals.{add-one}
use lib.ListN.{length, get_or, take, set}
use lib.Seq.{take-suc, take_all}
use borrow.Author.Tests.{lt-ltb, le-ltb}
use Rattle.octets.specs.Choice.{pick}
use Rattle.octets.specs.Hex.{hex_digit, hex_of}
use Rattle.octets.proofs.Stores.{take-sets}

module _ (letter : ℕ) where
  pub digit_low : (n : ℕ) → n < 10 → 48 + n ≡ hex_digit letter n
  unfolding hex_digit pick
  digit_low n h = rw (lt-ltb n 10 h)

  pub digit_high : (n : ℕ) → 10 ≤ n → letter + (n - 10) ≡ hex_digit letter n
  unfolding hex_digit pick
  digit_high n h = rw (le-ltb n 10 h)

  hex_of_snoc : (xs : List ℕ) (x : ℕ) → hex_of letter (xs ++ (x ∷ [])) ≡ hex_of letter xs ++ (hex_digit letter (x / 16) ∷ hex_digit letter (x % 16) ∷ [])
  unfolding hex_of
  hex_of_snoc [] x = refl
  hex_of_snoc (y ∷ ys) x = rw (hex_of_snoc ys x)

  -- a byte more
  pub hex_more : (s out : List ℕ) (i a b : ℕ) → i < length s → length out ≡ length s * 2 → take (i * 2) out ≡ hex_of letter (take i s)
      → a ≡ hex_digit letter (get_or s i 0 / 16) → b ≡ hex_digit letter (get_or s i 0 % 16)
      → take ((i + 1) * 2) (set (set out (i * 2) a) (i * 2 + 1) b) ≡ hex_of letter (take (i + 1) s)
  hex_more s out i a b h l e ea eb =
      let k : (i + 1) * 2 ≡ i * 2 + 2 = omega arith in
      ap₂ take k (ap (λ n. set (set out (i * 2) a) n b) (add-one (i * 2)))
      ∙ take-sets out (a ∷ b ∷ []) (i * 2) (omega arith)
      ∙ ap₂ ◌++◌ e (ap₂ (λ u v. u ∷ v ∷ []) ea eb)
      ∙ sym (ap (λ n. hex_of letter (take n s)) (add-one i) ∙ ap (hex_of letter) (take-suc s i 0 h) ∙ hex_of_snoc (take i s) (get_or s i 0))

  pub hex_all : (s out : List ℕ) (i : ℕ) → i ≡ length s → length out ≡ length s * 2 → take (i * 2) out ≡ hex_of letter (take i s) → out ≡ hex_of letter s
  hex_all s out i ei l e = sym (take_all (i * 2) out (omega arith)) ∙ e ∙ ap (hex_of letter) (take_all i s (omega arith))
