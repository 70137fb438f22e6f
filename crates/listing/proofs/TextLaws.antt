-- The text, part by part.
use mathlib.Core.Path.{◌≡◌, refl, sym, ap, ap₂, ◌∙◌}
use mathlib.Core.List.{List, [], ◌∷◌, ◌++◌, append_assoc, append-nil}
use Prim.Native.Nat.{ℕ, suc, ◌+◌, ◌-◌, ◌*◌, ◌/◌, ◌%◌, ◌≤◌, ◌<◌}
use native.Mathlib.Omega.{arith}
use native.Mathlib.Numerals.{add-one}
use lib.ListN.{length, get_or, take, drop, set, length-append, drop_of_length-le}
use lib.Seq.{sets, sets-eq, paste, take-paste}
use borrow.Author.Tests.{lt-ltb, le-ltb}
use Rattle.octets.specs.Choice.{pick}
use Rattle.octets.specs.Hex.{hex_digit, hex_of, upper}
use Rattle.house_table.proofs.HouseParts.{four}
use Rattle.octets.proofs.Writes.{putting_start, putting_step}
use Rattle.model.specs.Symbols.{joined, symbol_in}
use Rattle.listing.specs.Listing.{space, line_feed, decimal, header, line, listing}

-- ---- a number

pub one_digit : (n : ℕ) → n < 10 → (48 + n) ∷ [] ≡ decimal n
unfolding decimal pick
one_digit n h = rw (lt-ltb n 10 h)

pub two_digits : (n : ℕ) → 10 ≤ n → (48 + n / 10) ∷ (48 + n % 10) ∷ [] ≡ decimal n
unfolding decimal pick
two_digits n h = rw (le-ltb n 10 h)

pub two-stores : (l : List ℕ) (i a b : ℕ) → set (set l i a) (i + 1) b ≡ sets l i (a ∷ b ∷ [])
two-stores l i a b = rw add-one

-- ---- a line

-- what follows the number
abbrev pub rest : ℕ → List ℕ
rest first = space ∷ hex_digit upper (first / 16) ∷ hex_digit upper (first % 16) ∷ line_feed ∷ []

module _ (n : ℕ) (s : List ℕ) where
  line-parts : line n s ≡ decimal n ++ rest (get_or s 0 0)
  unfolding line hex_of
  line-parts = append_assoc (decimal n) (space ∷ hex_digit upper (get_or s 0 0 / 16) ∷ hex_digit upper (get_or s 0 0 % 16) ∷ []) (line_feed ∷ [])

  pub line-length : length (line n s) ≡ length (decimal n) + 4
  line-length = ap length line-parts ∙ length-append (decimal n) (rest (get_or s 0 0))

  -- the number being written at `at`, up to p, and then the rest
  pub line-stored : (l o : List ℕ) (at p u v : ℕ) → o ≡ sets l at (decimal n) → p ≡ at + length (decimal n)
      → u ≡ hex_digit upper (get_or s 0 0 / 16) → v ≡ hex_digit upper (get_or s 0 0 % 16)
      → set (set (set (set o p space) (p + 1) u) (p + 2) v) (p + 3) line_feed ≡ sets l at (line n s)
  line-stored l o at p u v eo ep eu ev =
      four o p space u v line_feed
      ∙ ap₂ (λ (x y : ℕ). sets o p (space ∷ x ∷ y ∷ line_feed ∷ [])) eu ev
      ∙ (putting_step (putting_start l at (line n s)) (decimal n) (rest (get_or s 0 0)) line-parts o p eo ep).gives

-- ---- the lines

module _ (t : List ℕ) where
  abbrev pub line_of : ℕ → List ℕ
  line_of i = line i (symbol_in t i)

  -- a symbol as the code takes it
  -- of the symbol s that stands there
  pub line_of_lem : (i : ℕ) (s : List ℕ) → s ≡ take 256 (drop (256 * i) t) → line i s ≡ line_of i
  unfolding symbol_in
  line_of_lem i s = ap (line i)

  -- those from symbol i on
  unfoldable pub lines_left : ℕ → List ℕ
  lines_left i = joined line_of i (16 - i)

  pub lines_turn : (i : ℕ) → i < 16 → lines_left i ≡ line_of i ++ lines_left (i + 1)
  unfolding lines_left joined
  lines_turn i h =
      let e : 16 - i ≡ suc (16 - (i + 1)) = omega arith in
      ap (joined line_of i) e ∙ ap (λ (n : ℕ). line_of i ++ joined line_of n (16 - (i + 1))) (sym (add-one i))

  pub lines_none : (i : ℕ) → 16 ≤ i → lines_left i ≡ []
  unfolding lines_left joined
  lines_none i h = let e : 16 - i ≡ 0 = omega arith in rw e

  pub lines_length : length (lines_left 0) ≡ 86
  unfolding lines_left joined line decimal hex_of pick
  lines_length = refl

  pub listing-length : length (listing t) ≡ 96
  unfolding listing header joined line decimal hex_of pick
  listing-length = refl

  -- after the header
  pub listed : (l : List ℕ) → length l ≡ 96 → take 10 l ≡ header 1 16 → sets l 10 (lines_left 0) ≡ listing t
  unfolding listing lines_left
  listed l h e =
      sets-eq (lines_left 0) l 10 (omega (arith, lines_length))
      ∙ ap (λ (x : List ℕ). x ++ lines_left 0 ++ drop (10 + length (lines_left 0)) l) e
      ∙ ap (λ (x : List ℕ). header 1 16 ++ lines_left 0 ++ x) (drop_of_length-le l {i = 10 + length (lines_left 0)} (omega (arith, lines_length)))
      ∙ append-nil (header 1 16 ++ lines_left 0)

pub headed : (l : List ℕ)
    → take 10 (paste l 0 (116 ∷ 114 ∷ 101 ∷ 101 ∷ 32 ∷ 49 ∷ 32 ∷ 49 ∷ 54 ∷ 10 ∷ []) 10) ≡ header 1 16
unfolding header decimal pick
headed l = take-paste l 0 (116 ∷ 114 ∷ 101 ∷ 101 ∷ 32 ∷ 49 ∷ 32 ∷ 49 ∷ 54 ∷ 10 ∷ []) 10 (omega arith) (omega arith)
