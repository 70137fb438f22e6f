-- A block that is shorter than the base's data symbols: filled up with zeros, written, and read back; what is not filled so.
use mathlib.Core.Path.{◌≡◌, refl, sym, ap, ap₂, ◌∙◌}
use mathlib.Core.Logic.{◌↔◌, ◌≢◌}
use mathlib.Core.Bool.{Bool, true, false}
use mathlib.Core.List.{List, [], ◌∷◌, ◌++◌, append-nil}
use Prim.Native.Nat.{ℕ, zero, suc, ◌+◌, ◌-◌, ◌*◌, ◌≤◌, ◌<◌}
use native.Mathlib.Omega.{arith}
use native.Mathlib.Nat.{add-sub_of_le}
use lib.ListN.{length, get_or, take, drop, replicate, length-append, length-take, length-drop, length-replicate, take-append-drop, drop_of_length-le}
use lib.Seq.{take-append_seam, drop-append_seam, get_or-drop, length-take-le}
use lib.Dec.{eqb}
use borrow.Author.Tests.{eq-eqb, eqb-true, eqb-false}
use Rattle.octets.proofs.Choice.{by_test, and_yes, yes_and, both}
use Rattle.parity_table.specs.Members.{every}
use Rattle.model.specs.Shape.{Shape, TreeOk, places, place}
use Rattle.model.specs.Writer.{block_of, filled, zero_filled, Written}
use Rattle.model.proofs.Shapes.{place_lt}

-- ---- lists of zeros

abbrev is_zero : ℕ → Bool
is_zero x = eqb x 0

zeros_pass : (n : ℕ) → every is_zero (replicate n 0) ≡ true
unfolding every
zeros_pass zero = refl
zeros_pass (suc n) = yes_and (eq-eqb 0 0 refl) (zeros_pass n)

zeros_yes : (l : List ℕ) → ((i : ℕ) → i < length l → get_or l i 0 ≡ 0) → every is_zero l ≡ true
unfolding every
zeros_yes [] h = refl
zeros_yes (x ∷ l) h = yes_and (eq-eqb x 0 (h 0 (omega arith))) (zeros_yes l (λ i k. h (suc i) (omega arith)))

zeros-all : (l : List ℕ) → every is_zero l ≡ true → l ≡ replicate (length l) 0
unfolding every
zeros-all [] a = refl
zeros-all (x ∷ l) a = let (u, v) = and_yes (eqb x 0) (every is_zero l) a in ap₂ (λ (y : ℕ) (m : List ℕ). y ∷ m) (eqb-true x 0 u) (zeros-all l v)

zeros_at : (l : List ℕ) → every is_zero l ≡ true → (i : ℕ) → get_or l i 0 ≡ 0
unfolding every
zeros_at [] a i = refl
zeros_at (x ∷ l) a zero = eqb-true x 0 (and_yes (eqb x 0) (every is_zero l) a).0
zeros_at (x ∷ l) a (suc i) = zeros_at l (and_yes (eqb x 0) (every is_zero l) a).1 i

zeros_no : (l : List ℕ) → every is_zero l ≡ false → (i : ℕ) × (i < length l) × (get_or l i 0 ≢ 0)
unfolding every
zeros_no [] a = both refl a
zeros_no (x ∷ l) a =
    by_test (eqb x 0)
    (λ e. by_test (every is_zero l) (λ f. both (yes_and e f) a) (λ f. let r = zeros_no l f in (suc r.0, omega (arith, r.1), r.2)))
    (λ e. (0, omega arith, eqb-false x 0 e))

-- ---- the block that is filled up

module _ (S : Shape) (d : ℕ) where
  abbrev size : ℕ
  size = 256 * S.k (d - 1)

  pub length-filled : (block : List ℕ) → length block ≤ 256 * S.k (d - 1) → length (filled S d block) ≡ 256 * S.k (d - 1)
  unfolding filled
  length-filled block h = omega (arith, length-append block (replicate (size - length block) 0), length-replicate {A = ℕ} (size - length block) 0)

  pub filled-whole : (block : List ℕ) → length block ≡ 256 * S.k (d - 1) → filled S d block ≡ block
  unfolding filled
  filled-whole block h = let z : size - length block ≡ 0 = omega arith in ap (λ (n : ℕ). block ++ replicate n 0) z ∙ append-nil block

  pub filled-front : (block : List ℕ) → take (length block) (filled S d block) ≡ block
  unfolding filled
  filled-front block = take-append_seam block (replicate (size - length block) 0)

  -- what holds of a tree that gives back a block that was filled up
  pub back-filled : (block t : List ℕ) → block_of S d t ≡ filled S d block
      → (zero_filled S d (length block) t ≡ true) × (take (length block) (block_of S d t) ≡ block)
  unfolding filled zero_filled
  back-filled block t e = (
    ap (λ (l : List ℕ). every is_zero (drop (length block) l)) e
        ∙ ap (every is_zero) (drop-append_seam block (replicate (size - length block) 0))
        ∙ zeros_pass (size - length block),
    ap (take (length block)) e ∙ filled-front block,
  )

  -- ---- what the test of the filling says

  block_at_most : (t : List ℕ) → length (block_of S d t) ≤ size
  unfolding block_of
  block_at_most t = omega (arith, length-take size (drop (256 * place S (d - 1) 0) t))

  pub zero_is : (n : ℕ) (t : List ℕ) → (zero_filled S d n t ≡ true) ↔ ((i : ℕ) → n ≤ i → i < 256 * S.k (d - 1) → get_or (block_of S d t) i 0 ≡ 0)
  unfolding zero_filled
  zero_is n t =
      let b : List ℕ = block_of S d t in
      let there : (i : ℕ) → n ≤ i → get_or b i 0 ≡ get_or (drop n b) (i - n) 0 =
      λ i h. ap (λ (j : ℕ). get_or b j 0) (sym (add-sub_of_le h)) ∙ sym (get_or-drop n b (i - n) 0) in
      (λ a i h k. there i h ∙ zeros_at (drop n b) a (i - n), λ z. zeros_yes (drop n b) (λ i h. get_or-drop n b i 0 ∙ z (n + i) (omega arith) (omega (arith, length-drop n b, block_at_most t))))

  -- where the test fails there is a byte of the filling that is not zero
  pub not_zero : (n : ℕ) (t : List ℕ) → zero_filled S d n t ≡ false → (i : ℕ) × (n ≤ i) × (i < 256 * S.k (d - 1)) × (get_or (block_of S d t) i 0 ≢ 0)
  unfolding zero_filled
  not_zero n t a =
      let r = zeros_no (drop n (block_of S d t)) a in
      (n + r.0, omega arith, omega (arith, r.1, length-drop n (block_of S d t), block_at_most t), λ e. r.2 (get_or-drop n (block_of S d t) r.0 0 ∙ e))

  -- a full block has no filling
  pub full-filled : (t : List ℕ) → zero_filled S d (256 * S.k (d - 1)) t ≡ true
  unfolding zero_filled every
  full-filled t = ap (every is_zero) (drop_of_length-le (block_of S d t) {i = size} (block_at_most t))

  module _ (sh : TreeOk S) (t : List ℕ) (deep : 1 ≤ d) (ht : length t ≡ 256 * places S d) where
    pub length-block : length (block_of S d t) ≡ 256 * S.k (d - 1)
    unfolding block_of place
    length-block =
        length-take-le size (drop (256 * (places S (d - 1) + 0)) t)
        (omega (arith, length-drop (256 * (places S (d - 1) + 0)) t, place_lt S d (d - 1) (S.k (d - 1) - 1) (omega arith) (omega (arith, sh.shape.within (d - 1), sh.shape.some (d - 1))), sh.shape.some (d - 1)))

    -- the tree's block is that of its first n bytes, filled up
    pub zero_filled_lem : (n : ℕ) → n ≤ 256 * S.k (d - 1) → zero_filled S d n t ≡ true → filled S d (take n (block_of S d t)) ≡ block_of S d t
    unfolding filled zero_filled
    zero_filled_lem n h a =
        let b : List ℕ = block_of S d t in
        let e : size - length (take n b) ≡ length (drop n b) = omega (arith, length-take n b, length-drop n b, length-block) in
        ap (λ (m : ℕ). take n b ++ replicate m 0) e ∙ ap (λ (l : List ℕ). take n b ++ l) (sym (zeros-all (drop n b) a)) ∙ take-append-drop n b

-- the written tree of a block that was filled up: the filling is zero, and its front is the block
pub written-filled : (S : Shape) (H : ℕ → ℕ → List ℕ → List ℕ) (tbl : List (List (List ℕ))) (block t : List ℕ) → Written S H tbl (filled S (length tbl) block) t
    → (zero_filled S (length tbl) (length block) t ≡ true) × (take (length block) (block_of S (length tbl) t) ≡ block)
written-filled S H tbl block t w = back-filled S (length tbl) block t w.block_back
