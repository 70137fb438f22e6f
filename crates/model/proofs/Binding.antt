-- A root binds its tree: two trees that agree with it are the same, or show a collision.
use mathlib.Core.Path.{◌≡◌, refl, sym, ap, ◌∙◌, subst}
use mathlib.Core.Logic.{◌⊎◌, inl, inr, ⊎_elim}
use mathlib.Core.List.{List}
use Prim.Native.Nat.{ℕ, zero, suc, ◌+◌, ◌*◌, ◌/◌, ◌%◌, ◌<◌}
use native.Mathlib.Nat.{zero-add}
use native.Mathlib.Omega.{arith}
use native.Mathlib.Decide.{dec_lt}
use lib.ListN.{length, take, drop}
use lib.Seq.{take_all}
use Rattle.model.specs.Shape.{Shape, ShapeOk, places}
use Rattle.model.specs.Symbols.{slot, committed, sym_at}
use Rattle.model.specs.Coded.{Digests, InTree, Same, Collide, root_of, Agrees, Collision}
use Rattle.model.specs.Writer.{block_of, written_root, Written}
use Rattle.model.proofs.Bytes.{bytes_dec, joined_length, joined_piece}
use Rattle.model.proofs.Shapes.{up_lt}
use Rattle.model.proofs.Flat.{pieces_same, tree-same}

-- symbols of equal hash are the same, or collide
pub same_or_collide : (H : ℕ → ℕ → List ℕ → List ℕ) (j i : ℕ) (s u : List ℕ) → H j i s ≡ H j i u → (s ≡ u) ⊎ Collide H j i s u
same_or_collide H j i s u e = elim (bytes_dec s u) [ yes q ↦ inl q | no q ↦ inr (record { differ = q; equal = e }) ]

-- what holds below m at each number, unless X, holds at all of them, unless X
pub all_or : (P : ℕ → Type 0) (X : Type 0) (m : ℕ) → ((i : ℕ) → i < m → P i ⊎ X) → ((i : ℕ) → i < m → P i) ⊎ X
all_or P X zero h = inl (λ i k. absurd (omega arith))
all_or P X (suc m) h =
    ⊎_elim
    (λ before. ⊎_elim
    (λ p. inl (λ i k. elim (dec_lt i m) [ yes q ↦ before i q | no q ↦ let e : m ≡ i = omega arith in subst P e p ]))
    inr (h m (omega arith)))
    inr (all_or P X m (λ i k. h i (omega arith)))

-- ---- the root

module _ (S : Shape) (H : ℕ → ℕ → List ℕ → List ℕ) (digests : Digests H) where
  pub root_slot : (f : ℕ → ℕ → List ℕ) (i : ℕ) → i < S.n 0 → slot (root_of S H f) i ≡ H 0 i (f 0 i)
  unfolding slot root_of
  root_slot f i h =
      joined_piece (λ q. H 0 q (f 0 q)) 32 (S.n 0) 0 i h (λ p k. digests 0 (0 + p) (f 0 (0 + p))) ∙ ap (λ (q : ℕ). H 0 q (f 0 q)) (zero-add i)

  -- the root has 32 bytes for each symbol of layer 0
  pub root_length : (f : ℕ → ℕ → List ℕ) → length (root_of S H f) ≡ 32 * S.n 0
  unfolding root_of
  root_length f = joined_length (λ i. H 0 i (f 0 i)) 32 (S.n 0) 0 (λ q h. digests 0 (0 + q) (f 0 (0 + q)))

  -- and is determined by its hashes
  pub root_is : (root : List ℕ) → length root ≡ 32 * S.n 0 → (f : ℕ → ℕ → List ℕ) → ((i : ℕ) → i < S.n 0 → slot root i ≡ H 0 i (f 0 i)) → root ≡ root_of S H f
  unfolding slot
  root_is root hr f h =
      sym (take_all (32 * S.n 0) root (omega arith))
      ∙ pieces_same 32 0 root (root_of S H f) (S.n 0)
      (λ i k. subst (λ (o : ℕ). take 32 (drop o root) ≡ take 32 (drop o (root_of S H f))) (sym (zero-add (32 * i))) (h i k ∙ sym (root_slot f i k)))
      ∙ take_all (32 * S.n 0) (root_of S H f) (omega (arith, root_length f))

-- ---- binding

module _ (S : Shape) (sh : ShapeOk S) (H : ℕ → ℕ → List ℕ → List ℕ) (digests : Digests H) (tbl : List (List (List ℕ))) (root : List ℕ) where
  -- the hash of each symbol of a tree that agrees is the committed one
  pub hashes : (f : ℕ → ℕ → List ℕ) → Agrees S H tbl root f → (j i : ℕ) → InTree S tbl j i → H j i (f j i) ≡ committed S root f j i
  unfolding committed
  hashes f a zero i h = sym (ap (λ (r : List ℕ). slot r i) a.rooted ∙ root_slot S H digests f i h.1)
  hashes f a (suc j) i h = sym (a.coded.stands j i h)

  module _ (f g : ℕ → ℕ → List ℕ) (af : Agrees S H tbl root f) (ag : Agrees S H tbl root g) where
    -- where the committed hashes are the same
    compare : (j i : ℕ) → InTree S tbl j i → committed S root f j i ≡ committed S root g j i → (f j i ≡ g j i) ⊎ Collision S H tbl f g
    compare j i h e =
        ⊎_elim inl (λ c. inr (record { layer = j; number = i; inside = h; collide = c }))
        (same_or_collide H j i (f j i) (g j i) (hashes f af j i h ∙ e ∙ sym (hashes g ag j i h)))

    at : (j i : ℕ) → InTree S tbl j i → (f j i ≡ g j i) ⊎ Collision S H tbl f g
    unfolding committed
    at zero i h = compare zero i h refl
    at (suc j) i h =
        ⊎_elim (λ up. compare (suc j) i h (ap (λ (s : List ℕ). slot s (i / S.k j)) up)) inr
        (at j (i % S.k j) (omega (arith, h.0), up_lt S sh j i))

    -- two trees that agree with one root and table are the same, or show a collision
    pub binding : Same S tbl f g ⊎ Collision S H tbl f g
    binding =
        ⊎_elim (λ all. inl (λ j i h. all j h.0 i h.1)) inr
        (all_or (λ j. (i : ℕ) → i < S.n j → f j i ≡ g j i) (Collision S H tbl f g) (length tbl)
        (λ j hj. all_or (λ i. f j i ≡ g j i) (Collision S H tbl f g) (S.n j) (λ i hi. at j i (hj, hi))))

  -- .. as buffers
  pub trees_same : (t u : List ℕ) → length t ≡ 256 * places S (length tbl) → length u ≡ 256 * places S (length tbl)
      → Agrees S H tbl root (sym_at S t) → Agrees S H tbl root (sym_at S u) → (t ≡ u) ⊎ Collision S H tbl (sym_at S t) (sym_at S u)
  trees_same t u ht hu at au =
      ⊎_elim (λ all. inl (tree-same S (length tbl) t u ht hu (λ j i h k. all j i (h, k)))) inr (binding (sym_at S t) (sym_at S u) at au)

-- A tree that agrees with the root that was written for a block, as one that was repaired whole does, gives back that block, or shows a collision with
-- the tree that was written.
pub original_block : (S : Shape) → ShapeOk S → (H : ℕ → ℕ → List ℕ → List ℕ) → Digests H → (tbl : List (List (List ℕ))) (block t : List ℕ) → Written S H tbl block t
    → (u : List ℕ) → length u ≡ 256 * places S (length tbl) → Agrees S H tbl (written_root S H t) (sym_at S u)
    → (block_of S (length tbl) u ≡ block) ⊎ Collision S H tbl (sym_at S u) (sym_at S t)
original_block S sh H digests tbl block t w u hu a =
    ⊎_elim (λ e. inl (ap (block_of S (length tbl)) e ∙ w.block_back)) inr
    (trees_same S sh H digests tbl (written_root S H t) u t hu w.sized a w.agrees)
