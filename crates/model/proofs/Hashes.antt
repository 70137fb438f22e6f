-- The writer's hashes: each stands in the layer above, and no other layer changes.
use mathlib.Core.Path.{◌≡◌, refl, sym, ap, ap₂, ◌∙◌, subst}
use mathlib.Core.Logic.{inl, ◌≢◌}
use mathlib.Core.List.{List}
use Prim.Native.Nat.{ℕ, zero, suc, ◌+◌, ◌*◌, ◌/◌, ◌%◌, ◌≤◌, ◌<◌}
use native.Mathlib.Nat.{div-add-mod', div-lt_iff_lt-mul}
use native.Mathlib.Omega.{arith}
use native.Mathlib.Decide.{dec_lt}
use lib.ListN.{length, take, drop}
use lib.Seq.{length-paste, take_all, drop-drop}
use lib.Dec.{eqb}
use borrow.Author.Tests.{eqb-true, eqb-false}
use Rattle.octets.proofs.Choice.{by_test}
use Rattle.model.specs.Shape.{Shape, TreeOk, places, place}
use Rattle.model.specs.Symbols.{symbol_in, slot, sym_at}
use Rattle.model.specs.Coded.{Digests}
use Rattle.model.specs.Writer.{hash_place, put_hash, put_hashes}
use Rattle.model.proofs.Shapes.{place_lt, place-differs, up_lt}
use Rattle.model.proofs.Flat.{paste-left, paste-right, paste_there, take-drop-take}

module _ (S : Shape) (ok : TreeOk S) where
  pub column_lt : (j i : ℕ) → i < S.n (suc j) → i / S.k j < 8
  column_lt j i h = (div-lt_iff_lt-mul (ok.shape.some j)).1 (omega (arith, ok.batch j))

  -- the hash of symbol i of layer j + 1, as the symbol above it has it
  pub slot_flat : (t : List ℕ) (j i : ℕ) → i < S.n (suc j) → slot (sym_at S t j (i % S.k j)) (i / S.k j) ≡ take 32 (drop (hash_place S j i) t)
  unfolding slot sym_at symbol_in hash_place
  slot_flat t j i h =
      take-drop-take 32 (32 * (i / S.k j)) 256 (drop (256 * place S j (i % S.k j)) t) (omega (arith, column_lt j i h))
      ∙ ap (take 32) (drop-drop (32 * (i / S.k j)) (256 * place S j (i % S.k j)) t)

  -- the hashes of different symbols stand apart
  apart : (j i q : ℕ) → i < S.n (suc j) → q < S.n (suc j) → q ≢ i → 8 * place S j (q % S.k j) + q / S.k j ≢ 8 * place S j (i % S.k j) + i / S.k j
  unfolding place
  apart j i q hi hq n e =
      let c : q / S.k j ≡ i / S.k j = omega (arith, column_lt j i hi, column_lt j q hq) in
      let m : q % S.k j ≡ i % S.k j = omega (arith, column_lt j i hi, column_lt j q hq) in
      n (sym (div-add-mod' q (S.k j)) ∙ ap₂ (λ (a b : ℕ). a * S.k j + b) c m ∙ div-add-mod' i (S.k j))

  module _ (H : ℕ → ℕ → List ℕ → List ℕ) (digests : Digests H) (d j : ℕ) (hj : suc j < d) where
    module _ (t : List ℕ) (ht : length t ≡ 256 * places S d) (i : ℕ) (hi : i < S.n (suc j)) where
      abbrev h : List ℕ
      h = H (suc j) i (sym_at S t (suc j) i)

      full : 32 ≤ length h
      full = omega (arith, digests (suc j) i (sym_at S t (suc j) i))

      room : hash_place S j i + 32 ≤ length t
      unfolding hash_place
      room = omega (arith, column_lt j i hi, place_lt S d j (i % S.k j) (omega arith) (up_lt S ok.shape j i))

      put_length : length (put_hash S H j i t) ≡ 256 * places S d
      unfolding put_hash
      put_length = length-paste t (hash_place S j i) h 32 room full ∙ ht

      put_keeps : (l y : ℕ) → y < S.n l → l ≢ j → sym_at S (put_hash S H j i t) l y ≡ sym_at S t l y
      unfolding put_hash sym_at symbol_in hash_place
      put_keeps l y hy n =
          let ne = place-differs S l y j (i % S.k j) hy (up_lt S ok.shape j i) (inl n) in
          elim (dec_lt (place S l y) (place S j (i % S.k j))) [
            | yes k ↦ paste-left t h (hash_place S j i) 32 room full (256 * place S l y) 256 (omega arith)
            | no k ↦ ap (take 256) (paste-right t h (hash_place S j i) 32 room full (256 * place S l y) (omega (arith, column_lt j i hi, ne)))
          ]

      put_there : take 32 (drop (hash_place S j i) (put_hash S H j i t)) ≡ h
      unfolding put_hash
      put_there = paste_there t h (hash_place S j i) 32 room full ∙ take_all 32 h (omega (arith, digests (suc j) i (sym_at S t (suc j) i)))

      put_other : (q : ℕ) → q < S.n (suc j) → q ≢ i → take 32 (drop (hash_place S j q) (put_hash S H j i t)) ≡ take 32 (drop (hash_place S j q) t)
      unfolding put_hash hash_place
      put_other q hq n =
          let ne = apart j i q hi hq n in
          elim (dec_lt (8 * place S j (q % S.k j) + q / S.k j) (8 * place S j (i % S.k j) + i / S.k j)) [
            | yes k ↦ paste-left t h (hash_place S j i) 32 room full (hash_place S j q) 32 (omega arith)
            | no k ↦ ap (take 32) (paste-right t h (hash_place S j i) 32 room full (hash_place S j q) (omega (arith, ne)))
          ]

    -- u is t with the hashes of m symbols of layer j + 1, from number i on
    pub record Hashed (i m : ℕ) (t u : List ℕ) : Type 0 where
      pub sized : length u ≡ 256 * places S d
      pub keeps : (l y : ℕ) → y < S.n l → l ≢ j → sym_at S u l y ≡ sym_at S t l y
      pub before : (q : ℕ) → q < i → q < S.n (suc j) → take 32 (drop (hash_place S j q) u) ≡ take 32 (drop (hash_place S j q) t)
      pub written : (q : ℕ) → i ≤ q → q < i + m → q < S.n (suc j) → take 32 (drop (hash_place S j q) u) ≡ H (suc j) q (sym_at S t (suc j) q)

    pub hashed : (m i : ℕ) (t : List ℕ) → length t ≡ 256 * places S d → i + m ≤ S.n (suc j) → Hashed i m t (put_hashes S H j i m t)
    unfolding put_hashes
    hashed zero i t ht le = record { sized = ht; keeps = λ l y hy n. refl; before = λ q k hq. refl; written = λ q a b hq. absurd (omega arith) }
    hashed (suc m) i t ht le =
        let hi : i < S.n (suc j) = omega arith in
        let t₁ : List ℕ = put_hash S H j i t in
        let r = hashed m (suc i) t₁ (put_length t ht i hi) (omega arith) in
        let below : suc j ≢ j = λ q. omega arith in
        record {
          sized = r.sized;
          keeps = λ l y hy n. r.keeps l y hy n ∙ put_keeps t ht i hi l y hy n;
          before = λ q k hq. r.before q (omega arith) hq ∙ put_other t ht i hi q hq (λ e. omega arith);
          written = λ q a b hq. by_test (eqb q i)
              (λ u. subst (λ (z : ℕ). take 32 (drop (hash_place S j z) (put_hashes S H j (suc i) m t₁)) ≡ H (suc j) z (sym_at S t (suc j) z)) (sym (eqb-true q i u))
              (r.before i (omega arith) hi ∙ put_there t ht i hi))
              (λ u. r.written q (omega (arith, eqb-false q i u)) (omega arith) hq ∙ ap (H (suc j) q) (put_keeps t ht i hi (suc j) q hq below));
        }
