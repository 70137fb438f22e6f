-- The writer's parity symbols: every equation of their layer holds, and nothing else changes.
use mathlib.Core.Path.{◌≡◌, refl, sym, ap₂, ◌∙◌, subst}
use mathlib.Core.Logic.{◌⊎◌, inl, inr, ◌≢◌, ⊎_elim}
use mathlib.Core.List.{List, [], ◌∷◌}
use Prim.Native.Nat.{ℕ, zero, suc, ◌+◌, ◌*◌, ◌≤◌, ◌<◌}
use native.Mathlib.Nat.{add-zero, zero-add}
use native.Mathlib.Omega.{arith}
use lib.ListN.{length, get_or}
use Rattle.parity_table.specs.Table.{layer_of, equation_of}
use Rattle.model.specs.Shape.{Shape, places, place}
use Rattle.octets.specs.ByteLists.{xors}
use Rattle.model.specs.Symbols.{xor_of, zeros, others, sym_at, put_at}
use Rattle.model.specs.Writer.{parities}
use Rattle.model.proofs.Bytes.{sym_self}
use Rattle.model.proofs.Members.{Last, last-same, length_rest, xor_of-same}
use Rattle.model.proofs.Shapes.{place_lt, place-differs}
use Rattle.model.proofs.Tables.{TableFits}
use Rattle.model.proofs.Flat.{put_length, put_there, put_other, sym_at-length}

module _ (S : Shape) (d j : ℕ) (hj : j < d) where
  -- what the equation of parity symbol k + e has
  record Rule (e : ℕ) (ms : List ℕ) : Type 0 where
    pub fits : S.k j + e < S.n j
    pub last : Last (S.k j + e) ms

  -- u is t with the parity symbols from k + e on, for the equations es
  pub record Paritied (e : ℕ) (es : List (List ℕ)) (t u : List ℕ) : Type 0 where
    pub sized : length u ≡ 256 * places S d
    pub keeps : (l y : ℕ) → y < S.n l → (l ≢ j) ⊎ (y < S.k j + e) → sym_at S u l y ≡ sym_at S t l y
    pub holds : (q : ℕ) → q < length es → xor_of (sym_at S u j) (get_or es q []) ≡ zeros

  -- one parity symbol, v, stored in t
  module _ (e : ℕ) (ms t : List ℕ) (ht : length t ≡ 256 * places S d) (r : Rule e ms) where
    abbrev x : ℕ
    x = S.k j + e

    abbrev v : List ℕ
    v = xor_of (sym_at S t j) (others x ms)

    room : (y : ℕ) → y < S.n j → 256 * place S j y + 256 ≤ length t
    room y h = omega (arith, place_lt S d j y hj h)

    full : length v ≡ 256
    full = length_rest x ms r.last (sym_at S t j) (λ y h. sym_at-length S t j y (room y (omega (arith, r.fits))))

    stored-length : length (put_at S t j x v) ≡ 256 * places S d
    stored-length = put_length S t j x v (room x r.fits) full ∙ ht

    stored_keeps : (l y : ℕ) → y < S.n l → (l ≢ j) ⊎ (y ≢ x) → sym_at S (put_at S t j x v) l y ≡ sym_at S t l y
    stored_keeps l y h n = put_other S t j x v (room x r.fits) full l y (place-differs S l y j x h r.fits n)

    stored-holds : xor_of (sym_at S (put_at S t j x v) j) ms ≡ zeros
    stored-holds =
        r.last.apart (sym_at S (put_at S t j x v) j)
        ∙ ap₂ xors (put_there S t j x v (room x r.fits) full)
        (xor_of-same (sym_at S (put_at S t j x v) j) (sym_at S t j) x (λ y h. stored_keeps j y (omega (arith, r.fits)) (inr (λ q. omega arith))) (others x ms) r.last.below)
        ∙ sym_self v full

  paritied : (es : List (List ℕ)) (e : ℕ) (t : List ℕ) → length t ≡ 256 * places S d → ((q : ℕ) → q < length es → Rule (e + q) (get_or es q [])) → Paritied e es t (parities S j e es t)
  unfolding parities
  paritied [] e t ht r = record { sized = ht; keeps = λ l y hy n. refl; holds = λ q h. absurd (omega arith) }
  paritied (ms ∷ es) e t ht r =
      let ru : Rule e ms = subst (λ (n : ℕ). Rule n ms) (add-zero e) (r 0 (omega arith)) in
      let t₁ : List ℕ = put_at S t j (x e ms t ht ru) (v e ms t ht ru) in
      let rest = paritied es (suc e) t₁ (stored-length e ms t ht ru)
      (λ q h. subst (λ (n : ℕ). Rule n (get_or es q [])) (omega arith) (r (suc q) (omega arith))) in
      record {
        sized = rest.sized;
        keeps = λ l y hy n. rest.keeps l y hy (⊎_elim (λ u. inl u) (λ u. inr (omega arith)) n)
            ∙ stored_keeps e ms t ht ru l y hy (⊎_elim (λ u. inl u) (λ u. inr (λ q. omega arith)) n);
        holds = λ q h. each (sym_at S (parities S j (suc e) es t₁) j) q h
            (last-same (S.k j + e) ms ru.last (sym_at S (parities S j (suc e) es t₁) j) (sym_at S t₁ j)
            (λ y b. rest.keeps j y (omega (arith, ru.fits)) (inr (omega arith)))
            ∙ stored-holds e ms t ht ru)
            rest.holds;
      }
    where
      each : (g : ℕ → List ℕ) (q : ℕ) → q < length (ms ∷ es) → xor_of g ms ≡ zeros → ((p : ℕ) → p < length es → xor_of g (get_or es p []) ≡ zeros) → xor_of g (get_or (ms ∷ es) q []) ≡ zeros
      each g zero h a b = a
      each g (suc q) h a b = b q (omega arith)

-- all parity symbols of layer j
pub layer_paritied : (S : Shape) (tbl : List (List (List ℕ))) → TableFits S tbl → (j : ℕ) (hj : j < length tbl) (t : List ℕ) → length t ≡ 256 * places S (length tbl)
    → Paritied S (length tbl) j hj 0 (layer_of tbl j) t (parities S j 0 (layer_of tbl j) t)
unfolding equation_of
layer_paritied S tbl ok j hj t ht =
    paritied S (length tbl) j hj (layer_of tbl j) 0 t ht
    (λ q h. subst (λ (n : ℕ). Rule S (length tbl) j hj n (get_or (layer_of tbl j) q [])) (sym (zero-add q))
    (record { fits = omega (arith, ok.full j hj); last = ok.last j q hj h }))
