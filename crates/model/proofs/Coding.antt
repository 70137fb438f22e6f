-- The writer's layers, from the base upward: every equation holds and every hash stands in the layer above.
use mathlib.Core.Path.{◌≡◌, sym, ap, ◌∙◌, subst}
use mathlib.Core.Logic.{inl, inr}
use mathlib.Core.List.{List, []}
use Prim.Native.Nat.{ℕ, zero, suc, ◌+◌, ◌*◌, ◌/◌, ◌%◌, ◌≤◌, ◌<◌}
use native.Mathlib.Nat.{mod-lt}
use native.Mathlib.Omega.{arith}
use lib.ListN.{length, get_or}
use lib.Dec.{eqb}
use borrow.Author.Tests.{eqb-true, eqb-false}
use Rattle.parity_table.specs.Table.{layer_of, equation_of}
use Rattle.octets.proofs.Choice.{by_test}
use Rattle.model.specs.Shape.{Shape, TreeOk, places}
use Rattle.model.specs.Symbols.{xor_of, zeros, slot, sym_at}
use Rattle.model.specs.Coded.{Digests}
use Rattle.model.specs.Writer.{parities, put_hashes, code}
use Rattle.model.proofs.Members.{last-same}
use Rattle.model.proofs.Tables.{TableFits}
use Rattle.model.proofs.Parities.{layer_paritied}
use Rattle.model.proofs.Hashes.{slot_flat, hashed}

module _ (S : Shape) (sh : TreeOk S) (H : ℕ → ℕ → List ℕ → List ℕ) (digests : Digests H) (tbl : List (List (List ℕ))) (ok : TableFits S tbl) where
  abbrev D : ℕ
  D = length tbl

  -- u is t with layers j to 0 coded
  pub record CodedUp (j : ℕ) (t u : List ℕ) : Type 0 where
    pub sized : length u ≡ 256 * places S D
    pub keep_below : (l y : ℕ) → j < l → y < S.n l → sym_at S u l y ≡ sym_at S t l y
    pub keep_data : (y : ℕ) → y < S.k j → sym_at S u j y ≡ sym_at S t j y
    pub holds : (l e : ℕ) → l ≤ j → e < length (layer_of tbl l) → xor_of (sym_at S u l) (equation_of tbl l e) ≡ zeros
    pub stands : (l i : ℕ) → suc l ≤ j → i < S.n (suc l) → slot (sym_at S u l (i % S.k l)) (i / S.k l) ≡ H (suc l) i (sym_at S u (suc l) i)

  pub coded_up : (j : ℕ) (t : List ℕ) → j < D → length t ≡ 256 * places S D → CodedUp j t (code S H tbl (suc j) t)
  unfolding code equation_of
  coded_up zero t hj ht =
      let p = layer_paritied S tbl ok 0 hj t ht in
      record {
        sized = p.sized;
        keep_below = λ l y h hy. p.keeps l y hy (inl (λ q. omega arith));
        keep_data = λ y h. p.keeps 0 y (omega (arith, sh.shape.within 0)) (inr (omega arith));
        holds = λ l e h he.
            subst (λ (z : ℕ). e < length (layer_of tbl z) → xor_of (sym_at S (parities S 0 0 (layer_of tbl 0) t) z) (get_or (layer_of tbl z) e []) ≡ zeros) (omega arith) (p.holds e) he;
        stands = λ l i h. absurd (omega arith);
      }
  coded_up (suc j) t hj ht =
      let t₁ : List ℕ = parities S (suc j) 0 (layer_of tbl (suc j)) t in
      let t₂ : List ℕ = put_hashes S H j 0 (S.n (suc j)) t₁ in
      let u : List ℕ = code S H tbl (suc j) t₂ in
      let p = layer_paritied S tbl ok (suc j) hj t ht in
      let h = hashed S sh H digests D j hj (S.n (suc j)) 0 t₁ p.sized (omega arith) in
      let r = coded_up j t₂ (omega arith) h.sized in
      let same₁ : (l y : ℕ) → j < l → y < S.n l → sym_at S u l y ≡ sym_at S t₁ l y = λ l y k hy. r.keep_below l y k hy ∙ h.keeps l y hy (λ q. omega arith) in
      let new-holds : (e : ℕ) → e < length (layer_of tbl (suc j)) → xor_of (sym_at S u (suc j)) (get_or (layer_of tbl (suc j)) e []) ≡ zeros =
      λ e he. last-same (S.k (suc j) + e) (get_or (layer_of tbl (suc j)) e []) (ok.last (suc j) e hj he) (sym_at S u (suc j)) (sym_at S t₁ (suc j))
      (λ x b. same₁ (suc j) x (omega arith) (omega (arith, ok.full (suc j) hj)))
      ∙ p.holds e he in
      let new-stands : (i : ℕ) → i < S.n (suc j) → slot (sym_at S u j (i % S.k j)) (i / S.k j) ≡ H (suc j) i (sym_at S u (suc j) i) =
      λ i hi. ap (λ (s : List ℕ). slot s (i / S.k j)) (r.keep_data (i % S.k j) (mod-lt i (sh.shape.some j)))
      ∙ slot_flat S sh t₂ j i hi ∙ h.written i (omega arith) (omega arith) hi ∙ ap (H (suc j) i) (sym (same₁ (suc j) i (omega arith) hi)) in
      record {
        sized = r.sized;
        keep_below = λ l y k hy. same₁ l y (omega arith) hy ∙ p.keeps l y hy (inl (λ q. omega arith));
        keep_data = λ y k. let hy : y < S.n (suc j) = omega (arith, sh.shape.within (suc j)) in same₁ (suc j) y (omega arith) hy ∙ p.keeps (suc j) y hy (inr (omega arith));
        holds = λ l e k he. by_test (eqb l (suc j))
            (λ w. subst (λ (z : ℕ). e < length (layer_of tbl z) → xor_of (sym_at S u z) (get_or (layer_of tbl z) e []) ≡ zeros) (sym (eqb-true l (suc j) w)) (new-holds e) he)
            (λ w. r.holds l e (omega (arith, eqb-false l (suc j) w)) he);
        stands = λ l i k hi. by_test (eqb l j)
            (λ w. subst (λ (z : ℕ). i < S.n (suc z) → slot (sym_at S u z (i % S.k z)) (i / S.k z) ≡ H (suc z) i (sym_at S u (suc z) i)) (sym (eqb-true l j w)) (new-stands i) hi)
            (λ w. r.stands l i (omega (arith, eqb-false l j w)) hi);
      }
