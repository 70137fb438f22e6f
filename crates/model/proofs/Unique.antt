-- A correctly coded tree is determined by the data symbols of its base.
use mathlib.Core.Path.{◌≡◌, sym, ap, ap₂, ◌∙◌, subst}
use mathlib.Core.List.{List}
use Prim.Native.Nat.{ℕ, zero, suc, ◌+◌, ◌-◌, ◌*◌, ◌/◌, ◌%◌, ◌<◌}
use native.Mathlib.Nat.{add-zero, zero-add, mod-eq_of_lt, mul-add-mod_self_right, mul-add-div_right, div-eq_of_lt, mul-le-mul_right}
use native.Mathlib.Omega.{arith}
use native.Mathlib.Decide.{dec_lt}
use lib.ListN.{length, take, drop}
use lib.Seq.{take_all}
use Rattle.parity_table.specs.Table.{layer_of, equation_of}
use Rattle.model.specs.Shape.{Shape, TreeOk}
use Rattle.model.specs.Symbols.{xor_of, others, slot}
use Rattle.model.specs.Coded.{Same, Coded}
use Rattle.model.proofs.Bytes.{sym_cancel}
use Rattle.model.proofs.Members.{xor_of-same, length_rest}
use Rattle.model.proofs.Tables.{TableFits}
use Rattle.model.proofs.Flat.{pieces_same}

-- eight equal hashes make equal symbols
slots_same : (a b : List ℕ) → length a ≡ 256 → length b ≡ 256 → ((c : ℕ) → c < 8 → slot a c ≡ slot b c) → a ≡ b
unfolding slot
slots_same a b ha hb h =
    sym (take_all 256 a (omega arith))
    ∙ pieces_same 32 0 a b 8 (λ c k. subst (λ (o : ℕ). take 32 (drop o a) ≡ take 32 (drop o b)) (sym (zero-add (32 * c))) (h c k))
    ∙ take_all 256 b (omega arith)

module _ (S : Shape) (sh : TreeOk S) (H : ℕ → ℕ → List ℕ → List ℕ) (tbl : List (List (List ℕ))) (ok : TableFits S tbl) where
  -- a parity symbol is the exclusive-or of the other members of its equation
  parity_is : (f : ℕ → ℕ → List ℕ) → Coded S H tbl f → (j e : ℕ) → j < length tbl → e < length (layer_of tbl j)
      → xor_of (f j) (others (S.k j + e) (equation_of tbl j e)) ≡ f j (S.k j + e)
  parity_is f c j e hj he =
      let z : ℕ = S.k j + e in
      let hz : z < S.n j = omega (arith, ok.full j hj) in
      let l = ok.last j e hj he in
      sym_cancel (f j z) (xor_of (f j) (others z (equation_of tbl j e))) (c.sized j z (hj, hz))
      (length_rest z (equation_of tbl j e) l (f j) (λ y k. c.sized j y (hj, omega arith)))
      (sym (l.apart (f j)) ∙ c.holds j e hj he)

  module _ (f g : ℕ → ℕ → List ℕ) (cf : Coded S H tbl f) (cg : Coded S H tbl g) where
    -- the data symbols of a layer determine its parity symbols
    layer-same : (j : ℕ) → j < length tbl → ((y : ℕ) → y < S.k j → f j y ≡ g j y) → (b i : ℕ) → i < b → i < S.n j → f j i ≡ g j i
    layer-same j hj dt zero i h k = absurd (omega arith)
    layer-same j hj dt (suc b) i h k =
        elim (dec_lt i (S.k j)) [
          | yes q ↦ dt i q
          | no q ↦
              let e : ℕ = i - S.k j in
              let at : S.k j + e ≡ i = omega arith in
              let he : e < length (layer_of tbl j) = omega (arith, ok.full j hj) in
              let z : ℕ = S.k j + e in
              let rest : xor_of (f j) (others z (equation_of tbl j e)) ≡ xor_of (g j) (others z (equation_of tbl j e)) =
              xor_of-same (f j) (g j) z (λ y w. layer-same j hj dt b y (omega arith) (omega arith)) (others z (equation_of tbl j e)) (ok.last j e hj he).below in
              ap (f j) (sym at) ∙ sym (parity_is f cf j e hj he) ∙ rest ∙ parity_is g cg j e hj he ∙ ap (g j) at
        ]

    -- a layer determines the data symbols of the one above
    data_same : (j : ℕ) → suc j < length tbl → ((i : ℕ) → i < S.n (suc j) → f (suc j) i ≡ g (suc j) i) → (y : ℕ) → y < S.k j → f j y ≡ g j y
    data_same j hj below y hy =
        let inside : (j < length tbl) × (y < S.n j) = (omega arith, omega (arith, sh.shape.within j)) in
        slots_same (f j y) (g j y) (cf.sized j y inside) (cg.sized j y inside)
        (λ c hc.
        let i : ℕ = c * S.k j + y in
        let hi : i < S.n (suc j) = omega (arith, mul-le-mul_right {m = c} {n = 7} (S.k j) (omega arith), sh.batch j) in
        let m : i % S.k j ≡ y = mul-add-mod_self_right c (S.k j) y ∙ mod-eq_of_lt hy in
        let q : i / S.k j ≡ c = mul-add-div_right (sh.shape.some j) c y ∙ ap (λ (n : ℕ). c + n) (div-eq_of_lt hy) ∙ add-zero c in
        let slot_of : (k : ℕ → ℕ → List ℕ) → slot (k j (i % S.k j)) (i / S.k j) ≡ slot (k j y) c = λ k. ap₂ (λ (a b : ℕ). slot (k j a) b) m q in
        sym (slot_of f) ∙ cf.stands j i (hj, hi) ∙ ap (H (suc j) i) (below i hi) ∙ sym (cg.stands j i (hj, hi)) ∙ slot_of g)

    -- with the same base data, layer l, which is m layers above the base, is the same
    up_same : ((y : ℕ) → y < S.k (length tbl - 1) → f (length tbl - 1) y ≡ g (length tbl - 1) y)
        → (m l : ℕ) → m + l ≡ length tbl - 1 → (i : ℕ) → i < S.n l → f l i ≡ g l i
    up_same dt zero l e i h =
        layer-same l (omega (arith, ok.deep)) (subst (λ (z : ℕ). (y : ℕ) → y < S.k z → f z y ≡ g z y) (omega arith) dt) (suc i) i (omega arith) h
    up_same dt (suc m) l e i h =
        let hl : suc l < length tbl = omega (arith, ok.deep) in
        layer-same l (omega arith) (data_same l hl (λ k hk. up_same dt m (suc l) (omega arith) k hk)) (suc i) i (omega arith) h

    -- two correctly coded trees with the same base data are the same
    pub coded-same : ((y : ℕ) → y < S.k (length tbl - 1) → f (length tbl - 1) y ≡ g (length tbl - 1) y) → Same S tbl f g
    coded-same dt l i h = up_same dt (length tbl - 1 - l) l (omega arith) i h.1
