-- The answer on a table's coverage is right, and no other is.
use mathlib.Core.Path.{◌≡◌, refl, sym, ap, ap₂, subst}
use mathlib.Core.Logic.{◌≢◌}
use mathlib.Core.Bool.{true, false}
use mathlib.Core.List.{List}
use Prim.Native.Nat.{ℕ, ◌*◌, ◌≤◌, ◌<◌}
use native.Mathlib.Omega.{arith}
use native.Mathlib.Decide.{dec_lt}
use lib.ListN.{length}
use lib.Dec.{ltb}
use borrow.Author.Tests.{ltb-true, ltb-false}
use Rattle.octets.proofs.Choice.{pick_ind}
use Rattle.parity_table.specs.Shape.{k_of}
use Rattle.parity_table.specs.Table.{layer_of, equation_of, TableOk}
use Rattle.parity_table.specs.Coverage.{Mentions, InTwo, Covered, FirstUncovered}
use Rattle.model.specs.Symbols.{lowest}
use Rattle.model.proofs.Counts.{lowest-is}
use Rattle.std.specs.Prelude.{Ok, Err}
use Rattle.coverage.specs.declared.Uncovered.{Uncovered}
use Rattle.coverage.specs.Coverage as found
use Rattle.coverage.specs.Coverage.{Coverage, UncoveredAt, times, lowest_thin, has_thin, first_thin, coverage_of, Right}
use Rattle.coverage.proofs.Times.{twice, two-equations, lowest-low}

module _ (d : ℕ) (tbl : List (List (List ℕ))) (o : TableOk d tbl) where
  -- ---- a data symbol

  module _ (j i : ℕ) (hj : j < d) where
    two_there : 2 ≤ times i (layer_of tbl j) → InTwo tbl j i
    unfolding equation_of
    two_there h =
        let full : length (layer_of tbl j) ≡ 3 * k_of j = o.equations j hj in
        let (e, f, l, (p, m), (q, n)) =
        two-equations i (layer_of tbl j) (λ e k. (o.members j e hj (omega arith)).ascend) h in
        record { one = e; other = f; different = λ s. omega arith; one_there = omega arith; other_there = omega arith; in_one = m; in_other = n }

    there_two : InTwo tbl j i → 2 ≤ times i (layer_of tbl j)
    unfolding equation_of
    there_two t =
        let full : length (layer_of tbl j) ≡ 3 * k_of j = o.equations j hj in
        twice i (layer_of tbl j) t.one t.other t.different (omega (arith, t.one_there), t.in_one) (omega (arith, t.other_there), t.in_other)

    -- it is in at most one equation just where it isn't in two
    one_at_most : times i (layer_of tbl j) < 2 → (e f : ℕ) → e < 3 * k_of j → f < 3 * k_of j → Mentions tbl j e i → Mentions tbl j f i → e ≡ f
    one_at_most h e f p q m n =
        let two : e ≢ f → ⊥ = λ x.
        absurd (omega (arith, there_two (record { one = e; other = f; different = x; one_there = p; other_there = q; in_one = m; in_other = n }))) in
        elim (dec_lt e f) [
          | yes l ↦ absurd (two (λ s. omega arith))
          | no l ↦ elim (dec_lt f e) [ yes k ↦ absurd (two (λ s. omega arith)) | no k ↦ omega arith ]
        ]

  -- ---- a layer, and the table

  module _ (j : ℕ) (hj : j < d) where
    lower-two : (x : ℕ) → x < lowest_thin tbl j → InTwo tbl j x
    unfolding lowest_thin
    lower-two x h = two_there j x hj (ltb-false (times x (layer_of tbl j)) 2 ((lowest-is (λ i. ltb (times i (layer_of tbl j)) 2) 0 (k_of j)).before x (omega arith) h))

    layer_covered : has_thin tbl j ≡ false → (i : ℕ) → i < k_of j → InTwo tbl j i
    unfolding has_thin
    layer_covered t i h = lower-two i (omega (arith, ltb-false (lowest_thin tbl j) (k_of j) t))

    thin_there : has_thin tbl j ≡ true → (lowest_thin tbl j < k_of j) × (times (lowest_thin tbl j) (layer_of tbl j) < 2)
    unfolding has_thin lowest_thin
    thin_there t =
        let l = ltb-true (lowest (λ i. ltb (times i (layer_of tbl j)) 2) 0 (k_of j)) (k_of j) t in
        let low = lowest-is (λ i. ltb (times i (layer_of tbl j)) 2) 0 (k_of j) in
        (l, ltb-true (times (lowest (λ i. ltb (times i (layer_of tbl j)) 2) 0 (k_of j)) (layer_of tbl j)) 2 (low.found (omega arith)))

  before_covered : (n : ℕ) → n ≤ first_thin d tbl → Covered n tbl
  unfolding first_thin
  before_covered n h j i hj hi =
      let low = lowest-is (has_thin tbl) 0 d in
      layer_covered j (omega (arith, low.upto)) (low.before j (omega arith) (omega arith)) i hi

  first_has : first_thin d tbl < d → has_thin tbl (first_thin d tbl) ≡ true
  unfolding first_thin
  first_has h = (lowest-is (has_thin tbl) 0 d).found (omega arith)

  pub coverage_right : Right d tbl (coverage_of d tbl)
  unfolding coverage_of
  coverage_right =
      pick_ind (Right d tbl) (ltb (first_thin d tbl) d)
      (λ t.
      let h : first_thin d tbl < d = ltb-true (first_thin d tbl) d t in
      let (l, u) = thin_there (first_thin d tbl) h (first_has h) in
      record {
        layer = h;
        symbol = l;
        before = before_covered (first_thin d tbl) (omega arith);
        lower = lower-two (first_thin d tbl) h;
        at_most_one = one_at_most (first_thin d tbl) (lowest_thin tbl (first_thin d tbl)) h u;
      })
      (λ t. before_covered d (ltb-false (first_thin d tbl) d t))

-- ---- the right answer is one

module _ (d : ℕ) (tbl : List (List (List ℕ))) where
  in_two_not : (j i : ℕ) → FirstUncovered d tbl j i → InTwo tbl j i → ⊥
  in_two_not j i f t = t.different (f.at_most_one t.one t.other t.one_there t.other_there t.in_one t.in_other)

  pub not_covered : (j i : ℕ) → FirstUncovered d tbl j i → Covered d tbl → ⊥
  not_covered j i f c = in_two_not j i f (c j i f.layer f.symbol)

  no_earlier : (j i l x : ℕ) → FirstUncovered d tbl j i → FirstUncovered d tbl l x → l < j → ⊥
  no_earlier j i l x f g h = in_two_not l x g (f.before l x h g.symbol)

  no_lower : (j i x : ℕ) → FirstUncovered d tbl j i → FirstUncovered d tbl j x → x < i → ⊥
  no_lower j i x f g h = in_two_not j x g (f.lower x h)

  pub first_unique : (j i l x : ℕ) → FirstUncovered d tbl j i → FirstUncovered d tbl l x → (j ≡ l) × (i ≡ x)
  first_unique j i l x f g =
      let e : j ≡ l = elim (dec_lt l j) [
        | yes h ↦ absurd (no_earlier j i l x f g h)
        | no h ↦ elim (dec_lt j l) [ yes k ↦ absurd (no_earlier l x j i g f k) | no k ↦ omega arith ]
      ] in
      let g' : FirstUncovered d tbl j x = subst (λ (n : ℕ). FirstUncovered d tbl n x) (sym e) g in (
        e,
        elim (dec_lt x i) [
          | yes h ↦ absurd (no_lower j i x f g' h)
          | no h ↦ elim (dec_lt i x) [ yes k ↦ absurd (no_lower j x i g' f k) | no k ↦ omega arith ]
        ],
      )

  pub right_unique : (a b : Coverage) → Right d tbl a → Right d tbl b → a ≡ b
  right_unique (Ok _) (Ok _) p q = refl
  right_unique (Ok _) (Err u) p q = absurd (not_covered u.layer u.symbol q p)
  right_unique (Err u) (Ok _) p q = absurd (not_covered u.layer u.symbol p q)
  right_unique (Err u) (Err v) p q = let (e, f) = first_unique u.layer u.symbol v.layer v.symbol p q in ap₂ UncoveredAt e f

-- ---- what is found is a layer of the table and a data symbol of it

pub found-low : (d : ℕ) (tbl : List (List (List ℕ))) (j i : ℕ) → coverage_of d tbl ≡ UncoveredAt j i → (j < d) × (i ≤ k_of j)
unfolding coverage_of
found-low d tbl j i =
    pick_ind (λ (c : Coverage). c ≡ UncoveredAt j i → (j < d) × (i ≤ k_of j)) (ltb (first_thin d tbl) d)
    (λ t e.
    let s : ◌≡◌ {A = Uncovered} (record { layer = first_thin d tbl; symbol = lowest_thin tbl (first_thin d tbl) }) (record { layer = j; symbol = i }) = cc in
    let p : first_thin d tbl ≡ j = ap (λ (u : Uncovered). u.layer) s in
    let q : lowest_thin tbl (first_thin d tbl) ≡ i = ap (λ (u : Uncovered). u.symbol) s in
    (omega (arith, ltb-true (first_thin d tbl) d t), omega (arith, lowest-low tbl (first_thin d tbl), ap k_of p)))
    (λ t e. let z : ◌≡◌ {A = ℕ} 0 1 = cc in absurd (omega arith))

-- ---- so a table that keeps the rules is found covered just when it is

module _ (d : ℕ) (tbl : List (List (List ℕ))) (o : TableOk d tbl) where
  pub covered_found : Covered d tbl → coverage_of d tbl ≡ found.Covered
  covered_found c = right_unique d tbl (coverage_of d tbl) found.Covered (coverage_right d tbl o) c

  pub found_covered : coverage_of d tbl ≡ found.Covered → Covered d tbl
  found_covered e = subst (Right d tbl) e (coverage_right d tbl o)
