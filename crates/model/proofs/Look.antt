-- The look at a tree comes to what a repair's outcome says of it.
use mathlib.Core.Path.{◌≡◌, refl, ap, ap₂, ◌∙◌}
use mathlib.Core.Bool.{Bool, true, false, not, ◌||◌, false≢true}
use mathlib.Core.List.{List}
use Prim.Native.Nat.{ℕ, zero, suc, ◌<◌}
use native.Mathlib.Omega.{arith}
use lib.ListN.{length}
use lib.Dec.{eqb}
use borrow.Author.Tests.{eqb-true, eqb-false, eq-eqb}
use Rattle.octets.specs.ByteLists.{same}
use Rattle.octets.proofs.Choice.{by_test, and_yes, yes_and, both, not_yes}
use Rattle.octets.proofs.SameLaws.{same_yes, yes_same}
use Rattle.parity_table.specs.Table.{layer_of, equation_of}
use Rattle.model.specs.Shape.{Shape, ShapeOk}
use Rattle.model.specs.Symbols.{xor_of, zeros, committed, sym_at}
use Rattle.model.specs.Repair.{End, working, whole, fault, unavailable, twins, St, absent_at, repair}
use Rattle.model.specs.Ends.{Sized, Roomy, gap_at, Complete, Intact, Unchanged}
use Rattle.model.specs.Look.{is_whole, whole_as_lent, all, no_gaps, all_hold, is_complete, intact}
use Rattle.model.proofs.Tables.{TableLaws}
use Rattle.model.proofs.Sweeping.{no_gap_is}
use Rattle.model.proofs.Intact.{intact_unchanged, whole-intact}

-- tests that pass alike are the same
pub alike_tests : (a b : Bool) → (a ≡ true → b ≡ true) → (b ≡ true → a ≡ true) → a ≡ b
alike_tests a true f g = g refl
alike_tests a false f g = by_test a (λ t. absurd (false≢true (f t))) (λ t. t)

-- ---- every number below n passes

pub all_at : (p : ℕ → Bool) (n : ℕ) → all p n ≡ true → (i : ℕ) → i < n → p i ≡ true
unfolding all
all_at p zero a i h = absurd (omega arith)
all_at p (suc n) a i h =
    let (u, v) = and_yes (p n) (all p n) a in
    by_test (eqb i n) (λ t. ap p (eqb-true i n t) ∙ u) (λ t. all_at p n v i (omega (arith, eqb-false i n t)))

pub all_by : (p : ℕ → Bool) (n : ℕ) → ((i : ℕ) → i < n → p i ≡ true) → all p n ≡ true
unfolding all
all_by p zero h = refl
all_by p (suc n) h = yes_and (h n (omega arith)) (all_by p n (λ i k. h i (omega arith)))

pub not_all : (p : ℕ → Bool) (n i : ℕ) → i < n → p i ≡ false → all p n ≡ false
not_all p n i h f = by_test (all p n) (λ a. both (all_at p n a i h) f) (λ a. a)

whole_is : (z : End) → is_whole z ≡ true → z ≡ whole
whole_is working t = absurd (false≢true t)
whole_is whole t = refl
whole_is (fault j e x n) t = absurd (false≢true t)
whole_is (unavailable j) t = absurd (false≢true t)
whole_is (twins j x) t = absurd (false≢true t)

module _ (S : Shape) (H : ℕ → ℕ → List ℕ → List ℕ) (root : List ℕ) (tbl : List (List (List ℕ))) (t m : List ℕ) where
  -- ---- a layer that passes is complete

  abbrev hashed : ℕ → ℕ → Bool
  hashed l i = same (H l i (sym_at S t l i)) (committed S root (sym_at S t) l i)

  abbrev holds : ℕ → ℕ → Bool
  holds l e = same (xor_of (sym_at S t l) (equation_of tbl l e)) zeros

  stands : (l i : ℕ) → not (gap_at S H root t m t l i) ≡ true → (absent_at S m l i ≡ false) × (hashed l i ≡ true)
  unfolding gap_at
  stands l i g = let (a, b) = and_yes (not (absent_at S m l i)) (hashed l i) (no_gap_is (absent_at S m l i) (hashed l i) ∙ g) in (not_yes (absent_at S m l i) a, b)

  complete_of : (l : ℕ) → is_complete S H root tbl t m l ≡ true → Complete S H root tbl t m l
  unfolding is_complete no_gaps all_hold
  complete_of l c =
      let (g, h) = and_yes (no_gaps S H root t m l) (all_hold S tbl t l) c in
      record {
        full = λ i k. (stands l i (all_at _ (S.n l) g i k)).0;
        hashed = λ i k. same_yes _ _ (stands l i (all_at _ (S.n l) g i k)).1;
        holds = λ e k. same_yes _ _ (all_at (holds l) (length (layer_of tbl l)) h e k);
      }

  of_complete : (l : ℕ) → Complete S H root tbl t m l → is_complete S H root tbl t m l ≡ true
  unfolding is_complete no_gaps all_hold gap_at
  of_complete l c =
      yes_and (all_by _ (S.n l) (λ i k. ap₂ (λ (a b : Bool). not (a || not b)) (c.full i k) (yes_same (c.hashed i k))))
      (all_by (holds l) (length (layer_of tbl l)) (λ e k. yes_same (c.holds e k)))

  intact_of : intact S H root tbl t m ≡ true → Intact S H root tbl t m
  unfolding intact
  intact_of a l h = complete_of l (all_at (is_complete S H root tbl t m) (length tbl) a l h)

  of_intact : Intact S H root tbl t m → intact S H root tbl t m ≡ true
  unfolding intact
  of_intact c = all_by (is_complete S H root tbl t m) (length tbl) (λ l h. of_complete l (c l h))

-- the look, and a repair with a roomy output buffer
module _ (S : Shape) (sh : ShapeOk S) (H : ℕ → ℕ → List ℕ → List ℕ) (root : List ℕ) (tbl : List (List (List ℕ))) (ok : TableLaws S tbl) (t m : List ℕ) (sz : Sized S tbl t m)
    (o : List ℕ) (ho : Roomy tbl o) where
  abbrev st : St
  st = repair S H root tbl t m o

  pub look_kept : intact S H root tbl t m ≡ true → Unchanged t m (repair S H root tbl t m o)
  look_kept a = intact_unchanged S sh H root tbl ok t m sz o ho (intact_of S H root tbl t m a)

  pub look : intact S H root tbl t m ≡ whole_as_lent (repair S H root tbl t m o)
  look =
      alike_tests _ _ (λ a. yes_and (ap is_whole (look_kept a).ends-whole) (eq-eqb st.stored 0 (look_kept a).none-stored))
      (λ w. let (e, n) = and_yes (is_whole st.end) (eqb st.stored 0) w in
      of_intact S H root tbl t m (whole-intact S sh H root tbl ok t m sz o ho (whole_is st.end e) (eqb-true st.stored 0 n)))
