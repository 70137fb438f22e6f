-- (c): a layer in which no equation can be taken, with gaps left or with none.
use mathlib.Core.Path.{◌≡◌, sym, ◌∙◌, subst}
use mathlib.Core.Logic.{⊎_elim}
use mathlib.Core.Bool.{true, false}
use mathlib.Core.List.{List}
use Prim.Native.Nat.{ℕ, suc, ◌<◌}
use native.Mathlib.Omega.{arith}
use lib.ListN.{length}
use lib.Dec.{ltb, eqb}
use borrow.Author.Tests.{ltb-true, eqb-true, eqb-false}
use Rattle.parity_table.specs.Table.{equation_of}
use Rattle.octets.proofs.Choice.{by_test, both}
use Rattle.model.specs.Shape.{Shape, ShapeOk}
use Rattle.model.specs.Repair.{End, whole, unavailable, St, end_as, absent_at}
use Rattle.model.specs.Ends.{Within, Roomy, Stopping, Largest, Closed, gap_at, Complete, Drained, Always}
use Rattle.model.specs.Alike.{kind_of}
use Rattle.model.specs.Finals.{Grown, LastLayer, Final}
use Rattle.model.proofs.Counts.{every-none}
use Rattle.model.proofs.Tables.{TableLaws}
use Rattle.model.proofs.Frame.{drained_if}
use Rattle.model.proofs.Peel.{NoTake}
use Rattle.model.proofs.Storing.{Mid, grown_mid}
use Rattle.model.proofs.Peeling.{Stop, always_at, passed-lower}
use Rattle.model.proofs.Confluence.{complete-grown}

-- In a layer that has grown from what was lent, where only gaps are absent and no equation can be taken, what is absent is the largest stopping set
-- within the gaps.
pub closed_largest : (S : Shape) (H : ℕ → ℕ → List ℕ → List ℕ) (root : List ℕ) (tbl : List (List (List ℕ))) (t₀ m₀ t m : List ℕ) (j : ℕ)
    → Grown S H root tbl t₀ m₀ t m j → Closed S tbl t j (absent_at S m j) → Within (S.n j) (absent_at S m j) (gap_at S H root t₀ m₀ t j)
    → Largest S tbl j (gap_at S H root t₀ m₀ t j) (absent_at S m j)
unfolding Stopping
closed_largest S H root tbl t₀ m₀ t m j grown closed inside =
    record {
      inside = inside;
      stopping = λ e h c. ⊎_elim (λ z. omega (arith, z.0)) (λ two. omega arith) (closed e h);
      contains = λ u w n. grown u w (λ e h _ _. n e h);
    }

module _ (S : Shape) (sh : ShapeOk S) (H : ℕ → ℕ → List ℕ → List ℕ) (root : List ℕ) (tbl : List (List (List ℕ))) (ok : TableLaws S tbl) (t₀ m₀ o₀ : List ℕ) (ho : Roomy tbl o₀) where
  -- before layer d, with every layer above it complete
  pub record Between (d : ℕ) (st : St) : Type 0 where
    pub last : st.entered ≡ d
    pub always : Always S H root tbl t₀ m₀ st.tree st.marks st.stored d
    pub complete : (l : ℕ) → l < d → Complete S H root tbl st.tree st.marks l
    pub drained : (l : ℕ) → l < d → Drained S H root tbl t₀ m₀ st.tree l
    pub out-kept : st.out ≡ o₀

  module _ (j : ℕ) (hj : j < length tbl) (m₁ : List ℕ) (st : St) (mid : Mid S sh H root tbl ok t₀ m₀ o₀ ho j hj m₁ st) (none_left : NoTake S H root tbl ok j hj st) where
    closed_here : Closed S tbl st.tree j (absent_at S st.marks j)
    closed_here e he = passed-lower S sh H root tbl ok t₀ m₀ o₀ ho j hj m₁ st mid e he (none_left e he)

    largest-here : Largest S tbl j (gap_at S H root t₀ m₀ st.tree j) (absent_at S st.marks j)
    largest-here =
        closed_largest S H root tbl t₀ m₀ st.tree st.marks j (grown_mid S sh H root tbl ok t₀ m₀ o₀ ho j hj m₁ st mid j (sym mid.last)) closed_here
        (λ x h t. sym (mid.gap_is x h) ∙ mid.inv.inside x t)

    -- gaps are left
    pub stop_at : (i : ℕ) → i < S.n j → absent_at S st.marks j i ≡ true → Stop S H root tbl t₀ m₀ o₀ (end_as (unavailable j) st) (unavailable j)
    unfolding end_as
    stop_at i h ab =
        record {
          always = always_at S sh H root tbl ok t₀ m₀ o₀ ho j hj m₁ st mid;
          ends = record { last = mid.last; missing = (i, h, ab); largest = largest-here; passed = closed_here; out-kept = mid.out-kept };
          grown = grown_mid S sh H root tbl ok t₀ m₀ o₀ ho j hj m₁ st mid;
          last = (mid.last, closed_here, (i, h, ab));
        }

    -- no gap is left: the layer is complete, and the next can be entered
    module _ (none : (i : ℕ) → i < S.n j → absent_at S st.marks j i ≡ false) where
      complete-here : Complete S H root tbl st.tree st.marks j
      complete-here =
          record {
            full = none;
            hashed = λ i h. mid.always.held j i (omega arith) h (none i h);
            holds = λ e h. ⊎_elim (λ z. z.1)
                (λ two. absurd (omega (arith, every-none (λ x. ltb x (S.n j)) (absent_at S st.marks j) (λ x w. none x (ltb-true x (S.n j) w)) (equation_of tbl j e) (ok.within j e hj h))))
                (closed_here e h);
          }

      drained-here : Drained S H root tbl t₀ m₀ st.tree j
      drained-here = drained_if S sh H root tbl ok t₀ m₀ st.tree j hj (λ s w n x h t. both (largest-here.contains s w n x h t) (none x h))

      pub between : Between (suc j) st
      between =
          record {
            last = mid.last;
            always = mid.always;
            complete = λ l h. by_test (eqb l j)
                (λ u. subst (λ (z : ℕ). Complete S H root tbl st.tree st.marks z) (sym (eqb-true l j u)) complete-here)
                (λ u. mid.always.above l (omega (arith, eqb-false l j u)));
            drained = λ l h. by_test (eqb l j)
                (λ u. subst (λ (z : ℕ). Drained S H root tbl t₀ m₀ st.tree z) (sym (eqb-true l j u)) drained-here)
                (λ u. mid.always.drained l (omega (arith, eqb-false l j u)));
            out-kept = mid.out-kept;
          }

  -- ---- final states

  pub stop_final : (st : St) (z : End) → z ≡ st.end → Stop S H root tbl t₀ m₀ o₀ st z → Final S H root tbl t₀ m₀ st
  stop_final st z e s = record { always = s.always; grown = s.grown; last = subst (λ (y : End). LastLayer S H root tbl st (kind_of y)) e s.last }

  -- every layer is complete
  pub whole-final : (st : St) → Between (length tbl) st → Final S H root tbl t₀ m₀ (end_as whole st)
  unfolding end_as
  whole-final st b =
      record {
        always = subst (λ (d : ℕ). Always S H root tbl t₀ m₀ st.tree st.marks st.stored d) (sym b.last) b.always;
        grown = λ l e. let h : l < length tbl = omega (arith, b.last) in complete-grown S sh H root tbl ok t₀ m₀ st.tree st.marks l h (b.complete l h) (b.drained l h);
        last = (b.last, b.complete);
      }
