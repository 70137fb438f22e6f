-- All layers of a repair on the lent buffers.
use mathlib.Core.Bool.{false, true}
use mathlib.Core.List.{List, []}
use mathlib.Core.Path.{◌∙◌, ◌≡◌, ap, ap₂, refl, sym}
use Prim.Native.Nat.{◌*◌, ◌+◌, ◌-◌, ◌<◌, ◌^◌, ◌≤◌, suc, zero, ℕ}
use native.Mathlib.Numerals.{add-one}
use native.Mathlib.Omega.{arith}
use lib.ListN.{length}
use lib.Pow.{pow_mono, pow_pos}
use Rattle.model.specs.Repair.{end_as, finish, going, layer, layers, repair}
use Rattle.model.specs.Shape.{tree}
use Rattle.std.proofs.Common.{None, Option, Some}
use Rattle.octets.proofs.Choice.{pick_no, pick_yes}
use Rattle.parity_table.specs.Parse.{equations_above}
use Rattle.parity_table.specs.Shape.{k_of, max_depth}
use Rattle.equation.specs.States.{state}
use Rattle.repair.specs.Reports.{Layered, Repaired, end_of, passes}
use Rattle.symbol_hash.specs.SymbolHash.{symbol_hash}
use Rattle.symbol_hash.specs.declared.Kind.{Kind}
use Rattle.model.specs.Repair.{St, working}
use Rattle.repair.specs.declared.End.{End as Ended}
use Rattle.repair.specs.declared.End.TheVariants as ended

-- ---- layer j is next

pub record Deep (kind : Kind) (root : List ℕ) (tbl : List (List (List ℕ))) (t₀ m₀ o₀ : List ℕ) (j : ℕ) (t m o : List ℕ) (s : ℕ) : Type 0 where
  pub used : List ℕ
  pub goes : layers tree (symbol_hash kind) root tbl j (length tbl - j) (state t m o used s j working)
      ≡ layers tree (symbol_hash kind) root tbl 0 (length tbl) (state t₀ m₀ o₀ [] 0 0 working)

ends : (z : Ended) → going (end_of z) ≡ false
unfolding going
ends ended.Whole = refl
ends (ended.Fault j e x n) = refl
ends (ended.Unavailable j) = refl
ends (ended.Twins j x) = refl

module _ (kind : Kind) (root : List ℕ) (tbl : List (List (List ℕ))) (t₀ m₀ o₀ : List ℕ) where
  -- what a last state says of the repair
  said : (t m o u : List ℕ) (s d : ℕ) (z : Ended) → repair tree (symbol_hash kind) root tbl t₀ m₀ o₀ ≡ state t m o u s d (end_of z) → Repaired kind root tbl t₀ m₀ o₀ t m o s z
  said t m o u s d z e =
      record {
        tree_is = sym (ap (λ (st : St). st.tree) e);
        marks-is = sym (ap (λ (st : St). st.marks) e);
        out-is = sym (ap (λ (st : St). st.out) e);
        stored_is = sym (ap (λ (st : St). st.stored) e);
        end_is = sym (ap (λ (st : St). st.end) e);
      }

  pub deep_start : Deep kind root tbl t₀ m₀ o₀ 0 t₀ m₀ o₀ 0
  deep_start =
      let z : length tbl - 0 ≡ length tbl = omega arith in
      record { used = []; goes = ap (λ (f : ℕ). layers tree (symbol_hash kind) root tbl 0 f (state t₀ m₀ o₀ [] 0 0 working)) z }

  -- no layer is worked through after an end
  stopped : (f j : ℕ) (st : St) → going st.end ≡ false → layers tree (symbol_hash kind) root tbl j f st ≡ st
  unfolding layers layer
  stopped zero j st g = refl
  stopped (suc f) j st g = ap (layers tree (symbol_hash kind) root tbl (suc j) f) (pick_no (going st.end) _ _ g) ∙ stopped f (suc j) st g

  module _ (j : ℕ) (h : j < length tbl) (t m o : List ℕ) (s : ℕ) (p : Deep kind root tbl t₀ m₀ o₀ j t m o s) (t' m' o' : List ℕ) (s' : ℕ) (r : Option Ended)
      (k : Layered kind root tbl j t m o t' m' o' s s' r) where
    next : layers tree (symbol_hash kind) root tbl (suc j) (length tbl - (j + 1)) (state t' m' o' k.used s' (suc j) (passes r))
        ≡ layers tree (symbol_hash kind) root tbl 0 (length tbl) (state t₀ m₀ o₀ [] 0 0 working)
    unfolding layers
    next =
        let f : length tbl - j ≡ suc (length tbl - (j + 1)) = omega arith in
        ap (layers tree (symbol_hash kind) root tbl (suc j) (length tbl - (j + 1))) (sym (k.goes p.used j))
        ∙ sym (ap (λ (q : ℕ). layers tree (symbol_hash kind) root tbl j q (state t m o p.used s j working)) f)
        ∙ p.goes

    pub deep_on : r ≡ None → Deep kind root tbl t₀ m₀ o₀ (j + 1) t' m' o' s'
    deep_on er =
        record {
          used = k.used;
          goes =
              ap₂ (λ (q : ℕ) (z : Option Ended). layers tree (symbol_hash kind) root tbl q (length tbl - (j + 1)) (state t' m' o' k.used s' q (passes z))) (add-one j) (sym er)
              ∙ next;
        }

    pub deep_stop : (z : Ended) → r ≡ Some z → Repaired kind root tbl t₀ m₀ o₀ t' m' o' s' z
    unfolding repair finish
    deep_stop z er =
        let st : St = state t' m' o' k.used s' (suc j) (end_of z) in
        let e : layers tree (symbol_hash kind) root tbl 0 (length tbl) (state t₀ m₀ o₀ [] 0 0 working) ≡ st =
        sym next
        ∙ ap (λ (q : Option Ended). layers tree (symbol_hash kind) root tbl (suc j) (length tbl - (j + 1)) (state t' m' o' k.used s' (suc j) (passes q))) er
        ∙ stopped (length tbl - (j + 1)) (suc j) st (ends z) in
        said t' m' o' k.used s' (suc j) z (ap finish e ∙ pick_no (going (end_of z)) _ _ (ends z))

  pub deep-end : (j : ℕ) (t m o : List ℕ) (s : ℕ) → length tbl ≤ j → Deep kind root tbl t₀ m₀ o₀ j t m o s → Repaired kind root tbl t₀ m₀ o₀ t m o s ended.Whole
  unfolding layers repair finish end_as going
  deep-end j t m o s h p =
      let z : length tbl - j ≡ 0 = omega arith in
      let e : layers tree (symbol_hash kind) root tbl 0 (length tbl) (state t₀ m₀ o₀ [] 0 0 working) ≡ state t m o p.used s j working =
      sym p.goes ∙ ap (λ (f : ℕ). layers tree (symbol_hash kind) root tbl j f (state t m o p.used s j working)) z in
      said t m o p.used s j ended.Whole (ap finish e ∙ pick_yes true _ _ refl)

-- ---- the symbols stored are at most the equations of the layers

pub stored_start : 0 ≤ equations_above 0
stored_start = omega arith

pub stored_on : (j s s' : ℕ) → s ≤ equations_above j → s' ≤ s + 3 * k_of j → s' ≤ equations_above (j + 1)
unfolding equations_above k_of
stored_on j s s' h k = omega (arith, pow_pos j, ap (λ (q : ℕ). 2 ^ q) (add-one j))

pub stored_small : (d : ℕ) → d ≤ max_depth → equations_above d ≤ 2 ^ 20
unfolding equations_above k_of
stored_small d h = omega (arith, pow_mono {i = d} {j = max_depth} h)

pub stored-below : (j d s : ℕ) → j ≤ d → s ≤ equations_above j → s ≤ equations_above d
unfolding equations_above k_of
stored-below j d s h k = omega (arith, pow_mono {i = j} {j = d} h)
