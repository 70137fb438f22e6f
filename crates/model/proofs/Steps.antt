-- The turns of (b) by cases: what holds of each outcome holds of the turn.
use mathlib.Core.Path.{◌≡◌, ap, ◌∙◌, refl}
use mathlib.Core.Logic.{◌≢◌}
use mathlib.Core.Bool.{Bool, true, false, ◌&&◌}
use mathlib.Core.List.{List}
use Prim.Native.Nat.{ℕ, zero, suc, ◌<◌}
use native.Mathlib.Omega.{arith}
use lib.ListN.{length}
use lib.Dec.{ltb, eqb}
use borrow.Author.Tests.{ltb-true, eqb-true, eqb-false}
use Rattle.parity_table.specs.Members.{last_of}
use Rattle.parity_table.specs.Table.{layer_of, equation_of}
use Rattle.octets.proofs.Choice.{pick_no, pick_ind, and_yes}
use Rattle.model.specs.Shape.{Shape}
use Rattle.octets.specs.ByteLists.{same}
use Rattle.model.specs.Symbols.{count, first_of, xor_of, zeros, sym_at}
use Rattle.model.specs.Fault.{proof_bytes}
use Rattle.model.specs.Repair.{going, St, use_eq, write_fault, write_twins, absent_at, store_sym, fits_at, takeable, lowest_eq, form, refute, rest_of, act, step, peel}
use Rattle.octets.proofs.SameLaws.{same_yes, same_no}
use Rattle.model.proofs.Counts.{Lowest, lowest-is}

module _ (S : Shape) (H : ℕ → ℕ → List ℕ → List ℕ) (root : List ℕ) (tbl : List (List (List ℕ))) where
  -- the outcomes of taking equation e with members ms
  pub act_ind : (P : St → Type 0) (j e : ℕ) (ms : List ℕ) (st : St)
      → (count (absent_at S st.marks j) ms ≡ 0 → xor_of (sym_at S st.tree j) ms ≡ zeros → P (use_eq e st))
      → (count (absent_at S st.marks j) ms ≡ 0 → xor_of (sym_at S st.tree j) ms ≢ zeros
      → P (refute S H root j e ms (last_of ms 0) (rest_of S j ms (last_of ms 0) st) st))
      → (0 < count (absent_at S st.marks j) ms
      → P (form S H root j e ms (first_of (absent_at S st.marks j) ms) (rest_of S j ms (first_of (absent_at S st.marks j) ms) st) st))
      → P (act S H root j e ms st)
  unfolding act
  act_ind P j e ms st u r f =
      pick_ind P (eqb (count (absent_at S st.marks j) ms) 0)
      (λ t. let z = eqb-true (count (absent_at S st.marks j) ms) 0 t in
      pick_ind P (same (xor_of (sym_at S st.tree j) ms) zeros) (λ s. u z (same_yes _ _ s)) (λ s. r z (same_no s)))
      (λ t. f (omega (arith, eqb-false (count (absent_at S st.marks j) ms) 0 t)))

  pub form_ind : (P : St → Type 0) (j e : ℕ) (ms : List ℕ) (x : ℕ) (v : List ℕ) (st : St)
      → (fits_at S H root st j x v ≡ true → P (store_sym S j e x v st))
      → (fits_at S H root st j x v ≡ false → P (write_fault j e x (proof_bytes S (sym_at S st.tree) j e x ms) st))
      → P (form S H root j e ms x v st)
  unfolding form
  form_ind P j e ms x v st = pick_ind P (fits_at S H root st j x v)

  pub refute_ind : (P : St → Type 0) (j e : ℕ) (ms : List ℕ) (x : ℕ) (v : List ℕ) (st : St)
      → (fits_at S H root st j x v ≡ true → P (write_twins j x (sym_at S st.tree j x) v st))
      → (fits_at S H root st j x v ≡ false → P (write_fault j e x (proof_bytes S (sym_at S st.tree) j e x ms) st))
      → P (refute S H root j e ms x v st)
  unfolding refute
  refute_ind P j e ms x v st = pick_ind P (fits_at S H root st j x v)

  -- a turn can be taken
  abbrev pub takes : ℕ → St → Bool
  takes j st = going st.end && ltb (lowest_eq S tbl j st) (length (layer_of tbl j))

  pub lowest_eq-is : (j : ℕ) (st : St) → Lowest (takeable S tbl j st) 0 (length (layer_of tbl j)) (lowest_eq S tbl j st)
  unfolding lowest_eq
  lowest_eq-is j st = lowest-is (takeable S tbl j st) 0 (length (layer_of tbl j))

  -- a turn does nothing, or takes an equation
  pub step_ind : (P : St → Type 0) (j : ℕ) (st : St)
      → (takes j st ≡ false → P st)
      → ((e : ℕ) → e < length (layer_of tbl j) → takeable S tbl j st e ≡ true → ((q : ℕ) → q < e → takeable S tbl j st q ≡ false) → going st.end ≡ true
      → P (act S H root j e (equation_of tbl j e) st))
      → P (step S H root tbl j st)
  unfolding step
  step_ind P j st n y =
      pick_ind P (takes j st)
      (λ t.
      let (g, l) = and_yes (going st.end) (ltb (lowest_eq S tbl j st) (length (layer_of tbl j))) t in
      let h : lowest_eq S tbl j st < length (layer_of tbl j) = ltb-true _ _ l in
      y (lowest_eq S tbl j st) h ((lowest_eq-is j st).found (omega arith)) (λ q l. (lowest_eq-is j st).before q (omega arith) l) g)
      n

  pub idle : (j f : ℕ) (st : St) → takes j st ≡ false → peel S H root tbl j f st ≡ st
  unfolding peel step
  idle j zero st t = refl
  idle j (suc f) st t = ap (peel S H root tbl j f) (pick_no (takes j st) _ st t) ∙ idle j f st t
