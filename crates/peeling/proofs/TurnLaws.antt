-- The lowest equation that can be taken, and what a turn changes.
use mathlib.Core.Bool.{Bool, ◌&&◌, false, true}
use mathlib.Core.List.{List, [], ◌∷◌}
use mathlib.Core.Path.{◌∙◌, ◌≡◌, ap, refl, subst}
use Prim.Native.Nat.{◌+◌, ◌<◌, ◌≤◌, suc, ℕ}
use native.Mathlib.Decide.{dec_lt}
use native.Mathlib.Omega.{arith}
use lib.Dec.{eqb, ltb}
use lib.ListN.{get_or, length, set}
use borrow.Author.Tests.{eqb-false, eqb-true, le-ltb, lt-ltb}
use Rattle.std.proofs.Common.{Err, None, Ok, Some}
use Rattle.octets.proofs.Choice.{and_yes, both, by_test, pick_yes, yes_and}
use Rattle.parity_table.specs.Table.{equation_of, layer_of}
use Rattle.model.proofs.Counts.{is_it}
use Rattle.model.proofs.Peel.{absent-other, absent-same, count-used}
use Rattle.model.proofs.Steps.{idle, lowest_eq-is, takes}
use Rattle.model.specs.Repair.{St, absent_at, act, going, lowest_eq, peel, step, takeable}
use Rattle.model.specs.Shape.{place, tree}
use Rattle.model.specs.Symbols.{bit, count}
use Rattle.symbol_hash.specs.SymbolHash.{symbol_hash}
use Rattle.symbol_hash.specs.declared.Kind.{Kind}
use Rattle.equation.specs.Turns.{Took, can, end_by, few, stored_by}
use Rattle.equation.specs.declared.Turn.{Turn}
use Rattle.equation.specs.declared.Turn.TheVariants.{Fault, Stored, Twins, Used}
use Rattle.peeling.proofs.SweepLaws.{and_false}
use Rattle.peeling.specs.States.{gain_of, refuted}
use Rattle.peeling.specs.declared.Refutation.{Refutation}
use Rattle.peeling.specs.declared.Refutation.TheVariants as refutation

-- the unused equations
abbrev pub unused : List ℕ → ℕ
unused u = count (is_it 0) u

-- ---- the lowest equation that can be taken

module _ (kind : Kind) (root : List ℕ) (tbl : List (List (List ℕ))) (j : ℕ) where
  lowest_at : (st : St) (e : ℕ) → ((x : ℕ) → x < e → takeable tree tbl j st x ≡ false) → e < length (layer_of tbl j) → takeable tree tbl j st e ≡ true
      → lowest_eq tree tbl j st ≡ e
  lowest_at st e none h aye =
      let l = lowest_eq-is tree (symbol_hash kind) root tbl j st in
      elim (dec_lt (lowest_eq tree tbl j st) e) [
        | yes a ↦ both (l.found (omega arith)) (none (lowest_eq tree tbl j st) a)
        | no a ↦ elim (dec_lt e (lowest_eq tree tbl j st)) [
          | yes b ↦ both aye (l.before e (omega arith) b)
          | no b ↦ omega arith
        ]
      ]

  pub step_is : (st : St) (e : ℕ) → going st.end ≡ true → ((x : ℕ) → x < e → takeable tree tbl j st x ≡ false) → e < length (layer_of tbl j)
      → takeable tree tbl j st e ≡ true → step tree (symbol_hash kind) root tbl j st ≡ act tree (symbol_hash kind) root j e (equation_of tbl j e) st
  unfolding step
  step_is st e g none h aye =
      let l : lowest_eq tree tbl j st ≡ e = lowest_at st e none h aye in
      pick_yes (takes tree (symbol_hash kind) root tbl j st) _ _ (yes_and g (lt-ltb (lowest_eq tree tbl j st) (length (layer_of tbl j)) (omega arith)))
      ∙ ap (λ (x : ℕ). act tree (symbol_hash kind) root j x (equation_of tbl j x) st) l

  -- where none can be taken, or the repair has ended, peeling is over
  pub none_left : (f : ℕ) (st : St) → ((x : ℕ) → x < length (layer_of tbl j) → takeable tree tbl j st x ≡ false)
      → peel tree (symbol_hash kind) root tbl j f st ≡ st
  none_left f st none =
      let l = lowest_eq-is tree (symbol_hash kind) root tbl j st in
      let r : length (layer_of tbl j) ≤ lowest_eq tree tbl j st =
      elim (dec_lt (lowest_eq tree tbl j st) (length (layer_of tbl j))) [
        | yes a ↦ both (l.found (omega arith)) (none (lowest_eq tree tbl j st) a)
        | no a ↦ omega arith
      ] in
      idle tree (symbol_hash kind) root tbl j f st (and_false (going st.end) (ltb (lowest_eq tree tbl j st) (length (layer_of tbl j))) (le-ltb (lowest_eq tree tbl j st) (length (layer_of tbl j)) r))

  pub ended : (f : ℕ) (st : St) → going st.end ≡ false → peel tree (symbol_hash kind) root tbl j f st ≡ st
  ended f st g = idle tree (symbol_hash kind) root tbl j f st (ap (λ (b : Bool). b && ltb (lowest_eq tree tbl j st) (length (layer_of tbl j))) g)

-- ---- what a turn at equation e changes

pub fewer : (j : ℕ) (m u : List ℕ) (e : ℕ) (ms : List ℕ) → e < length u → can j m u e ms ≡ true → suc (unused (set u e 1)) ≡ unused u
fewer j m u e ms h aye = count-used u e h (and_yes (eqb (get_or u e 0) 0) (few j m ms) aye).0

module _ (j : ℕ) (m : List ℕ) where
  -- symbol x, which was absent, is stored: each equation has as many absent members fewer as it has members x
  pub count-stored : (x : ℕ) → absent_at tree m j x ≡ true → place tree j x < length m → (ms : List ℕ)
      → count (absent_at tree (set m (place tree j x) 1) j) ms + count (is_it x) ms ≡ count (absent_at tree m j) ms
  unfolding count
  count-stored x a h [] = refl
  count-stored x a h (y ∷ ys) =
      by_test (eqb y x)
      (λ t.
      let z : y ≡ x = eqb-true y x t in
      omega (
        arith,
        ap bit t,
        ap (λ (q : ℕ). bit (absent_at tree m j q)) z,
        ap bit a,
        ap (λ (q : ℕ). bit (absent_at tree (set m (place tree j x) 1) j q)) z,
        ap bit (absent-same tree m j x h),
        count-stored x a h ys,
      ))
      (λ t. omega (arith, ap bit t, ap bit (absent-other tree m j x y (eqb-false y x t)), count-stored x a h ys))

-- the answer
pub seen : {kind : Kind} {root ms : List ℕ} {j e : ℕ} {t m o u t' m' o' u' : List ℕ} {r : Turn} → Took kind root ms j e t m o u t' m' o' u' r
    → (z : Turn) → r ≡ z → Took kind root ms j e t m o u t' m' o' u' z
seen {kind} {root} {ms} {j} {e} {t} {m} {o} {u} {t'} {m'} {o'} {u'} k z er = subst (λ (q : Turn). Took kind root ms j e t m o u t' m' o' u' q) er k

-- ---- what a turn came to

pub used_turn : (e : ℕ) (r : Turn) → gain_of e r ≡ Ok None → r ≡ Used
used_turn e Used q = refl
used_turn e (Stored x) q = cc
used_turn e (Fault x n) q = cc
used_turn e (Twins x) q = cc

pub stored_turn : (e x : ℕ) (r : Turn) → gain_of e r ≡ Ok (Some x) → r ≡ Stored x
stored_turn e x Used q = cc
stored_turn e x (Stored y) q = cc
stored_turn e x (Fault y n) q = cc
stored_turn e x (Twins y) q = cc

-- a refutation ends the repair, and nothing is stored
pub refuted_turn : (j e : ℕ) (r : Turn) (z : Refutation) → gain_of e r ≡ Err z
    → (end_by j e r ≡ refuted j z) × ((s : ℕ) → stored_by r s ≡ s) × (going (end_by j e r) ≡ false)
unfolding going
refuted_turn j e Used z q = absurd (cc)
refuted_turn j e (Stored x) z q = absurd (cc)
refuted_turn j e (Fault x n) z q =
    let i : refutation.Fault e x n ≡ z = cc in
    (ap (refuted j) i, λ s. refl, refl)
refuted_turn j e (Twins x) z q =
    let i : refutation.Twins x ≡ z = cc in
    (ap (refuted j) i, λ s. refl, refl)
