-- How a layer was peeled stays as it was while the symbols that are held do.
use mathlib.Core.Path.{◌≡◌, refl, sym, ap, ap₂, ◌∙◌}
use mathlib.Core.Logic.{inl, inr}
use mathlib.Core.Bool.{Bool, true, false, not, ◌&&◌}
use mathlib.Core.List.{List}
use Prim.Native.Nat.{ℕ, ◌≤◌, ◌<◌}
use native.Mathlib.Omega.{arith}
use lib.ListN.{length}
use lib.Dec.{ltb, eqb}
use borrow.Author.Tests.{ltb-true, eq-eqb}
use Rattle.parity_table.specs.Members.{every}
use Rattle.parity_table.specs.Table.{layer_of, equation_of}
use Rattle.octets.specs.ByteLists.{xors}
use Rattle.octets.proofs.Choice.{and_yes, not_yes}
use Rattle.model.specs.Shape.{Shape}
use Rattle.model.specs.Symbols.{count, first_of, others, xor_of, sym_at}
use Rattle.model.specs.Ends.{Passed, Peels, none-stored, stores}
use Rattle.model.proofs.Members.{xor_of_cong}
use Rattle.model.proofs.Counts.{is_it, every_at, every-others, every_both, ascending_once, xor_of-others, none-absent, others-held, first_member}
use Rattle.model.proofs.Tables.{TableLaws}

module _ (S : Shape) (tbl : List (List (List ℕ))) (ok : TableLaws S tbl) (j : ℕ) (hj : j < length tbl) (t t' : List ℕ) where
  -- the trees have the same symbols outside the set a
  abbrev pub SameHeld : (ℕ → Bool) → Type 0
  SameHeld a = (y : ℕ) → y < S.n j → a y ≡ false → sym_at S t' j y ≡ sym_at S t j y

  -- so they have the same exclusive-or of symbols that are not in it
  xor_held : (a : ℕ → Bool) → SameHeld a → (ys : List ℕ) → every (λ y. not (a y)) ys ≡ true → every (λ y. ltb y (S.n j)) ys ≡ true
      → xor_of (sym_at S t' j) ys ≡ xor_of (sym_at S t j) ys
  xor_held a al ys out low =
      xor_of_cong (sym_at S t' j) (sym_at S t j) (λ y. not (a y) && ltb y (S.n j))
      (λ y b. let (u, v) = and_yes (not (a y)) (ltb y (S.n j)) b in al y (ltb-true y (S.n j) v) (not_yes (a y) u)) ys
      (every_both (λ y. not (a y)) (λ y. ltb y (S.n j)) ys out low)

  pub passed_keep : (a : ℕ → Bool) → SameHeld a → (q : ℕ) → q < length (layer_of tbl j) → Passed S tbl t j a q → Passed S tbl t' j a q
  passed_keep a al q h (inl (c, z)) =
      inl (c, xor_held a al (equation_of tbl j q) (none-absent a (equation_of tbl j q) c) (ok.within j q hj h) ∙ z)
  passed_keep a al q h (inr two) = inr two

  pub peels_keep : {g g' a a' : ℕ → Bool} → Peels S tbl t j g a → ((y : ℕ) → y < S.n j → g' y ≡ g y) → ((y : ℕ) → y < S.n j → a' y ≡ a y) → SameHeld a
      → Peels S tbl t' j g' a'
  peels_keep (none-stored h) eg ea al = none-stored (λ x l. ea x l ∙ h x l ∙ sym (eg x l))
  peels_keep (stores {a} {b} p e x he c ex z low eb) eg ea al =
      let ms : List ℕ = equation_of tbl j e in
      let before : SameHeld a = λ y l q. al y l (eb y l ∙ ap (λ (v : Bool). v && not (eqb y x)) q) in
      let one : 1 ≤ count (is_it x) ms = rw ex (first_member a ms (omega arith)) in
      let once : count (is_it x) ms ≡ 1 = omega (arith, ascending_once x ms (ok.ascend j e hj he)) in
      let lx : x < S.n j = rw ex (ltb-true (first_of a ms) (S.n j) (every_at (λ y. ltb y (S.n j)) a ms (ok.within j e hj he) (omega arith))) in
      let here : sym_at S t' j x ≡ sym_at S t j x = al x lx (eb x lx ∙ and_false (a x) (ap not (eq-eqb x x refl))) in
      let rest : xor_of (sym_at S t' j) (others x ms) ≡ xor_of (sym_at S t j) (others x ms) =
      xor_held a before (others x ms) (others-held a x ms c ex) (every-others (λ y. ltb y (S.n j)) x ms (ok.within j e hj he)) in
      stores (peels_keep p eg (λ y l. refl) before) e x he c ex
      (xor_of-others (sym_at S t' j) x ms once ∙ ap₂ xors here rest ∙ sym (xor_of-others (sym_at S t j) x ms once) ∙ z)
      (λ q l. passed_keep a before q (omega arith) (low q l)) (λ y l. ea y l ∙ eb y l)
    where
      and_false : (u : Bool) {v : Bool} → v ≡ false → (u && v) ≡ false
      and_false true h = h
      and_false false h = refl
