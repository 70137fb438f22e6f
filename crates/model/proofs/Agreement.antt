-- One layer of a state that has grown from what was lent, beside another filling of that layer in which no equation can be taken.
use mathlib.Core.Path.{◌≡◌, refl, sym, ap, ◌∙◌}
use mathlib.Core.Logic.{◌≢◌, ⊎_elim}
use mathlib.Core.Bool.{Bool, true, false, not, ◌&&◌}
use mathlib.Core.List.{List}
use Prim.Native.Nat.{ℕ, ◌≤◌, ◌<◌}
use native.Mathlib.Omega.{arith}
use lib.ListN.{length}
use lib.Dec.{ltb}
use borrow.Author.Tests.{ltb-true}
use Rattle.octets.proofs.Choice.{by_test, and_yes, yes_and, both, not_yes}
use Rattle.octets.specs.ByteLists.{same}
use Rattle.parity_table.specs.Members.{every}
use Rattle.parity_table.specs.Table.{layer_of, equation_of}
use Rattle.model.specs.Shape.{Shape}
use Rattle.model.specs.Symbols.{count, first_of, others, xor_of, zeros, sym_at, committed}
use Rattle.model.specs.Repair.{absent_at}
use Rattle.model.specs.Ends.{Within, gap_at}
use Rattle.model.specs.Finals.{Grown, Refuted}
use Rattle.octets.proofs.SameLaws.{same_yes, yes_same}
use Rattle.model.proofs.Bytes.{sym_cancel}
use Rattle.model.proofs.Members.{length-xor_of, xor_of_cong}
use Rattle.model.proofs.Counts.{is_it, count_mono, count_same, first_of-passes, every-none, every-others, every-member, every_both, none-absent, others-held, first_member, xor_of-others, ascending_once}
use Rattle.model.proofs.Tables.{TableLaws}

module _ (S : Shape) (H : ℕ → ℕ → List ℕ → List ℕ) (root : List ℕ) (tbl : List (List (List ℕ))) (t₀ m₀ t : List ℕ) (j : ℕ) where
  -- A filling of layer j beside that of t: the symbols g, of which those in b are absent. It has the lent symbols that t has kept, its symbols have the
  -- hashes that t commits to, and no equation can be taken in it. A closed layer of another state is one, and so is a layer of a tree that agrees.
  pub record Filling (g : ℕ → List ℕ) (b : ℕ → Bool) : Type 0 where
    pub sized : (y : ℕ) → y < S.n j → length (g y) ≡ 256
    pub lent : (y : ℕ) → y < S.n j → gap_at S H root t₀ m₀ t j y ≡ false → sym_at S t j y ≡ g y
    pub in_gaps : Within (S.n j) b (gap_at S H root t₀ m₀ t j)
    pub fits : (y : ℕ) → y < S.n j → b y ≡ false → H j y (g y) ≡ committed S root (sym_at S t) j y
    pub stops : (e : ℕ) → e < length (layer_of tbl j) → count b (equation_of tbl j e) ≢ 1
    pub holds : (e : ℕ) → e < length (layer_of tbl j) → count b (equation_of tbl j e) ≡ 0 → xor_of g (equation_of tbl j e) ≡ zeros

  -- What follows, m being the marks of t: what the filling lacks is absent, what is held is the filling's, and no equation refutes the layer.
  pub record Agreement (m : List ℕ) (g : ℕ → List ℕ) (b : ℕ → Bool) : Type 0 where
    pub fewer : Within (S.n j) b (absent_at S m j)
    pub held : (y : ℕ) → y < S.n j → absent_at S m j y ≡ false → sym_at S t j y ≡ g y
    pub unrefuted : Refuted S H root tbl t m j → ⊥

  abbrev f : ℕ → List ℕ
  f = sym_at S t j

  module _ (ok : TableLaws S tbl) (hj : j < length tbl) (sized : (y : ℕ) → y < S.n j → length (f y) ≡ 256) (m : List ℕ) (gr : Grown S H root tbl t₀ m₀ t m j) (g : ℕ → List ℕ) (b : ℕ → Bool) (fill : Filling g b) where
    abbrev a : ℕ → Bool
    a = absent_at S m j

    fewer : Within (S.n j) b a
    fewer = gr b fill.in_gaps (λ e h _ _. fill.stops e h)

    held_too : (x : ℕ) → x < S.n j → a x ≡ false → b x ≡ false
    held_too x h n = by_test (b x) (λ t. both (fewer x h t) n) (λ t. t)

    module _ (e : ℕ) (he : e < length (layer_of tbl j)) where
      abbrev ms : List ℕ
      ms = equation_of tbl j e

      within : every (λ y. ltb y (S.n j)) ms ≡ true
      within = ok.within j e hj he

      none_too : count a ms ≡ 0 → count b ms ≡ 0
      none_too c =
          every-none (λ y. not (a y) && ltb y (S.n j)) b
          (λ y q. let (u, v) = and_yes (not (a y)) (ltb y (S.n j)) q in held_too y (ltb-true y (S.n j) v) (not_yes (a y) u))
          ms (every_both (λ y. not (a y)) (λ y. ltb y (S.n j)) ms (none-absent a ms c) within)

      count_fewer : count b ms ≤ count a ms
      count_fewer =
          omega (
            arith,
            count_same (λ y. ltb y (S.n j)) b ms within,
            count_mono (λ y. ltb y (S.n j) && b y) a (λ y q. let (u, v) = and_yes (ltb y (S.n j)) (b y) q in fewer y (ltb-true y (S.n j) u) v) ms,
          )

      -- a member of an equation that holds is the exclusive-or of the others
      member : (h : ℕ → List ℕ) → ((y : ℕ) → y < S.n j → length (h y) ≡ 256) → (x : ℕ) → 1 ≤ count (is_it x) ms → xor_of h ms ≡ zeros → xor_of h (others x ms) ≡ h x
      member h full x c z =
          let below : x < S.n j = ltb-true x (S.n j) (every-member (λ y. ltb y (S.n j)) x ms within c) in
          let once : count (is_it x) ms ≡ 1 = omega (arith, ascending_once x ms (ok.ascend j e hj he)) in
          sym_cancel (h x) (xor_of h (others x ms)) (full x below)
          (length-xor_of h (S.n j) full (others x ms) (every-others (λ y. ltb y (S.n j)) x ms within))
          (sym (xor_of-others h x ms once) ∙ z)

    -- the held symbols that are not the filling's
    abbrev differs : ℕ → Bool
    differs y = not (a y) && not (same (f y) (g y))

    differs_no : (y : ℕ) → differs y ≡ false → a y ≡ false → f y ≡ g y
    differs_no y n h = by_test (same (f y) (g y)) (λ s. same_yes _ _ s) (λ s. both (yes_and (ap not h) (ap not s)) n)

    differs_yes : (y : ℕ) → differs y ≡ true → same (f y) (g y) ≡ false
    differs_yes y d = not_yes (same (f y) (g y)) (and_yes (not (a y)) (not (same (f y) (g y))) d).1

    differs-inside : Within (S.n j) differs (gap_at S H root t₀ m₀ t j)
    differs-inside x h d = by_test (gap_at S H root t₀ m₀ t j x) (λ n. n) (λ n. both (yes_same (fill.lent x h n)) (differs_yes x d))

    differs_not_once : (e : ℕ) → e < length (layer_of tbl j) → count a (equation_of tbl j e) ≡ 0 → xor_of f (equation_of tbl j e) ≡ zeros → count differs (equation_of tbl j e) ≢ 1
    differs_not_once e he c z one =
        let ms : List ℕ = equation_of tbl j e in
        let x : ℕ = first_of differs ms in
        let mem : 1 ≤ count (is_it x) ms = first_member differs ms (omega arith) in
        let rest : xor_of f (others x ms) ≡ xor_of g (others x ms) =
        xor_of_cong f g (λ y. not (differs y) && not (a y))
        (λ y q. let (u, v) = and_yes (not (differs y)) (not (a y)) q in differs_no y (not_yes (differs y) u) (not_yes (a y) v))
        (others x ms)
        (every_both (λ y. not (differs y)) (λ y. not (a y)) (others x ms) (others-held differs x ms one refl)
        (every-others (λ y. not (a y)) x ms (none-absent a ms c))) in
        let equal : f x ≡ g x = sym (member e he f sized x mem z) ∙ rest ∙ member e he g fill.sized x mem (fill.holds e he (none_too e he c)) in
        both (yes_same equal) (differs_yes x (first_of-passes differs ms (omega arith)))

    agree : (y : ℕ) → y < S.n j → a y ≡ false → f y ≡ g y
    agree y h n = differs_no y (by_test (differs y) (λ d. both (gr differs differs-inside differs_not_once y h d) n) (λ d. d)) n

    agree_xor : (xs : List ℕ) → every (λ y. not (a y)) xs ≡ true → every (λ y. ltb y (S.n j)) xs ≡ true → xor_of f xs ≡ xor_of g xs
    agree_xor xs p q =
        xor_of_cong f g (λ y. not (a y) && ltb y (S.n j))
        (λ y w. let (u, v) = and_yes (not (a y)) (ltb y (S.n j)) w in agree y (ltb-true y (S.n j) v) (not_yes (a y) u))
        xs (every_both (λ y. not (a y)) (λ y. ltb y (S.n j)) xs p q)

    no_refute : Refuted S H root tbl t m j → ⊥
    no_refute r =
        let e : ℕ = r.equation in
        let he : e < length (layer_of tbl j) = r.in_table in
        let ms : List ℕ = equation_of tbl j e in
        ⊎_elim
        (λ (none, bad). bad (agree_xor ms (none-absent a ms none) (within e he) ∙ fill.holds e he (none_too e he none)))
        (λ (one, unfit).
        let x : ℕ = first_of a ms in
        let mem : 1 ≤ count (is_it x) ms = first_member a ms (omega arith) in
        let below : x < S.n j = ltb-true x (S.n j) (every-member (λ y. ltb y (S.n j)) x ms (within e he) mem) in
        let none : count b ms ≡ 0 = omega (arith, count_fewer e he, fill.stops e he) in
        let held : b x ≡ false = not_yes (b x) (every-member (λ y. not (b y)) x ms (none-absent b ms none) mem) in
        unfit (ap (H j x)
        (agree_xor (others x ms) (others-held a x ms one refl) (every-others (λ y. ltb y (S.n j)) x ms (within e he))
        ∙ member e he g fill.sized x mem (fill.holds e he none))
        ∙ fill.fits x below held))
        r.fails

    pub agreement : Agreement m g b
    agreement = record { fewer = fewer; held = agree; unrefuted = no_refute }
