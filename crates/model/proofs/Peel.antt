-- What holds in the peeling of a layer: a set of its gaps that no used equation meets exactly once is absent still.
use mathlib.Core.Path.{◌≡◌, refl, sym, ap, ◌∙◌, subst}
use mathlib.Core.Logic.{◌⊎◌, inl, inr, ◌≢◌, ⊎_elim}
use mathlib.Core.Bool.{Bool, true, false, not, ◌&&◌}
use mathlib.Core.List.{List, [], ◌∷◌}
use Prim.Native.Nat.{ℕ, zero, suc, ◌≤◌, ◌<◌}
use native.Mathlib.Omega.{arith}
use lib.ListN.{length, get_or, set, length-set}
use lib.Seq.{get_or-set_same, get_or-set_other}
use lib.Dec.{leb, ltb, eqb}
use borrow.Author.Tests.{lt-ltb, ltb-true, ltb-false, leb-true, eqb-true, eqb-false}
use Rattle.parity_table.specs.Members.{last_of}
use Rattle.parity_table.specs.Table.{layer_of, equation_of}
use Rattle.octets.proofs.Choice.{by_test, and_yes, yes_and, both}
use Rattle.model.specs.Shape.{Shape, place}
use Rattle.model.specs.Symbols.{bit, count, first_of}
use Rattle.model.specs.Ends.{Within}
use Rattle.model.specs.Repair.{going, St, use_eq, write_fault, write_twins, absent_at, store_sym, takeable, lowest_eq, rest_of, act, step, peel}
use Rattle.model.proofs.Counts.{and_no, is_it, count_mono, count_same, count_less, first_of-counts, every_at}
use Rattle.model.proofs.Tables.{TableLaws}
use Rattle.model.proofs.Steps.{act_ind, form_ind, refute_ind, takes, lowest_eq-is, step_ind, idle}

-- every number of the set is one of g
abbrev pub Inside : (ℕ → Bool) → (ℕ → Bool) → Type 0
Inside s g = (x : ℕ) → s x ≡ true → g x ≡ true

-- ---- marks and used equations as lists

pub count-used : (us : List ℕ) (e : ℕ) → e < length us → eqb (get_or us e 0) 0 ≡ true → suc (count (is_it 0) (set us e 1)) ≡ count (is_it 0) us
unfolding count
count-used [] e h t = absurd (omega arith)
count-used (u ∷ us) zero h t = omega (arith, ap bit t)
count-used (u ∷ us) (suc e) h t = omega (arith, count-used us e (omega arith) t)

all-used : (us : List ℕ) (e : ℕ) → e < length us → count (is_it 0) us ≡ 0 → eqb (get_or us e 0) 0 ≡ false
unfolding count
all-used [] e h c = absurd (omega arith)
all-used (u ∷ us) zero h c = by_test (eqb u 0) (λ t. absurd (omega (arith, ap bit t))) (λ t. t)
all-used (u ∷ us) (suc e) h c = all-used us e (omega arith) (omega arith)

place_ne : (S : Shape) (j x y : ℕ) → y ≢ x → place S j y ≢ place S j x
unfolding place
place_ne S j x y n e = n (omega arith)

-- a stored symbol is held, and the others are as they were
pub absent-same : (S : Shape) (m : List ℕ) (j x : ℕ) → place S j x < length m → absent_at S (set m (place S j x) 1) j x ≡ false
unfolding absent_at
absent-same S m j x h = ap (λ (v : ℕ). not (eqb v 1)) (get_or-set_same m (place S j x) 1 0 h)

pub absent-other : (S : Shape) (m : List ℕ) (j x y : ℕ) → y ≢ x → absent_at S (set m (place S j x) 1) j y ≡ absent_at S m j y
unfolding absent_at
absent-other S m j x y n = ap (λ (v : ℕ). not (eqb v 1)) (get_or-set_other m (place S j x) (place S j y) 1 0 (place_ne S j x y n))

pub absent_fewer : (S : Shape) (m : List ℕ) (j x : ℕ) → place S j x < length m → (y : ℕ) → absent_at S (set m (place S j x) 1) j y ≡ true → absent_at S m j y ≡ true
absent_fewer S m j x h y t =
    by_test (eqb y x)
    (λ u. both (sym (ap (absent_at S (set m (place S j x) 1) j) (eqb-true y x u)) ∙ t) (absent-same S m j x h))
    (λ u. sym (absent-other S m j x y (eqb-false y x u)) ∙ t)

module _ (S : Shape) (H : ℕ → ℕ → List ℕ → List ℕ) (root : List ℕ) (tbl : List (List (List ℕ))) (ok : TableLaws S tbl) (j : ℕ) (hj : j < length tbl) where
  -- no used equation meets s exactly once
  abbrev pub NotOnce : List ℕ → (ℕ → Bool) → Type 0
  NotOnce us s = (e : ℕ) → e < length (layer_of tbl j) → eqb (get_or us e 0) 0 ≡ false → count s (equation_of tbl j e) ≢ 1

  not_once_before : (us : List ℕ) (q : ℕ) (s : ℕ → Bool) → q < length us → NotOnce (set us q 1) s → NotOnce us s
  not_once_before us q s h n e k t =
      n e k (by_test (eqb e q)
      (λ u. subst (λ (z : ℕ). eqb (get_or (set us q 1) z 0) 0 ≡ false) (sym (eqb-true e q u)) (ap (λ (v : ℕ). eqb v 0) (get_or-set_same us q 1 0 h)))
      (λ u. ap (λ (v : ℕ). eqb v 0) (get_or-set_other us q e 1 0 (eqb-false e q u)) ∙ t))

  -- g are the gaps
  pub record Inv (g : ℕ → Bool) (m us : List ℕ) : Type 0 where
    pub roomy : (x : ℕ) → x < S.n j → place S j x < length m
    pub listed : length us ≡ length (layer_of tbl j)
    pub done : (e : ℕ) → e < length (layer_of tbl j) → eqb (get_or us e 0) 0 ≡ false → count (absent_at S m j) (equation_of tbl j e) ≡ 0
    pub inside : Inside (absent_at S m j) g
    -- a set of gaps that no used equation meets exactly once is absent still
    pub largest : (s : ℕ → Bool) → Inside s g → NotOnce us s → Inside s (absent_at S m j)

  -- the same of a set of symbols of the layer
  pub largest-within : (g : ℕ → Bool) (m us : List ℕ) → Inv g m us → (s : ℕ → Bool) → Within (S.n j) s g → NotOnce us s → Within (S.n j) s (absent_at S m j)
  largest-within g m us i s w n x h t =
      i.largest (λ y. ltb y (S.n j) && s y)
      (λ y q. let (l, v) = and_yes (ltb y (S.n j)) (s y) q in w y (ltb-true y (S.n j) l) v)
      (λ e k u c. n e k u (count_same (λ y. ltb y (S.n j)) s (equation_of tbl j e) (ok.within j e hj k) ∙ c)) x (yes_and (lt-ltb x (S.n j) h) t)

  -- an equation with no absent member is marked used
  pub inv_use : (g : ℕ → Bool) (m us : List ℕ) (e : ℕ) → e < length (layer_of tbl j) → count (absent_at S m j) (equation_of tbl j e) ≡ 0 → Inv g m us → Inv g m (set us e 1)
  inv_use g m us e h c i =
      record {
        roomy = i.roomy;
        listed = length-set us e 1 ∙ i.listed;
        done = λ q k t. by_test (eqb q e)
            (λ u. subst (λ (z : ℕ). count (absent_at S m j) (equation_of tbl j z) ≡ 0) (sym (eqb-true q e u)) c)
            (λ u. i.done q k (sym (ap (λ (v : ℕ). eqb v 0) (get_or-set_other us e q 1 0 (eqb-false q e u))) ∙ t));
        inside = i.inside;
        largest = λ s sg sn. i.largest s sg (not_once_before us e s (omega (arith, i.listed)) sn);
      }

  -- the one absent member x of an equation is stored
  pub inv_store : (g : ℕ → Bool) (m us : List ℕ) (e : ℕ) → e < length (layer_of tbl j)
      → count (absent_at S m j) (equation_of tbl j e) ≡ 1 → Inv g m us → Inv g (set m (place S j (first_of (absent_at S m j) (equation_of tbl j e))) 1) (set us e 1)
  inv_store g m us e h c i =
      let a : ℕ → Bool = absent_at S m j in
      let ms : List ℕ = equation_of tbl j e in
      let x : ℕ = first_of a ms in
      let m' : List ℕ = set m (place S j x) 1 in
      let pos : 0 < count a ms = omega arith in
      let below : x < S.n j = ltb-true x (S.n j) (every_at (λ y. ltb y (S.n j)) a ms (ok.within j e hj h) pos) in
      let room : place S j x < length m = i.roomy x below in
      let fewer : (y : ℕ) → absent_at S m' j y ≡ true → a y ≡ true = absent_fewer S m j x room in
      record {
        roomy = λ y l. omega (arith, i.roomy y l, length-set m (place S j x) 1);
        listed = length-set us e 1 ∙ i.listed;
        done = λ q k t. by_test (eqb q e)
            (λ u. subst (λ (z : ℕ). count (absent_at S m' j) (equation_of tbl j z) ≡ 0) (sym (eqb-true q e u))
            (omega (arith, count_less (absent_at S m' j) a fewer ms pos (absent-same S m j x room))))
            (λ u. omega (
              arith,
              count_mono (absent_at S m' j) a fewer (equation_of tbl j q),
              i.done q k (sym (ap (λ (w : ℕ). eqb w 0) (get_or-set_other us e q 1 0 (eqb-false q e u))) ∙ t),
            ));
        inside = λ y t. i.inside y (fewer y t);
        largest = λ s sg sn y t.
            let used : e < length us = omega (arith, i.listed) in
            let sa : (z : ℕ) → s z ≡ true → a z ≡ true = i.largest s sg (not_once_before us e s used sn) in
            by_test (eqb y x)
            (λ u. absurd (sn e h (ap (λ (w : ℕ). eqb w 0) (get_or-set_same us e 1 0 used)) (omega (arith, c, count_mono s a sa ms, first_of-counts s a ms pos (sym (ap s (eqb-true y x u)) ∙ t)))))
            (λ u. absent-other S m j x y (eqb-false y x u) ∙ sa y t);
      }

  abbrev InvSt : (ℕ → Bool) → St → Type 0
  InvSt g st = Inv g st.marks st.used

  inv_step : (g : ℕ → Bool) (st : St) → InvSt g st → InvSt g (step S H root tbl j st)
  unfolding use_eq store_sym write_fault write_twins takeable
  inv_step g st i =
      step_ind S H root tbl (InvSt g) j st (λ t. i)
      (λ e h tk lo gg.
      let a : ℕ → Bool = absent_at S st.marks j in
      let ms : List ℕ = equation_of tbl j e in
      let (tu, tc) = and_yes (eqb (get_or st.used e 0) 0) (leb (count a ms) 1) tk in
      act_ind S H root tbl (InvSt g) j e ms st
      (λ c z. inv_use g st.marks st.used e h c i)
      (λ c z. refute_ind S H root tbl (InvSt g) j e ms (last_of ms 0) (rest_of S j ms (last_of ms 0) st) st (λ t. i) (λ t. i))
      (λ c. form_ind S H root tbl (InvSt g) j e ms (first_of a ms) (rest_of S j ms (first_of a ms) st) st
      (λ t. inv_store g st.marks st.used e h (omega (arith, leb-true (count a ms) 1 tc)) i) (λ t. i)))

  -- ---- enough turns

  abbrev unused : St → ℕ
  unused st = count (is_it 0) st.used

  -- a turn that takes an equation uses it up, or ends the repair
  uses : (st : St) (e : ℕ) (ms : List ℕ) → e < length st.used → eqb (get_or st.used e 0) 0 ≡ true
      → (going (act S H root j e ms st).end ≡ false) ⊎ (suc (unused (act S H root j e ms st)) ≡ unused st)
  unfolding use_eq store_sym write_fault write_twins going
  uses st e ms h t =
      let P : St → Type 0 = λ r. (going r.end ≡ false) ⊎ (suc (unused r) ≡ unused st) in
      let a : ℕ → Bool = absent_at S st.marks j in
      act_ind S H root tbl P j e ms st
      (λ c z. inr (count-used st.used e h t))
      (λ c z. refute_ind S H root tbl P j e ms (last_of ms 0) (rest_of S j ms (last_of ms 0) st) st (λ _. inl refl) (λ _. inl refl))
      (λ c. form_ind S H root tbl P j e ms (first_of a ms) (rest_of S j ms (first_of a ms) st) st (λ _. inr (count-used st.used e h t)) (λ _. inl refl))

  abbrev pub NoTake : St → Type 0
  NoTake st = (e : ℕ) → e < length (layer_of tbl j) → takeable S tbl j st e ≡ false

  -- none can be taken where no turn is
  no_take : (st : St) → takes S H root tbl j st ≡ false → going st.end ≡ true → NoTake st
  no_take st t g e h =
      let lo : length (layer_of tbl j) ≤ lowest_eq S tbl j st =
      ⊎_elim (λ n. both g n) (λ n. ltb-false _ _ n) (and_no (going st.end) (ltb (lowest_eq S tbl j st) (length (layer_of tbl j))) t) in
      (lowest_eq-is S H root tbl j st).before e (omega arith) (omega arith)

  -- after as many turns as there are unused equations none can be taken
  pub settled : (g : ℕ → Bool) (f : ℕ) (st : St) → InvSt g st → unused st ≤ f → going (peel S H root tbl j f st).end ≡ true → NoTake (peel S H root tbl j f st)
  unfolding peel takeable
  settled g zero st i u ge = λ e h. ap (λ (b : Bool). b && leb (count (absent_at S st.marks j) (equation_of tbl j e)) 1) (all-used st.used e (omega (arith, i.listed)) (omega arith))
  settled g (suc f) st i u ge =
      step_ind S H root tbl (λ (r : St). InvSt g r → going (peel S H root tbl j f r).end ≡ true → NoTake (peel S H root tbl j f r)) j st
      (λ t i' ge'.
      let same-st : peel S H root tbl j f st ≡ st = idle S H root tbl j f st t in
      subst NoTake (sym same-st) (no_take st t (sym (ap (λ (r : St). going r.end) same-st) ∙ ge')))
      (λ e h tk lo gg i' ge'.
      let r : St = act S H root j e (equation_of tbl j e) st in
      ⊎_elim
      (λ stop. both ge' (ap (λ (z : St). going z.end) (idle S H root tbl j f r (ap (λ (b : Bool). b && ltb (lowest_eq S tbl j r) (length (layer_of tbl j))) stop)) ∙ stop))
      (λ less. settled g f r i' (omega arith) ge')
      (uses st e (equation_of tbl j e) (omega (arith, i.listed)) (and_yes (eqb (get_or st.used e 0) 0) (leb (count (absent_at S st.marks j) (equation_of tbl j e)) 1) tk).0))
      (inv_step g st i) ge

  -- the gaps of the layer satisfy the invariant when its peeling begins
  pub inv_start : (st : St) → ((x : ℕ) → x < S.n j → place S j x < length st.marks) → length st.used ≡ length (layer_of tbl j)
      → ((e : ℕ) → e < length (layer_of tbl j) → eqb (get_or st.used e 0) 0 ≡ true) → InvSt (absent_at S st.marks j) st
  inv_start st r l z =
      record { roomy = r; listed = l; done = λ e h t. both (z e h) t; inside = λ x t. t; largest = λ s w n x t. w x t }
