-- The peeling of a layer keeps what is promised of each end.
use mathlib.Core.Path.{◌≡◌, refl, sym, ap, ap₂, ◌∙◌, subst}
use mathlib.Core.Logic.{inl, inr, ⊎_elim, ◌≢◌}
use mathlib.Core.Bool.{Bool, true, false, not, ◌&&◌, false≢true, true≢false}
use mathlib.Core.List.{List, ◌++◌, append_assoc}
use Prim.Native.Nat.{ℕ, zero, suc, ◌≤◌, ◌<◌}
use native.Mathlib.Omega.{arith}
use lib.ListN.{length, get_or, take, drop, length-append}
use lib.Seq.{take-append_seam, drop-append_seam, take_at, drop_at}
use lib.Dec.{leb, ltb, eqb}
use borrow.Author.Tests.{ltb-true, leb-true, leb-false}
use Rattle.parity_table.specs.Members.{every, last_of}
use Rattle.parity_table.specs.Table.{layer_of, equation_of}
use Rattle.parity_table.specs.Parse.{over}
use Rattle.octets.proofs.Choice.{and_yes, not_yes}
use Rattle.model.specs.Shape.{Shape, ShapeOk}
use Rattle.octets.specs.ByteLists.{xors}
use Rattle.model.specs.Symbols.{symbol_in, xor_of, zeros, others, count, first_of, committed, sym_at}
use Rattle.model.specs.Fault.{proof_bytes, verdict}
use Rattle.model.specs.Repair.{End, working, whole, fault, unavailable, twins, going, St, use_eq, write_fault, write_twins, absent_at, store_sym, fits_at, takeable, rest_of, step, peel}
use Rattle.model.specs.Ends.{Roomy, PeeledAll, Always, Passed, Taken, EndOk}
use Rattle.model.specs.Alike.{kind_of}
use Rattle.model.specs.Finals.{Grown, Unfit, LastLayer}
use Rattle.octets.proofs.SameLaws.{same_yes, same_no}
use Rattle.model.proofs.Bytes.{sym_self}
use Rattle.model.proofs.Members.{length-xor_of}
use Rattle.model.proofs.Counts.{and_no, is_it, every-others, every-member, ascending_once, xor_of-others, none-absent, others-held, every_both, last-member, first_member}
use Rattle.model.proofs.Tables.{TableLaws}
use Rattle.model.proofs.FaultWriter.{GoodProof, proof_good}
use Rattle.model.proofs.Steps.{act_ind, form_ind, refute_ind, step_ind}
use Rattle.model.proofs.Storing.{Mid, grown_mid, mid_use, mid_store, peeled_store}
use Rattle.model.proofs.Frame.{symbol-sized}

-- a stop: what always holds, the end's own promise, and what makes it a final state
pub record Stop (S : Shape) (H : ℕ → ℕ → List ℕ → List ℕ) (root : List ℕ) (tbl : List (List (List ℕ))) (t₀ m₀ o₀ : List ℕ) (st : St) (en : End) : Type 0 where
  pub always : Always S H root tbl t₀ m₀ st.tree st.marks st.stored st.entered
  pub ends : EndOk S H root tbl t₀ m₀ o₀ st en
  pub grown : (l : ℕ) → suc l ≡ st.entered → Grown S H root tbl t₀ m₀ st.tree st.marks l
  pub last : LastLayer S H root tbl st (kind_of en)

-- the member that is withheld is one of its equation
pub taken-member : (S : Shape) (H : ℕ → ℕ → List ℕ → List ℕ) (root : List ℕ) (tbl : List (List (List ℕ))) → TableLaws S tbl → (t m : List ℕ) (j e x : ℕ) → j < length tbl
    → Taken S H root tbl t m j e x → 1 ≤ count (is_it x) (equation_of tbl j e)
taken-member S H root tbl ok t m j e x hj took =
    let ms : List ℕ = equation_of tbl j e in
    ⊎_elim (λ one. rw one.1 (first_member (absent_at S m j) ms (omega (arith, one.0)))) (λ none. rw none.1 (last-member ms 0 (ok.some-member j e hj took.in_table))) took.withheld

-- a repair goes on with G, or has stopped with T of its end; it isn't whole before the last layer
abbrev pub Goes : Type 0 → (End → Type 0) → End → Type 0
Goes G T working = G
Goes G T whole = ⊥
Goes G T (fault l e x n) = T (fault l e x n)
Goes G T (unavailable l) = T (unavailable l)
Goes G T (twins l x) = T (twins l x)

module _ (G : Type 0) (T : End → Type 0) where
  pub goes_on_lem : (z : End) → going z ≡ true → Goes G T z → G
  unfolding going
  goes_on_lem working g s = s
  goes_on_lem whole g s = absurd s
  goes_on_lem (fault l e x n) g s = absurd (false≢true g)
  goes_on_lem (unavailable l) g s = absurd (false≢true g)
  goes_on_lem (twins l x) g s = absurd (false≢true g)

  pub has_stopped : (z : End) → going z ≡ false → Goes G T z → T z
  unfolding going
  has_stopped working g s = absurd (true≢false g)
  has_stopped whole g s = absurd s
  has_stopped (fault l e x n) g s = s
  has_stopped (unavailable l) g s = s
  has_stopped (twins l x) g s = s

  -- a stop is one whatever it would go on with
  pub stays_stopped : (F : Type 0) (z : End) → going z ≡ false → Goes G T z → Goes F T z
  unfolding going
  stays_stopped F working g s = absurd (true≢false g)
  stays_stopped F whole g s = s
  stays_stopped F (fault l e x n) g s = s
  stays_stopped F (unavailable l) g s = s
  stays_stopped F (twins l x) g s = s

module _ (S : Shape) (sh : ShapeOk S) (H : ℕ → ℕ → List ℕ → List ℕ) (root : List ℕ) (tbl : List (List (List ℕ))) (ok : TableLaws S tbl) (t₀ m₀ o₀ : List ℕ) (ho : Roomy tbl o₀)
    (j : ℕ) (hj : j < length tbl) (m₁ : List ℕ) where
  abbrev MidSt : St → Type 0
  MidSt st = Mid S sh H root tbl ok t₀ m₀ o₀ ho j hj m₁ st

  abbrev pub Stage : St → End → Type 0
  Stage st z = Goes (MidSt st) (Stop S H root tbl t₀ m₀ o₀ st) z

  abbrev pub StageSt : St → Type 0
  StageSt st = Stage st st.end

  pub mid_of : (st : St) (z : End) → going z ≡ true → Stage st z → MidSt st
  mid_of st = goes_on_lem (MidSt st) (Stop S H root tbl t₀ m₀ o₀ st)

  -- ---- stops

  pub always_at : (st : St) → MidSt st → Always S H root tbl t₀ m₀ st.tree st.marks st.stored st.entered
  always_at st i = subst (λ (d : ℕ). Always S H root tbl t₀ m₀ st.tree st.marks st.stored d) (sym i.last) i.always

  full_at : (st : St) → MidSt st → (l y : ℕ) → l ≤ j → y < S.n l → length (sym_at S st.tree l y) ≡ 256
  full_at st i l y h hy = symbol-sized S tbl st.tree st.marks i.always.sized l y (omega arith) hy

  -- no equation below the one that is taken could be taken
  pub passed-lower : (st : St) → MidSt st → (q : ℕ) → q < length (layer_of tbl j) → takeable S tbl j st q ≡ false → Passed S tbl st.tree j (absent_at S st.marks j) q
  unfolding takeable
  passed-lower st i q h t =
      let a : ℕ → Bool = absent_at S st.marks j in
      ⊎_elim (λ u. inl (i.inv.done q h u, i.used-holds q h u)) (λ u. inr (omega (arith, leb-false (count a (equation_of tbl j q)) 1 u)))
      (and_no (eqb (get_or st.used q 0) 0) (leb (count a (equation_of tbl j q)) 1) t)

  stop_fault : (st : St) → MidSt st → (e x : ℕ) → Taken S H root tbl st.tree st.marks j e x
      → every (λ y. not (absent_at S st.marks j y)) (others x (equation_of tbl j e)) ≡ true
      → Unfit S H root tbl st.tree j (equation_of tbl j e) x
      → StageSt (write_fault j e x (proof_bytes S (sym_at S st.tree) j e x (equation_of tbl j e)) st)
  unfolding write_fault
  stop_fault st i e x took good unfit =
      let he : e < length (layer_of tbl j) = took.in_table in
      let mem : 1 ≤ count (is_it x) (equation_of tbl j e) = taken-member S H root tbl ok st.tree st.marks j e x hj took in
      let ms : List ℕ = equation_of tbl j e in
      let a : ℕ → Bool = absent_at S st.marks j in
      let p : List ℕ = proof_bytes S (sym_at S st.tree) j e x ms in
      let g : GoodProof S H root tbl j e x p =
      proof_good S sh (sym_at S st.tree) j (full_at st i) H root (λ l y h hy. (i.always.above l (omega arith)).hashed y hy) tbl ok hj e x he mem
      (λ y. not (a y) && ltb y (S.n j))
      (every_both (λ y. not (a y)) (λ y. ltb y (S.n j)) (others x ms) good (every-others (λ y. ltb y (S.n j)) x ms (ok.within j e hj he)))
      (λ y b. ltb-true y (S.n j) (and_yes (not (a y)) (ltb y (S.n j)) b).1)
      (λ y b. let (b₁, b₂) = and_yes (not (a y)) (ltb y (S.n j)) b in i.always.held j y (omega arith) (ltb-true y (S.n j) b₂) (not_yes (a y) b₁))
      unfit in
      let front : take (length p) (over p st.out) ≡ p = take-append_seam p (drop (length p) st.out) in
      record {
        always = always_at st i;
        ends = record {
          last = i.last;
          taken = took;
          proof = front;
          room = omega (arith, g.sized, ho.proofs j e hj he);
          sized = ap length front;
          accepts = ap (verdict S H root tbl) front ∙ g.accepts;
          out-rest = drop-append_seam p (drop (length p) st.out) ∙ ap (drop (length p)) i.out-kept;
        };
        grown = grown_mid S sh H root tbl ok t₀ m₀ o₀ ho j hj m₁ st i;
        last = (
          i.last,
          record {
            equation = e;
            in_table = he;
            fails = ⊎_elim (λ one. inr (one.0, subst (Unfit S H root tbl st.tree j ms) one.1 unfit)) (λ none. inl (none.0, none.2)) took.withheld;
          },
        );
      }

  stop_twins : (st : St) → MidSt st → (e x : ℕ) → Taken S H root tbl st.tree st.marks j e x
      → count (absent_at S st.marks j) (equation_of tbl j e) ≡ 0
      → xor_of (sym_at S st.tree j) (equation_of tbl j e) ≢ zeros
      → H j x (xor_of (sym_at S st.tree j) (others x (equation_of tbl j e))) ≡ committed S root (sym_at S st.tree) j x
      → StageSt (write_twins j x (sym_at S st.tree j x) (xor_of (sym_at S st.tree j) (others x (equation_of tbl j e))) st)
  unfolding write_twins symbol_in
  stop_twins st i e x took c bad fit =
      let he : e < length (layer_of tbl j) = took.in_table in
      let mem : 1 ≤ count (is_it x) (equation_of tbl j e) = taken-member S H root tbl ok st.tree st.marks j e x hj took in
      let ms : List ℕ = equation_of tbl j e in
      let a : ℕ → Bool = absent_at S st.marks j in
      let s : List ℕ = sym_at S st.tree j x in
      let v : List ℕ = xor_of (sym_at S st.tree j) (others x ms) in
      let once : count (is_it x) ms ≡ 1 = omega (arith, ascending_once x ms (ok.ascend j e hj he)) in
      let below : x < S.n j = ltb-true x (S.n j) (every-member (λ y. ltb y (S.n j)) x ms (ok.within j e hj he) mem) in
      let is_held : a x ≡ false = not_yes (a x) (every-member (λ y. not (a y)) x ms (none-absent a ms c) mem) in
      let ls : length s ≡ 256 = full_at st i j x (omega arith) below in
      let lv : length v ≡ 256 =
      length-xor_of (sym_at S st.tree j) (S.n j) (λ y l. full_at st i j y (omega arith) l) (others x ms) (every-others (λ y. ltb y (S.n j)) x ms (ok.within j e hj he)) in
      let both-length : length (s ++ v) ≡ 512 = omega (arith, length-append s v) in
      let rest : List ℕ = drop (length (s ++ v)) st.out in
      let split : (s ++ v) ++ rest ≡ s ++ (v ++ rest) = append_assoc s v rest in
      let first : take 256 (drop 0 ((s ++ v) ++ rest)) ≡ s = ap (take 256) split ∙ take_at s (v ++ rest) 256 ls in
      let second : take 256 (drop 256 ((s ++ v) ++ rest)) ≡ v = ap (λ (l : List ℕ). take 256 (drop 256 l)) split ∙ ap (take 256) (drop_at s (v ++ rest) 256 ls) ∙ take_at v rest 256 lv in
      record {
        always = always_at st i;
        ends = record {
          last = i.last;
          equation = e;
          taken = took;
          complete = c;
          in_layer_lem = below;
          marked = is_held;
          room = ho.twins;
          sized = (ap length first ∙ ls, ap length second ∙ lv);
          first-is = first;
          second_is = second;
          differ = λ q. bad (xor_of-others (sym_at S st.tree j) x ms once ∙ ap (xors s) (sym (sym first ∙ q ∙ second)) ∙ sym_self s ls);
          hash-first = ap (H j x) first ∙ i.always.held j x (omega arith) below is_held;
          hash-second = ap (H j x) second ∙ fit;
          out-rest = drop_at (s ++ v) rest 512 both-length ∙ ap₂ (λ (n : ℕ) (o : List ℕ). drop n o) both-length i.out-kept;
        };
        grown = grown_mid S sh H root tbl ok t₀ m₀ o₀ ho j hj m₁ st i;
        last = (i.last, record { equation = e; in_table = he; fails = inl (c, bad) });
      }

  -- ---- a turn, and all turns

  stage_step : (st : St) → StageSt st → StageSt (step S H root tbl j st)
  unfolding takeable fits_at rest_of use_eq store_sym
  stage_step st s =
      step_ind S H root tbl StageSt j st (λ t. s)
      (λ e he tk lo g.
      let i : MidSt st = mid_of st st.end g s in
      let low : (q : ℕ) → q < e → Passed S tbl st.tree j (absent_at S st.marks j) q = λ q l. passed-lower st i q (omega arith) (lo q l) in
      let a : ℕ → Bool = absent_at S st.marks j in
      let ms : List ℕ = equation_of tbl j e in
      let few : count a ms ≤ 1 = leb-true (count a ms) 1 (and_yes (eqb (get_or st.used e 0) 0) (leb (count a ms) 1) tk).1 in
      act_ind S H root tbl StageSt j e ms st
      (λ c z. mid_use S sh H root tbl ok t₀ m₀ o₀ ho j hj m₁ st e he c z i)
      (λ c bad.
      let x : ℕ = last_of ms 0 in
      let took : Taken S H root tbl st.tree st.marks j e x = record { in_table = he; lower = low; withheld = inr (c, refl, bad) } in
      refute_ind S H root tbl StageSt j e ms x (rest_of S j ms x st) st
      (λ t. stop_twins st i e x took c bad (same_yes _ _ t))
      (λ t. stop_fault st i e x took (every-others (λ y. not (a y)) x ms (none-absent a ms c)) (same_no t)))
      (λ pos.
      let x : ℕ = first_of a ms in
      let one : count a ms ≡ 1 = omega arith in
      form_ind S H root tbl StageSt j e ms x (rest_of S j ms x st) st
      (λ t. mid_store S sh H root tbl ok t₀ m₀ o₀ ho j hj m₁ st i e he one (same_yes _ _ t))
      (λ t.
      stop_fault st i e x (record { in_table = he; lower = low; withheld = inl (one, refl) }) (others-held a x ms one refl) (same_no t))))

  pub stage_peel : (f : ℕ) (st : St) → StageSt st → StageSt (peel S H root tbl j f st)
  unfolding peel
  stage_peel zero st s = s
  stage_peel (suc f) st s = stage_peel f (step S H root tbl j st) (stage_step st s)

  -- ---- how the layers were peeled

  abbrev PeeledSt : St → Type 0
  PeeledSt st = PeeledAll S H root tbl t₀ m₀ st

  peeled-step : (st : St) → StageSt st → PeeledSt st → PeeledSt (step S H root tbl j st)
  unfolding takeable fits_at rest_of use_eq store_sym write_fault write_twins
  peeled-step st s p =
      step_ind S H root tbl PeeledSt j st (λ t. p)
      (λ e he tk lo g.
      let i : MidSt st = mid_of st st.end g s in
      let a : ℕ → Bool = absent_at S st.marks j in
      let ms : List ℕ = equation_of tbl j e in
      let few : count a ms ≤ 1 = leb-true (count a ms) 1 (and_yes (eqb (get_or st.used e 0) 0) (leb (count a ms) 1) tk).1 in
      act_ind S H root tbl PeeledSt j e ms st (λ c z. p)
      (λ c bad. refute_ind S H root tbl PeeledSt j e ms (last_of ms 0) (rest_of S j ms (last_of ms 0) st) st (λ t. p) (λ t. p))
      (λ pos.
      let x : ℕ = first_of a ms in
      form_ind S H root tbl PeeledSt j e ms x (rest_of S j ms x st) st
      (λ t. peeled_store S sh H root tbl ok t₀ m₀ o₀ ho j hj m₁ st i e he (omega arith) (same_yes _ _ t) (λ q l. passed-lower st i q (omega arith) (lo q l)) p)
      (λ t. p)))

  pub peeled-peel : (f : ℕ) (st : St) → StageSt st → PeeledSt st → PeeledSt (peel S H root tbl j f st)
  unfolding peel
  peeled-peel zero st s p = p
  peeled-peel (suc f) st s p = peeled-peel f (step S H root tbl j st) (stage_step st s) (peeled-step st s p)
