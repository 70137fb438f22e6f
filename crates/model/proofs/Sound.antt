-- The checker is sound: an accepted fault proof and a correctly coded tree that agrees hold, at one layer and number, two different symbols of
-- equal hash.
use mathlib.Core.Path.{◌≡◌, refl, sym, ap, ap₂, ◌∙◌, subst}
use mathlib.Core.Logic.{◌⊎◌, inl, inr, ⊎_elim}
use mathlib.Core.Bool.{Bool, true, false, not, ◌&&◌}
use mathlib.Core.List.{List, [], ◌∷◌}
use Prim.Native.Nat.{ℕ, zero, suc, ◌-◌, ◌/◌, ◌%◌, ◌≤◌, ◌<◌}
use native.Mathlib.Omega.{arith}
use lib.ListN.{length}
use lib.Dec.{leb, ltb, eqb}
use borrow.Author.Tests.{ltb-true, leb-true, eqb-true}
use Rattle.octets.specs.Choice.{pick}
use Rattle.parity_table.specs.Members.{every}
use Rattle.parity_table.specs.Table.{layer_of, equation_of}
use Rattle.octets.proofs.Choice.{and_yes, both, not_no}
use Rattle.heads.specs.Heads.{kind_at}
use Rattle.model.specs.Shape.{Shape, ShapeOk}
use Rattle.octets.specs.ByteLists.{xors}
use Rattle.model.specs.Symbols.{symbol_in, xor_of, others, count, slot, committed}
use Rattle.model.specs.Coded.{Digests, InTree, Agrees, CollisionWith}
use Rattle.model.specs.Climb.{Climb, leads, breaks, Ways, all_lead, break_at, first_break}
use Rattle.model.specs.Fault.{reached, proof_layer, proof_equation, proof_withheld, proof_length, body, next, given_xor, after_given, proof_members, proof_given, layer_ok, equation_ok, member_ok, head_ok, Verdict, accepted, wrong_head, wrong_length, broken, no_fault, ruling, way_check, path_check, ways_check, path_hash, proof_check, withheld_fits, verdict, InWay, InGiven, InPath, ProofHolds}
use Rattle.octets.proofs.SameLaws.{yes_same}
use Rattle.model.proofs.Bytes.{sym_cancel}
use Rattle.model.proofs.Members.{length-xor_of}
use Rattle.model.proofs.Counts.{is_it, ascending_once, xor_of-others, every-others, every-member}
use Rattle.model.proofs.Shapes.{up_lt, committed-same}
use Rattle.model.proofs.Tables.{TableLaws}
use Rattle.model.proofs.Binding.{same_or_collide, hashes}
use Rattle.model.proofs.Ways.{reached_up, reached_lt, WayFit, way_fits_lem}
use Rattle.model.proofs.ProofWays.{break_inside}

-- ---- the tests that a proof has passed which is accepted, or is broken

-- a test that turns away did not
picked : (b : Bool) (v w u : Verdict) → (v ≡ u → ◌≡◌ {A = ℕ} 0 1) → pick b v w ≡ u → (b ≡ false) × (w ≡ u)
unfolding pick
picked true v w u n e = absurd (omega (arith, n e))
picked false v w u n e = (refl, e)

ruled : (w : Ways) (b : Bool) → ruling w b ≡ accepted → (w ≡ all_lead) × (b ≡ false)
unfolding ruling
ruled all_lead b e = (refl, (picked b no_fault accepted accepted (λ z. cc) e).0)
ruled (break_at l p) b e = absurd (let z : ◌≡◌ {A = ℕ} 0 1 = cc in omega arith)

ruled-broken : (w : Ways) (b : Bool) (l p : ℕ) → ruling w b ≡ broken l p → w ≡ break_at l p
unfolding ruling pick
ruled-broken all_lead true l p e = absurd (let z : ◌≡◌ {A = ℕ} 0 1 = cc in omega arith)
ruled-broken all_lead false l p e = absurd (let z : ◌≡◌ {A = ℕ} 0 1 = cc in omega arith)
ruled-broken (break_at m q) b l p e = cc

both_lead : (p : ℕ) (c : Climb) (w : Ways) → first_break p c w ≡ all_lead → (c ≡ leads) × (w ≡ all_lead)
unfolding first_break
both_lead p leads w e = (refl, e)
both_lead p (breaks l) w e = absurd (let z : ◌≡◌ {A = ℕ} 0 1 = cc in omega arith)

-- what the head names, where it passes
pub record Named (tbl : List (List (List ℕ))) (b : List ℕ) : Type 0 where
  pub layer_ok_lem : proof_layer b < length tbl
  pub equation_ok_lem : proof_equation b < length (layer_of tbl (proof_layer b))
  pub member_ok_lem : 1 ≤ count (is_it (proof_withheld b)) (proof_members tbl b)

pub head_names : (tbl : List (List (List ℕ))) (b : List ℕ) → head_ok tbl b ≡ true → Named tbl b
unfolding head_ok layer_ok equation_ok member_ok
head_names tbl b t =
    let (h₁, h') = and_yes (layer_ok tbl b) (equation_ok tbl b && member_ok tbl b) t in
    let (h₂, h₃) = and_yes (equation_ok tbl b) (member_ok tbl b) h' in
    record {
      layer_ok_lem = ltb-true _ _ (and_yes (eqb (kind_at b 0) 1) (ltb (proof_layer b) (length tbl)) h₁).1;
      equation_ok_lem = ltb-true _ _ (and_yes (eqb (kind_at b 1) 2) (ltb (proof_equation b) (length (layer_of tbl (proof_layer b)))) h₂).1;
      member_ok_lem = leb-true _ _ (and_yes (eqb (kind_at b 2) 3) (leb 1 (count (is_it (proof_withheld b)) (proof_members tbl b))) h₃).1;
    }

module _ (S : Shape) (H : ℕ → ℕ → List ℕ → List ℕ) (root : List ℕ) (tbl : List (List (List ℕ))) where
  pub record Accepted (b : List ℕ) : Type 0 where
    pub named : Named tbl b
    pub exact : length b ≡ proof_length (proof_layer b) (length (proof_members tbl b))
    pub lead : ways_check S H root (proof_layer b) (proof_withheld b) 0 (proof_given tbl b) (body b) ≡ all_lead
    pub unfit : withheld_fits S H root tbl b ≡ false

  -- tests 6 and 2: what is left is the ruling
  record Formed (b : List ℕ) (v : Verdict) : Type 0 where
    named : Named tbl b
    exact : length b ≡ proof_length (proof_layer b) (length (proof_members tbl b))
    by_ruling : ruling (proof_check S H root tbl b) (withheld_fits S H root tbl b) ≡ v

  formed : (b : List ℕ) (v : Verdict) → (wrong_head ≡ v → ◌≡◌ {A = ℕ} 0 1) → (wrong_length ≡ v → ◌≡◌ {A = ℕ} 0 1) → verdict S H root tbl b ≡ v → Formed b v
  unfolding verdict
  formed b v no-head no_length e =
      let (a₁, e₁) = picked (not (head_ok tbl b)) wrong_head _ v no-head e in
      let (a₂, e₂) = picked (not (eqb (length b) (proof_length (proof_layer b) (length (proof_members tbl b))))) wrong_length _ v no_length e₁ in
      record {
        named = head_names tbl b (not_no (head_ok tbl b) a₁);
        exact = eqb-true _ _ (not_no (eqb (length b) (proof_length (proof_layer b) (length (proof_members tbl b)))) a₂);
        by_ruling = e₂;
      }

  pub accepted-is : (b : List ℕ) → verdict S H root tbl b ≡ accepted → Accepted b
  unfolding proof_check
  accepted-is b e =
      let f = formed b accepted (λ z. cc) (λ z. cc) e in
      let (lead, unfit) = ruled (proof_check S H root tbl b) (withheld_fits S H root tbl b) f.by_ruling in
      record { named = f.named; exact = f.exact; lead = lead; unfit = unfit }

  -- where a broken proof breaks: at a layer of the way from its own up, and at the position of a given member or of the withheld one
  pub broken-inside : (b : List ℕ) (l p : ℕ) → verdict S H root tbl b ≡ broken l p → Named tbl b × (l ≤ proof_layer b) × (p ≤ length (proof_given tbl b))
  unfolding proof_check
  broken-inside b l p e =
      let f = formed b (broken l p) (λ z. cc) (λ z. cc) e in
      let w = ruled-broken (proof_check S H root tbl b) (withheld_fits S H root tbl b) l p f.by_ruling in
      let (x, y) = break_inside S H root (body b) (proof_layer b) (proof_withheld b) (proof_given tbl b) 0 0 l p w in
      (f.named, x, omega arith)

-- ---- soundness

module _ (S : Shape) (sh : ShapeOk S) (H : ℕ → ℕ → List ℕ → List ℕ) (digests : Digests H) (tbl : List (List (List ℕ))) (root : List ℕ)
    (f : ℕ → ℕ → List ℕ) (agr : Agrees S H tbl root f) where
  abbrev With : (ℕ → ℕ → List ℕ → Type 0) → Type 0
  With held = CollisionWith S H tbl held f

  held_too : (P Q : ℕ → ℕ → List ℕ → Type 0) → ((l m : ℕ) (s : List ℕ) → P l m s → Q l m s) → With P → With Q
  held_too P Q h w =
      record { layer = w.layer; number = w.number; symbol = w.symbol; is_held = h w.layer w.number w.symbol w.is_held; inside = w.inside; collide = w.collide }

  -- a way that leads to the root
  module _ (j i : ℕ) (c : List ℕ) (hj : j < length tbl) (hi : i < S.n j) (e : way_check S H root j i c ≡ leads) where
    -- its symbol at layer l is the tree's, where the one above is
    way_one : (l : ℕ) → l ≤ j → ((u : ℕ) → suc u ≡ l → symbol_in c (j - u) ≡ f u (reached S j i (j - l) % S.k u))
        → (symbol_in c (j - l) ≡ f l (reached S j i (j - l))) ⊎ With (InWay S j i c)
    unfolding InWay
    way_one l hl above =
        let m : ℕ = reached S j i (j - l) in
        let at : l ≡ j - (j - l) = omega arith in
        let inside : InTree S tbl l m = (omega arith, subst (λ (n : ℕ). m < S.n n) (sym at) (reached_lt S j i sh hi (j - l) (omega arith))) in
        let fit : WayFit S H root j i c (j - l) l m = subst (λ (n : ℕ). WayFit S H root j i c (j - l) n m) (sym at) (way_fits_lem S H root j i c e (j - l) (omega arith)) in
        ⊎_elim inl
        (λ x. inr (record { layer = l; number = m; symbol = symbol_in c (j - l); is_held = (j - l, omega arith, at, refl, refl); inside = inside; collide = x }))
        (same_or_collide H l m (symbol_in c (j - l)) (f l m)
        (fit ∙ committed-same S root (λ u i. symbol_in c (j - u)) f l m above ∙ sym (hashes S sh H digests tbl root f agr l m inside)))

    way_at : (l : ℕ) → l ≤ j → (symbol_in c (j - l) ≡ f l (reached S j i (j - l))) ⊎ With (InWay S j i c)
    way_at zero hl = way_one zero hl (λ u z. absurd (omega arith))
    way_at (suc l) hl =
        ⊎_elim
        (λ ih. way_one (suc l) hl (λ u z.
        let q : l ≡ u = omega arith in
        subst (λ (v : ℕ). symbol_in c (j - v) ≡ f v (reached S j i (j - suc l) % S.k v)) q (ih ∙ ap (f l) (sym (reached_up S j i l hl)))))
        inr (way_at l (omega arith))

    -- its first symbol is the tree's
    way_sound : (symbol_in c 0 ≡ f j i) ⊎ With (InWay S j i c)
    unfolding reached
    way_sound =
        let z : j - j ≡ 0 = omega arith in
        subst (λ (x : ℕ). (symbol_in c x ≡ f j (reached S j i x)) ⊎ With (InWay S j i c)) z (way_at j (omega arith))

  given_sound : (j x p : ℕ) (ys c : List ℕ) → j < length tbl → every (λ x. ltb x (S.n j)) ys ≡ true → ways_check S H root j x p ys c ≡ all_lead
      → (given_xor j ys c ≡ xor_of (f j) ys) ⊎ With (InGiven S j ys c)
  unfolding ways_check given_xor xor_of InGiven every
  given_sound j x p [] c h a t = inl refl
  given_sound j x p (y ∷ ys) c h a t =
      let (u, v) = and_yes (ltb y (S.n j)) (every (λ x. ltb x (S.n j)) ys) a in
      let (mine, rest) = both_lead p (way_check S H root j y c) (ways_check S H root j x (suc p) ys (next j c)) t in
      ⊎_elim
      (λ s. ⊎_elim (λ r. inl (ap₂ xors s r)) (λ w. inr (held_too (InGiven S j ys (next j c)) _ (λ l m s q. inr q) w)) (given_sound j x (suc p) ys (next j c) h v rest))
      (λ w. inr (held_too (InWay S j y c) _ (λ l m s q. inl q) w))
      (way_sound j y c h (ltb-true y (S.n j) u) mine)

  -- the withheld one's path is the last way
  last-leads : (j x p : ℕ) (ys c : List ℕ) → ways_check S H root j x p ys c ≡ all_lead → path_check S H root j x (after_given j ys c) ≡ leads
  unfolding ways_check after_given
  last-leads j x p [] c t = (both_lead p (path_check S H root j x c) all_lead t).0
  last-leads j x p (y ∷ ys) c t = last-leads j x (suc p) ys (next j c) (both_lead p (way_check S H root j y c) _ t).1

  path_sound : (j i : ℕ) (c : List ℕ) → j < length tbl → i < S.n j → path_check S H root j i c ≡ leads
      → (path_hash S root j i c ≡ committed S root f j i) ⊎ With (InPath S j i c)
  unfolding path_check path_hash committed InPath
  path_sound zero i c h k t = inl refl
  path_sound (suc j) i c h k t =
      ⊎_elim (λ s. inl (ap (λ (z : List ℕ). slot z (i / S.k j)) s)) inr (way_sound j (i % S.k j) c (omega arith) (up_lt S sh j i) t)

  module _ (ok : TableLaws S tbl) where
    -- a member of an equation is the exclusive-or of the others
    member_is : (j e x : ℕ) → j < length tbl → e < length (layer_of tbl j) → 1 ≤ count (is_it x) (equation_of tbl j e)
        → xor_of (f j) (others x (equation_of tbl j e)) ≡ f j x
    member_is j e x h k c =
        let within : every (λ y. ltb y (S.n j)) (equation_of tbl j e) ≡ true = ok.within j e h k in
        let once : count (is_it x) (equation_of tbl j e) ≡ 1 = omega (arith, ascending_once x (equation_of tbl j e) (ok.ascend j e h k)) in
        let below : x < S.n j = ltb-true x (S.n j) (every-member (λ y. ltb y (S.n j)) x (equation_of tbl j e) within c) in
        sym_cancel (f j x) (xor_of (f j) (others x (equation_of tbl j e))) (agr.coded.sized j x (h, below))
        (length-xor_of (f j) (S.n j) (λ y l. agr.coded.sized j y (h, l)) (others x (equation_of tbl j e)) (every-others _ x (equation_of tbl j e) within))
        (sym (xor_of-others (f j) x (equation_of tbl j e) once) ∙ agr.coded.holds j e h k)

    -- an accepted proof holds a symbol that collides with the tree's
    pub sound : (b : List ℕ) → verdict S H root tbl b ≡ accepted → With (ProofHolds S tbl b)
    unfolding ProofHolds withheld_fits proof_given proof_members
    sound b e =
        let a = accepted-is S H root tbl b e in
        let j : ℕ = proof_layer b in
        let ms : List ℕ = equation_of tbl j (proof_equation b) in
        let x : ℕ = proof_withheld b in
        let c : List ℕ = after_given j (others x ms) (body b) in
        let within : every (λ y. ltb y (S.n j)) ms ≡ true = ok.within j (proof_equation b) a.named.layer_ok_lem a.named.equation_ok_lem in
        let below : x < S.n j = ltb-true x (S.n j) (every-member (λ y. ltb y (S.n j)) x ms within a.named.member_ok_lem) in
        ⊎_elim
        (λ gx. ⊎_elim
        (λ v. both
        (yes_same (ap (H j x) (gx ∙ member_is j (proof_equation b) x a.named.layer_ok_lem a.named.equation_ok_lem a.named.member_ok_lem)
        ∙ hashes S sh H digests tbl root f agr j x (a.named.layer_ok_lem, below) ∙ sym v))
        a.unfit)
        (λ w. held_too (InPath S j x c) _ (λ l m s q. inr q) w)
        (path_sound j x c a.named.layer_ok_lem below (last-leads j x 0 (others x ms) (body b) a.lead)))
        (λ w. held_too (InGiven S j (others x ms) (body b)) _ (λ l m s q. inl q) w)
        (given_sound j x 0 (others x ms) (body b) a.named.layer_ok_lem (every-others _ x ms within) a.lead)
