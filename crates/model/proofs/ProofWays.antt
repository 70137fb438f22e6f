-- The ways of a proof, one after another: what their check says, and that no other answer says it.
use mathlib.Core.Path.{◌≡◌, refl, sym, ap, ap₂, ◌∙◌, subst}
use mathlib.Core.Logic.{◌⊎◌, inl, inr, ⊎_elim}
use mathlib.Core.List.{List, [], ◌∷◌}
use Prim.Native.Nat.{ℕ, zero, suc, ◌+◌, ◌*◌, ◌%◌, ◌≤◌, ◌<◌}
use native.Mathlib.Omega.{arith}
use lib.ListN.{length, get_or, drop}
use Rattle.model.specs.Shape.{Shape}
use Rattle.model.specs.Climb.{Climb, leads, breaks, Ways, all_lead, break_at, first_break}
use Rattle.model.specs.Fault.{next, way_check, path_check, ways_check}
use Rattle.model.proofs.Ways.{next_at, way_breaks}

-- the first, or one after it
first_or : (P : ℕ → Type 0) (q : ℕ) → P 0 → ((r : ℕ) → q ≡ suc r → P (suc r)) → P q
first_or P zero a b = a
first_or P (suc r) a b = b r refl

-- ---- the ways of a proof of layer j that withholds x: those of the given members ys, which stand in b from byte `from` on, then the withheld one's path

module _ (S : Shape) (H : ℕ → ℕ → List ℕ → List ℕ) (root b : List ℕ) (j x : ℕ) where
  abbrev pub given_way : List ℕ → ℕ → ℕ → Climb
  given_way ys from q = way_check S H root j (get_or ys q 0) (drop (from + 256 * (q * suc j)) b)

  abbrev pub last_way : List ℕ → ℕ → Climb
  last_way ys from = path_check S H root j x (drop (from + 256 * (length ys * suc j)) b)

  pub record EachLeads (ys : List ℕ) (from : ℕ) : Type 0 where
    pub given : (q : ℕ) → q < length ys → given_way ys from q ≡ leads
    pub path : last_way ys from ≡ leads

  -- the way at position q breaks at layer l, the withheld one counting last, and those before it lead
  pub record FirstBreaks (ys : List ℕ) (from l q : ℕ) : Type 0 where
    pub before : (r : ℕ) → r < q → given_way ys from r ≡ leads
    pub here : ((q < length ys) × (given_way ys from q ≡ breaks l)) ⊎ ((q ≡ length ys) × (last_way ys from ≡ breaks l))

  -- what an answer says, positions counting from n
  abbrev pub WaysSay : List ℕ → ℕ → ℕ → Ways → Type 0
  WaysSay ys from n all_lead = EachLeads ys from
  WaysSay ys from n (break_at l p) = (q : ℕ) × (p ≡ n + q) × FirstBreaks ys from l q

  -- the way of member q+1 is that of member q of those after the first
  way_later : (y : ℕ) (ys : List ℕ) (from q : ℕ) → given_way ys (from + 256 * (j + 1)) q ≡ given_way (y ∷ ys) from (suc q)
  way_later y ys from q =
      let e : from + 256 * (j + 1) + 256 * (q * suc j) ≡ from + 256 * (suc q * suc j) = omega arith in
      ap (λ (o : ℕ). way_check S H root j (get_or ys q 0) (drop o b)) e

  last_later : (y : ℕ) (ys : List ℕ) (from : ℕ) → last_way ys (from + 256 * (j + 1)) ≡ last_way (y ∷ ys) from
  last_later y ys from =
      let e : from + 256 * (j + 1) + 256 * (length ys * suc j) ≡ from + 256 * (suc (length ys) * suc j) = omega arith in
      ap (λ (o : ℕ). path_check S H root j x (drop o b)) e

  way_first : (y : ℕ) (ys : List ℕ) (from : ℕ) → way_check S H root j y (drop from b) ≡ given_way (y ∷ ys) from 0
  way_first y ys from = let e : from ≡ from + 256 * (0 * suc j) = omega arith in ap (λ (o : ℕ). way_check S H root j y (drop o b)) e

  last_there : (from : ℕ) → last_way [] from ≡ path_check S H root j x (drop from b)
  last_there from = let e : from + 256 * (0 * suc j) ≡ from = omega arith in ap (λ (o : ℕ). path_check S H root j x (drop o b)) e

  -- one way more in front, which leads
  ways_more : (y : ℕ) (ys : List ℕ) (from n : ℕ) (w : Ways) → way_check S H root j y (drop from b) ≡ leads → WaysSay ys (from + 256 * (j + 1)) (suc n) w
      → WaysSay (y ∷ ys) from n w
  ways_more y ys from n all_lead e s =
      record {
        given = λ q h. first_or (λ r. given_way (y ∷ ys) from r ≡ leads) q (sym (way_first y ys from) ∙ e) (λ r z. sym (way_later y ys from r) ∙ s.given r (omega arith));
        path = sym (last_later y ys from) ∙ s.path;
      }
  ways_more y ys from n (break_at l p) e (q, at, s) = (
    suc q,
    omega arith,
    record {
      before = λ r h. first_or (λ r. given_way (y ∷ ys) from r ≡ leads) r (sym (way_first y ys from) ∙ e) (λ u z. sym (way_later y ys from u) ∙ s.before u (omega arith));
      here = ⊎_elim (λ (h, k). inl (omega arith, sym (way_later y ys from q) ∙ k)) (λ (h, k). inr (ap suc h, sym (last_later y ys from) ∙ k)) s.here;
    },
  )

  -- one that breaks
  ways_here : (y : ℕ) (ys : List ℕ) (from n l : ℕ) → way_check S H root j y (drop from b) ≡ breaks l → WaysSay (y ∷ ys) from n (break_at l n)
  ways_here y ys from n l e = (0, omega arith, record { before = λ r h. absurd (omega arith); here = inl (omega arith, sym (way_first y ys from) ∙ e) })

  -- the way at position n, before those that come to `later`
  ways_from : (y : ℕ) (ys : List ℕ) (from n : ℕ) (later : Ways) (c : Climb) → way_check S H root j y (drop from b) ≡ c
      → WaysSay ys (from + 256 * (j + 1)) (suc n) later → WaysSay (y ∷ ys) from n (first_break n c later)
  unfolding first_break
  ways_from y ys from n later leads e rest = ways_more y ys from n later e rest
  ways_from y ys from n later (breaks l) e rest = ways_here y ys from n l e

  -- the last one
  ways_last : (from n : ℕ) (c : Climb) → path_check S H root j x (drop from b) ≡ c → WaysSay [] from n (first_break n c all_lead)
  unfolding first_break
  ways_last from n leads e = record { given = λ q h. absurd (omega arith); path = last_there from ∙ e }
  ways_last from n (breaks l) e = (0, omega arith, record { before = λ r h. absurd (omega arith); here = inr (refl, last_there from ∙ e) })

  pub ways_say : (ys : List ℕ) (from n : ℕ) → WaysSay ys from n (ways_check S H root j x n ys (drop from b))
  unfolding ways_check
  ways_say [] from n = ways_last from n (path_check S H root j x (drop from b)) refl
  ways_say (y ∷ ys) from n =
      let to : ℕ = from + 256 * (j + 1) in
      ways_from y ys from n (ways_check S H root j x (suc n) ys (next j (drop from b))) (way_check S H root j y (drop from b)) refl
      (subst (λ (c : List ℕ). WaysSay ys to (suc n) (ways_check S H root j x (suc n) ys c)) (sym (next_at b j from)) (ways_say ys to (suc n)))

  -- a path of layer j breaks above it
  path-layer : (i : ℕ) (c : List ℕ) (m l : ℕ) → path_check S H root m i c ≡ breaks l → l ≤ m
  unfolding path_check
  path-layer i c zero l e = absurd (let z : ◌≡◌ {A = ℕ} 0 1 = cc in omega arith)
  path-layer i c (suc m) l e = omega (arith, (way_breaks S H root m (i % S.k m) c l e).layer)

  pub break_inside : (ys : List ℕ) (from n l p : ℕ) → ways_check S H root j x n ys (drop from b) ≡ break_at l p → (l ≤ j) × (p ≤ n + length ys)
  break_inside ys from n l p e =
      let (q, at, s) = subst (WaysSay ys from n) e (ways_say ys from n) in
      ⊎_elim (λ (h, k). ((way_breaks S H root j (get_or ys q 0) (drop (from + 256 * (q * suc j)) b) l k).layer, omega arith)) (λ (h, k). (path-layer x _ j l k, omega arith)) s.here

  -- ---- no other answer says so

  module _ (ys : List ℕ) (from : ℕ) where
    none-breaks : (l q : ℕ) → EachLeads ys from → FirstBreaks ys from l q → ⊥
    none-breaks l q a s =
        ⊎_elim (λ (h, k). let e = a.given q h in let z : ◌≡◌ {A = ℕ} 0 1 = cc in omega arith) (λ (h, k). let e = a.path in let z : ◌≡◌ {A = ℕ} 0 1 = cc in omega arith)
        s.here

    earlier : (l m q u : ℕ) → FirstBreaks ys from l q → FirstBreaks ys from m u → q < u → ⊥
    earlier l m q u s t h =
        ⊎_elim (λ (g, k). let e = t.before q h in let z : ◌≡◌ {A = ℕ} 0 1 = cc in omega arith)
        (λ (g, k). ⊎_elim (λ (f, i). omega arith) (λ (f, i). omega arith) t.here) s.here

    same-layer : (l m q u : ℕ) → FirstBreaks ys from l q → FirstBreaks ys from m u → q ≡ u → l ≡ m
    same-layer l m q u s t e =
        ⊎_elim (λ (g, k). ⊎_elim (λ (f, i). cc) (λ (f, i). absurd (omega arith)) t.here)
        (λ (g, k). ⊎_elim (λ (f, i). absurd (omega arith)) (λ (f, i). cc) t.here) s.here

    ways_one : (n : ℕ) (w v : Ways) → WaysSay ys from n w → WaysSay ys from n v → w ≡ v
    ways_one n all_lead all_lead s t = refl
    ways_one n all_lead (break_at l p) a (q, e, s) = absurd (none-breaks l q a s)
    ways_one n (break_at l p) all_lead (q, e, s) a = absurd (none-breaks l q a s)
    ways_one n (break_at l p) (break_at m r) (q, e, s) (u, f, t) =
        let at : q ≡ u = omega (arith, earlier l m q u s t, earlier m l u q t s) in
        ap₂ break_at (same-layer l m q u s t at) (omega arith)

    -- what is so is what the check says
    pub ways_are : (n : ℕ) (w : Ways) → WaysSay ys from n w → ways_check S H root j x n ys (drop from b) ≡ w
    ways_are n w s = ways_one n (ways_check S H root j x n ys (drop from b)) w (ways_say ys from n) s
