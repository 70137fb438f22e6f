-- Where the symbols of a fault proof stand: the given members with their paths one after the other, then the withheld member's path.
use mathlib.Core.Path.{◌≡◌, refl, sym, ap, ap₂, ◌∙◌, subst}
use mathlib.Core.Logic.{inl, inr, ⊎_elim}
use mathlib.Core.List.{List, [], ◌∷◌}
use Prim.Native.Nat.{ℕ, zero, suc, ◌+◌, ◌-◌, ◌*◌, ◌%◌, ◌≤◌, ◌<◌}
use native.Mathlib.Omega.{arith}
use lib.ListN.{length, get_or, take, drop}
use lib.Seq.{drop-drop}
use Rattle.octets.proofs.ListLaws.{length_part}
use Rattle.model.specs.Shape.{tree}
use Rattle.model.specs.Symbols.{symbol_in, committed}
use Rattle.model.specs.Climb.{leads, breaks}
use Rattle.model.specs.Fault.{reached, next, given_xor, way_check, path_check, path_hash, InWay, InGiven, InPath}
use Rattle.model.proofs.Shapes.{committed-same}
use Rattle.model.proofs.Ways.{reached_past, next_at, path-committed, WayFit, way_fits_lem, fits_way, way_breaks, breaks_way}
use Rattle.guarantees.specs.Layouts.{bytes_from, hash_for, XorOf, up_from}
use Rattle.guarantees.specs.Trees.{Hasher}
use Rattle.guarantees.specs.FaultProofs.{given_symbol, withheld_symbol, BreaksAt, Up}
use Rattle.guarantees.proofs.Layouts.{hash_for_lem, up_from_lem, xor_none, xor_more}

-- ---- symbols

module _ (b : List ℕ) (j : ℕ) where
  -- what stands from given member number p on; where p members are given, the withheld one's path
  abbrev pub from_member : ℕ → List ℕ
  from_member p = drop (12 + 256 * (p * suc j)) b

  pub given-symbol : (p u : ℕ) → symbol_in (from_member p) u ≡ given_symbol b j p u
  unfolding symbol_in given_symbol bytes_from
  given-symbol p u =
      let e : 12 + 256 * (p * suc j) + 256 * u ≡ 12 + 256 * (p * (j + 1) + u) = omega arith in
      ap (take 256) (drop-drop (256 * u) (12 + 256 * (p * suc j)) b ∙ ap (λ (n : ℕ). drop n b) e)

  pub withheld-symbol : (g u : ℕ) → symbol_in (from_member g) u ≡ withheld_symbol b j g (suc u)
  unfolding symbol_in withheld_symbol bytes_from
  withheld-symbol g u =
      let e : 12 + 256 * (g * suc j) + 256 * u ≡ 12 + 256 * (g * (j + 1) + (suc u - 1)) = omega arith in
      ap (take 256) (drop-drop (256 * u) (12 + 256 * (g * suc j)) b ∙ ap (λ (n : ℕ). drop n b) e)

  -- ---- given members, from byte `from` on

  -- that of member p is the next one's from where the next one starts
  later : (from p : ℕ) → from + 256 * (j + 1) + 256 * (p * suc j) ≡ from + 256 * (suc p * suc j)
  later from p = omega arith

  first : (from : ℕ) → from ≡ from + 256 * (0 * suc j)
  first from = omega arith

  -- their exclusive-or
  pub given_xor_of : (ys : List ℕ) (from : ℕ) (g : ℕ → List ℕ) → from + 256 * (length ys * suc j) ≤ length b
      → ((p : ℕ) → g p ≡ bytes_from b (from + 256 * (p * suc j)) 256) → XorOf g (length ys) (given_xor j ys (drop from b))
  unfolding given_xor symbol_in bytes_from
  given_xor_of [] from g h eq = xor_none g
  given_xor_of (y ∷ ys) from g h eq =
      xor_more g (length ys) (take 256 (drop from b)) (given_xor j ys (next j (drop from b))) (length_part b from 256 (omega arith))
      (ap (λ (n : ℕ). take 256 (drop n b)) (first from) ∙ sym (eq 0))
      (subst (λ (c : List ℕ). XorOf (λ q. g (suc q)) (length ys) (given_xor j ys c)) (sym (next_at b j from))
      (given_xor_of ys (from + 256 * (j + 1)) (λ q. g (suc q)) (omega arith)
      (λ p. eq (suc p) ∙ ap (λ (n : ℕ). take 256 (drop n b)) (sym (later from p)))))

  -- what they hold
  module _ (l m : ℕ) (s : List ℕ) where
    abbrev pub HeldFrom : List ℕ → ℕ → Type 0
    HeldFrom ys from = (p : ℕ) × (p < length ys) × InWay tree j (get_or ys p 0) (drop (from + 256 * (p * suc j)) b) l m s

    pub given-held : (ys : List ℕ) (from : ℕ) → InGiven tree j ys (drop from b) l m s → HeldFrom ys from
    unfolding InGiven
    given-held [] from x = absurd x
    given-held (y ∷ ys) from x =
        ⊎_elim (λ w. (0, omega arith, subst (λ (n : ℕ). InWay tree j y (drop n b) l m s) (first from) w))
        (λ w.
        let (p, h, v) = given-held ys (from + 256 * (j + 1)) (subst (λ (c : List ℕ). InGiven tree j ys c l m s) (next_at b j from) w) in
        (suc p, omega arith, subst (λ (n : ℕ). InWay tree j (get_or ys p 0) (drop n b) l m s) (later from p) v))
        x

    pub held-given : (ys : List ℕ) (from : ℕ) (p : ℕ) → p < length ys → InWay tree j (get_or ys p 0) (drop (from + 256 * (p * suc j)) b) l m s
        → InGiven tree j ys (drop from b) l m s
    unfolding InGiven
    held-given [] from p h w = absurd (omega arith)
    held-given (y ∷ ys) from zero h w = inl (subst (λ (n : ℕ). InWay tree j y (drop n b) l m s) (sym (first from)) w)
    held-given (y ∷ ys) from (suc p) h w =
        inr (subst (λ (c : List ℕ). InGiven tree j ys c l m s) (sym (next_at b j from))
        (held-given ys (from + 256 * (j + 1)) p (omega arith) (subst (λ (n : ℕ). InWay tree j (get_or ys p 0) (drop n b) l m s) (sym (later from p)) w)))

-- ---- the hash that symbols above have for a symbol, w by layer and v by layer being the same there

pub hash-above : (root : List ℕ) (w v : ℕ → List ℕ) (l m n : ℕ) → m ≡ n → ((q : ℕ) → suc q ≡ l → w q ≡ v q)
    → committed tree root (λ q i. w q) l m ≡ hash_for root (λ q i. v q) l n
hash-above root w v l m n e eq =
    committed-same tree root (λ q i. w q) (λ q i. v q) l m eq ∙ sym (hash_for_lem root (λ q i. v q) l m) ∙ ap (hash_for root (λ q i. v q) l) e

module _ (H : Hasher) (root b : List ℕ) (j : ℕ) where
  -- ---- the way up from given member number p, which is symbol i

  module _ (p i : ℕ) where
    -- the symbol u layers up has the hash that the next one up, or the root, has for it
    abbrev pub Fits : ℕ → Type 0
    Fits u = H (j - u) (up_from j i u) (given_symbol b j p u) ≡ hash_for root (λ l m. given_symbol b j p (j - l)) (j - u) (up_from j i u)

    above : (u : ℕ) → u ≤ j
        → committed tree root (λ q n. symbol_in (from_member b j p) (j - q)) (j - u) (reached tree j i u)
        ≡ hash_for root (λ l m. given_symbol b j p (j - l)) (j - u) (up_from j i u)
    above u h =
        hash-above root (λ q. symbol_in (from_member b j p) (j - q)) (λ q. given_symbol b j p (j - q)) (j - u) (reached tree j i u) (up_from j i u)
        (sym (up_from_lem j i u h)) (λ q z. given-symbol b j p (j - q))

    abbrev way : ℕ → Type 0
    way u = WayFit tree H root j i (from_member b j p) u (j - u) (reached tree j i u)

    said : (u : ℕ) → u ≤ j → way u → Fits u
    said u h e = ap₂ (H (j - u)) (up_from_lem j i u h) (sym (given-symbol b j p u)) ∙ e ∙ above u h

    seen : (u : ℕ) → u ≤ j → Fits u → way u
    seen u h e = ap₂ (H (j - u)) (sym (up_from_lem j i u h)) (given-symbol b j p u) ∙ e ∙ sym (above u h)

    pub way_leads : way_check tree H root j i (from_member b j p) ≡ leads → (u : ℕ) → u ≤ j → Fits u
    way_leads e u h = said u h (way_fits_lem tree H root j i (from_member b j p) e u h)

    pub leads_way : ((u : ℕ) → u ≤ j → Fits u) → way_check tree H root j i (from_member b j p) ≡ leads
    leads_way all = fits_way tree H root j i (from_member b j p) (λ u h. seen u h (all u h))

    pub way_broken : (l : ℕ) → way_check tree H root j i (from_member b j p) ≡ breaks l → BreaksAt (λ k. Fits (j - k)) j l
    way_broken l e =
        let w = way_breaks tree H root j i (from_member b j p) l e in
        record {
          on_way_lem = w.layer;
          lead_below = λ k a h. said (j - k) (omega arith) (w.below (j - k) (omega arith));
          broken = λ f. w.broken (seen (j - l) (omega arith) f);
        }

    pub broken_way : (l : ℕ) → BreaksAt (λ k. Fits (j - k)) j l → way_check tree H root j i (from_member b j p) ≡ breaks l
    broken_way l w =
        breaks_way tree H root j i (from_member b j p) l
        (record {
          layer = w.on_way_lem;
          below = λ u h. let e : j - (j - u) ≡ u = omega arith in seen u (omega arith) (subst Fits e (w.lead_below (j - u) (omega arith) (omega arith)));
          broken = λ f. w.broken (said (j - l) (omega arith) f);
        })

-- what it holds
module _ (b : List ℕ) (j p i : ℕ) where
  pub way_held : (l m : ℕ) (s : List ℕ) → InWay tree j i (from_member b j p) l m s → (u : ℕ) × Up j i u l m × (s ≡ given_symbol b j p u)
  unfolding InWay
  way_held l m s (u, h, el, em, es) = (u, (h, el, em ∙ sym (up_from_lem j i u h)), es ∙ given-symbol b j p u)

  pub held_way : (l m : ℕ) (s : List ℕ) (u : ℕ) → Up j i u l m → s ≡ given_symbol b j p u → InWay tree j i (from_member b j p) l m s
  unfolding InWay
  held_way l m s u (h, el, em) es = (u, h, el, em ∙ up_from_lem j i u h, es ∙ sym (given-symbol b j p u))

-- ---- the path of the withheld member, symbol i of layer j, after g given ones

-- the number of its symbol x + 1 layers up
path-number : (j i x : ℕ) → x ≤ j → reached tree j (i % tree.k j) x ≡ up_from (suc j) i (suc x)
path-number j i x h = sym (reached_past tree j i x h) ∙ sym (up_from_lem (suc j) i (suc x) (omega arith))

module _ (H : Hasher) (root b : List ℕ) where
  -- its symbol u layers up has the hash that the next one up, or the root, has for it
  abbrev pub PathFits : ℕ → ℕ → ℕ → ℕ → Type 0
  PathFits j g i u = H (j - u) (up_from j i u) (withheld_symbol b j g u) ≡ hash_for root (λ l m. withheld_symbol b j g (j - l)) (j - u) (up_from j i u)

  path-above : (j g i x : ℕ) → x ≤ j
      → committed tree root (λ q n. symbol_in (from_member b (suc j) g) (j - q)) (j - x) (reached tree j (i % tree.k j) x)
      ≡ hash_for root (λ l m. withheld_symbol b (suc j) g (suc j - l)) (suc j - suc x) (up_from (suc j) i (suc x))
  path-above j g i x h =
      let e : j - x ≡ suc j - suc x = omega arith in
      hash-above root (λ q. symbol_in (from_member b (suc j) g) (j - q)) (λ q. withheld_symbol b (suc j) g (suc j - q)) (j - x) (reached tree j (i % tree.k j) x)
      (up_from (suc j) i (suc x)) (path-number j i x h)
      (λ q z.
      let k : suc (j - q) ≡ suc j - q = omega arith in
      withheld-symbol b (suc j) g (j - q) ∙ ap (withheld_symbol b (suc j) g) k)
      ∙ ap (λ (l : ℕ). hash_for root (λ q m. withheld_symbol b (suc j) g (suc j - q)) l (up_from (suc j) i (suc x))) e

  abbrev path_way : ℕ → ℕ → ℕ → ℕ → Type 0
  path_way j g i x = WayFit tree H root j (i % tree.k j) (from_member b (suc j) g) x (j - x) (reached tree j (i % tree.k j) x)

  path_said : (j g i x : ℕ) → x ≤ j → path_way j g i x → PathFits (suc j) g i (suc x)
  path_said j g i x h e =
      let q : suc j - suc x ≡ j - x = omega arith in
      ap (λ (l : ℕ). H l (up_from (suc j) i (suc x)) (withheld_symbol b (suc j) g (suc x))) q
      ∙ ap₂ (H (j - x)) (sym (path-number j i x h)) (sym (withheld-symbol b (suc j) g x)) ∙ e ∙ path-above j g i x h

  path-seen : (j g i x : ℕ) → x ≤ j → PathFits (suc j) g i (suc x) → path_way j g i x
  path-seen j g i x h e =
      let q : j - x ≡ suc j - suc x = omega arith in
      ap₂ (H (j - x)) (path-number j i x h) (withheld-symbol b (suc j) g x)
      ∙ ap (λ (l : ℕ). H l (up_from (suc j) i (suc x)) (withheld_symbol b (suc j) g (suc x))) q ∙ e ∙ sym (path-above j g i x h)

  pub path-leads : (j g i : ℕ) → path_check tree H root j i (from_member b j g) ≡ leads → (u : ℕ) → 1 ≤ u → u ≤ j → PathFits j g i u
  unfolding path_check
  path-leads zero g i e u a h = absurd (omega arith)
  path-leads (suc j) g i e zero a h = absurd (omega arith)
  path-leads (suc j) g i e (suc x) a h =
      path_said j g i x (omega arith) (way_fits_lem tree H root j (i % tree.k j) (from_member b (suc j) g) e x (omega arith))

  pub leads-path : (j g i : ℕ) → ((u : ℕ) → 1 ≤ u → u ≤ j → PathFits j g i u) → path_check tree H root j i (from_member b j g) ≡ leads
  unfolding path_check
  leads-path zero g i all = refl
  leads-path (suc j) g i all =
      fits_way tree H root j (i % tree.k j) (from_member b (suc j) g) (λ x h. path-seen j g i x h (all (suc x) (omega arith) (omega arith)))

  -- it breaks, the path starting at the layer above its symbol
  abbrev pub PathBreaks : ℕ → ℕ → ℕ → ℕ → Type 0
  PathBreaks j g i l = (1 ≤ j) × BreaksAt (λ k. PathFits j g i (j - k)) (j - 1) l

  pub path-broken : (j g i l : ℕ) → path_check tree H root j i (from_member b j g) ≡ breaks l → PathBreaks j g i l
  unfolding path_check
  path-broken zero g i l e = absurd (let z : ◌≡◌ {A = ℕ} 0 1 = cc in omega arith)
  path-broken (suc j) g i l e =
      let w = way_breaks tree H root j (i % tree.k j) (from_member b (suc j) g) l e in (
        omega arith,
        record {
          on_way_lem = omega (arith, w.layer);
          lead_below = λ k a h.
              let q : suc (j - k) ≡ suc j - k = omega arith in
              subst (PathFits (suc j) g i) q (path_said j g i (j - k) (omega arith) (w.below (j - k) (omega arith)));
          broken = λ f.
              let q : suc j - l ≡ suc (j - l) = omega (arith, w.layer) in w.broken (path-seen j g i (j - l) (omega arith) (subst (PathFits (suc j) g i) q f));
        },
      )

  pub broken-path : (j g i l : ℕ) → PathBreaks j g i l → path_check tree H root j i (from_member b j g) ≡ breaks l
  unfolding path_check
  broken-path zero g i l (a, w) = absurd (omega arith)
  broken-path (suc j) g i l (a, w) =
      breaks_way tree H root j (i % tree.k j) (from_member b (suc j) g) l
      (record {
        layer = omega (arith, w.on_way_lem);
        below = λ x h.
            let q : suc j - (j - x) ≡ suc x = omega arith in
            path-seen j g i x (omega arith) (subst (PathFits (suc j) g i) q (w.lead_below (j - x) (omega arith) (omega arith)));
        broken = λ f.
            let q : suc (j - l) ≡ suc j - l = omega (arith, w.on_way_lem) in w.broken (subst (PathFits (suc j) g i) q (path_said j g i (j - l) (omega arith) f));
      })

  -- the hash that it, or the root, has for the withheld member
  pub path-hash : (j g i : ℕ) → path_hash tree root j i (from_member b j g) ≡ hash_for root (λ l m. withheld_symbol b j g (j - l)) j i
  path-hash j g i =
      path-committed tree root (from_member b j g) (λ l. withheld_symbol b j g (j - l)) j i
      (λ q z. let k : 1 ≡ j - q = omega arith in withheld-symbol b j g 0 ∙ ap (withheld_symbol b j g) k)
      ∙ sym (hash_for_lem root (λ l m. withheld_symbol b j g (j - l)) j i)

-- what it holds
module _ (b : List ℕ) (l m : ℕ) (s : List ℕ) where
  pub path-held : (j g i : ℕ) → InPath tree j i (from_member b j g) l m s → (u : ℕ) × (1 ≤ u) × Up j i u l m × (s ≡ withheld_symbol b j g u)
  unfolding InPath InWay
  path-held zero g i x = absurd x
  path-held (suc j) g i (x, h, el, em, es) =
      (suc x, omega arith, (omega arith, omega arith, em ∙ path-number j i x h), es ∙ withheld-symbol b (suc j) g x)

  pub held-path : (j g i u : ℕ) → 1 ≤ u → Up j i u l m → s ≡ withheld_symbol b j g u → InPath tree j i (from_member b j g) l m s
  unfolding InPath InWay
  held-path j g i zero a x es = absurd (omega arith)
  held-path zero g i (suc x) a (h, el, em) es = absurd (omega arith)
  held-path (suc j) g i (suc x) a (h, el, em) es =
      (x, omega arith, omega arith, em ∙ sym (path-number j i x (omega arith)), es ∙ sym (withheld-symbol b (suc j) g x))
