-- A symbol that is a tree's, under one that is the tree's too, has the committed hash: so where a path breaks, one of the two is not. And what leads to the
-- root is the tree's, or shows a collision with it.
use mathlib.Core.Path.{◌≡◌, refl, sym, ap, ap₂, ◌∙◌, subst}
use mathlib.Core.Logic.{◌⊎◌, ◌≢◌, inl, inr, ⊎_elim}
use mathlib.Core.List.{List}
use Prim.Native.Nat.{ℕ, zero, suc, ◌+◌, ◌-◌, ◌*◌, ◌/◌, ◌%◌, ◌≤◌, ◌<◌}
use native.Mathlib.Nat.{mod-lt}
use native.Mathlib.Omega.{arith}
use lib.ListN.{length}
use Rattle.octets.specs.ByteLists.{same}
use Rattle.octets.proofs.ListLaws.{length_part}
use Rattle.octets.proofs.Choice.{by_test, both}
use Rattle.parity_table.specs.Shape.{k_of, n_of}
use Rattle.model.specs.Shape.{tree}
use Rattle.model.specs.Sampling.{sample_number, data_no}
use Rattle.model.proofs.Shapes.{tree_ok}
use Rattle.octets.proofs.SameLaws.{same_yes, yes_same}
use Rattle.model.proofs.Samples.{data_layer, data_number, data_under, places-are}
use Rattle.guarantees.specs.Layouts.{bytes_from, symbol_no, data_symbols, all_symbols, spread, hash_for, sampled_layer, sampled_number, up_from}
use Rattle.guarantees.specs.Trees.{Hasher, AgreesWith, Twins}
use Rattle.guarantees.specs.Refusals.{SampleLength, InBase, SampleFits}
use Rattle.guarantees.specs.Demand2.{SampleCollides}
use Rattle.guarantees.specs.Change4.{SampleHasThere, WayHasThere, WayPage}
use Rattle.guarantees.proofs.Layouts.{spread-is}
use Rattle.guarantees.proofs.Refusals.{sampled_layer_lem, sampled_number_lem}

-- the number that a way up from symbol i of layer j reaches at layer l, u layers up, is one of that layer
pub up_low : (j i l u : ℕ) → l + u ≡ j → (u ≡ 0 → i < all_symbols l) → up_from j i u < all_symbols l
unfolding up_from k_of
up_low j i l zero h low = low refl
up_low j i l (suc x) h low =
    let e : j - x ≡ suc l = omega arith in
    let k : spread (j - x) ≡ k_of l = ap spread e ∙ spread-is l in
    omega (arith, mod-lt (up_from j i x) {m = spread (j - x)} (omega (arith, k, tree_ok.shape.some l)), k)

up_step : (j i u : ℕ) → suc u ≤ j → up_from j i (j - u) ≡ up_from j i (j - suc u) % spread (suc u)
unfolding up_from
up_step j i u h =
    let a : j - u ≡ suc (j - suc u) = omega arith in
    let c : j - (j - suc u) ≡ suc u = omega arith in
    ap (up_from j i) a ∙ ap (λ (n : ℕ). up_from j i (j - suc u) % spread n) c

module _ (H : Hasher) (d : ℕ) (tbl : List (List (List ℕ))) (root : List ℕ) (f : ℕ → ℕ → List ℕ) (agr : AgreesWith H d tbl root f) where
  pub tree-hash : (l m : ℕ) → l < d → m < all_symbols l → H l m (f l m) ≡ hash_for root f l m
  unfolding hash_for
  tree-hash zero m hl hm = sym (agr.root_of_lem.hashes m hm)
  tree-hash (suc j) m hl hm = sym (agr.correctly_coded.hashes_stand j m hl hm)

  -- w by layer has f's symbol above it
  hash-above : (w : ℕ → List ℕ) (l m : ℕ) → ((u : ℕ) → suc u ≡ l → w u ≡ f u (m % spread l)) → hash_for root f l m ≡ hash_for root (λ u n. w u) l m
  unfolding hash_for
  hash-above w zero m e = refl
  hash-above w (suc j) m e = ap (λ (s : List ℕ). bytes_from s (32 * (m / spread (suc j))) 32) (sym (e j refl))

  fits : (w : ℕ → List ℕ) (l m : ℕ) (s : List ℕ) → l < d → m < all_symbols l → s ≡ f l m → ((u : ℕ) → suc u ≡ l → w u ≡ f u (m % spread l))
      → H l m s ≡ hash_for root (λ u n. w u) l m
  fits w l m s hl hm e above = ap (H l m) e ∙ tree-hash l m hl hm ∙ hash-above w l m above

  -- ---- symbols w by layer, with the numbers m, of the layers above `top`: where each has the committed hash, each is the tree's, or one shows a collision

  module _ (w : ℕ → List ℕ) (m : ℕ → ℕ) (top : ℕ) (deep : top ≤ d) (low : (u : ℕ) → u < top → m u < all_symbols u)
      (up : (u : ℕ) → suc u < top → m u ≡ m (suc u) % spread (suc u)) (sized : (u : ℕ) → u < top → length (w u) ≡ 256)
      (fit : (u : ℕ) → u < top → H u (m u) (w u) ≡ hash_for root (λ q n. w q) u (m u)) where
    -- the symbol above layer l is the tree's
    abbrev pub Above : ℕ → Type 0
    Above l = (u : ℕ) → suc u ≡ l → w u ≡ f u (m u)

    abbrev pub Collision : Type 0
    Collision = (u : ℕ) × (u < top) × Twins H u (m u) (w u) (f u (m u))

    own_or : (u : ℕ) → u < top → Above u → (w u ≡ f u (m u)) ⊎ Collision
    own_or u h above =
        by_test (same (w u) (f u (m u))) (λ t. inl (same_yes (w u) (f u (m u)) t))
        (λ t. inr (
          u,
          h,
          record {
            symbols = (sized u h, agr.correctly_coded.sized u (m u) (omega arith) (low u h));
            differ = λ e. both (yes_same e) t;
            equal = fit u h
                ∙ sym (hash-above w u (m u) (λ q e. above q e ∙ ap (f q) (up q (omega arith) ∙ ap (λ (n : ℕ). m n % spread n) e)))
                ∙ sym (tree-hash u (m u) (omega arith) (low u h));
          },
        ))

    pub above_or : (l : ℕ) → l ≤ top → Above l ⊎ Collision
    above_or zero h = inl (λ u e. absurd (omega arith))
    above_or (suc t) h =
        ⊎_elim
        (λ above. ⊎_elim (λ e. inl (λ u q. let v : t ≡ u = omega arith in subst (λ (n : ℕ). w n ≡ f n (m n)) v e)) inr (own_or t (omega arith) above))
        inr (above_or t (omega arith))

  -- ---- a symbol of a sample

  module _ (i : ℕ) (s : List ℕ) (some : 1 ≤ d) (base : InBase d i) (x : ℕ) (h : x < 2 * d - 1) where
    -- the sample's data symbol of layer u
    abbrev data_at : ℕ → ℕ
    data_at u = 2 * (d - 1 - u) - 1

    data_at_layer : (u : ℕ) → suc u < d → sampled_layer d (data_at u) ≡ u
    data_at_layer u k = sampled_layer_lem d (data_at u) ∙ data_layer tree d i u k

    data_at_number : (u : ℕ) → suc u < d → sampled_number d i (data_at u) ≡ i % data_symbols u
    unfolding data_no k_of
    data_at_number u k = sampled_number_lem d i (data_at u) ∙ data_number tree d i u k

    pub sample-fits : SampleHasThere d i s f x → SampleFits H d i root s x
    unfolding data_no k_of n_of
    sample-fits t =
        let l : ℕ = sampled_layer d x in
        let m : ℕ = sampled_number d i x in
        let (inside, under) = places-are tree tree_ok i d some base x h in
        let low : m < all_symbols l = subst (λ (q : ℕ). m < all_symbols q) (sym (sampled_layer_lem d x)) (omega (arith, inside.1, sampled_number_lem d i x)) in
        fits (λ q. symbol_no s (2 * (d - 1 - q) - 1)) l m (symbol_no s x) (omega (arith, inside.0, sampled_layer_lem d x)) low t.here
        (λ u e.
        let up : sample_number tree d i x % k_of u ≡ i % k_of u = under u (e ∙ sampled_layer_lem d x) in
        t.above u e ∙ ap (f u) (sym (ap₂ (λ (a b : ℕ). a % b) (sampled_number_lem d i x) (ap spread (sym e) ∙ spread-is u) ∙ up)))

    -- the same where each data symbol above it has the committed hash
    pub sample-alone : SampleLength d s → (SampleFits H d i root s x → ⊥) → ((u : ℕ) → u < sampled_layer d x → SampleFits H d i root s (data_at u))
        → (symbol_no s x ≢ f (sampled_layer d x) (sampled_number d i x)) ⊎ SampleCollides H d i s f
    unfolding data_no k_of n_of bytes_from
    sample-alone full wrong fit =
        let deep : sampled_layer d x < d = omega (arith, sampled_layer_lem d x, (places-are tree tree_ok i d some base x h).0.0) in
        ⊎_elim (λ above. inl (λ here. wrong (sample-fits (record { here = here; above = above }))))
        (λ (u, k, twins). inr (record {
          index = data_at u;
          inside = omega arith;
          collide = subst (λ (n : ℕ). Twins H n (sampled_number d i (data_at u)) (symbol_no s (data_at u)) (f n (sampled_number d i (data_at u)))) (sym (data_at_layer u (omega arith)))
              (subst (λ (n : ℕ). Twins H u n (symbol_no s (data_at u)) (f u n)) (sym (data_at_number u (omega arith))) twins);
        }))
        (above_or (λ q. symbol_no s (data_at q)) (λ q. i % data_symbols q) (sampled_layer d x) (omega arith)
        (λ u k. omega (arith, mod-lt i {m = k_of u} (tree_ok.shape.some u)))
        (λ u k. sym (ap (λ (n : ℕ). i % data_symbols (suc u) % n) (spread-is u) ∙ data_under tree tree_ok i (suc u) u refl))
        (λ u k. length_part s (256 * data_at u) 256 (omega arith))
        (λ u k.
        subst (λ (n : ℕ). H n (i % data_symbols u) (symbol_no s (data_at u)) ≡ hash_for root (λ q n. symbol_no s (data_at q)) n (i % data_symbols u)) (data_at_layer u (omega arith))
        (subst (λ (n : ℕ). H (sampled_layer d (data_at u)) n (symbol_no s (data_at u)) ≡ hash_for root (λ q n. symbol_no s (data_at q)) (sampled_layer d (data_at u)) n) (data_at_number u (omega arith))
        (fit u k)))
        (sampled_layer d x) (omega arith))

  -- ---- a symbol on the way up from symbol y of layer j, whose symbol x layers up is s x

  module _ (j y : ℕ) (s : ℕ → List ℕ) (hj : j < d) where
    -- it has the committed hash at layer l
    abbrev WayFits : ℕ → Type 0
    WayFits l = H (j - (j - l)) (up_from j y (j - l)) (s (j - l)) ≡ hash_for root (λ q n. s (j - q)) (j - (j - l)) (up_from j y (j - l))

    has_fits : (l : ℕ) → l ≤ j → up_from j y (j - l) < all_symbols l → WayHasThere j y s f l → WayFits l
    has_fits l hl low t =
        let e : l ≡ j - (j - l) = omega arith in
        subst (λ (q : ℕ). H q (up_from j y (j - l)) (s (j - l)) ≡ hash_for root (λ q n. s (j - q)) q (up_from j y (j - l))) e
        (fits (λ q. s (j - q)) l (up_from j y (j - l)) (s (j - l)) (omega arith) low t.here
        (λ u q. t.above u q ∙ ap (f u) (up_step j y u (omega arith) ∙ ap (λ (n : ℕ). up_from j y (j - n) % spread n) q)))

    -- a symbol above layer l shows a collision
    abbrev pub Shown : ℕ → Type 0
    Shown l = (u : ℕ) × (u < l) × (up_from j y (j - u) < all_symbols u) × Twins H u (up_from j y (j - u)) (s (j - u)) (f u (up_from j y (j - u)))

    alone : (l : ℕ) → l ≤ j → ((u : ℕ) → u < l → length (s (j - u)) ≡ 256) → ((u : ℕ) → u < l → WayFits u) → (WayHasThere j y s f l → ⊥)
        → (s (j - l) ≢ f l (up_from j y (j - l))) ⊎ Shown l
    alone l hl sized fit wrong =
        let low : (u : ℕ) → u < l → up_from j y (j - u) < all_symbols u = λ u h. up_low j y u (j - u) (omega arith) (λ e. absurd (omega arith)) in
        ⊎_elim (λ above. inl (λ here. wrong (record { here = here; above = above }))) (λ (u, h, twins). inr (u, h, low u h, twins))
        (above_or (λ q. s (j - q)) (λ q. up_from j y (j - q)) l (omega arith) low (λ u h. up_step j y u (omega arith)) sized
        (λ u h.
        let e : j - (j - u) ≡ u = omega arith in
        subst (λ (n : ℕ). H n (up_from j y (j - u)) (s (j - u)) ≡ hash_for root (λ q n. s (j - q)) n (up_from j y (j - u))) e (fit u h))
        l (omega arith))

    pub way_page : (l : ℕ) → l ≤ j → up_from j y (j - l) < all_symbols l → ((u : ℕ) → u < l → length (s (j - u)) ≡ 256)
        → {collides : Type 0} → (Shown l → collides) → WayPage j y s WayFits f collides l
    way_page l hl low sized shown =
        record {
          one_of_two = λ wrong t. wrong (has_fits l hl low t);
          topmost = λ wrong fit. ⊎_elim inl (λ x. inr (shown x)) (alone l hl sized fit (λ t. wrong (has_fits l hl low t)));
        }
