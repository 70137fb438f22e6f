-- Samples: accepted just when every hash leads to the root; one taken of a tree that agrees is accepted; an accepted one is true, or shows
-- a collision.
use mathlib.Core.Path.{◌≡◌, refl, sym, ap, ap₂, ◌∙◌, subst}
use mathlib.Core.Logic.{◌⊎◌, inl, inr, ⊎_elim}
use mathlib.Core.List.{List}
use Prim.Native.Nat.{ℕ, zero, suc, ◌+◌, ◌-◌, ◌*◌, ◌/◌, ◌%◌, ◌≤◌, ◌<◌}
use native.Mathlib.Nat.{zero-add, mod-lt, mod-mod_of_dvd, dvd-mul_left, mul-add-mod_self_right}
use native.Mathlib.Omega.{arith}
use lib.ListN.{length}
use lib.Dec.{eqb}
use borrow.Author.Tests.{eqb-true, eqb-false, eq-eqb, ne_eqb}
use Rattle.octets.proofs.Choice.{by_test, pick_yes, pick_no, both}
use Rattle.model.specs.Shape.{Shape, TreeOk}
use Rattle.model.specs.Symbols.{symbol_in, committed}
use Rattle.model.specs.Coded.{Digests, InTree, Agrees}
use Rattle.model.specs.Climb.{leads, breaks, Says}
use Rattle.model.specs.Sampling.{sample_size, sample_layer, data_no, parity_no, sample_number, sample_bytes}
use Rattle.model.specs.SampleCheck.{sample_data, sample_parity, sample_has, sample_fits, sample_check, SampleLeads, SampleTrue, SampleCollision}
use Rattle.octets.proofs.SameLaws.{same_yes, yes_same}
use Rattle.model.proofs.Bytes.{joined_length, joined_piece}
use Rattle.model.proofs.Shapes.{k_double, up_lt, committed-same}
use Rattle.model.proofs.Binding.{same_or_collide, all_or, hashes}
use Rattle.model.proofs.Climbs.{climb_says, climb-is}

-- ---- the places of a sample

-- the data symbol and the parity symbol of layer j
abbrev data_in : ℕ → ℕ → ℕ
data_in d j = 2 * (d - 1 - j) - 1

abbrev parity_in : ℕ → ℕ → ℕ
parity_in d j = 2 * (d - 1 - j)

module _ (S : Shape) (d i : ℕ) where
  base-layer : sample_layer d 0 ≡ d - 1
  unfolding sample_layer
  base-layer = omega arith

  pub data_layer : (j : ℕ) → suc j < d → sample_layer d (data_in d j) ≡ j
  unfolding sample_layer
  data_layer j h = omega arith

  parity_layer : (j : ℕ) → suc j < d → sample_layer d (parity_in d j) ≡ j
  unfolding sample_layer
  parity_layer j h = omega arith

  odd_number : (x : ℕ) → x % 2 ≡ 0 → sample_number S d i (suc x) ≡ data_no S (sample_layer d (suc x)) i
  unfolding sample_number
  odd_number x h = pick_yes (eqb (x % 2) 0) _ _ (eq-eqb (x % 2) 0 h)

  even_number : (x : ℕ) → x % 2 ≡ 1 → sample_number S d i (suc x) ≡ parity_no S (sample_layer d (suc x)) i
  unfolding sample_number
  even_number x h = pick_no (eqb (x % 2) 0) _ _ (ne_eqb (x % 2) 0 (λ e. omega arith))

  pub data_number : (j : ℕ) → suc j < d → sample_number S d i (data_in d j) ≡ data_no S j i
  data_number j h =
      let e : data_in d j ≡ suc (2 * (d - 1 - j) - 2) = omega arith in
      ap (sample_number S d i) e ∙ odd_number (2 * (d - 1 - j) - 2) (omega arith) ∙ ap (λ (l : ℕ). data_no S l i) (sym (ap (sample_layer d) e) ∙ data_layer j h)

  parity_number : (j : ℕ) → suc j < d → sample_number S d i (parity_in d j) ≡ parity_no S j i
  parity_number j h =
      let e : parity_in d j ≡ suc (2 * (d - 1 - j) - 1) = omega arith in
      ap (sample_number S d i) e ∙ even_number (2 * (d - 1 - j) - 1) (omega arith) ∙ ap (λ (l : ℕ). parity_no S l i) (sym (ap (sample_layer d) e) ∙ parity_layer j h)

  -- what holds of the base symbol, of every data symbol and of every parity symbol, with layer and number, holds at each place
  sample_ind : (R : ℕ → ℕ → ℕ → Type 0) → 1 ≤ d → R 0 (d - 1) i → ((j : ℕ) → suc j < d → R (data_in d j) j (data_no S j i))
      → ((j : ℕ) → suc j < d → R (parity_in d j) j (parity_no S j i)) → (x : ℕ) → x < sample_size d → R x (sample_layer d x) (sample_number S d i x)
  unfolding sample_number
  sample_ind R pos b dt pt zero h = subst (λ (l : ℕ). R 0 l i) (sym base-layer) b
  sample_ind R pos b dt pt (suc x) h =
      let j : ℕ = d - 1 - (x + 2) / 2 in
      by_test (eqb (x % 2) 0)
      (λ t.
      let p : x % 2 ≡ 0 = eqb-true (x % 2) 0 t in
      let hj : suc j < d = omega arith in
      let e : data_in d j ≡ suc x = omega arith in
      subst (λ (n : ℕ). R n (sample_layer d n) (sample_number S d i n)) e
      (subst (λ (l : ℕ). R (data_in d j) l (sample_number S d i (data_in d j))) (sym (data_layer j hj))
      (subst (λ (m : ℕ). R (data_in d j) j m) (sym (data_number j hj)) (dt j hj))))
      (λ t.
      let p : x % 2 ≡ 1 = omega (arith, eqb-false (x % 2) 0 t) in
      let hj : suc j < d = omega arith in
      let e : parity_in d j ≡ suc x = omega arith in
      subst (λ (n : ℕ). R n (sample_layer d n) (sample_number S d i n)) e
      (subst (λ (l : ℕ). R (parity_in d j) l (sample_number S d i (parity_in d j))) (sym (parity_layer j hj))
      (subst (λ (m : ℕ). R (parity_in d j) j m) (sym (parity_number j hj)) (pt j hj))))

  -- and back
  sample_at : (R : ℕ → ℕ → ℕ → Type 0) → ((x : ℕ) → x < sample_size d → R x (sample_layer d x) (sample_number S d i x))
      → (x l m : ℕ) → x < sample_size d → sample_layer d x ≡ l → sample_number S d i x ≡ m → R x l m
  sample_at R all x l m h p q = subst (λ (n : ℕ). R x l n) q (subst (λ (n : ℕ). R x n (sample_number S d i x)) p (all x h))

-- ---- accepted just when every hash leads to the root

module _ (S : Shape) (H : ℕ → ℕ → List ℕ → List ℕ) (root : List ℕ) (d i : ℕ) (pos : 1 ≤ d) (s : List ℕ) where
  -- symbol x of the sample has the hash that the sample has for symbol m of layer l
  abbrev pub Fit : ℕ → ℕ → ℕ → Type 0
  Fit x l m = H l m (symbol_in s x) ≡ sample_has S root d s l m

  -- the check says whether all fit
  pub all_fit : sample_check S H root d i s ≡ leads → (x : ℕ) → x < sample_size d → Fit x (sample_layer d x) (sample_number S d i x)
  unfolding sample_check sample_fits
  all_fit e x h =
      let says : Says (sample_fits S H root d i s) (sample_layer d) 0 (sample_size d) leads =
      subst (Says (sample_fits S H root d i s) (sample_layer d) 0 (sample_size d)) e (climb_says (sample_fits S H root d i s) (sample_layer d) (sample_size d) 0) in
      same_yes _ _ (says x (omega arith) (omega arith))

  fit_all : ((x : ℕ) → x < sample_size d → Fit x (sample_layer d x) (sample_number S d i x)) → sample_check S H root d i s ≡ leads
  unfolding sample_check sample_fits
  fit_all all = climb-is (sample_fits S H root d i s) (sample_layer d) (sample_size d) 0 leads (λ x a h. yes_same (all x (omega arith)))

  -- only when
  pub accepted-leads : sample_check S H root d i s ≡ leads → SampleLeads S H root d i s
  unfolding sample_data sample_parity sample_number
  accepted-leads e =
      let all = all_fit e in
      record {
        base = subst (λ (l : ℕ). Fit 0 l i) (base-layer S d i) (all 0 (omega arith));
        data_symbol = λ j h. sample_at S d i Fit all (data_in d j) j (data_no S j i) (omega arith) (data_layer S d i j h) (data_number S d i j h);
        parity_symbol = λ j h. sample_at S d i Fit all (parity_in d j) j (parity_no S j i) (omega arith) (parity_layer S d i j h) (parity_number S d i j h);
      }

  -- when
  pub leads-accepted : SampleLeads S H root d i s → sample_check S H root d i s ≡ leads
  unfolding sample_data sample_parity
  leads-accepted w = fit_all (sample_ind S d i Fit pos w.base w.data_symbol w.parity_symbol)

  -- ---- it breaks at layer l: one of its symbols has another hash, and every symbol of a layer nearer the base has the committed one

  pub record BrokenSample (l : ℕ) : Type 0 where
    pub index : ℕ
    pub inside : index < sample_size d
    pub at_layer : sample_layer d index ≡ l
    pub broken : Fit index (sample_layer d index) (sample_number S d i index) → ⊥
    pub below : (x : ℕ) → x < sample_size d → l < sample_layer d x → Fit x (sample_layer d x) (sample_number S d i x)

  pub sample-breaks : (l : ℕ) → sample_check S H root d i s ≡ breaks l → BrokenSample l
  unfolding sample_check sample_fits sample_layer
  sample-breaks l e =
      let (y, first, at) =
      subst (Says (sample_fits S H root d i s) (sample_layer d) 0 (sample_size d)) e (climb_says (sample_fits S H root d i s) (sample_layer d) (sample_size d) 0) in
      record {
        index = y;
        inside = omega (arith, first.upto);
        at_layer = at;
        broken = λ f. both (yes_same f) first.unfit;
        below = λ x h k. same_yes _ _ (first.before x (omega arith) (omega arith));
      }

-- ---- numbers: both symbols of a layer hang under the sample's data symbol of the layer above

module _ (S : Shape) (sh : TreeOk S) (i : ℕ) where
  -- symbol m of layer l hangs there
  abbrev pub Under : ℕ → ℕ → Type 0
  Under l m = (u : ℕ) → suc u ≡ l → m % S.k u ≡ data_no S u i

  base_under : (l : ℕ) → Under l i
  unfolding data_no
  base_under l u e = refl

  pub data_under : (l : ℕ) → Under l (data_no S l i)
  unfolding data_no
  data_under l u e =
      ap (λ (n : ℕ). i % n % S.k u) (sym (ap S.k e) ∙ k_double S sh u) ∙ mod-mod_of_dvd (S.k u) i (dvd-mul_left (S.k u) 2)

  parity_under : (l : ℕ) → Under l (parity_no S l i)
  unfolding data_no parity_no
  parity_under l u e =
      let two : S.k l ≡ 2 * S.k u = sym (ap S.k e) ∙ k_double S sh u in
      let six : 3 * S.k l ≡ 6 * S.k u = omega arith in
      ap₂ (λ (a b : ℕ). (a + i % b) % S.k u) two six
      ∙ mul-add-mod_self_right 2 (S.k u) (i % (6 * S.k u))
      ∙ mod-mod_of_dvd (S.k u) i (dvd-mul_left (S.k u) 6)

  data_lt : (l : ℕ) → data_no S l i < S.n l
  unfolding data_no
  data_lt l = up_lt S sh.shape l i

  parity_lt : (l : ℕ) → parity_no S l i < S.n l
  unfolding parity_no
  parity_lt l = omega (arith, mod-lt i {m = 3 * S.k l} (omega (arith, sh.shape.some l)), sh.rate l)

  -- each place of the sample stands for a symbol of the tree, under the data symbol of the layer above
  pub places-are : (d : ℕ) → 1 ≤ d → i < S.n (d - 1) → (x : ℕ) → x < sample_size d
      → ((sample_layer d x < d) × (sample_number S d i x < S.n (sample_layer d x))) × Under (sample_layer d x) (sample_number S d i x)
  places-are d pos hi =
      sample_ind S d i (λ x l m. ((l < d) × (m < S.n l)) × Under l m) pos
      ((omega arith, hi), base_under (d - 1))
      (λ j h. ((omega arith, data_lt j), data_under j))
      (λ j h. ((omega arith, parity_lt j), parity_under j))

-- ---- samples of a tree that agrees

module _ (S : Shape) (sh : TreeOk S) (H : ℕ → ℕ → List ℕ → List ℕ) (digests : Digests H) (tbl : List (List (List ℕ))) (pos : 1 ≤ length tbl) (root : List ℕ)
    (f : ℕ → ℕ → List ℕ) (agr : Agrees S H tbl root f) (i : ℕ) (hi : i < S.n (length tbl - 1)) where
  abbrev d : ℕ
  d = length tbl

  in_places : (x : ℕ) → x < sample_size d → InTree S tbl (sample_layer d x) (sample_number S d i x) × Under S sh i (sample_layer d x) (sample_number S d i x)
  in_places = places-are S sh i d pos hi

  -- where the sample's data symbol of the layer above is the tree's, the sample has the committed hash
  has_is : (s : List ℕ) (l m : ℕ) → Under S sh i l m → ((u : ℕ) → suc u ≡ l → sample_data d s u ≡ f u (data_no S u i)) → sample_has S root d s l m ≡ committed S root f l m
  unfolding sample_has
  has_is s l m under above = committed-same S root (λ u i. sample_data d s u) f l m (λ u e. above u e ∙ ap (f u) (sym (under u e)))

  -- ---- a sample that was taken is accepted

  abbrev taken : List ℕ
  taken = sample_bytes S f d i

  size : (x : ℕ) → x < sample_size d → length (f (sample_layer d (0 + x)) (sample_number S d i (0 + x))) ≡ 256
  size x h = rw zero-add (agr.coded.sized (sample_layer d x) (sample_number S d i x) (in_places x h).0)

  pub taken-length : length taken ≡ 256 * sample_size d
  unfolding sample_bytes
  taken-length = joined_length (λ x. f (sample_layer d x) (sample_number S d i x)) 256 (sample_size d) 0 size

  taken_true : SampleTrue S f d i taken
  unfolding sample_bytes symbol_in
  taken_true x h =
      joined_piece (λ x. f (sample_layer d x) (sample_number S d i x)) 256 (sample_size d) 0 x h size
      ∙ ap (λ (n : ℕ). f (sample_layer d n) (sample_number S d i n)) (zero-add x)

  data_true : (s : List ℕ) → SampleTrue S f d i s → (u : ℕ) → suc u < d → sample_data d s u ≡ f u (data_no S u i)
  unfolding sample_data
  data_true s all u h = sample_at S d i (λ x l m. symbol_in s x ≡ f l m) all (data_in d u) u (data_no S u i) (omega arith) (data_layer S d i u h) (data_number S d i u h)

  pub taken-accepted : sample_check S H root d i taken ≡ leads
  taken-accepted =
      fit_all S H root d i pos taken
      (λ x h.
      let l : ℕ = sample_layer d x in
      let m : ℕ = sample_number S d i x in
      let (inside, under) = in_places x h in
      ap (H l m) (taken_true x h) ∙ hashes S sh.shape H digests tbl root f agr l m inside
      ∙ sym (has_is taken l m under (λ u e. data_true taken taken_true u (omega (arith, inside.0)))))

  -- ---- an accepted sample is true, or shows a collision

  module _ (s : List ℕ) (acc : sample_check S H root d i s ≡ leads) where
    abbrev C : Type 0
    C = SampleCollision S H f d i s

    -- the data symbol of the layer above l is the tree's
    abbrev Above : ℕ → Type 0
    Above l = (u : ℕ) → suc u ≡ l → sample_data d s u ≡ f u (data_no S u i)

    one : (x : ℕ) → x < sample_size d → Above (sample_layer d x) → (symbol_in s x ≡ f (sample_layer d x) (sample_number S d i x)) ⊎ C
    one x h above =
        let l : ℕ = sample_layer d x in
        let m : ℕ = sample_number S d i x in
        let (inside, under) = in_places x h in
        ⊎_elim inl (λ c. inr (record { index = x; inside = h; collide = c }))
        (same_or_collide H l m (symbol_in s x) (f l m)
        (all_fit S H root d i pos s acc x h ∙ has_is s l m under above ∙ sym (hashes S sh.shape H digests tbl root f agr l m inside)))

    above_or : (l : ℕ) → l < d → Above l ⊎ C
    unfolding sample_data
    above_or zero h = inl (λ u e. absurd (omega arith))
    above_or (suc l) h =
        let x : ℕ = data_in d l in
        let at : sample_layer d x ≡ l = data_layer S d i l h in
        ⊎_elim
        (λ above. ⊎_elim
        (λ e. inl (λ u q.
        let v : l ≡ u = omega arith in
        subst (λ (n : ℕ). symbol_in s (data_in d n) ≡ f n (data_no S n i)) v (e ∙ ap₂ f at (data_number S d i l h))))
        inr (one x (omega arith) (subst Above (sym at) above)))
        inr (above_or l (omega arith))

    pub accepted_true : SampleTrue S f d i s ⊎ C
    accepted_true =
        all_or (λ x. symbol_in s x ≡ f (sample_layer d x) (sample_number S d i x)) C (sample_size d)
        (λ x h. ⊎_elim (one x h) inr (above_or (sample_layer d x) (in_places x h).0.0))
