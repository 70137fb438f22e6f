-- A layer that hangs under layers of the tree's numbers: what is said of it is said alike of its own shape and of the tree's.
use mathlib.Core.Path.{◌≡◌, refl, ap, ap₂, ◌∙◌}
use mathlib.Core.Bool.{Bool, not, ◌&&◌}
use mathlib.Core.List.{List, [], ◌∷◌, ◌++◌}
use Prim.Native.Nat.{ℕ, zero, suc, ◌+◌, ◌-◌, ◌*◌, ◌≤◌, ◌<◌}
use native.Mathlib.Omega.{arith}
use lib.ListN.{length, get_or}
use lib.Seq.{paste}
use lib.Dec.{eqb, leb}
use Rattle.octets.specs.Choice.{pick}
use Rattle.octets.specs.ByteLists.{same}
use Rattle.parity_table.specs.Members.{last_of}
use Rattle.parity_table.specs.Table.{layer_of, equation_of}
use Rattle.model.specs.Shape.{Shape, Hangs, tree, places, place}
use Rattle.model.specs.Symbols.{joined, symbol_in, count, first_of, lowest, others, xor_of, zeros, committed, sym_at, put_at}
use Rattle.model.specs.Climb.{breaks, climb, all_lead, first_break}
use Rattle.model.specs.Fault.{reached, way_bytes, given_bytes, path_bytes, proof_bytes, next, path_hash, way_fits, way_check, path_check, ways_check}
use Rattle.model.specs.Repair.{St, absent_at, store_sym, erase_sym, rest_of, fits_at, sweep_at, sweep, form, refute, act, takeable, lowest_eq, step, peel}
use Rattle.model.proofs.Shapes.{tree_root}

-- ---- which layers hang so

pub tree_hangs : (j : ℕ) → Hangs tree j
tree_hangs j = record { k-above = λ l h. refl; n-above = λ l h. refl }

-- nothing is above layer 0
pub top_hangs : (S : Shape) → Hangs S 0
top_hangs S = record { k-above = λ l h. absurd (omega arith); n-above = λ l h. absurd (omega arith) }

pub hangs_above : (S : Shape) (j l : ℕ) → l ≤ j → Hangs S j → Hangs S l
hangs_above S j l b h = record { k-above = λ m c. h.k-above m (omega arith); n-above = λ m c. h.n-above m (omega arith) }

-- the root has the hashes of the whole top layer
pub top-hashes : (root : List ℕ) (j : ℕ) → length root ≡ 512 → j ≡ 0 → 32 * tree.n j ≤ length root
top-hashes root j l z = omega (arith, ap tree.n z, tree_root)

-- ---- places, symbols and marks

pub places-hung : (S : Shape) (j : ℕ) → Hangs S j → places S j ≡ places tree j
unfolding places
places-hung S zero h = refl
places-hung S (suc j) h = ap₂ ◌+◌ (places-hung S j (hangs_above S (suc j) j (omega arith) h)) (h.n-above j (omega arith))

module _ (S : Shape) (j : ℕ) (h : Hangs S j) where
  pub place-hung : (i : ℕ) → place S j i ≡ place tree j i
  unfolding place
  place-hung i = ap (λ b. b + i) (places-hung S j h)

  pub sym_at-hung : (t : List ℕ) → sym_at S t j ≡ sym_at tree t j
  unfolding sym_at place
  sym_at-hung t = ap {B = ℕ → List ℕ} (λ b i. symbol_in t (b + i)) (places-hung S j h)

  pub put_at-hung : (t : List ℕ) (i : ℕ) (v : List ℕ) → put_at S t j i v ≡ put_at tree t j i v
  unfolding put_at
  put_at-hung t i v = ap (λ p. paste t (256 * p) v 256) (place-hung i)

  pub absent_at-hung : (m : List ℕ) → absent_at S m j ≡ absent_at tree m j
  unfolding absent_at place
  absent_at-hung m = ap {B = ℕ → Bool} (λ b i. not (eqb (get_or m (b + i) 0) 1)) (places-hung S j h)

-- ---- committed hashes

pub path_hash-hung : (S : Shape) (root : List ℕ) (j : ℕ) → Hangs S j → (i : ℕ) (c : List ℕ) → path_hash S root j i c ≡ path_hash tree root j i c
unfolding path_hash
path_hash-hung S root zero h i c = refl
path_hash-hung S root (suc j) h i c = cc (h.k-above j (omega arith))

pub committed-hung : (S : Shape) (root : List ℕ) (f g : ℕ → ℕ → List ℕ) (j : ℕ) → Hangs S j → ((l : ℕ) → l < j → f l ≡ g l) → (i : ℕ)
    → committed S root f j i ≡ committed tree root g j i
unfolding committed
committed-hung S root f g zero h e i = refl
committed-hung S root f g (suc j) h e i = cc (h.k-above j (omega arith), e j (omega arith))

-- ---- ways up, written

joined_cong : (f g : ℕ → List ℕ) (m x : ℕ) → ((y : ℕ) → x ≤ y → y < x + m → f y ≡ g y) → joined f x m ≡ joined g x m
unfolding joined
joined_cong f g zero x e = refl
joined_cong f g (suc m) x e = ap₂ ◌++◌ (e x (omega arith) (omega arith)) (joined_cong f g m (suc x) (λ y a b. e y (omega arith) (omega arith)))

module _ (S : Shape) (j : ℕ) (h : Hangs S j) where
  pub reached-hung : (i x : ℕ) → x ≤ j → reached S j i x ≡ reached tree j i x
  unfolding reached
  reached-hung i zero b = refl
  reached-hung i (suc x) b = cc (reached-hung i x (omega arith), h.k-above (j - suc x) (omega arith))

-- two trees with the same symbols in layer j and above
module _ (S : Shape) (f g : ℕ → ℕ → List ℕ) where
  pub way_bytes-hung : (j : ℕ) → Hangs S j → ((l : ℕ) → l ≤ j → f l ≡ g l) → (i : ℕ) → way_bytes S f j i ≡ way_bytes tree g j i
  unfolding way_bytes
  way_bytes-hung j h e i =
      joined_cong _ _ (suc j) 0 (λ x a b. ap₂ (λ (s : ℕ → List ℕ) m. s m) (e (j - x) (omega arith)) (reached-hung S j h i x (omega arith)))

  pub given_bytes-hung : (j : ℕ) → Hangs S j → ((l : ℕ) → l ≤ j → f l ≡ g l) → (ms : List ℕ) → given_bytes S f j ms ≡ given_bytes tree g j ms
  unfolding given_bytes
  given_bytes-hung j h e [] = refl
  given_bytes-hung j h e (y ∷ ys) = ap₂ ◌++◌ (way_bytes-hung j h e y) (given_bytes-hung j h e ys)

  pub path_bytes-hung : (j : ℕ) → Hangs S j → ((l : ℕ) → l ≤ j → f l ≡ g l) → (i : ℕ) → path_bytes S f j i ≡ path_bytes tree g j i
  unfolding path_bytes
  path_bytes-hung zero h e i = refl
  path_bytes-hung (suc j) h e i =
      way_bytes-hung j (hangs_above S (suc j) j (omega arith) h) (λ l b. e l (omega arith)) _ ∙ ap (way_bytes tree g j) (cc (h.k-above j (omega arith)))

  pub proof_bytes-hung : (j : ℕ) → Hangs S j → ((l : ℕ) → l ≤ j → f l ≡ g l) → (e x : ℕ) (ms : List ℕ) → proof_bytes S f j e x ms ≡ proof_bytes tree g j e x ms
  unfolding proof_bytes
  proof_bytes-hung j h alike e x ms = cc (given_bytes-hung j h alike (others x ms), path_bytes-hung j h alike x)

-- ---- ways up, checked

climb_cong : (f g : ℕ → Bool) (layer : ℕ → ℕ) (m x : ℕ) → ((y : ℕ) → x ≤ y → y < x + m → f y ≡ g y) → climb f layer x m ≡ climb g layer x m
unfolding climb
climb_cong f g layer zero x e = refl
climb_cong f g layer (suc m) x e =
    ap₂ (λ t c. pick t c (breaks (layer x))) (e x (omega arith) (omega arith)) (climb_cong f g layer m (suc x) (λ y a b. e y (omega arith) (omega arith)))

module _ (S : Shape) (H : ℕ → ℕ → List ℕ → List ℕ) (root : List ℕ) where
  pub way_fits-hung : (j : ℕ) → Hangs S j → (i : ℕ) (c : List ℕ) (x : ℕ) → x ≤ j → way_fits S H root j i c x ≡ way_fits tree H root j i c x
  unfolding way_fits
  way_fits-hung j h i c x b =
      let on_way_lem : ℕ → ℕ → List ℕ = λ l m. symbol_in c (j - l) in
      cc (reached-hung S j h i x b, committed-hung S root on_way_lem on_way_lem (j - x) (hangs_above S j (j - x) (omega arith) h) (λ l a. refl) (reached tree j i x))

  pub way_check-hung : (j : ℕ) → Hangs S j → (i : ℕ) (c : List ℕ) → way_check S H root j i c ≡ way_check tree H root j i c
  unfolding way_check
  way_check-hung j h i c = climb_cong _ _ _ (suc j) 0 (λ x a b. way_fits-hung j h i c x (omega arith))

  pub path_check-hung : (j : ℕ) → Hangs S j → (i : ℕ) (c : List ℕ) → path_check S H root j i c ≡ path_check tree H root j i c
  unfolding path_check
  path_check-hung zero h i c = refl
  path_check-hung (suc j) h i c =
      way_check-hung j (hangs_above S (suc j) j (omega arith) h) _ c ∙ ap (λ m. way_check tree H root j m c) (cc (h.k-above j (omega arith)))

  pub ways_check-hung : (j : ℕ) → Hangs S j → (x p : ℕ) (ys c : List ℕ) → ways_check S H root j x p ys c ≡ ways_check tree H root j x p ys c
  unfolding ways_check
  ways_check-hung j h x p [] c = ap (λ w. first_break p w all_lead) (path_check-hung j h x c)
  ways_check-hung j h x p (y ∷ ys) c = ap₂ (first_break p) (way_check-hung j h y c) (ways_check-hung j h x (suc p) ys (next j c))

-- ---- a layer of a repair

module _ (S : Shape) (j : ℕ) (h : Hangs S j) where
  -- the symbols of layer j and above, in a lent tree
  pub symbols-hung : (t : List ℕ) (l : ℕ) → l ≤ j → sym_at S t l ≡ sym_at tree t l
  symbols-hung t l b = sym_at-hung S l (hangs_above S j l b h) t

  pub proof-hung : (t : List ℕ) (e x : ℕ) (ms : List ℕ) → proof_bytes S (sym_at S t) j e x ms ≡ proof_bytes tree (sym_at tree t) j e x ms
  proof-hung t e x ms = proof_bytes-hung S (sym_at S t) (sym_at tree t) j h (symbols-hung t) e x ms

  pub store_sym-hung : (e x : ℕ) (v : List ℕ) (st : St) → store_sym S j e x v st ≡ store_sym tree j e x v st
  unfolding store_sym
  store_sym-hung e x v st = cc (put_at-hung S j h st.tree x v, place-hung S j h x)

  pub erase_sym-hung : (i : ℕ) (st : St) → erase_sym S j i st ≡ erase_sym tree j i st
  unfolding erase_sym
  erase_sym-hung i st = cc (put_at-hung S j h st.tree i zeros, place-hung S j h i)

  pub rest_of-hung : (ms : List ℕ) (x : ℕ) (st : St) → rest_of S j ms x st ≡ rest_of tree j ms x st
  unfolding rest_of
  rest_of-hung ms x st = ap (λ (f : ℕ → List ℕ). xor_of f (others x ms)) (sym_at-hung S j h st.tree)

  module _ (H : ℕ → ℕ → List ℕ → List ℕ) (root : List ℕ) where
    pub fits_at-hung : (st : St) (i : ℕ) (s : List ℕ) → fits_at S H root st j i s ≡ fits_at tree H root st j i s
    unfolding fits_at
    fits_at-hung st i s = ap (same (H j i s)) (committed-hung S root (sym_at S st.tree) (sym_at tree st.tree) j h (λ l b. symbols-hung st.tree l (omega arith)) i)

    pub sweep_at-hung : (i : ℕ) (st : St) → sweep_at S H root j i st ≡ sweep_at tree H root j i st
    unfolding sweep_at
    sweep_at-hung i st =
        cc (absent_at-hung S j h st.marks, sym_at-hung S j h st.tree, fits_at-hung st i (sym_at tree st.tree j i), erase_sym-hung i st)

    pub sweep-hung : (m i : ℕ) (st : St) → sweep S H root j i m st ≡ sweep tree H root j i m st
    unfolding sweep
    sweep-hung zero i st = refl
    sweep-hung (suc m) i st = sweep-hung m (suc i) (sweep_at S H root j i st) ∙ ap (sweep tree H root j (suc i) m) (sweep_at-hung i st)

    pub form-hung : (e : ℕ) (ms : List ℕ) (x : ℕ) (v : List ℕ) (st : St) → form S H root j e ms x v st ≡ form tree H root j e ms x v st
    unfolding form
    form-hung e ms x v st = cc (fits_at-hung st x v, store_sym-hung e x v st, proof-hung st.tree e x ms)

    pub refute-hung : (e : ℕ) (ms : List ℕ) (x : ℕ) (v : List ℕ) (st : St) → refute S H root j e ms x v st ≡ refute tree H root j e ms x v st
    unfolding refute
    refute-hung e ms x v st = cc (fits_at-hung st x v, sym_at-hung S j h st.tree, proof-hung st.tree e x ms)

    pub act-hung : (e : ℕ) (ms : List ℕ) (st : St) → act S H root j e ms st ≡ act tree H root j e ms st
    unfolding act
    act-hung e ms st =
        let x : ℕ = first_of (absent_at tree st.marks j) ms in
        cc (
          absent_at-hung S j h st.marks,
          sym_at-hung S j h st.tree,
          rest_of-hung ms (last_of ms 0) st,
          refute-hung e ms (last_of ms 0) (rest_of tree j ms (last_of ms 0) st) st,
          rest_of-hung ms x st,
          form-hung e ms x (rest_of tree j ms x st) st,
        )

  module _ (tbl : List (List (List ℕ))) where
    pub takeable-hung : (st : St) → takeable S tbl j st ≡ takeable tree tbl j st
    unfolding takeable
    takeable-hung st =
        ap {B = ℕ → Bool} (λ (a : ℕ → Bool) e. eqb (get_or st.used e 0) 0 && leb (count a (equation_of tbl j e)) 1) (absent_at-hung S j h st.marks)

    pub lowest_eq-hung : (st : St) → lowest_eq S tbl j st ≡ lowest_eq tree tbl j st
    unfolding lowest_eq
    lowest_eq-hung st = ap (λ (p : ℕ → Bool). lowest p 0 (length (layer_of tbl j))) (takeable-hung st)

  module _ (H : ℕ → ℕ → List ℕ → List ℕ) (root : List ℕ) (tbl : List (List (List ℕ))) where
    pub step-hung : (st : St) → step S H root tbl j st ≡ step tree H root tbl j st
    unfolding step
    step-hung st =
        let e : ℕ = lowest_eq tree tbl j st in
        cc (lowest_eq-hung tbl st, act-hung H root e (equation_of tbl j e) st)

    pub peel-hung : (m : ℕ) (st : St) → peel S H root tbl j m st ≡ peel tree H root tbl j m st
    unfolding peel
    peel-hung zero st = refl
    peel-hung (suc m) st = peel-hung m (step S H root tbl j st) ∙ ap (peel tree H root tbl j m) (step-hung st)
