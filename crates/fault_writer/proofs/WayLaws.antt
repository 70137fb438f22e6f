-- A symbol of the tree, and the way up from it, written symbol by symbol.
use mathlib.Core.List.{List, ◌++◌}
use mathlib.Core.Path.{◌∙◌, ◌≡◌, ap, ap₂, refl, subst, sym}
use Prim.Native.Nat.{◌%◌, ◌*◌, ◌+◌, ◌-◌, ◌<◌, ◌≤◌, suc, zero, ℕ}
use native.Mathlib.Nat.{zero-add}
use native.Mathlib.Omega.{arith}
use lib.ListN.{drop, length, take}
use Rattle.coded_tree.proofs.ParityLaws.{sym_at_there}
use Rattle.fault_writer.proofs.Splices.{splice-more, splice-none}
use Rattle.fault_writer.specs.Room.{Layers, splice}
use Rattle.model.proofs.Bytes.{joined_length}
use Rattle.model.proofs.Flat.{sym_at-length}
use Rattle.model.proofs.Shapes.{places_mono, tree_ok, up_lt}
use Rattle.model.specs.Fault.{path_bytes, reached, way_bytes}
use Rattle.model.specs.Shape.{place, places, tree}
use Rattle.model.specs.Symbols.{joined, sym_at}
use Rattle.octets.proofs.ListLaws.{part_ends}
use Rattle.parity_table.specs.Shape.{k_of}

-- ---- a symbol, where the code finds it

pub symbol-room : (t : List ℕ) (l m n base : ℕ) → Layers l n t → base ≡ places tree l → m < n → 256 * (base + m) + 256 ≤ length t
symbol-room t l m n base k e h = omega (arith, k.room)

pub symbol_there : (t : List ℕ) (l m base : ℕ) → base ≡ places tree l → take (256 * (base + m) + 256 - 256 * (base + m)) (drop (256 * (base + m)) t) ≡ sym_at tree t l m
symbol_there t l m base e = part_ends t (256 * (base + m)) 256 ∙ sym (sym_at_there t l base e m)

pub symbol-length : (j n : ℕ) (t : List ℕ) → Layers j n t → (m : ℕ) → m < n → length (sym_at tree t j m) ≡ 256
unfolding place
symbol-length j n t k m h = sym_at-length tree t j m (omega (arith, k.room))

-- ---- fewer symbols, and the layers above

pub layers_fewer : (j n m : ℕ) (t : List ℕ) → m ≤ n → Layers j n t → Layers j m t
layers_fewer j n m t h k = record { layer = k.layer; room = omega (arith, k.room) }

pub layers-above : (j n l m : ℕ) (t : List ℕ) → l < j → m ≤ tree.n l → Layers j n t → Layers l m t
unfolding places
layers-above j n l m t h b k = record { layer = omega (arith, k.layer); room = omega (arith, k.room, places_mono tree (suc l) j h) }

-- ---- the way up from symbol i of layer j

module _ (t : List ℕ) (j i : ℕ) (k : Layers j (suc i) t) where
  -- its symbol number x
  abbrev on_way : ℕ → List ℕ
  on_way x = sym_at tree t (j - x) (reached tree j i x)

  on_way_length : (x : ℕ) → x ≤ j → length (on_way x) ≡ 256
  unfolding reached
  on_way_length zero h =
      let z : j - 0 ≡ j = omega arith in
      ap (λ (l : ℕ). length (sym_at tree t l i)) z ∙ symbol-length j (suc i) t k i (omega arith)
  on_way_length (suc x) h =
      symbol-length (j - suc x) (tree.n (j - suc x)) t (layers-above j (suc i) (j - suc x) (tree.n (j - suc x)) t (omega arith) (omega arith) k) (reached tree j i (suc x))
      (up_lt tree tree_ok.shape (j - suc x) (reached tree j i x))

  pub way_length : length (way_bytes tree (sym_at tree t) j i) ≡ 256 * suc j
  unfolding way_bytes
  way_length = joined_length on_way 256 (suc j) 0 (λ q h. rw zero-add (on_way_length q (omega arith)))

module _ (t : List ℕ) (j i at : ℕ) (out₀ : List ℕ) where
  -- its symbol number x
  abbrev piece : ℕ → List ℕ
  piece x = sym_at tree t (j - x) (reached tree j i x)

  -- out₀ has symbol i at byte at; the way is written on from there to layer l, whose symbol m stands at byte p
  pub record WayAt (l m p : ℕ) (out : List ℕ) : Type 0 where
    pub within : l ≤ j
    pub number : m ≡ reached tree j i (j - l)
    pub spot : p ≡ at + 256 * (j - l)
    pub sized : length out ≡ length out₀
    pub rest : splice out (p + 256) (joined (λ x. sym_at tree t (j - x) (reached tree j i x)) (suc (j - l)) l)
        ≡ splice out₀ (at + 256) (joined (λ x. sym_at tree t (j - x) (reached tree j i x)) 1 j)

  pub way_start : WayAt j i at out₀
  unfolding reached
  way_start =
      let z : j - j ≡ 0 = omega arith in
      record {
        within = omega arith;
        number = ap (reached tree j i) (sym z);
        spot = omega arith;
        sized = refl;
        rest = ap (λ (q : ℕ). splice out₀ (at + 256) (joined piece (suc q) j)) z;
      }

  module _ (k : Layers j (suc i) t) (room : at + 256 * suc j ≤ length out₀) where
    module _ (l m p : ℕ) (out : List ℕ) (w : WayAt l m p out) where
      module _ (pos : 0 < l) (c : ℕ) (ec : c ≡ k_of (l - 1)) where
        up_number : m % c < tree.n (l - 1)
        up_number = subst (λ (q : ℕ). m % q < tree.n (l - 1)) (sym ec) (up_lt tree tree_ok.shape (l - 1) m)

        pub up_layers : Layers (l - 1) (suc (m % c)) t
        up_layers = layers-above j (suc i) (l - 1) (suc (m % c)) t (omega (arith, w.within)) (omega (arith, up_number)) k

        up_step : m % c ≡ reached tree j i (suc (j - l))
        unfolding reached
        up_step =
            let u : j - suc (j - l) ≡ l - 1 = omega (arith, w.within) in
            ap₂ (λ (a b : ℕ). a % b) w.number (ec ∙ ap k_of (sym u))

        pub way_turn : (out' : List ℕ) → length out' ≡ length out → out' ≡ splice out (p + 256) (sym_at tree t (l - 1) (m % c)) → WayAt (l - 1) (m % c) (p + 256) out'
        unfolding joined
        way_turn out' lo e =
            let y : suc (j - l) ≡ j - (l - 1) = omega (arith, w.within) in
            let u : j - suc (j - l) ≡ l - 1 = omega (arith, w.within) in
            let s : suc (l - 1) ≡ l = omega arith in
            let num = up_step in
            let v : List ℕ = sym_at tree t (l - 1) (m % c) in
            let n : length v ≡ 256 = symbol-length (l - 1) (suc (m % c)) t up_layers (m % c) (omega arith) in
            let pv : piece (suc (j - l)) ≡ v = ap₂ (sym_at tree t) u (sym num) in
            record {
              within = omega (arith, w.within);
              number = num ∙ ap (reached tree j i) y;
              spot = omega (arith, w.spot, w.within);
              sized = lo ∙ w.sized;
              rest =
                  ap (λ (q : ℕ). splice out' (p + 256 + 256) (joined piece (suc q) (l - 1))) (sym y)
                  ∙ ap₂ (λ (o : List ℕ) (q : ℕ). splice o (p + 256 + q) (joined piece (suc (suc (j - l))) (l - 1))) e (sym n)
                  ∙ splice-more out (p + 256) v (omega (arith, w.spot, w.sized, w.within)) (joined piece (suc (suc (j - l))) (l - 1))
                  ∙ ap (λ (q : List ℕ). splice out (p + 256) (q ++ joined piece (suc (suc (j - l))) (l - 1))) (sym pv)
                  ∙ ap (λ (q : ℕ). splice out (p + 256) (joined piece (suc (j - l)) q)) s
                  ∙ w.rest;
            }

      pub way_end : (first : List ℕ) → length out₀ ≡ length first → out₀ ≡ splice first at (sym_at tree t j i) → l ≡ 0 → out ≡ splice first at (way_bytes tree (sym_at tree t) j i)
      unfolding joined way_bytes reached
      way_end first lf e z =
          let y : j - 0 ≡ j = omega arith in
          let n : length (sym_at tree t j i) ≡ 256 = symbol-length j (suc i) t k i (omega arith) in
          sym (splice-none out (p + 256)) ∙ ap (λ (q : ℕ). splice out (p + 256) (joined piece (suc (j - l)) q)) (sym z) ∙ w.rest
          ∙ ap₂ (λ (o : List ℕ) (q : ℕ). splice o (at + q) (joined piece 1 j)) e (sym n)
          ∙ splice-more first at (sym_at tree t j i) (omega arith) (joined piece 1 j)
          ∙ ap (λ (q : ℕ). splice first at (sym_at tree t q i ++ joined piece 1 j)) (sym y)

-- ---- a path

module _ (f : ℕ → ℕ → List ℕ) (out w : List ℕ) (at i : ℕ) where
  pub path_put : (j c : ℕ) → 0 < j → c ≡ k_of (j - 1) → w ≡ splice out at (way_bytes tree f (j - 1) (i % c)) → w ≡ splice out at (path_bytes tree f j i)
  unfolding path_bytes
  path_put zero c h ec e = absurd (omega arith)
  path_put (suc j) c h ec e =
      let z : suc j - 1 ≡ j = omega arith in
      e ∙ ap (λ (q : ℕ). splice out at (way_bytes tree f (suc j - 1) (i % q))) ec ∙ ap (λ (q : ℕ). splice out at (way_bytes tree f q (i % k_of q))) z

  pub path-none : (j : ℕ) → j ≤ 0 → w ≡ out → w ≡ splice out at (path_bytes tree f j i)
  unfolding path_bytes
  path-none zero h e = e ∙ sym (splice-none out at)
  path-none (suc j) h e = absurd (omega arith)

-- the symbol above, from which a path goes up
pub above-layers : (t : List ℕ) (j n l i : ℕ) → l < j → Layers j n t → Layers l (suc (i % k_of l)) t
above-layers t j n l i h k = layers-above j n l (suc (i % k_of l)) t h (omega (arith, up_lt tree tree_ok.shape l i)) k

pub path_long : (t : List ℕ) (j n : ℕ) → Layers j n t → (l i : ℕ) → l ≤ j → length (path_bytes tree (sym_at tree t) l i) ≡ 256 * l
unfolding path_bytes
path_long t j n k zero i h = refl
path_long t j n k (suc l) i h = way_length t l (i % k_of l) (above-layers t j n l i (omega arith) k)
