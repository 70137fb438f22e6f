-- The exclusive-or of members, and the parity symbols of a layer, as loops meet them.
use mathlib.Core.Path.{◌≡◌, refl, sym, ap, ap₂, ◌∙◌}
use mathlib.Core.Bool.{true}
use mathlib.Core.List.{List, []}
use Prim.Native.Nat.{ℕ, ◌+◌, ◌*◌, ◌≤◌, ◌<◌}
use native.Mathlib.Omega.{arith}
use native.Mathlib.Numerals.{add-one}
use lib.ListN.{length, get_or, take, drop, drop_of_length-le}
use lib.Seq.{drop-cons, paste}
use lib.Dec.{ltb}
use Rattle.octets.specs.ByteLists.{xors}
use Rattle.octets.proofs.ListLaws.{length_part}
use Rattle.parity_table.specs.Shape.{k_of, n_of}
use Rattle.parity_table.specs.Members.{every}
use Rattle.parity_table.specs.Table.{TableOk, layer_of, equation_of}
use Rattle.parity_table.proofs.Rules.{members-below}
use Rattle.model.specs.Shape.{Shape, tree, places, place}
use Rattle.model.specs.Symbols.{symbol_in, zeros, xor_of, others, sym_at, put_at}
use Rattle.model.specs.Writer.{parities}
use Rattle.model.proofs.Bytes.{xors_comm, xors_assoc, sym_zeros}
use Rattle.model.proofs.Members.{length-xor_of, others_skip, others-take, others-end}
use Rattle.model.proofs.Counts.{every-others}

-- ---- a symbol of a layer, where the code finds it

-- the symbols from place base on
module _ (t : List ℕ) (base : ℕ) where
  pub symbol_there : (y : ℕ) → symbol_in t (base + y) ≡ take 256 (drop (256 * (base + y)) t)
  unfolding symbol_in
  symbol_there y = refl

  pub symbol-full : (n : ℕ) → 256 * (base + n) ≤ length t → (y : ℕ) → y < n → length (symbol_in t (base + y)) ≡ 256
  symbol-full n room y h = ap length (symbol_there y) ∙ length_part t (256 * (base + y)) 256 (omega arith)

-- those of a layer that starts there, of any shape
pub symbols-from : (S : Shape) (t : List ℕ) (j base : ℕ) → base ≡ places S j → ◌≡◌ {A = ℕ → List ℕ} (λ y. symbol_in t (base + y)) (sym_at S t j)
unfolding sym_at place
symbols-from S t j base eb = ap {B = ℕ → List ℕ} (λ b y. symbol_in t (b + y)) eb

-- places, with base the first place of layer j
module _ (t : List ℕ) (j base : ℕ) (eb : base ≡ places tree j) where
  pub sym_at_there : (y : ℕ) → sym_at tree t j y ≡ take 256 (drop (256 * (base + y)) t)
  unfolding sym_at symbol_in place
  sym_at_there y = ap (λ b. take 256 (drop (256 * (b + y)) t)) (sym eb)

  pub put_at_there : (x : ℕ) (v w : List ℕ) → length v ≡ 256 → w ≡ paste t (256 * (base + x)) v (length v) → w ≡ put_at tree t j x v
  unfolding put_at place
  put_at_there x v w l e = e ∙ ap₂ (λ b n. paste t (256 * (b + x)) v n) eb l

-- ---- the exclusive-or of the members other than x

module _ (ms : List ℕ) (g : ℕ → List ℕ) (x : ℕ) where
  -- what is left from member i on
  abbrev pub left : ℕ → List ℕ
  left i = xor_of g (others x (drop i ms))

  pub left_skip : (i : ℕ) → i < length ms → get_or ms i 0 ≡ x → left i ≡ left (i + 1)
  left_skip i h e = ap (xor_of g) (others_skip x ms i h e)

  pub left-take : (i : ℕ) → i < length ms → (get_or ms i 0 ≡ x → ⊥) → left i ≡ xors (g (get_or ms i 0)) (left (i + 1))
  unfolding xor_of
  left-take i h e = ap (xor_of g) (others-take x ms i h e)

  pub left-none : (i : ℕ) (a : List ℕ) → length ms ≤ i → length a ≡ 256 → xors a (left i) ≡ a
  unfolding xor_of
  left-none i a h l = ap (λ q. xors a (xor_of g q)) (others-end x ms i h) ∙ sym_zeros a l

  pub length-left : (n : ℕ) → ((y : ℕ) → y < n → length (g y) ≡ 256) → every (λ y. ltb y n) ms ≡ true → length (xor_of g (others x ms)) ≡ 256
  length-left n h a = length-xor_of g n h (others x ms) (every-others (λ y. ltb y n) x ms a)

  pub left-all : (n : ℕ) → ((y : ℕ) → y < n → length (g y) ≡ 256) → every (λ y. ltb y n) ms ≡ true → xors zeros (left 0) ≡ left 0
  left-all n h a = xors_comm zeros (left 0) ∙ sym_zeros (left 0) (length-left n h a)

  -- a turn that takes a member in
  pub turn-take : (i : ℕ) (a b : List ℕ) → i < length ms → (get_or ms i 0 ≡ x → ⊥) → xors a (left i) ≡ left 0 → b ≡ xors a (g (get_or ms i 0))
      → xors b (left (i + 1)) ≡ left 0
  turn-take i a b h e inv eb = ap (λ q. xors q (left (i + 1))) eb ∙ xors_assoc a (g (get_or ms i 0)) (left (i + 1)) ∙ ap (xors a) (sym (left-take i h e)) ∙ inv

  pub turn_skip : (i : ℕ) (a : List ℕ) → i < length ms → get_or ms i 0 ≡ x → xors a (left i) ≡ left 0 → xors a (left (i + 1)) ≡ left 0
  turn_skip i a h e inv = ap (xors a) (sym (left_skip i h e)) ∙ inv

-- symbol x of layer j, which starts at place base, is stored: v, the exclusive-or of the other members of an equation
module _ (t v : List ℕ) (j base x : ℕ) (ms : List ℕ) (eb : base ≡ places tree j) (room : 256 * (base + n_of j) ≤ length t)
    (inside : every (λ y. ltb y (n_of j)) ms ≡ true) (ev : v ≡ xor_of (λ y. symbol_in t (base + y)) (others x ms)) where
  pub length-others : length v ≡ 256
  length-others = ap length ev ∙ length-left ms (λ y. symbol_in t (base + y)) x (n_of j) (symbol-full t base (n_of j) room) inside

  pub parity_put : (u : List ℕ) → u ≡ paste t (256 * (base + x)) v (length v) → u ≡ put_at tree t j x (xor_of (sym_at tree t j) (others x ms))
  parity_put u eu =
      put_at_there t j base eb x v u length-others eu
      ∙ ap (put_at tree t j x) (ev ∙ ap (λ g. xor_of g (others x ms)) (symbols-from tree t j base eb))

-- ---- the parity symbols of a layer, one after the other

pub parities-next : (j e : ℕ) (es : List (List ℕ)) (t u : List ℕ) → e < length es
    → u ≡ put_at tree t j (k_of j + e) (xor_of (sym_at tree t j) (others (k_of j + e) (get_or es e [])))
    → parities tree j e (drop e es) t ≡ parities tree j (e + 1) (drop (e + 1) es) u
unfolding parities
parities-next j e es t u h eu =
    ap (λ q. parities tree j e q t) (drop-cons es e [] h) ∙ ap₂ (λ n v. parities tree j n (drop n es) v) (sym (add-one e)) (sym eu)

pub parities-none : (j e : ℕ) (es : List (List ℕ)) (t : List ℕ) → length es ≤ e → parities tree j e (drop e es) t ≡ t
unfolding parities
parities-none j e es t h = ap (λ q. parities tree j e q t) (drop_of_length-le es h)

-- ---- a layer and an equation of a table that keeps the rules

module _ (d : ℕ) (tbl : List (List (List ℕ))) (rules : TableOk d tbl) (j : ℕ) (hj : j < d) where
  module _ (e k : ℕ) (ek : k ≡ k_of j) (he : e < 3 * k_of j) (ms : List ℕ) (em : ms ≡ equation_of tbl j e) where
    pub members-inside : every (λ y. ltb y (n_of j)) ms ≡ true
    members-inside = ap (every (λ y. ltb y (n_of j))) em ∙ members-below d tbl rules j e hj he

    pub parity_inside : k + e < n_of j
    unfolding n_of
    parity_inside = omega arith

    pub parity_step : (t u : List ℕ) → u ≡ put_at tree t j (k + e) (xor_of (sym_at tree t j) (others (k + e) ms))
        → parities tree j e (drop e (layer_of tbl j)) t ≡ parities tree j (e + 1) (drop (e + 1) (layer_of tbl j)) u
    unfolding equation_of
    parity_step t u eu =
        parities-next j e (layer_of tbl j) t u (omega (arith, rules.equations j hj))
        (eu ∙ ap₂ (λ c l. put_at tree t j (c + e) (xor_of (sym_at tree t j) (others (c + e) l))) ek em)

  pub layer-done : (e : ℕ) → 3 * k_of j ≤ e → (t : List ℕ) → parities tree j e (drop e (layer_of tbl j)) t ≡ t
  layer-done e he t = parities-none j e (layer_of tbl j) t (omega (arith, rules.equations j hj))
