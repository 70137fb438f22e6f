-- A fault proof that is written for the symbols f has them in their places, under a head that names its equation and its withheld member.
use mathlib.Core.Path.{◌≡◌, refl, sym, ap, ap₂, ◌∙◌}
use mathlib.Core.Bool.{Bool, true}
use mathlib.Core.List.{List, [], ◌∷◌, ◌++◌, append-nil}
use Prim.Native.Nat.{ℕ, zero, suc, ◌+◌, ◌-◌, ◌*◌, ◌%◌, ◌≤◌, ◌<◌}
use native.Mathlib.Omega.{arith}
use lib.ListN.{length, get_or, drop, length-append}
use lib.Seq.{drop-drop}
use lib.Dec.{ltb}
use borrow.Author.Tests.{ltb-true}
use Rattle.octets.specs.BigEndian.{word_at}
use Rattle.octets.proofs.Choice.{and_yes}
use Rattle.parity_table.specs.Shape.{n_of}
use Rattle.parity_table.specs.Members.{every}
use Rattle.parity_table.specs.Table.{layer_of, equation_of}
use Rattle.heads.specs.Heads.{head}
use Rattle.heads.proofs.HeadLaws.{length-head, head-words, after-head}
use Rattle.model.specs.Shape.{tree}
use Rattle.model.specs.Symbols.{symbol_in, others}
use Rattle.model.specs.Fault.{reached, way_bytes, given_bytes, path_bytes, proof_bytes, next, after_given}
use Rattle.model.proofs.Shapes.{tree_ok, up_lt}
use Rattle.model.proofs.Ways.{reached_past, after_at}
use Rattle.model.proofs.FaultWriter.{way_symbol, path-length, given_split, given-next, given-length, given-after}
use Rattle.guarantees.specs.Layouts.{up_from, kind_value}
use Rattle.guarantees.specs.FaultProofs.{given_symbol, withheld_symbol, WritesLayout}
use Rattle.guarantees.proofs.Tables.{rules_ok}
use Rattle.guarantees.proofs.Layouts.{word_at_lem, all-symbols, up_from_lem}
use Rattle.guarantees.proofs.ProofPlaces.{given-symbol, withheld-symbol}
use Rattle.guarantees.proofs.ProofHeads.{Fitting, fitting}

module _ (f : ℕ → ℕ → List ℕ) (j : ℕ) (sized : (l i : ℕ) → l ≤ j → i < tree.n l → length (f l i) ≡ 256) where
  -- ---- the given members, which are symbols of layer j, and their paths

  abbrev in_layer : ℕ → Bool
  in_layer y = ltb y (n_of j)

  below : (y : ℕ) → in_layer y ≡ true → y < tree.n j
  below y t = ltb-true y (n_of j) t

  pub given_at : (ys r : List ℕ) → every in_layer ys ≡ true → (p u : ℕ) → p < length ys → u ≤ j
      → symbol_in (drop (256 * (p * suc j)) (given_bytes tree f j ys ++ r)) u ≡ f (j - u) (reached tree j (get_or ys p 0) u)
  unfolding every next
  given_at [] r a p u h k = absurd (omega arith)
  given_at (y ∷ ys) r a zero u h k =
      let (t, v) = and_yes (in_layer y) (every in_layer ys) a in
      let e : 256 * (0 * suc j) ≡ 0 = omega arith in
      ap (λ (n : ℕ). symbol_in (drop n (given_bytes tree f j (y ∷ ys) ++ r)) u) e
      ∙ ap (λ (c : List ℕ). symbol_in c u) (given_split tree tree_ok.shape f j sized in_layer below y ys r)
      ∙ way_symbol tree tree_ok.shape f j sized j y (omega arith) (below y t) (given_bytes tree f j ys ++ r) u k
  given_at (y ∷ ys) r a (suc p) u h k =
      let (t, v) = and_yes (in_layer y) (every in_layer ys) a in
      let c : List ℕ = given_bytes tree f j (y ∷ ys) ++ r in
      let e : 256 * (suc p * suc j) ≡ 256 * suc j + 256 * (p * suc j) = omega arith in
      ap (λ (s : List ℕ). symbol_in s u)
      (ap (λ (n : ℕ). drop n c) e ∙ sym (drop-drop (256 * (p * suc j)) (256 * suc j) c)
      ∙ ap (drop (256 * (p * suc j))) (given-next tree tree_ok.shape f j sized in_layer below y ys r t))
      ∙ given_at ys r v p u (omega arith) k

  -- ---- the withheld member's path

  path_at : (l x u : ℕ) → l ≤ j → suc u ≤ l → symbol_in (path_bytes tree f l x) u ≡ f (l - suc u) (reached tree l x (suc u))
  unfolding path_bytes
  path_at zero x u h k = absurd (omega arith)
  path_at (suc l) x u h k =
      let e : l - u ≡ suc l - suc u = omega arith in
      ap (λ (c : List ℕ). symbol_in c u) (sym (append-nil (way_bytes tree f l (x % tree.k l))))
      ∙ way_symbol tree tree_ok.shape f j sized l (x % tree.k l) (omega arith) (up_lt tree tree_ok.shape l x) [] u (omega arith)
      ∙ ap₂ f e (sym (reached_past tree l x u (omega arith)))

  -- ---- the whole proof

  module _ (tbl : List (List (List ℕ))) (e x : ℕ) (front back : List ℕ) (fit : Fitting tbl j e x front back) where
    abbrev ms : List ℕ
    ms = equation_of tbl j e

    abbrev ys : List ℕ
    ys = others x ms

    abbrev bytes : List ℕ
    bytes = proof_bytes tree f j e x ms

    abbrev rest : List ℕ
    rest = given_bytes tree f j ys ++ path_bytes tree f j x

    past_head : drop 12 bytes ≡ rest
    unfolding proof_bytes
    past_head = after-head 1 j e x rest

    words : (word_at bytes 0 ≡ kind_value 1 j) × (word_at bytes 4 ≡ kind_value 2 e) × (word_at bytes 8 ≡ kind_value 3 x)
    unfolding proof_bytes
    words = head-words 1 j e x rest (omega arith) fit.small_layer fit.small_equation fit.small_member

    pub word-layer : word_at bytes 0 ≡ kind_value 1 j
    word-layer = words.0

    pub word-equation : word_at bytes 4 ≡ kind_value 2 e
    word-equation = words.1

    pub word-withheld : word_at bytes 8 ≡ kind_value 3 x
    word-withheld = words.2

    count : length ms - 1 ≡ length ys
    count = fit.given-count ∙ ap length (sym fit.given-are)

    pub bytes-length : length bytes ≡ 12 + 256 * ((length ms - 1) * (j + 1) + j)
    unfolding proof_bytes
    bytes-length =
        omega (
          arith,
          ap (λ (n : ℕ). n * (j + 1)) count,
          length-append (head 1 j e x) rest,
          length-head 1 j e x,
          length-append (given_bytes tree f j ys) (path_bytes tree f j x),
          given-length tree tree_ok.shape f j sized in_layer below ys fit.given_below,
          path-length tree tree_ok.shape f j sized j x (omega arith),
        )

    pub written-given : (p u : ℕ) → p < length (front ++ back) → u ≤ j → given_symbol bytes j p u ≡ f (j - u) (up_from j (get_or (front ++ back) p 0) u)
    written-given p u h k =
        let n : length ys ≡ length (front ++ back) = ap length fit.given-are in
        sym (given-symbol bytes j p u)
        ∙ ap (λ (c : List ℕ). symbol_in c u) (sym (drop-drop (256 * (p * suc j)) 12 bytes) ∙ ap (drop (256 * (p * suc j))) past_head)
        ∙ given_at ys (path_bytes tree f j x) fit.given_below p u (omega arith) k
        ∙ ap (λ (l : List ℕ). f (j - u) (reached tree j (get_or l p 0) u)) fit.given-are
        ∙ ap (f (j - u)) (sym (up_from_lem j (get_or (front ++ back) p 0) u k))

    pub written-path : (u : ℕ) → 1 ≤ u → u ≤ j → withheld_symbol bytes j (length (front ++ back)) u ≡ f (j - u) (up_from j x u)
    written-path zero a k = absurd (omega arith)
    written-path (suc u) a k =
        ap (λ (l : List ℕ). withheld_symbol bytes j (length l) (suc u)) (sym fit.given-are)
        ∙ sym (withheld-symbol bytes j (length ys) u)
        ∙ ap (λ (c : List ℕ). symbol_in c u)
        (sym (after_at bytes j ys 12) ∙ ap (after_given j ys) past_head
        ∙ given-after tree tree_ok.shape f j sized in_layer below ys (path_bytes tree f j x) fit.given_below)
        ∙ path_at j x u (omega arith) k
        ∙ ap (f (j - suc u)) (sym (up_from_lem j x (suc u) k))

pub writes-layout : WritesLayout
unfolding layer_of equation_of
writes-layout depth tbl shallow r f sized j e x front back hj he em =
    let o = rules_ok depth tbl r in
    let fit = fitting tbl j e x front back depth shallow o hj he em in
    let full : (l i : ℕ) → l ≤ j → i < tree.n l → length (f l i) ≡ 256 = λ l i a h. sized l i (omega arith) (omega (arith, all-symbols l)) in
    let b : List ℕ = proof_bytes tree f j e x (equation_of tbl j e) in
    record {
      named = record {
        layer = j;
        equation = e;
        withheld = x;
        front = front;
        back = back;
        head = record {
          layer-word = word_at_lem b 0 ∙ word-layer f j full tbl e x front back fit;
          equation-word = word_at_lem b 1 ∙ word-equation f j full tbl e x front back fit;
          withheld-word = word_at_lem b 2 ∙ word-withheld f j full tbl e x front back fit;
        };
        has_layer = hj;
        has_equation = he;
        has_member = em;
      };
      layer-is = refl;
      equation-is = refl;
      withheld-is = refl;
      layout = record {
        exact = bytes-length f j full tbl e x front back fit;
        given-symbols = written-given f j full tbl e x front back fit;
        path-symbols = written-path f j full tbl e x front back fit;
      };
    }
