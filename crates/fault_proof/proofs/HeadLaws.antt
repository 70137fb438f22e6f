-- The head of a proof, word by word, and the equation that it names.
use mathlib.Core.Path.{◌≡◌, refl, sym, ap, ◌∙◌}
use mathlib.Core.Bool.{Bool, true, false, not, ◌&&◌, ◌||◌}
use mathlib.Core.List.{List, [], ◌∷◌}
use Prim.Native.Nat.{ℕ, ◌+◌, ◌*◌, ◌<◌}
use native.Mathlib.Omega.{arith}
use lib.ListN.{length}
use lib.Dec.{leb, ltb, eqb}
use borrow.Author.Tests.{eq-eqb, ne_eqb, ltb-true, le-leb}
use Rattle.std.specs.List.{list_any}
use Rattle.octets.proofs.Choice.{by_test, and_yes, pick_yes}
use Rattle.parity_table.specs.Shape.{max_depth, k_of, n_of}
use Rattle.parity_table.specs.Table.{layer_of, equation_of}
use Rattle.parity_table.specs.Accepted.{Accepted, Kept}
use Rattle.heads.specs.Heads.{kind_at, value_at}
use Rattle.model.specs.Shape.{Shape}
use Rattle.model.specs.Symbols.{bit, count}
use Rattle.model.specs.Fault.{proof_layer, proof_equation, proof_withheld, proof_members, proof_given, layer_ok, equation_ok, member_ok, head_ok, Verdict, wrong_head, proof_check, withheld_fits, verdict}
use Rattle.model.proofs.Counts.{is_it}
use Rattle.model.proofs.Tables.{table_laws}
use Rattle.model.proofs.Hung.{top-hashes}
use Rattle.fault_proof.specs.Lent.{Members}
use Rattle.fault_proof.specs.Ruled.{withholds, ruled, judged}

-- ---- a member

-- whether some number passes, by how many do
pub any-counted : (p : ℕ → Bool) (xs : List ℕ) → list_any p xs ≡ leb 1 (count p xs)
unfolding count
any-counted p [] = refl
any-counted p (x ∷ xs) =
    by_test (p x) (λ t. ap (λ b. b || list_any p xs) t ∙ sym (le-leb 1 (bit (p x) + count p xs) (omega (arith, ap bit t))))
    (λ t.
    let n : count p xs ≡ bit (p x) + count p xs = omega (arith, ap bit t) in
    ap (λ b. b || list_any p xs) t ∙ any-counted p xs ∙ ap (leb 1) n)

-- the third word: c is its kind and x its value
module _ (b ms : List ℕ) (c : ℕ) (ec : c ≡ kind_at b 2) where
  pub withholds_kind : (c ≡ 3 → ⊥) → false ≡ withholds b ms
  unfolding withholds
  withholds_kind n = rw (ne_eqb (kind_at b 2) 3 (λ z. n (ec ∙ z)))

  pub withholds-member : (x : ℕ) → c ≡ 3 → x ≡ value_at b 2 → leb 1 (count (is_it x) ms) ≡ withholds b ms
  unfolding withholds proof_withheld
  withholds-member x q ex = rw (eq-eqb (kind_at b 2) 3 (sym ec ∙ q), ex)

-- ---- the first two words, r₀ and r₁ being what their tests find: a layer of the d of a table, and one of the layer's n equations

module _ (tbl : List (List (List ℕ))) (b : List ℕ) (d : ℕ) (depth : length tbl ≡ d) (r₀ : Bool) (e₀ : r₀ ≡ (eqb (kind_at b 0) 1 && ltb (value_at b 0) d)) where
  layer-is : layer_ok tbl b ≡ r₀
  unfolding layer_ok proof_layer
  layer-is = ap (λ n. eqb (kind_at b 0) 1 && ltb (value_at b 0) n) depth ∙ sym e₀

  pub layer-refused : (S : Shape) (H : ℕ → ℕ → List ℕ → List ℕ) (root : List ℕ) → r₀ ≡ false → wrong_head ≡ verdict S H root tbl b
  unfolding verdict head_ok
  layer-refused S H root t = sym (pick_yes (not (head_ok tbl b)) wrong_head _ (rw (layer-is, t)))

  -- the first word names layer j
  module _ (n₀ : r₀ ≡ true) (j : ℕ) (ej : j ≡ value_at b 0) where
    pub layer_below : j < d
    layer_below = omega (arith, ej, ltb-true (value_at b 0) d (and_yes (eqb (kind_at b 0) 1) (ltb (value_at b 0) d) (sym e₀ ∙ n₀)).1)

    module _ (n : ℕ) (size : length (layer_of tbl j) ≡ n) (r₁ : Bool) (e₁ : r₁ ≡ (eqb (kind_at b 1) 2 && ltb (value_at b 1) n)) where
      equation-is : equation_ok tbl b ≡ r₁
      unfolding equation_ok proof_layer proof_equation
      equation-is = ap (λ m. eqb (kind_at b 1) 2 && ltb (value_at b 1) m) (ap (λ l. length (layer_of tbl l)) (sym ej) ∙ size) ∙ sym e₁

      pub equation-refused : (S : Shape) (H : ℕ → ℕ → List ℕ → List ℕ) (root : List ℕ) → r₁ ≡ false → wrong_head ≡ verdict S H root tbl b
      unfolding verdict head_ok
      equation-refused S H root t = sym (pick_yes (not (head_ok tbl b)) wrong_head _ (rw (layer-is, n₀, equation-is, t)))

      -- the second word names equation e
      module _ (n₁ : r₁ ≡ true) (e : ℕ) (ee : e ≡ value_at b 1) where
        pub equation-below : e < n
        equation-below = omega (arith, ee, ltb-true (value_at b 1) n (and_yes (eqb (kind_at b 1) 2) (ltb (value_at b 1) n) (sym e₁ ∙ n₁)).1)

        -- whose members are ms
        pub named-judged : (S : Shape) (H : ℕ → ℕ → List ℕ → List ℕ) (root ms : List ℕ) → ms ≡ equation_of tbl j e
            → (v : Verdict) → v ≡ judged S H root j ms b → v ≡ verdict S H root tbl b
        unfolding verdict head_ok member_ok proof_check withheld_fits proof_given proof_members proof_layer proof_equation judged withholds ruled
        named-judged S H root ms em v ev = ev ∙ rw (em, ej, ee, layer-is, n₀, equation-is, n₁)

-- ---- an equation of an accepted table

module _ {t : Accepted} (kept : Kept t) (j : ℕ) (hj : j < t.depth) where
  pub layer-known : j < max_depth
  layer-known = omega (arith, kept.shallow)

  module _ (k : ℕ) (ek : k ≡ k_of j) where
    pub layer-size : length (layer_of t.layers j) ≡ 3 * k
    layer-size = omega (arith, kept.rules.equations j hj, ek)

    module _ (e : ℕ) (he : e < 3 * k) where
      pub named-members : (root ms : List ℕ) → length root ≡ 512 → ms ≡ equation_of t.layers j e → Members j ms root
      named-members root ms l em =
          let laws = table_laws t.depth t.layers kept.some kept.shallow kept.rules in
          let h : j < length t.layers = omega (arith, kept.rules.depth) in
          let g : e < length (layer_of t.layers j) = omega (arith, layer-size) in
          rw em
          (record {
            layer = layer-known;
            few = laws.few-members j e h g;
            ascend = laws.ascend j e h g;
            symbols = n_of j;
            inside = laws.within j e h g;
            top = top-hashes root j l;
            hung = λ q. (omega arith, omega arith);
          })
