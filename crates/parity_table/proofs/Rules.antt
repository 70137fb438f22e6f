-- The rules of a table, layer after layer and equation after equation: the form that goes word by word.
use mathlib.Core.Path.{◌≡◌, sym, subst}
use mathlib.Core.Bool.{true}
use mathlib.Core.List.{List, [], ◌∷◌}
use Prim.Native.Nat.{ℕ, zero, suc, ◌+◌, ◌*◌, ◌<◌}
use native.Mathlib.Nat.{add-zero, zero-add}
use native.Mathlib.Omega.{arith}
use lib.ListN.{length, get_or}
use lib.Dec.{ltb}
use Rattle.parity_table.specs.Shape.{k_of, n_of}
use Rattle.parity_table.specs.Members.{every}
use Rattle.parity_table.specs.Table.{layer_of, equation_of, EquationOk, TableOk}
use Rattle.parity_table.proofs.Chain.{Chain, Split, equation_chain, chain_within, chain_split}

-- the equations of layer j from number e on
abbrev pub EquationsOk : ℕ → ℕ → List (List ℕ) → Type 0
EquationsOk j e [] = Unit {0}
EquationsOk j e (ms ∷ es) = EquationOk j e ms × EquationsOk j (suc e) es

-- the layers from number j on
abbrev pub LayersOk : ℕ → List (List (List ℕ)) → Type 0
LayersOk j [] = Unit {0}
LayersOk j (es ∷ ls) = (length es ≡ 3 * k_of j) × EquationsOk j 0 es × LayersOk (suc j) ls

-- ---- from these to each equation and each layer

equations_at : (j e : ℕ) (es : List (List ℕ)) → EquationsOk j e es → (q : ℕ) → q < length es → EquationOk j (e + q) (get_or es q [])
equations_at j e [] o q h = absurd (omega arith)
equations_at j e (ms ∷ es) o zero h = rw add-zero o.0
equations_at j e (ms ∷ es) o (suc q) h =
    subst (λ (n : ℕ). EquationOk j n (get_or es q [])) (omega arith) (equations_at j (suc e) es o.1 q (omega arith))

record LayerOk (j : ℕ) (es : List (List ℕ)) : Type 0 where
  pub full : length es ≡ 3 * k_of j
  pub rules : EquationsOk j 0 es

layers_at : (j : ℕ) (ls : List (List (List ℕ))) → LayersOk j ls → (t : ℕ) → t < length ls → LayerOk (j + t) (get_or ls t [])
layers_at j [] o t h = absurd (omega arith)
layers_at j (es ∷ ls) o zero h = rw add-zero (record { full = o.0; rules = o.1 })
layers_at j (es ∷ ls) o (suc t) h =
    subst (λ (n : ℕ). LayerOk n (get_or ls t [])) (omega arith) (layers_at (suc j) ls o.2 t (omega arith))

pub layers-table : (d : ℕ) (tbl : List (List (List ℕ))) → length tbl ≡ d → LayersOk 0 tbl → TableOk d tbl
unfolding layer_of equation_of
layers-table d tbl n o =
    let at : (j : ℕ) → j < d → LayerOk j (get_or tbl j []) =
    λ j h. subst (λ (i : ℕ). LayerOk i (get_or tbl j [])) (zero-add j) (layers_at 0 tbl o j (omega (arith, n))) in
    record {
      depth = n;
      equations = λ j h. (at j h).full;
      members = λ j e h g.
          subst (λ (i : ℕ). EquationOk j i (get_or (get_or tbl j []) e [])) (zero-add e)
          (equations_at j 0 (get_or tbl j []) (at j h).rules e (omega (arith, (at j h).full)));
    }

-- ---- and back

equations-all : (j e : ℕ) (es : List (List ℕ)) → ((q : ℕ) → q < length es → EquationOk j (e + q) (get_or es q [])) → EquationsOk j e es
equations-all j e [] f = tt
equations-all j e (ms ∷ es) f = (
  subst (λ (n : ℕ). EquationOk j n ms) (add-zero e) (f 0 (omega arith)),
  equations-all j (suc e) es (λ q h. subst (λ (n : ℕ). EquationOk j n (get_or es q [])) (omega arith) (f (suc q) (omega arith))),
)

layers-all : (j : ℕ) (ls : List (List (List ℕ))) → ((t : ℕ) → t < length ls → LayerOk (j + t) (get_or ls t [])) → LayersOk j ls
layers-all j [] f = tt
layers-all j (es ∷ ls) f =
    let o : LayerOk j es = subst (λ (n : ℕ). LayerOk n es) (add-zero j) (f 0 (omega arith)) in (
      o.full,
      o.rules,
      layers-all (suc j) ls (λ t h. subst (λ (n : ℕ). LayerOk n (get_or ls t [])) (omega arith) (f (suc t) (omega arith))),
    )

module _ (d : ℕ) (tbl : List (List (List ℕ))) (o : TableOk d tbl) where
  pub table-layers : LayersOk 0 tbl
  unfolding layer_of equation_of
  table-layers =
      layers-all 0 tbl
      (λ t h.
      let n : t < d = omega (arith, o.depth) in
      let full : length (get_or tbl t []) ≡ 3 * k_of t = o.equations t n in
      subst (λ (i : ℕ). LayerOk i (get_or tbl t [])) (sym (zero-add t))
      (record {
        full = full;
        rules =
            equations-all t 0 (get_or tbl t [])
            (λ q g. subst (λ (i : ℕ). EquationOk t i (get_or (get_or tbl t []) q [])) (sym (zero-add q)) (o.members t q n (omega arith)));
      }))

  -- ---- the members

  pub table_chain : (j e : ℕ) → j < d → e < 3 * k_of j → Chain 0 (k_of j + e) (equation_of tbl j e)
  table_chain j e h g = equation_chain j e (equation_of tbl j e) (o.members j e h g)

  -- every member is a symbol of the layer
  pub members-below : (j e : ℕ) → j < d → e < 3 * k_of j → every (λ x. ltb x (n_of j)) (equation_of tbl j e) ≡ true
  unfolding n_of
  members-below j e h g = chain_within 0 (k_of j + e) (n_of j) (equation_of tbl j e) (omega arith) (table_chain j e h g)

  -- the last member, k + e, stands apart from the others, which are all below it
  pub members_split : (j e : ℕ) → j < d → e < 3 * k_of j → Split (k_of j + e) (equation_of tbl j e)
  members_split j e h g = chain_split 0 (k_of j + e) (equation_of tbl j e) (table_chain j e h g)
