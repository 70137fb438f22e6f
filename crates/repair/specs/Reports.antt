-- What a repair, and the repair of a layer, leave and report. Definitions only.
use Rattle.std.specs.Prelude.{◌≡◌, Err, List, None, Ok, Option, Some, ℕ, suc, ltb}
use Rattle.octets.specs.Choice.{pick}
use Rattle.model.specs.Shape.{tree}
use Rattle.model.specs.Symbols.{lowest}
use Rattle.model.specs.Repair as model
use Rattle.symbol_hash.specs.SymbolHash.{symbol_hash}
use Rattle.symbol_hash.specs.declared.Kind.{Kind}
use Rattle.peeling.specs.States.{Outcome, refuted}
use Rattle.equation.specs.States.{state}
use Rattle.repair.specs.declared.End.{End}
use Rattle.repair.specs.declared.End.TheVariants.{Whole, Fault, Unavailable, Twins}

-- the end as the model has it
abbrev pub end_of : End → model.End
end_of Whole = model.whole
end_of (Fault j e x n) = model.fault j e x n
end_of (Unavailable j) = model.unavailable j
end_of (Twins j x) = model.twins j x

-- a layer is left so: None, the repair goes on
abbrev pub passes : Option End → model.End
passes None = model.working
passes (Some z) = end_of z

-- (c) after the peeling of layer j
abbrev pub settled : Outcome → List ℕ → ℕ → model.End
settled (Ok _) m j = pick (ltb (lowest (model.absent_at tree m j) 0 (tree.n j)) (tree.n j)) (model.unavailable j) model.working
settled (Err z) m j = refuted j z

-- layer j was worked through, with s symbols stored before and s' after
pub record Layered (kind : Kind) (root : List ℕ) (tbl : List (List (List ℕ))) (j : ℕ) (t m o t' m' o' : List ℕ) (s s' : ℕ) (r : Option End) : Type 0 where
  pub used : List ℕ
  pub goes : (u : List ℕ) (d : ℕ)
      → model.layer tree (symbol_hash kind) root tbl j (state t m o u s d model.working) ≡ state t' m' o' used s' (suc j) (passes r)

-- the repair of the tree t₀, the marks m₀ and the output o₀ leaves t, m and o, and reports s and z
pub record Repaired (kind : Kind) (root : List ℕ) (tbl : List (List (List ℕ))) (t₀ m₀ o₀ t m o : List ℕ) (s : ℕ) (z : End) : Type 0 where
  pub tree_is : t ≡ (model.repair tree (symbol_hash kind) root tbl t₀ m₀ o₀).tree
  pub marks-is : m ≡ (model.repair tree (symbol_hash kind) root tbl t₀ m₀ o₀).marks
  pub out-is : o ≡ (model.repair tree (symbol_hash kind) root tbl t₀ m₀ o₀).out
  pub stored_is : s ≡ (model.repair tree (symbol_hash kind) root tbl t₀ m₀ o₀).stored
  pub end_is : end_of z ≡ (model.repair tree (symbol_hash kind) root tbl t₀ m₀ o₀).end
