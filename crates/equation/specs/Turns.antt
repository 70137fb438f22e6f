-- One turn of (b): what it did. Definitions only.
use Rattle.std.specs.Prelude.{◌≡◌, Bool, true, ◌&&◌, List, ℕ, suc, ◌≤◌, get_or, set, leb, eqb}
use Rattle.parity_table.specs.Members.{last_of}
use Rattle.model.specs.Shape.{tree, place}
use Rattle.model.specs.Symbols.{count, others, xor_of, sym_at}
use Rattle.model.specs.Repair.{End, working, absent_at, refute, act}
use Rattle.symbol_hash.specs.SymbolHash.{symbol_hash}
use Rattle.symbol_hash.specs.declared.Kind.{Kind}
use Rattle.equation.specs.declared.Turn.{Turn}
use Rattle.equation.specs.declared.Turn.TheVariants.{Used, Stored, Fault, Twins}
use Rattle.equation.specs.States.{state}
use Rattle.model.specs.Repair as repair

-- the symbols stored once a turn is over, and the end that it is, at equation e of layer j
abbrev pub stored_by : Turn → ℕ → ℕ
stored_by Used s = s
stored_by (Stored x) s = suc s
stored_by (Fault x n) s = s
stored_by (Twins x) s = s

abbrev pub end_by : ℕ → ℕ → Turn → End
end_by j e Used = working
end_by j e (Stored x) = working
end_by j e (Fault x n) = repair.fault j e x n
end_by j e (Twins x) = repair.twins j x

-- what marks and used equations become when equation e, with members ms, is taken
abbrev pub Changed : List ℕ → ℕ → ℕ → List ℕ → List ℕ → List ℕ → List ℕ → Turn → Type 0
Changed ms j e m u m' u' Used = (m' ≡ m) × (u' ≡ set u e 1)
Changed ms j e m u m' u' (Stored x) =
    (1 ≤ count (λ y. eqb y x) ms) × (absent_at tree m j x ≡ true) × (m' ≡ set m (place tree j x) 1) × (u' ≡ set u e 1)
Changed ms j e m u m' u' (Fault x n) = m' ≡ m
Changed ms j e m u m' u' (Twins x) = m' ≡ m

-- equation e, with members ms, was taken
pub record Took (kind : Kind) (root ms : List ℕ) (j e : ℕ) (t m o u t' m' o' u' : List ℕ) (r : Turn) : Type 0 where
  pub goes : (s d : ℕ) → act tree (symbol_hash kind) root j e ms (state t m o u s d working) ≡ state t' m' o' u' (stored_by r s) d (end_by j e r)
  pub changed : Changed ms j e m u m' u' r

-- it was refuted, none of its members being absent
pub record Refuted (kind : Kind) (root ms : List ℕ) (j e : ℕ) (t o o' : List ℕ) (r : Turn) : Type 0 where
  pub goes : (m u : List ℕ) (s d : ℕ)
      → refute tree (symbol_hash kind) root j e ms (last_of ms 0) (xor_of (sym_at tree t j) (others (last_of ms 0) ms)) (state t m o u s d working)
      ≡ state t m o' u (stored_by r s) d (end_by j e r)
  pub changed : (m u : List ℕ) → Changed ms j e m u m u r

-- at most one member is absent
abbrev pub few : ℕ → List ℕ → List ℕ → Bool
few j m ms = leb (count (absent_at tree m j) ms) 1

-- .. and equation e, which has the members ms, is unused
abbrev pub can : ℕ → List ℕ → List ℕ → ℕ → List ℕ → Bool
can j m u e ms = eqb (get_or u e 0) 0 && few j m ms
