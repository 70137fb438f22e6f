-- What the steps of a layer do to the buffers. Definitions only.
use Rattle.std.specs.Prelude.{◌≡◌, Err, List, None, Ok, Option, Result, Some, ℕ, length}
use Rattle.model.specs.Repair.{St, End, working}
use Rattle.equation.specs.States.{state}
use Rattle.equation.specs.declared.Turn.{Turn}
use Rattle.equation.specs.declared.Turn.TheVariants as turn
use Rattle.peeling.specs.Search.{Counted, Ordered}
use Rattle.peeling.specs.declared.Refutation.{Refutation}
use Rattle.peeling.specs.declared.Refutation.TheVariants.{Fault, Twins}
use Rattle.model.specs.Repair as repair

-- a step f of a repair that goes on changes tree and marks, whatever else the state holds
pub record Moved (f : St → St) (t m t' m' : List ℕ) : Type 0 where
  pub goes : (o u : List ℕ) (s d : ℕ) → f (state t m o u s d working) ≡ state t' m' o u s d working

-- how the peeling of a layer ended
abbrev pub Outcome : Type 0
Outcome = Result Unit Refutation

-- the end that a refutation of layer j is, and that an outcome is
abbrev pub refuted : ℕ → Refutation → End
refuted j (Fault e x n) = repair.fault j e x n
refuted j (Twins x) = repair.twins j x

abbrev pub end_of : ℕ → Outcome → End
end_of j (Ok _) = working
end_of j (Err z) = refuted j z

-- what a turn at equation e came to: the symbol stored, if any, or a refutation
abbrev pub gain_of : ℕ → Turn → Result (Option ℕ) Refutation
gain_of e turn.Used = Ok None
gain_of e (turn.Stored x) = Ok (Some x)
gain_of e (turn.Fault x n) = Err (Fault e x n)
gain_of e (turn.Twins x) = Err (Twins x)

-- steps f of layer j, from these buffers with s symbols stored, come to those with s' stored and this outcome
pub record Came (f : St → St) (j : ℕ) (t m o u t' m' o' u' : List ℕ) (s s' : ℕ) (r : Outcome) : Type 0 where
  pub goes : (d : ℕ) → f (state t m o u s d working) ≡ state t' m' o' u' s' d (end_of j r)

-- where no equation can be taken any more, the lists by which the next one is found are right for another call
abbrev pub Kept : List ℕ → List ℕ → ℕ → ℕ → List ℕ → List ℕ → List ℕ → List ℕ → Outcome → Type 0
Kept ws starts from j m u absent order (Ok _) = Counted ws starts from j (length u) m absent × Ordered u absent 0 order
Kept ws starts from j m u absent order (Err z) = Unit {0}
