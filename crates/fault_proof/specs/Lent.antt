-- What the checker's parts ask of the equation that the head names. Definitions only.
use Rattle.std.specs.Prelude.{◌≡◌, true, List, ℕ, ◌*◌, ◌≤◌, ◌<◌, length, ltb}
use Rattle.parity_table.specs.Shape.{max_depth, n_of}
use Rattle.parity_table.specs.Members.{every, ascending}

-- ms are the members of an equation of layer j, of which the ways up end in the root. A layer 0 may have any number of symbols, if the root has their
-- hashes; another layer hangs under the tree's.
pub record Members (j : ℕ) (ms root : List ℕ) : Type 0 where
  pub layer : j < max_depth
  pub few : length ms ≤ 8
  pub ascend : ascending ms ≡ true
  pub symbols : ℕ
  pub inside : every (λ y. ltb y symbols) ms ≡ true
  pub top : j ≡ 0 → 32 * symbols ≤ length root
  pub hung : 0 < j → (symbols ≤ n_of j) × (512 ≤ length root)
