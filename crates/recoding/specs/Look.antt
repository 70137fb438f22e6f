-- What the look at a tree asks of what it is lent. Definitions only.
use Rattle.std.specs.Prelude.{◌≡◌, List, ℕ, ◌*◌, length}
use Rattle.model.specs.Shape.{tree, places}

-- a root, a tree and marks of the lengths of depth d
pub record Lent (d : ℕ) (root t m : List ℕ) : Type 0 where
  pub root_full : length root ≡ 512
  pub tree-full : length t ≡ 256 * places tree d
  pub marks-full : length m ≡ places tree d
