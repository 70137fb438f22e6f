-- What is written into the output buffer, and what the writers ask of the tree buffer. Definitions only.
use Rattle.std.specs.Prelude.{◌≡◌, true, List, ℕ, ◌+◌, ◌*◌, ◌^◌, ◌≤◌, ◌<◌, ltb, length}
use Rattle.std.proofs.Math.Seq.{paste}
use Rattle.parity_table.specs.Members.{every}
use Rattle.parity_table.specs.Shape.{max_depth}
use Rattle.model.specs.Shape.{tree, places}

-- out with p in its place from byte at on
abbrev pub splice : List ℕ → ℕ → List ℕ → List ℕ
splice out at p = paste out at p (length p)

-- the tree buffer t has a tree's layers above layer j, and the first n symbols of layer j, whatever their number
pub record Layers (j n : ℕ) (t : List ℕ) : Type 0 where
  pub layer : j < max_depth
  pub room : 256 * (places tree j + n) ≤ length t

-- .. and the members ms of an equation of layer j, whose numbers a word can say
pub record Members (j : ℕ) (t ms : List ℕ) : Type 0 where
  pub symbols : ℕ
  pub numbered : symbols ≤ 2 ^ 30
  pub layers : Layers j symbols t
  pub within : every (λ y. ltb y symbols) ms ≡ true
