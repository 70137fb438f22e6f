-- The tests of a proof once the first two words of its head are known to be right. Definitions only.
use Rattle.std.specs.Prelude.{Bool, not, ◌&&◌, List, ℕ, length, leb, eqb}
use Rattle.octets.specs.Choice.{pick}
use Rattle.octets.specs.ByteLists.{same}
use Rattle.heads.specs.Heads.{kind_at}
use Rattle.model.specs.Shape.{Shape}
use Rattle.model.specs.Symbols.{count, others}
use Rattle.model.specs.Fault.{proof_withheld, proof_length, body, given_xor, after_given, Verdict, wrong_head, wrong_length, ruling, path_hash, ways_check}

-- the third word of the proof b has its kind, with the number of one of the members ms
unfoldable pub withholds : List ℕ → List ℕ → Bool
withholds b ms = eqb (kind_at b 2) 3 && leb 1 (count (λ y. eqb y (proof_withheld b)) ms)

module _ (S : Shape) (H : ℕ → ℕ → List ℕ → List ℕ) (root : List ℕ) (j : ℕ) where
  -- tests 2, 7 and 8 of a proof b that withholds symbol x of layer j, ms being the members of the equation
  unfoldable pub ruled : ℕ → List ℕ → List ℕ → Verdict
  ruled x ms b =
      pick (not (eqb (length b) (proof_length j (length ms)))) wrong_length
      (ruling (ways_check S H root j x 0 (others x ms) (body b))
      (same (H j x (given_xor j (others x ms) (body b))) (path_hash S root j x (after_given j (others x ms) (body b)))))

  -- what is left of test 6, then those
  unfoldable pub judged : List ℕ → List ℕ → Verdict
  judged ms b = pick (not (withholds b ms)) wrong_head (ruled (proof_withheld b) ms b)
