-- Marks that are all right, and marks that are all 1.
use mathlib.Core.Path.{◌≡◌, sym, ap, ◌∙◌}
use mathlib.Core.Bool.{false, not, true≢false}
use mathlib.Core.List.{List}
use Prim.Native.Nat.{ℕ, ◌-◌, ◌≤◌, ◌<◌}
use native.Mathlib.Omega.{arith}
use native.Mathlib.Decide.{dec_lt}
use lib.ListN.{length, get_or}
use lib.Dec.{ltb, eqb}
use borrow.Author.Tests.{eqb-true, eq-eqb, ltb-false, le-ltb}
use Rattle.octets.proofs.Choice.{pick_no, not_no}
use Rattle.parity_table.specs.Shape.{k_of}
use Rattle.model.specs.Shape.{tree, place, places}
use Rattle.model.specs.Symbols.{lowest}
use Rattle.model.specs.Repair.{absent_at}
use Rattle.model.specs.Sampling.{sample_size, sample_layer, sample_number}
use Rattle.model.proofs.Shapes.{tree_ok, place_lt}
use Rattle.model.proofs.Counts.{lowest-is}
use Rattle.sampling.specs.Absent.{absent, first_absent}
use Rattle.sampling.specs.Lent.{BaseSymbol}
use Rattle.sampling.proofs.SymbolLaws.{sample-place_lt}
use Rattle.std.specs.Prelude.{Some, None}
use Rattle.calls.specs.Marks.{is_bad, lowest_bad}
use Rattle.volume_calls.specs.Reading.{lowest_absent}
use Rattle.calls.proofs.MarkLaws.{bad_no}

-- a symbol that isn't absent has the mark 1
pub held-marked : (m : List ℕ) (j i : ℕ) → absent_at tree m j i ≡ false → get_or m (place tree j i) 0 ≡ 1
unfolding absent_at
held-marked m j i e = eqb-true (get_or m (place tree j i) 0) 1 (not_no (eqb (get_or m (place tree j i) 0) 1) e)

-- no mark is bad just when each is 0 or 1
pub none_bad : (m : List ℕ) → ((p : ℕ) → p < length m → get_or m p 0 ≤ 1) → length m ≤ lowest_bad m
none_bad m right =
    let low = lowest-is (is_bad m) 0 (length m) in
    elim (dec_lt (lowest_bad m) (length m)) [
      | yes q ↦ absurd (true≢false (sym (low.found (omega arith)) ∙ bad_no m (lowest_bad m) (right (lowest_bad m) q)))
      | no q ↦ omega arith
    ]

pub all_right : (m : List ℕ) → length m ≤ lowest_bad m → (p : ℕ) → p < length m → get_or m p 0 ≤ 1
unfolding is_bad
all_right m h p k = ltb-false 1 (get_or m p 0) ((lowest-is (is_bad m) 0 (length m)).before p (omega arith) (omega arith))

-- where every mark is 1, no symbol is absent
module _ (depth : ℕ) (some : 1 ≤ depth) (m : List ℕ) (held : (p : ℕ) → p < places tree depth → get_or m p 0 ≡ 1) where
  pub none-absent : k_of (depth - 1) ≤ lowest_absent depth m
  unfolding absent_at
  none-absent =
      let low = lowest-is (absent_at tree m (depth - 1)) 0 (k_of (depth - 1)) in
      let p : ℕ = lowest_absent depth m in
      elim (dec_lt p (k_of (depth - 1))) [
        | yes q ↦
            absurd (true≢false
            (sym (low.found (omega arith))
            ∙ ap not
            (eq-eqb (get_or m (place tree (depth - 1) p) 0) 1
            (held (place tree (depth - 1) p)
            (place_lt tree depth (depth - 1) p (omega arith) (omega (arith, tree_ok.shape.within (depth - 1))))))))
        | no q ↦ omega arith
      ]

  pub none_needed : (i : ℕ) → BaseSymbol depth i → first_absent depth i m ≡ None
  unfolding first_absent absent absent_at
  none_needed i base =
      let low = lowest-is (absent depth i m) 0 (sample_size depth) in
      let x : ℕ = lowest (absent depth i m) 0 (sample_size depth) in
      let past : sample_size depth ≤ x =
      elim (dec_lt x (sample_size depth)) [
        | yes q ↦
            absurd (true≢false
            (sym (low.found (omega arith))
            ∙ ap not
            (eq-eqb (get_or m (place tree (sample_layer depth x) (sample_number tree depth i x)) 0) 1
            (held (place tree (sample_layer depth x) (sample_number tree depth i x)) (sample-place_lt depth i x base q)))))
        | no q ↦ omega arith
      ] in
      pick_no (ltb x (sample_size depth)) (Some x) None (le-ltb x (sample_size depth) past)
