-- `put_row` meets its contract: four words, or five, are copied.
use mathlib.Core.Path.{◌≡◌, sym, ap, ◌∙◌}
use mathlib.Core.List.{List, ◌++◌, append_assoc}
use Prim.Native.Nat.{ℕ, ◌+◌, ◌-◌, ◌≤◌}
use native.Mathlib.Omega.{arith}
use lib.ListN.{length, take, drop}
use lib.Seq.{sets, sets-eq, drop-drop}
use borrow.Rule.Slice.PartMut.{put_mid}
use Rattle.house_table.specs.House.{house_row}
use Rattle.house_table.proofs.HouseParts.{row_first, row_later, row_short}
use Rattle.house_table.proofs.put_row.Goals as goal

-- a part that is written over
copied : (o xs row : List ℕ) (at n : ℕ) → xs ≡ row → length row ≡ n → at + n ≤ length o → put_mid at (at + n - at) o xs ≡ sets o at row
copied o xs row at n e l h =
    ap (λ (x : List ℕ). take at o ++ (x ++ drop (at + n - at) (drop at o))) e
    ∙ ap (λ (x : List ℕ). take at o ++ (row ++ x)) (drop-drop (at + n - at) at o ∙ ap (λ (m : ℕ). drop m o) (omega arith))
    ∙ sym (append_assoc (take at o) row (drop (at + length row) o))
    ∙ sym (sets-eq row o at (omega arith))

pub slice_bounds-copy_from_slice-end : goal.slice_bounds-copy_from_slice-end
slice_bounds-copy_from_slice-end c = omega (arith, row_short c.args.k c.args.e)

pub returns-then-e-eq0 : goal.returns-then-e-eq0
returns-then-e-eq0 c =
    let a = c.args in
    let row = row_first a.k a.e c.min-low.result c.max-high.result c.if-e-eq0.true c.min-low.ensures c.max-high.ensures in
    (omega (arith, ap length row), copied a.out.now _ (house_row a.k a.e) a.at 4 (c.copy_from_slice.ensures.after ∙ row) (sym (ap length row)) (omega (arith, ap length row)))

pub slice_bounds-copy_from_slice-end-2 : goal.slice_bounds-copy_from_slice-end-2
slice_bounds-copy_from_slice-end-2 c =
    let a = c.args in
    omega (arith, ap length (row_later a.k a.e c.min-low.result c.max-high.result c.if-e-eq0.false c.min-low.ensures c.max-high.ensures))

pub returns : goal.returns
returns c =
    let a = c.args in
    let row = row_later a.k a.e c.min-low.result c.max-high.result c.if-e-eq0.false c.min-low.ensures c.max-high.ensures in
    (omega (arith, ap length row), copied a.out.now _ (house_row a.k a.e) a.at 5 (c.copy_from_slice-2.ensures.after ∙ row) (sym (ap length row)) (omega (arith, ap length row)))
