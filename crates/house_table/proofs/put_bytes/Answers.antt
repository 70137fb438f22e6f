-- `put_bytes` meets its contract: the words, then their bytes.
use mathlib.Core.Path.{◌≡◌, sym, ap, ◌∙◌}
use mathlib.Core.List.{List, ◌++◌}
use Prim.Native.Nat.{ℕ, ◌*◌, ◌/◌}
use native.Mathlib.Omega.{arith}
use lib.ListN.{length, take, drop}
use Rattle.house_table.specs.House.{house_words}
use lib.Seq.{take_at, length-take-le}
use Rattle.octets.specs.BigEndian.{bytes_of}
use Rattle.house_table.proofs.put_bytes.Goals as goal

pub slice_bounds-put_table-end-2 : goal.slice_bounds-put_table-end-2
slice_bounds-put_table-end-2 c =
    let a = c.args in
    let pre = c.requires in
    let n : length a.out.now / 4 ≡ length (house_words a.depth) = omega (arith, pre.1) in
    sym (length-take-le (length a.out.now / 4) a.words.now (omega (arith, n, pre.2)))

pub put_table-requires : goal.put_table-requires
put_table-requires c =
    let a = c.args in
    let pre = c.requires in
    let n : length a.out.now / 4 ≡ length (house_words a.depth) = omega (arith, pre.1) in
    (pre.0, length-take-le (length a.out.now / 4) a.words.now (omega (arith, n, pre.2)) ∙ n)

pub slice_bounds-bytes_from-end-2 : goal.slice_bounds-bytes_from-end-2
slice_bounds-bytes_from-end-2 c =
    let a = c.args in
    let pre = c.requires in
    let put-table = c.put_table in
    let n : length a.out.now / 4 ≡ length (house_words a.depth) = omega (arith, pre.1) in
    let v = put-table.new.out in
    let front : take (length a.out.now / 4) (v ++ drop (length a.out.now / 4) a.words.now) ≡ house_words a.depth =
    take_at v (drop (length a.out.now / 4) a.words.now) (length a.out.now / 4) (ap length put-table.ensures ∙ sym n)
    ∙ put-table.ensures in
    n ∙ ap length (sym front)

pub bytes_from-requires : goal.bytes_from-requires
bytes_from-requires c =
    let a = c.args in
    let pre = c.requires in
    let put-table = c.put_table in
    let n : length a.out.now / 4 ≡ length (house_words a.depth) = omega (arith, pre.1) in
    let v = put-table.new.out in
    let front : take (length a.out.now / 4) (v ++ drop (length a.out.now / 4) a.words.now) ≡ house_words a.depth =
    take_at v (drop (length a.out.now / 4) a.words.now) (length a.out.now / 4) (ap length put-table.ensures ∙ sym n)
    ∙ put-table.ensures in
    pre.1 ∙ ap (λ (l : List ℕ). length l * 4) (sym front)

pub returns : goal.returns
returns c =
    let a = c.args in
    let pre = c.requires in
    let put-table = c.put_table in
    let n : length a.out.now / 4 ≡ length (house_words a.depth) = omega (arith, pre.1) in
    let v = put-table.new.out in
    let front : take (length a.out.now / 4) (v ++ drop (length a.out.now / 4) a.words.now) ≡ house_words a.depth =
    take_at v (drop (length a.out.now / 4) a.words.now) (length a.out.now / 4) (ap length put-table.ensures ∙ sym n)
    ∙ put-table.ensures in
    c.bytes_from.ensures ∙ ap bytes_of front
