-- `words_from` meets its contract. The loop keeps: the first i words are written.
use mathlib.Core.Path.{◌≡◌, ap, ◌∙◌}
use mathlib.Core.List.{List, ◌++◌}
use Prim.Native.Nat.{ℕ}
use native.Mathlib.Omega.{arith}
use lib.ListN.{length, drop, take, length-take}
use Rattle.table_bytes.proofs.ByteForm.{front_length, words_start, words-next, words-filled, words-all}
use Rattle.octets.specs.BigEndian.{words}
use Rattle.table_bytes.proofs.words_from.Goals as goal

pub loop-i-init : goal.loop-i-init
loop-i-init c = words_start c.args.b.now (take c.min-n.result c.args.ws.now)

pub loop-i-preserved : goal.loop-i-preserved
loop-i-preserved c =
    let a = c.args in
    let n : ℕ = c.min-n.result in
    cc (words-next a.b.now (take n a.ws.now) c.loop-i.i (omega arith))

pub returns : goal.returns
returns c =
    let a = c.args in
    let l = c.loop-i in
    let n : ℕ = c.min-n.result in
    let i : l.i ≡ n = omega (arith, length-take n a.ws.now) in
    let f : l.front ≡ words a.b.now n = l.invariant ∙ words-filled a.b.now (take n a.ws.now) l.i (omega arith) ∙ ap (words a.b.now) i in (
      omega (arith, front_length a.b.now (length a.ws.now)),
      ap (λ (s : List ℕ). s ++ drop n a.ws.now) f ∙ words-all a.b.now a.ws.now n (length a.ws.now) (omega arith),
    )
