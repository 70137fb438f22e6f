-- `list` meets its contract. The loop keeps `Putting`: what is left is the lines from symbol i on.
use mathlib.Core.Path.{ap, ◌∙◌}
use mathlib.Core.List.{List}
use Prim.Native.Nat.{ℕ, ◌+◌}
use native.Mathlib.Omega.{arith}
use lib.ListN.{length, take}
use lib.Seq.{sets}
use Rattle.octets.proofs.Writes.{putting_start, putting_step, putting_room, putting_end}
use Rattle.listing.proofs.TextLaws.{line_of, lines_left, lines_turn, lines_none, lines_length, line_of_lem, listed, headed}
use Rattle.listing.proofs.text.list.Goals as goal

pub loop-i-init : goal.loop-i-init
loop-i-init c =
    (omega arith, putting_start c.copy_at.new.d 10 (lines_left c.args.tree.now 0))

pub put_line-at-requires : goal.put_line-at-requires
put_line-at-requires c =
    let t = c.args.tree.now in
    let l = c.loop-i in (
      c.symbol_at.ensures.long,
      omega
          (arith, ap length (line_of_lem t l.i _ c.symbol_at.ensures.symbol), l.invariant.1.long, putting_room l.invariant.1 (line_of t l.i) (lines_left t (l.i + 1)) (lines_turn t l.i (omega arith)) (omega (arith, lines_length t))),
    )

pub loop-i-preserved : goal.loop-i-preserved
loop-i-preserved c =
    let t = c.args.tree.now in
    let l = c.loop-i in
    let r = c.put_line-at in
    let e = line_of_lem t l.i _ c.symbol_at.ensures.symbol in (
      omega arith,
      putting_step l.invariant.1 (line_of t l.i) (lines_left t (l.i + 1)) (lines_turn t l.i (omega arith)) r.new.text r.result
          (r.ensures.1 ∙ ap (sets l.text l.at) e) (r.ensures.0 ∙ ap (λ (x : List ℕ). l.at + length x) e),
    )

pub returns : goal.returns
returns c =
    let a = c.args in
    let l = c.loop-i in
    let h = c.copy_at in
    (putting_end l.invariant.1 (lines_none a.tree.now l.i (omega arith))).1
    ∙ listed a.tree.now h.new.d (omega arith) (ap (take 10) h.ensures ∙ headed a.text.now)
