-- `greatest` meets its contract. The loop keeps: the greatest of what was met and what is left is the greatest of all.
use mathlib.Core.Path.{◌∙◌, ap, ap₂, refl, sym}
use Prim.Native.Nat.{max, ℕ}
use native.Mathlib.Numerals.{add-one}
use native.Mathlib.Omega.{arith}
use lib.ListN.{drop, drop_of_length-le}
use lib.Seq.{drop-cons}
use Rattle.std.specs.List.{fold}
use Rattle.octets.proofs.lists.greatest.Goals as goal

pub loop-x-init : goal.loop-x-init
loop-x-init c = refl

pub loop-x-preserved : goal.loop-x-preserved
loop-x-preserved c =
    let l = c.loop-x in
    let s = c.args.s.now in
    ap₂ (λ (m n : ℕ). fold max m (drop n s)) c.max-most.ensures (add-one l.x-index)
    ∙ sym (ap (fold max l.most) (drop-cons s l.x-index 0 (omega arith))) ∙ l.invariant

pub returns : goal.returns
returns c =
    let l = c.loop-x in
    sym (ap (fold max l.most) (drop_of_length-le c.args.s.now {i = l.x-index} (omega arith))) ∙ l.invariant
