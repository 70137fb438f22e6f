-- `xor_at` meets its contract. The loop keeps: the first i bytes are taken together.
use mathlib.Core.Path.{sym}
use native.Mathlib.Omega.{arith}
use lib.ListN.{length, take, drop}
use Rattle.octets.proofs.ListLaws.{length_part, get_d_part, xor_start, xor_turn, xor_end}
use Rattle.octets.proofs.lists.xor_at.Goals as goal

pub loop-i-init : goal.loop-i-init
loop-i-init c = xor_start _ _

pub loop-i-preserved : goal.loop-i-preserved
loop-i-preserved c =
    let a = c.args in
    let l = c.loop-i in
    xor_turn _ (take (length a.s.now) (drop a.at a.t.now)) l.s l.i _ (length_part a.t.now a.at (length a.s.now) c.requires) (omega arith)
    (sym (get_d_part a.t.now a.at (length a.s.now) l.i (omega arith))) l.invariant

pub returns : goal.returns
returns c =
    let a = c.args in
    xor_end _ _ _ c.loop-i.i (length_part a.t.now a.at (length a.s.now) c.requires) (omega arith) c.loop-i.invariant
