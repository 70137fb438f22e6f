-- `octets::put_word` meets its contract: the copy is the run of stores of `be 4 x`.
use mathlib.Core.Path.{◌≡◌, ap, ◌∙◌}
use Prim.Native.Nat.{◌+◌, ◌-◌}
use native.Mathlib.Omega.{arith}
use borrow.Rule.Slice.PartMut.{put_mid}
use Rattle.octets.specs.BigEndian.{be}
use Rattle.octets.proofs.Bytes.{be_is, length-be}
use Rattle.octets.proofs.Stores.{stores_part}
use Rattle.octets.proofs.put_word.Goals as goal

pub returns : goal.returns
returns c =
    let a = c.args in
    let e : c.copy_from_slice.new.self ≡ be 4 a.x = c.copy_from_slice.ensures.after ∙ rw c.to_be_bytes.ensures (be_is a.x) in
    ap (put_mid a.at (a.at + 4 - a.at) a.s.now) e
    ∙ stores_part a.s.now (be 4 a.x) a.at (a.at + 4 - a.at) (omega (arith, length-be 4 a.x)) (omega arith)
