-- `write_bytes` meets its contract: few words serve a depth that is not deep.
use mathlib.Core.Path.{◌∙◌, sym}
use native.Mathlib.Omega.{arith}
use Rattle.parity_table.specs.Shape.{max_depth, shallow}
use Rattle.parity_table.proofs.Shape.{depth_is, not_deep}
use Rattle.house_table.proofs.HouseParts.{house-room}
use Rattle.house_table.proofs.write_bytes.Goals as goal

pub write_by-requires : goal.write_by-requires
write_by-requires c = record {
  room = let d = c.args.depth in house-room d max_depth (λ f. (depth_is d f).1) (omega arith);
  few = omega arith;
}

pub write_by-requires-else-is_deep : goal.write_by-requires-else-is_deep
write_by-requires-else-is_deep c = record {
  room =
      let d = c.args.depth in
      house-room d shallow (not_deep d (sym c.is_deep.ensures ∙ c.if-is_deep.false)) (omega arith);
  few = omega arith;
}
