-- `depth_fits` meets its contract: one range.
use Rattle.std.proofs.Common.{rules}
use Rattle.parity_table.specs.Shape.{depth_fits}
use Rattle.parity_table.proofs.depth_fits.Goals as goal

pub returns : goal.returns
unfolding depth_fits
returns c = search rules
