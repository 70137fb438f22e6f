-- What the check of a way up answers, as the model has it. Definitions only.
use Rattle.std.specs.Prelude.{Result, Ok, Err}
use Rattle.model.specs.Climb.{Climb, leads, breaks}
use Rattle.symbol_hash.specs.declared.Broken.{Broken}

abbrev pub climb_of : Result Unit Broken → Climb
climb_of (Ok _) = leads
climb_of (Err b) = breaks b.layer
