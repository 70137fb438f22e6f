-- A choice by a test. Definitions only.
use Rattle.std.specs.Prelude.{Bool, true, false}

-- x where the test holds, else y
unfoldable pub pick {ℓ} : {X : Type ℓ} → Bool → X → X → X
pick true x y = x
pick false x y = y
