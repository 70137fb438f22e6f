-- FIPS 180-4, section 5.3.3: the initial hash value, H(0). Definitions only.
use Rattle.std.specs.Prelude.{ℕ, List, [], ◌∷◌}

-- H_0 to H_7
unfoldable pub initial : List ℕ
initial =
    0x6a09e667 ∷ 0xbb67ae85 ∷ 0x3c6ef372 ∷ 0xa54ff53a ∷ 0x510e527f ∷ 0x9b05688c ∷ 0x1f83d9ab ∷ 0x5be0cd19 ∷ []
