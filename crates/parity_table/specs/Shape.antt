-- The layers of a tree: 01, "Layers". Definitions only.
use Rattle.std.specs.Prelude.{Bool, ◌&&◌, ℕ, ◌*◌, ◌^◌, leb, ltb}

-- the largest depth
abbrev pub max_depth : ℕ
max_depth = 9

-- "Depth D is 1 to 5", and by 02 "Depth up to 9"
unfoldable pub depth_fits : ℕ → Bool
depth_fits d = leb 1 d && leb d max_depth

-- the largest depth of a call that needs little stack
abbrev pub shallow : ℕ
shallow = 5

-- a depth whose call needs more
unfoldable pub is_deep : ℕ → Bool
is_deep d = ltb shallow d && depth_fits d

-- "Layer j (0 is the top, D−1 the base) has k = 4·2^j data symbols": k of layer j
unfoldable pub k_of : ℕ → ℕ
k_of j = 4 * 2 ^ j

-- "n = 4k": the symbols of layer j
unfoldable pub n_of : ℕ → ℕ
n_of j = 4 * k_of j
