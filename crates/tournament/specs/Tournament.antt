-- A tournament over n numbers, its entries: a list of 2 n numbers. Entry e stands at place n + e, node i, from 1 to n - 1, is the lesser of what stands at
-- 2 i and 2 i + 1, and place 0 is free. Definitions only.
use Rattle.std.specs.Prelude.{◌≡◌, List, ℕ, ◌+◌, ◌*◌, ◌/◌, ◌≤◌, ◌<◌, min, length, get_or, drop, set}

unfoldable pub entries : List ℕ → List ℕ
entries tree = drop (length tree / 2) tree

abbrev pub RightAt : List ℕ → ℕ → Type 0
RightAt tree i = get_or tree i 0 ≡ min (get_or tree (2 * i) 0) (get_or tree (2 * i + 1) 0)

pub record Tournament (tree : List ℕ) : Type 0 where
  pub paired : length tree ≡ 2 * (length tree / 2)
  pub right : (i : ℕ) → 1 ≤ i → i < length tree / 2 → RightAt tree i

-- a tournament whose entries are those of the tree, but entry e, which is v
pub record Entered (tree : List ℕ) (e v : ℕ) (after : List ℕ) : Type 0 where
  pub tournament : Tournament after
  pub sized : length after ≡ length tree
  pub entered : entries after ≡ set (entries tree) e v

-- r is one of the numbers, and none is less
pub record Least (xs : List ℕ) (r : ℕ) : Type 0 where
  pub at_most : (x : ℕ) → x < length xs → r ≤ get_or xs x 0
  pub found : (x : ℕ) × (x < length xs) × (get_or xs x 0 ≡ r)
