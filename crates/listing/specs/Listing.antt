-- What the program prints: 01, "The program `listing`". Definitions only.
use Rattle.std.specs.Prelude.{List, [], ◌∷◌, ◌++◌, ℕ, ◌+◌, ◌/◌, ◌%◌, length, get_or, replicate, ltb, eqb}
use Rattle.octets.specs.Choice.{pick}
use Rattle.octets.specs.Hex.{hex_of, upper}
use Rattle.house_table.specs.House.{house_table}
use Rattle.model.specs.Shape.{tree}
use Rattle.model.specs.Symbols.{joined, symbol_in}
use Rattle.model.specs.Writer.{write_tree}
use Rattle.symbol_hash.specs.SymbolHash.{symbol_hash}
use Rattle.symbol_hash.specs.declared.Kind.TheVariants.{Plain}

-- ---- characters

abbrev pub space : ℕ
space = 32

abbrev pub line_feed : ℕ
line_feed = 10

-- "tree"
abbrev pub word : List ℕ
word = 116 ∷ 114 ∷ 101 ∷ 101 ∷ []

-- a number below 100, in decimal
unfoldable pub decimal : ℕ → List ℕ
decimal n = pick (ltb n 10) ((48 + n) ∷ []) ((48 + n / 10) ∷ (48 + n % 10) ∷ [])

-- ---- the listing of a tree of depth 1

-- "prints a header (word, depth, symbols)"
unfoldable pub header : ℕ → ℕ → List ℕ
header depth symbols = word ++ (space ∷ decimal depth) ++ (space ∷ decimal symbols) ++ (line_feed ∷ [])

-- "then each symbol's number in decimal and its first byte as two upper-case hexadecimal digits, each line ended by a line feed"
unfoldable pub line : ℕ → List ℕ → List ℕ
line number symbol = decimal number ++ (space ∷ hex_of upper (get_or symbol 0 0 ∷ [])) ++ (line_feed ∷ [])

unfoldable pub listing : List ℕ → List ℕ
listing t = header 1 16 ++ joined (λ i. line i (symbol_in t i)) 0 16

-- ---- the program

-- "codes it at depth 1 with the house table": the tree that the writer leaves in a buffer that held zeros
unfoldable pub coded : List ℕ → List ℕ
coded block = write_tree tree (symbol_hash Plain) (house_table 1) block (replicate 4096 0)

-- what it prints of an input: nothing where that is no block of depth 1
unfoldable pub printed : List ℕ → List ℕ
printed input = pick (eqb (length input) 1024) (listing (coded input)) []
