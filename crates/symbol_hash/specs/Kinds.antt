-- The numbers of the kinds. Definitions only.
use Rattle.std.specs.Prelude.{◌≡◌, ℕ, ◌<◌, Result, MatchResult}
use Rattle.symbol_hash.specs.declared.Kind.{Kind}
use Rattle.symbol_hash.specs.declared.Kind.TheVariants.{Plain, Placed}
use Rattle.symbol_hash.specs.declared.NoSuchKind.{NoSuchKind}

-- 02, CR 7: "In a new record the first word's kind is 00"; "Kind 01 records remain readable"
abbrev pub kind_number : Kind → ℕ
kind_number Placed = 0
kind_number Plain = 1

-- what is made of a number: the kind that has it, or an error where none has
abbrev pub Numbered : ℕ → Result Kind NoSuchKind → Type 0
Numbered number r = MatchResult r (λ kind. kind_number kind ≡ number) (λ _. 1 < number)
