-- What a call of the hasher answers and leaves, for every message and every lent digest. Definitions only.
use Rattle.std.specs.Prelude.{ℕ, Bool, ◌&&◌, List, length, ◌==◌, nat_le, Result, Ok, Err}
use Rattle.octets.specs.Choice.{pick}
use Rattle.sha256.specs.declared.WrongLength.{WrongLength}
use Rattle.sha256.specs.Hash.{sha256}

-- the longest message, in bytes
abbrev pub longest : ℕ
longest = 1048576

-- both lengths are right
unfoldable pub fits : List ℕ → List ℕ → Bool
fits m d = nat_le (length m) longest && length d == 32

abbrev pub wrong_length : WrongLength
wrong_length = record {}

-- what the hasher answers: done, or a length is wrong
abbrev pub Answer : Type 0
Answer = Result Unit WrongLength

abbrev pub Done : Answer
Done = Ok tt

abbrev pub Length : Answer
Length = Err wrong_length

unfoldable pub answer : List ℕ → List ℕ → Answer
answer m d = pick (fits m d) Done Length

-- what the digest holds afterwards
unfoldable pub after : List ℕ → List ℕ → List ℕ
after m d = pick (fits m d) (sha256 m) d
