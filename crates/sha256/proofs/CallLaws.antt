-- What a call of the hasher answers and leaves, by its tests.
use Rattle.std.proofs.Common.{◌≡◌, ℕ, ◌<◌, ◌≤◌, true, false, List, length, Ok, Err, sym, ◌∙◌, eq-eqb, ne_eqb, le-leb}
use borrow.Author.Tests.{lt-leb}
use Rattle.octets.specs.Choice.{pick}
use Rattle.sha256.specs.Hash.{sha256}
use Rattle.sha256.specs.Call.{longest, fits, wrong_length, answer, after}

module _ (m d : List ℕ) where
  refused : fits m d ≡ false → (Err wrong_length ≡ answer m d) × (d ≡ after m d)
  unfolding answer after pick
  refused e = (rw e, rw e)

  pub too_long : longest < length m → (Err wrong_length ≡ answer m d) × (d ≡ after m d)
  unfolding fits
  too_long h = refused (rw (lt-leb (length m) longest h))

  pub other_digest : length m ≤ longest → (length d ≡ 32 → ⊥) → (Err wrong_length ≡ answer m d) × (d ≡ after m d)
  unfolding fits
  other_digest h l = refused (rw (le-leb (length m) longest h, ne_eqb (length d) 32 l))

  both_fit : length m ≤ longest → length d ≡ 32 → fits m d ≡ true
  unfolding fits
  both_fit h l = rw (le-leb (length m) longest h, eq-eqb (length d) 32 l)

  -- what a caller with the right lengths finds in the digest
  pub written : length m ≤ longest → length d ≡ 32 → after m d ≡ sha256 m
  unfolding after pick
  written h l = rw (both_fit h l)

  pub hashed_call : (out : List ℕ) → length m ≤ longest → length d ≡ 32 → out ≡ sha256 m → (Ok tt ≡ answer m d) × (out ≡ after m d)
  unfolding answer pick
  hashed_call out h l e = (rw (both_fit h l), e ∙ sym (written h l))
