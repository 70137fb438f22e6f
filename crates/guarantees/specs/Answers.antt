-- "What stops a call": a call makes its tests in their order and stops at the first that fails, with that test's number and values. Definitions only.
use Rattle.std.specs.Prelude.{◌≡◌, ◌↔◌, ℕ}
use Rattle.calls.specs.Stops.{Answer}
use Rattle.calls.specs.Stops.{number_of, values_of}

-- what a call answers: a number, and the values that are returned with it, 0 where there is none
abbrev pub Answered : Type 1
Answered = ℕ → ℕ × ℕ → Type 0

-- a call answers with this number and these values
abbrev pub Answers : Answer → Answered
Answers a n v = (number_of a ≡ n) × (values_of a ≡ v)

-- no test fails: done, or accepted
abbrev pub done : Answered
done n v = (n ≡ 0) × (v ≡ (0, 0))

-- Test number k, before later ones: `wrong v` says what it finds, v being the values that are returned. It is the first that fails, or it finds nothing.
pub data test (k : ℕ) (wrong : ℕ × ℕ → Type 0) (later : ℕ → ℕ × ℕ → Type 0) : ℕ → ℕ × ℕ → Type 0 where
  fails : {n : ℕ} {v : ℕ × ℕ} → n ≡ k → wrong v → test k wrong later n v
  holds : {n : ℕ} {v : ℕ × ℕ} → ((w : ℕ × ℕ) → wrong w → ⊥) → later n v → test k wrong later n v

-- a test that returns a number alone: it finds that this isn't so
pub record unless (right : Type 0) (v : ℕ × ℕ) : Type 0 where
  pub is_not : right → ⊥
  pub alone : v ≡ (0, 0)

-- one that returns a value too, and one that returns two
pub record one (wrong : ℕ → Type 0) (v : ℕ × ℕ) : Type 0 where
  pub is : wrong v.0
  pub alone : v.1 ≡ 0

pub record two (wrong : ℕ → ℕ → Type 0) (v : ℕ × ℕ) : Type 0 where
  pub are : wrong v.0 v.1

-- the call's own number and values are those that its tests give, and no others
pub record JustWhen (number : ℕ) (values : ℕ × ℕ) (tests : ℕ → ℕ × ℕ → Type 0) : Type 0 where
  pub answers : (n : ℕ) (v : ℕ × ℕ) → ((number ≡ n) × (values ≡ v)) ↔ tests n v

abbrev pub Just : Answer → (ℕ → ℕ × ℕ → Type 0) → Type 0
Just a tests = JustWhen (number_of a) (values_of a) tests
