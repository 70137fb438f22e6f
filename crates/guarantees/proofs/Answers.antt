-- A call that stops at a test, and one that passes it.
use mathlib.Core.Path.{◌≡◌, refl, sym, ap₂, subst}
use Prim.Native.Nat.{ℕ}
use Rattle.guarantees.specs.Answers.{done, test, fails, holds, unless, one, two, JustWhen}

-- no test is left
pub all_done : JustWhen 0 (0, 0) done
all_done = record { answers = λ n v. (λ h. (sym h.0, sym h.1), λ h. (sym h.0, sym h.1)) }

-- the call stops with the test's number and the values of which it holds
module _ {k : ℕ} {wrong : ℕ × ℕ → Type 0} {later : ℕ → ℕ × ℕ → Type 0} where
  stopped : (values : ℕ × ℕ) → wrong values → ((v : ℕ × ℕ) → wrong v → v ≡ values) → (n : ℕ) (v : ℕ × ℕ) → test k wrong later n v → (k ≡ n) × (values ≡ v)
  stopped values w only n v (fails e x) = (sym e, sym (only v x))
  stopped values w only n v (holds x l) = absurd (x values w)

  pub stops_here : (values : ℕ × ℕ) → wrong values → ((v : ℕ × ℕ) → wrong v → v ≡ values) → JustWhen k values (test k wrong later)
  stops_here values w only = record { answers = λ n v. (λ h. fails (sym h.0) (subst wrong h.1 w), stopped values w only n v) }

-- the call passes the test
module _ {k : ℕ} {wrong : ℕ × ℕ → Type 0} {later : ℕ → ℕ × ℕ → Type 0} {number : ℕ} {values : ℕ × ℕ} where
  passed : ((v : ℕ × ℕ) → wrong v → ⊥) → JustWhen number values later → (n : ℕ) (v : ℕ × ℕ) → test k wrong later n v → (number ≡ n) × (values ≡ v)
  passed none j n v (fails e x) = absurd (none v x)
  passed none j n v (holds x l) = (j.answers n v).1 l

  pub passes-here : ((v : ℕ × ℕ) → wrong v → ⊥) → JustWhen number values later → JustWhen number values (test k wrong later)
  passes-here none j = record { answers = λ n v. (λ h. holds none ((j.answers n v).0 h), passed none j n v) }

-- a test without a value, with one, and with two
module _ {k : ℕ} {later : ℕ → ℕ × ℕ → Type 0} where
  pub stops_unless : {right : Type 0} → (right → ⊥) → JustWhen k (0, 0) (test k (unless right) later)
  stops_unless wrong = stops_here (0, 0) (record { is_not = wrong; alone = refl }) (λ v h. h.alone)

  pub stops_one : {wrong : ℕ → Type 0} (value : ℕ) → wrong value → ((v : ℕ) → wrong v → v ≡ value) → JustWhen k (value, 0) (test k (one wrong) later)
  stops_one value w only =
      stops_here (value, 0) (record { is = w; alone = refl }) (λ v h. ap₂ (λ (a b : ℕ). (a, b)) (only v.0 h.is) h.alone)

  pub stops_two : {wrong : ℕ → ℕ → Type 0} (a b : ℕ) → wrong a b → ((x y : ℕ) → wrong x y → (x ≡ a) × (y ≡ b)) → JustWhen k (a, b) (test k (two wrong) later)
  stops_two a b w only =
      stops_here (a, b) (record { are = w })
      (λ v h. let (p, q) = only v.0 v.1 h.are in ap₂ (λ (x y : ℕ). (x, y)) p q)

  module _ {number : ℕ} {values : ℕ × ℕ} where
    pub passes-unless : {right : Type 0} → right → JustWhen number values later → JustWhen number values (test k (unless right) later)
    passes-unless r = passes-here (λ v h. h.is_not r)

    pub passes-one : {wrong : ℕ → Type 0} → ((v : ℕ) → wrong v → ⊥) → JustWhen number values later → JustWhen number values (test k (one wrong) later)
    passes-one none = passes-here (λ v h. none v.0 h.is)

    pub passes-two : {wrong : ℕ → ℕ → Type 0} → ((x y : ℕ) → wrong x y → ⊥) → JustWhen number values later → JustWhen number values (test k (two wrong) later)
    passes-two none = passes-here (λ v h. none v.0 v.1 h.are)

-- a test whose number is another doesn't give this one, where later ones don't
pub never : {n k : ℕ} {wrong : ℕ × ℕ → Type 0} {later : ℕ → ℕ × ℕ → Type 0} → (k ≡ n → ⊥) → ((v : ℕ × ℕ) → later n v → ⊥) → (v : ℕ × ℕ) → test k wrong later n v → ⊥
never o l v (fails e x) = o (sym e)
never o l v (holds x y) = l v y

pub done_never : {n : ℕ} → (n ≡ 0 → ⊥) → (v : ℕ × ℕ) → done n v → ⊥
done_never o v (e, q) = o e

-- a call that stops with another number, or not, has passed this test
module _ {n k : ℕ} {v : ℕ × ℕ} {right : Type 0} {later : ℕ → ℕ × ℕ → Type 0} (o : k ≡ n → ⊥) where
  pub past : (((right → ⊥) → ⊥) → right) → test k (unless right) later n v → right × later n v
  past so (fails e x) = absurd (o (sym e))
  past so (holds x l) = (so (λ w. x (0, 0) (record { is_not = w; alone = refl })), l)

  pub past_so : right → later n v → test k (unless right) later n v
  past_so r l = holds (λ w x. x.is_not r) l

-- a test that is passed leaves the later ones
pub left : {n k : ℕ} {v : ℕ × ℕ} {right : Type 0} {later : ℕ → ℕ × ℕ → Type 0} → right → test k (unless right) later n v → later n v
left r (fails e x) = absurd (x.is_not r)
left r (holds x l) = l
