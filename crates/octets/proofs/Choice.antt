-- Laws of tests and of the choice by a test.
use mathlib.Core.Path.{◌≡◌, refl, sym, ap₂, ◌∙◌}
use mathlib.Core.Bool.{Bool, true, false, not, ◌&&◌, true≢false, false≢true}
use Rattle.octets.specs.Choice.{pick}

pub by_test {ℓ} : {X : Type ℓ} (b : Bool) → (b ≡ true → X) → (b ≡ false → X) → X
by_test true f g = f refl
by_test false f g = g refl

pub pick_yes {ℓ} : {X : Type ℓ} (b : Bool) (x y : X) → b ≡ true → pick b x y ≡ x
unfolding pick
pick_yes true x y t = refl
pick_yes false x y t = absurd (false≢true t)

pub pick_no {ℓ} : {X : Type ℓ} (b : Bool) (x y : X) → b ≡ false → pick b x y ≡ y
unfolding pick
pick_no true x y t = absurd (true≢false t)
pick_no false x y t = refl

-- what holds of either branch, each under its test
pub pick_ind {ℓ κ} : {X : Type ℓ} (P : X → Type κ) (b : Bool) {x y : X} → (b ≡ true → P x) → (b ≡ false → P y) → P (pick b x y)
unfolding pick
pick_ind P true f g = f refl
pick_ind P false f g = g refl

pub and_yes : (a b : Bool) → (a && b) ≡ true → (a ≡ true) × (b ≡ true)
and_yes true b t = (refl, t)
and_yes false b t = absurd (false≢true t)

pub yes_and : {a b : Bool} → a ≡ true → b ≡ true → (a && b) ≡ true
yes_and p q = ap₂ (λ (x y : Bool). x && y) p q

pub both {ℓ} : {X : Type ℓ} {b : Bool} → b ≡ true → b ≡ false → X
both p q = absurd (true≢false (sym p ∙ q))

pub not_yes : (a : Bool) → not a ≡ true → a ≡ false
not_yes true t = absurd (false≢true t)
not_yes false t = refl

pub not_no : (a : Bool) → not a ≡ false → a ≡ true
not_no true t = refl
not_no false t = absurd (true≢false t)
