-- Words that are written one part after the other into a lent list.
use mathlib.Core.Path.{◌≡◌, refl, sym, ap, ◌∙◌}
use mathlib.Core.List.{List, [], ◌∷◌, ◌++◌, append-nil}
use Prim.Native.Nat.{ℕ, suc, ◌+◌, ◌≤◌}
use native.Mathlib.Nat.{add-zero}
use native.Mathlib.Omega.{arith}
use lib.ListN.{length, set, length-append, drop_of_length-le}
use lib.Seq.{sets, length-sets, sets-eq}

sets-append : (xs ys o : List ℕ) (i : ℕ) → sets o i (xs ++ ys) ≡ sets (sets o i xs) (i + length xs) ys
sets-append [] ys o i = ap (λ (n : ℕ). sets o n ys) (sym (add-zero i))
sets-append (x ∷ xs) ys o i = sets-append xs ys (set o i x) (suc i) ∙ ap (λ (n : ℕ). sets (sets o i (x ∷ xs)) n ys) (omega arith)

-- W is to be written at i₀ into o₀; it is written but for R, which goes to o at i
pub record Putting (o₀ : List ℕ) (i₀ : ℕ) (W o : List ℕ) (i : ℕ) (R : List ℕ) : Type 0 where
  pub ends : i + length R ≡ i₀ + length W
  pub long : length o ≡ length o₀
  pub gives : sets o i R ≡ sets o₀ i₀ W

pub putting_start : (o₀ : List ℕ) (i₀ : ℕ) (W : List ℕ) → Putting o₀ i₀ W o₀ i₀ W
putting_start o₀ i₀ W = record { ends = refl; long = refl; gives = refl }

pub putting_step : {o₀ : List ℕ} {i₀ : ℕ} {W o : List ℕ} {i : ℕ} {R : List ℕ} → Putting o₀ i₀ W o i R → (xs ys : List ℕ) → R ≡ xs ++ ys
    → (o' : List ℕ) (i' : ℕ) → o' ≡ sets o i xs → i' ≡ i + length xs → Putting o₀ i₀ W o' i' ys
putting_step {o₀} {i₀} {W} {o} {i} {R} p xs ys q o' i' eo ei =
    record {
      ends = omega (arith, p.ends, ap length q, length-append xs ys);
      long = ap length eo ∙ length-sets o i xs ∙ p.long;
      gives =
          ap (λ (l : List ℕ). sets l i' ys) eo
          ∙ ap (λ (n : ℕ). sets (sets o i xs) n ys) ei
          ∙ sym (sets-append xs ys o i)
          ∙ ap (sets o i) (sym q)
          ∙ p.gives;
    }

pub putting_room : {o₀ : List ℕ} {i₀ : ℕ} {W o : List ℕ} {i : ℕ} {R : List ℕ} → Putting o₀ i₀ W o i R → (xs ys : List ℕ) → R ≡ xs ++ ys
    → i₀ + length W ≤ length o₀ → i + length xs ≤ length o
putting_room p xs ys q h = omega (arith, p.ends, p.long, ap length q, length-append xs ys)

pub putting_end : {o₀ : List ℕ} {i₀ : ℕ} {W o : List ℕ} {i : ℕ} {R : List ℕ} → Putting o₀ i₀ W o i R → R ≡ []
    → (i ≡ i₀ + length W) × (o ≡ sets o₀ i₀ W)
putting_end {o₀} {i₀} {W} {o} {i} {R} p q = (omega (arith, p.ends, ap length q), ap (sets o i) (sym q) ∙ p.gives)

-- a list that is written over whole
pub sets-whole : (W o : List ℕ) → length o ≡ length W → sets o 0 W ≡ W
sets-whole W o h =
    sets-eq W o 0 (omega arith)
    ∙ ap (λ (l : List ℕ). W ++ l) (drop_of_length-le o {i = 0 + length W} (omega arith))
    ∙ append-nil W
