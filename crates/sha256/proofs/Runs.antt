-- Numbered steps, one after the other: `run t n x` is x after n steps, from step t on.
use Rattle.std.proofs.Common.{◌≡◌, ℕ, ◌+◌, sym, ap, ◌∙◌}

module _ {A : Type 0} (run : ℕ → ℕ → A → A) (split : (t m n : ℕ) (x : A) → run t (m + n) x ≡ run (t + m) n (run t m x)) where
  -- n steps more
  pub more : (t m n : ℕ) {x y z : A} → y ≡ run t m x → z ≡ run (t + m) n y → z ≡ run t (m + n) x
  more t m n {x} p q = q ∙ ap (run (t + m) n) p ∙ sym (split t m n x)

  -- eight times two steps, from a step that is a number
  pub eight_twos : (t : ℕ) {x0 x1 x2 x3 x4 x5 x6 x7 x8 : A} → x1 ≡ run t 2 x0 → x2 ≡ run (t + 2) 2 x1 → x3 ≡ run (t + 4) 2 x2
      → x4 ≡ run (t + 6) 2 x3 → x5 ≡ run (t + 8) 2 x4 → x6 ≡ run (t + 10) 2 x5 → x7 ≡ run (t + 12) 2 x6 → x8 ≡ run (t + 14) 2 x7
      → x8 ≡ run t 16 x0
  eight_twos t e1 e2 e3 e4 e5 e6 e7 e8 =
      more t 14 2 (more t 12 2 (more t 10 2 (more t 8 2 (more t 6 2 (more t 4 2 (more t 2 2 e1 e2) e3) e4) e5) e6) e7) e8
