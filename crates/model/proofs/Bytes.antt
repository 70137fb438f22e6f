-- Laws of byte lists: one after the other, and exclusive-or.
use mathlib.Core.Path.{◌≡◌, refl, sym, ap, ap₂, ◌∙◌, subst}
use mathlib.Core.List.{List, [], ◌∷◌, ◌++◌, List-discrete}
use Prim.Native.Nat.{ℕ, zero, suc, ◌+◌, ◌*◌, ◌<◌}
use native.Mathlib.Nat.{add-zero, add_comm, mul-zero, mul-suc}
use native.Mathlib.Omega.{arith}
use native.Mathlib.Decide.{ℕ_discrete}
use lib.ListN.{length, take, drop, replicate, length-append}
use lib.Seq.{take_at, drop_at, drop-drop}
use lib.Bits.{xor_assoc, xor_comm, xor_self, xor_zero_r}
use Rattle.octets.specs.ByteLists.{xors}
use Rattle.model.specs.Symbols.{joined, zeros}

-- ---- equal or not

pub bytes_dec : (xs ys : List ℕ) → Dec (xs ≡ ys)
bytes_dec = List-discrete ℕ_discrete

-- ---- lists of w bytes, one after the other

module _ (g : ℕ → List ℕ) (w : ℕ) where
  pub joined_length : (m x : ℕ) → ((q : ℕ) → q < m → length (g (x + q)) ≡ w) → length (joined g x m) ≡ w * m
  unfolding joined
  joined_length zero x h = sym (mul-zero w)
  joined_length (suc m) x h =
      length-append (g x) (joined g (suc x) m)
      ∙ ap₂ (λ (a b : ℕ). a + b) (sym (ap (λ (n : ℕ). length (g n)) (add-zero x)) ∙ h 0 (omega arith)) (joined_length m (suc x) (next m x h))
      ∙ add_comm w (w * m) ∙ sym (mul-suc w m)
    where
      next : (m x : ℕ) → ((q : ℕ) → q < suc m → length (g (x + q)) ≡ w) → (q : ℕ) → q < m → length (g (suc x + q)) ≡ w
      next m x h q k = subst (λ (n : ℕ). length (g n) ≡ w) (omega arith) (h (suc q) (omega arith))

  -- piece q
  pub joined_piece : (m x q : ℕ) → q < m → ((p : ℕ) → p < m → length (g (x + p)) ≡ w) → take w (drop (w * q) (joined g x m)) ≡ g (x + q)
  unfolding joined
  joined_piece zero x q k h = absurd (omega arith)
  joined_piece (suc m) x zero k h =
      rw (mul-zero, add-zero) (take_at (g x) (joined g (suc x) m) w (sym (ap (λ (n : ℕ). length (g n)) (add-zero x)) ∙ h 0 (omega arith)))
  joined_piece (suc m) x (suc q) k h =
      let one : length (g x) ≡ w = sym (ap (λ (n : ℕ). length (g n)) (add-zero x)) ∙ h 0 (omega arith) in
      let at : w * suc q ≡ w + w * q = mul-suc w q ∙ add_comm (w * q) w in
      ap (λ (n : ℕ). take w (drop n (g x ++ joined g (suc x) m))) at
      ∙ ap (take w) (sym (drop-drop (w * q) w (g x ++ joined g (suc x) m)) ∙ ap (drop (w * q)) (drop_at (g x) (joined g (suc x) m) w one))
      ∙ joined_piece m (suc x) q (omega arith) (λ p l. subst (λ (n : ℕ). length (g n) ≡ w) (omega arith) (h (suc p) (omega arith)))
      ∙ ap g (omega arith)

-- ---- exclusive-or

pub xors_comm : (xs ys : List ℕ) → xors xs ys ≡ xors ys xs
unfolding xors
xors_comm [] [] = refl
xors_comm [] (y ∷ ys) = refl
xors_comm (x ∷ xs) [] = refl
xors_comm (x ∷ xs) (y ∷ ys) = ap₂ (λ (a : ℕ) (l : List ℕ). a ∷ l) (xor_comm x y) (xors_comm xs ys)

pub xors_assoc : (xs ys zs : List ℕ) → xors (xors xs ys) zs ≡ xors xs (xors ys zs)
unfolding xors
xors_assoc [] ys zs = refl
xors_assoc (x ∷ xs) [] zs = refl
xors_assoc (x ∷ xs) (y ∷ ys) [] = refl
xors_assoc (x ∷ xs) (y ∷ ys) (z ∷ zs) = ap₂ (λ (a : ℕ) (l : List ℕ). a ∷ l) (xor_assoc x y z) (xors_assoc xs ys zs)

pub xors-left_comm : (xs ys zs : List ℕ) → xors xs (xors ys zs) ≡ xors ys (xors xs zs)
xors-left_comm xs ys zs = sym (xors_assoc xs ys zs) ∙ ap (λ (l : List ℕ). xors l zs) (xors_comm xs ys) ∙ xors_assoc ys xs zs

xors-zeros : (n : ℕ) (xs : List ℕ) → length xs ≡ n → xors xs (replicate n 0) ≡ xs
unfolding xors
xors-zeros zero [] h = refl
xors-zeros zero (x ∷ xs) h = absurd (omega arith)
xors-zeros (suc n) [] h = absurd (omega arith)
xors-zeros (suc n) (x ∷ xs) h = ap₂ (λ (a : ℕ) (l : List ℕ). a ∷ l) (xor_zero_r x) (xors-zeros n xs (omega arith))

xors_self : (n : ℕ) (xs : List ℕ) → length xs ≡ n → xors xs xs ≡ replicate n 0
unfolding xors
xors_self zero [] h = refl
xors_self zero (x ∷ xs) h = absurd (omega arith)
xors_self (suc n) [] h = absurd (omega arith)
xors_self (suc n) (x ∷ xs) h = ap₂ (λ (a : ℕ) (l : List ℕ). a ∷ l) (xor_self x) (xors_self n xs (omega arith))

-- ---- symbols of 256 bytes

pub length-zeros : length zeros ≡ 256
unfolding zeros
length-zeros = refl

pub sym_zeros : (s : List ℕ) → length s ≡ 256 → xors s zeros ≡ s
unfolding zeros
sym_zeros s h = xors-zeros 256 s h

pub sym_self : (s : List ℕ) → length s ≡ 256 → xors s s ≡ zeros
unfolding zeros
sym_self s h = xors_self 256 s h

-- two symbols whose exclusive-or is zero are the same
pub sym_cancel : (s u : List ℕ) → length s ≡ 256 → length u ≡ 256 → xors s u ≡ zeros → u ≡ s
sym_cancel s u hs hu e =
    sym (sym_zeros u hu) ∙ xors_comm u zeros ∙ ap (λ (l : List ℕ). xors l u) (sym (sym_self s hs)) ∙ xors_assoc s s u ∙ ap (xors s) e ∙ sym_zeros s hs
