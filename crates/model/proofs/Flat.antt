-- Laws of the tree buffer: what a store changes, and that its symbols determine it.
use mathlib.Core.Path.{◌≡◌, refl, sym, ap, ap₂, ◌∙◌, subst}
use mathlib.Core.Logic.{◌≢◌}
use mathlib.Core.List.{List, [], ◌∷◌, ◌++◌, append_assoc}
use Prim.Native.Nat.{ℕ, zero, suc, ◌+◌, ◌-◌, ◌*◌, ◌≤◌, ◌<◌}
use native.Mathlib.Nat.{add-sub_of_le, mul-zero, mul-suc}
use native.Mathlib.Omega.{arith}
use native.Mathlib.Decide.{dec_lt}
use lib.ListN.{length, take, drop, length-drop, take-append-drop}
use lib.Seq.{paste, length-paste, drop-paste, take-append-le, drop-append-le, drop-drop, take_at, drop_at, take-add, take_all, take-take, length-take-le}
use Rattle.model.specs.Shape.{Shape, places, place}
use Rattle.model.specs.Symbols.{symbol_in, sym_at, put_at}

-- ---- parts of a list after a copy into it

module _ (d s : List ℕ) (at n : ℕ) (hd : at + n ≤ length d) (hs : n ≤ length s) where
  pub paste-left : (o w : ℕ) → o + w ≤ at → take w (drop o (paste d at s n)) ≡ take w (drop o d)
  paste-left o w h =
      let a : List ℕ = take at d in
      let la : length a ≡ at = length-take-le at d (omega arith) in
      let cut : (r : List ℕ) → take w (drop o (a ++ r)) ≡ take w (drop o a) =
      λ r. ap (take w) (drop-append-le o a r (omega arith)) ∙ take-append-le w (drop o a) r (omega (arith, length-drop o a)) in
      ap (λ (l : List ℕ). take w (drop o l)) (append_assoc a (take n s) (drop (at + n) d))
      ∙ cut (take n s ++ drop (at + n) d)
      ∙ sym (cut (drop at d))
      ∙ ap (λ (l : List ℕ). take w (drop o l)) (take-append-drop at d)

  pub paste-right : (o : ℕ) → at + n ≤ o → drop o (paste d at s n) ≡ drop o d
  paste-right o h =
      let e : at + n + (o - (at + n)) ≡ o = add-sub_of_le h in
      ap (λ (k : ℕ). drop k (paste d at s n)) (sym e)
      ∙ sym (drop-drop (o - (at + n)) (at + n) (paste d at s n))
      ∙ ap (drop (o - (at + n))) (drop-paste d at s n (omega arith) hs)
      ∙ drop-drop (o - (at + n)) (at + n) d
      ∙ ap (λ (k : ℕ). drop k d) e

  pub paste_there : take n (drop at (paste d at s n)) ≡ take n s
  paste_there =
      ap (λ (l : List ℕ). take n (drop at l)) (append_assoc (take at d) (take n s) (drop (at + n) d))
      ∙ ap (take n) (drop_at (take at d) (take n s ++ drop (at + n) d) at (length-take-le at d (omega arith)))
      ∙ take_at (take n s) (drop (at + n) d) n (length-take-le n s hs)

pub take-drop-take : (w o n : ℕ) (l : List ℕ) → o + w ≤ n → take w (drop o (take n l)) ≡ take w (drop o l)
take-drop-take w zero n l h = take-take w n l (omega arith)
take-drop-take w (suc o) zero l h = absurd (omega arith)
take-drop-take w (suc o) (suc n) [] h = refl
take-drop-take w (suc o) (suc n) (x ∷ xs) h = take-drop-take w o n xs (omega arith)

-- ---- m pieces of w bytes, from byte o on, determine the bytes that they make up

pub pieces_same : (w o : ℕ) (a b : List ℕ) (m : ℕ) → ((c : ℕ) → c < m → take w (drop (o + w * c) a) ≡ take w (drop (o + w * c) b))
    → take (w * m) (drop o a) ≡ take (w * m) (drop o b)
pieces_same w o a b zero h = rw mul-zero
pieces_same w o a b (suc m) h =
    let more : w * suc m ≡ w * m + w = mul-suc w m in
    let one : (l : List ℕ) → take (w * suc m) (drop o l) ≡ take (w * m) (drop o l) ++ take w (drop (o + w * m) l) =
    λ l. ap (λ (k : ℕ). take k (drop o l)) more ∙ take-add (w * m) w (drop o l)
    ∙ ap (λ (r : List ℕ). take (w * m) (drop o l) ++ take w r) (drop-drop (w * m) o l) in
    one a ∙ ap₂ (λ (x y : List ℕ). x ++ y) (pieces_same w o a b m (λ c k. h c (omega arith))) (h m (omega arith)) ∙ sym (one b)

-- ---- symbols

module _ (S : Shape) where
  pub sym_at-length : (t : List ℕ) (j i : ℕ) → 256 * place S j i + 256 ≤ length t → length (sym_at S t j i) ≡ 256
  unfolding sym_at symbol_in
  sym_at-length t j i h = length-take-le 256 (drop (256 * place S j i) t) (omega (arith, length-drop (256 * place S j i) t))

  -- m symbols of layer j that two buffers have alike
  pub symbols-same : (t u : List ℕ) (j m : ℕ) → ((i : ℕ) → i < m → sym_at S t j i ≡ sym_at S u j i)
      → take (256 * m) (drop (256 * places S j) t) ≡ take (256 * m) (drop (256 * places S j) u)
  unfolding sym_at symbol_in place
  symbols-same t u j m h =
      let at : (i : ℕ) → 256 * (places S j + i) ≡ 256 * places S j + 256 * i = λ i. omega arith in
      pieces_same 256 (256 * places S j) t u m (λ i k. subst (λ (o : ℕ). take 256 (drop o t) ≡ take 256 (drop o u)) (at i) (h i k))

  -- two buffers with the same symbols in d layers
  tops_same : (t u : List ℕ) (d : ℕ) → ((j i : ℕ) → j < d → i < S.n j → sym_at S t j i ≡ sym_at S u j i) → take (256 * places S d) t ≡ take (256 * places S d) u
  unfolding places
  tops_same t u zero h = refl
  tops_same t u (suc d) h =
      let more : 256 * (places S d + S.n d) ≡ 256 * places S d + 256 * S.n d = omega arith in
      let one : (l : List ℕ) → take (256 * (places S d + S.n d)) l ≡ take (256 * places S d) l ++ take (256 * S.n d) (drop (256 * places S d) l) =
      λ l. ap (λ (k : ℕ). take k l) more ∙ take-add (256 * places S d) (256 * S.n d) l in
      one t ∙ ap₂ (λ (x y : List ℕ). x ++ y) (tops_same t u d (λ j i k. h j i (omega arith))) (symbols-same t u d (S.n d) (λ i. h d i (omega arith))) ∙ sym (one u)

  -- the symbols of a tree buffer determine it
  pub tree-same : (d : ℕ) (t u : List ℕ) → length t ≡ 256 * places S d → length u ≡ 256 * places S d
      → ((j i : ℕ) → j < d → i < S.n j → sym_at S t j i ≡ sym_at S u j i) → t ≡ u
  tree-same d t u ht hu h =
      sym (take_all (256 * places S d) t (omega arith)) ∙ tops_same t u d h ∙ take_all (256 * places S d) u (omega arith)

  -- ---- symbols after a store

  module _ (t : List ℕ) (j x : ℕ) (v : List ℕ) (room : 256 * place S j x + 256 ≤ length t) (full : length v ≡ 256) where
    pub put_length : length (put_at S t j x v) ≡ length t
    unfolding put_at
    put_length = length-paste t (256 * place S j x) v 256 room (omega arith)

    pub put_there : sym_at S (put_at S t j x v) j x ≡ v
    unfolding put_at sym_at symbol_in
    put_there = paste_there t v (256 * place S j x) 256 room (omega arith) ∙ take_all 256 v (omega arith)

    pub put_other : (l y : ℕ) → place S l y ≢ place S j x → sym_at S (put_at S t j x v) l y ≡ sym_at S t l y
    unfolding put_at sym_at symbol_in
    put_other l y n =
        elim (dec_lt (place S l y) (place S j x)) [
          | yes h ↦ paste-left t v (256 * place S j x) 256 room (omega arith) (256 * place S l y) 256 (omega arith)
          | no h ↦ ap (take 256) (paste-right t v (256 * place S j x) 256 room (omega arith) (256 * place S l y) (omega arith))
        ]
