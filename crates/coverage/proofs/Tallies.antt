-- The pass over a layer's words: what each word does, and what the counts come to at its end.
use mathlib.Core.Path.{◌≡◌, refl, sym, ap, ◌∙◌, subst}
use mathlib.Core.Bool.{Bool, true, false, not, ◌&&◌, false≢true}
use mathlib.Core.List.{List, [], ◌∷◌, ◌++◌, append_assoc}
use Prim.Native.Nat.{ℕ, suc, ◌+◌, ◌*◌, ◌≤◌, ◌<◌}
use native.Mathlib.Nat.{zero-add}
use native.Mathlib.Numerals.{add-one}
use native.Mathlib.Omega.{arith}
use native.Mathlib.Decide.{dec_lt}
use lib.ListN.{length, get_or, drop, set, length-set, drop_of_length-le}
use lib.Seq.{drop-cons, get_or-set_same, get_or-set_other}
use lib.Dec.{leb, ltb, eqb}
use borrow.Author.Tests.{lt-ltb, le-ltb, ltb-true, ltb-false, le-leb, lt-leb, leb-true, leb-false, eqb-true, eqb-false}
use Rattle.octets.proofs.Choice.{by_test, pick_yes, pick_no, pick_ind, and_yes}
use Rattle.parity_table.specs.Shape.{max_depth, k_of}
use Rattle.parity_table.specs.Members.{every}
use Rattle.parity_table.specs.Table.{layer_word, equation_word, end_word, equations_words}
use Rattle.parity_table.specs.Parse.{opens_equation}
use Rattle.parity_table.proofs.Starts.{opens_yes, opens_low, opens_high}
use Rattle.parity_table.proofs.Chain.{equation_chain, chain_within}
use Rattle.parity_table.proofs.Rules.{EquationsOk}
use Rattle.parity_table.proofs.Shape.{k_small}
use Rattle.model.specs.Symbols.{bit, count}
use Rattle.model.proofs.Counts.{is_it}
use Rattle.coverage.specs.Counting.{ends_layer, has_end, noted, Below, Tally, tallied, tally}
use Rattle.coverage.specs.Coverage.{times}

-- ---- a word that ends a layer

pub ends_low : (w : ℕ) → w < layer_word 0 → false ≡ ends_layer w
unfolding ends_layer
ends_low w h = sym (ap (λ (b : Bool). b && not (opens_equation w)) (lt-leb (layer_word 0) w h))

ends_high : (w : ℕ) → layer_word 0 ≤ w → not (opens_equation w) ≡ ends_layer w
unfolding ends_layer
ends_high w h = sym (ap (λ (b : Bool). b && not (opens_equation w)) (le-leb (layer_word 0) w h))

pub ends-layer : (w : ℕ) → layer_word 0 ≤ w → w < equation_word 0 → true ≡ ends_layer w
ends-layer w h g = sym (ap not (opens_low w g)) ∙ ends_high w h

pub ends-equation : (w : ℕ) → equation_word 0 ≤ w → leb (end_word 0) w ≡ ends_layer w
ends-equation w h =
    by_test (leb (end_word 0) w)
    (λ t. t ∙ sym (ap not (opens_high w (leb-true (end_word 0) w t))) ∙ ends_high w (omega arith))
    (λ t.
    let l : w < end_word 0 = leb-false (end_word 0) w t in
    t ∙ sym (ap not (opens_yes w h l)) ∙ ends_high w (omega arith))

-- where some word does, there is one
pub end-inside : (ws : List ℕ) (i : ℕ) → has_end (drop i ws) ≡ true → i < length ws
unfolding has_end
end-inside ws i t =
    elim (dec_lt i (length ws)) [
      | yes h ↦ h
      | no h ↦ absurd (false≢true (ap has_end (sym (drop_of_length-le ws {i = i} (omega arith))) ∙ t))
    ]

-- and where the first doesn't, a later one
pub end_later : (ws : List ℕ) (i : ℕ) → has_end (drop i ws) ≡ true → ends_layer (get_or ws i 0) ≡ false → has_end (drop (i + 1) ws) ≡ true
unfolding has_end
end_later ws i t f =
    ap (λ (n : ℕ). has_end (drop n ws)) (add-one i)
    ∙ sym (pick_no (ends_layer (get_or ws i 0)) true (has_end (drop (suc i) ws)) f)
    ∙ ap has_end (sym (drop-cons ws i 0 (end-inside ws i t)))
    ∙ t

pub end_after : (xs ys : List ℕ) → has_end ys ≡ true → has_end (xs ++ ys) ≡ true
unfolding has_end
end_after [] ys t = t
end_after (x ∷ xs) ys t = pick_ind (λ (b : Bool). b ≡ true) (ends_layer x) (λ u. refl) (λ u. end_after xs ys t)

pub end-here : (w : ℕ) (ws : List ℕ) → ends_layer w ≡ true → has_end (w ∷ ws) ≡ true
unfolding has_end
end-here w ws t = pick_yes (ends_layer w) true (has_end ws) t

-- ---- a word that is counted

module _ (seen : List ℕ) (w : ℕ) where
  pub noted_yes : w < length seen → set seen w (get_or seen w 0 + 1) ≡ noted seen w
  unfolding noted
  noted_yes h = sym (pick_yes (ltb w (length seen)) (set seen w (get_or seen w 0 + 1)) seen (lt-ltb w (length seen) h))

  pub noted_no : length seen ≤ w → seen ≡ noted seen w
  unfolding noted
  noted_no h = sym (pick_no (ltb w (length seen)) (set seen w (get_or seen w 0 + 1)) seen (le-ltb w (length seen) h))

  pub noted-length : length (noted seen w) ≡ length seen
  unfolding noted
  noted-length = pick_ind (λ (l : List ℕ). length l ≡ length seen) (ltb w (length seen)) (λ t. length-set seen w (get_or seen w 0 + 1)) (λ t. refl)

  -- an entry then has the count so far, the word with it
  noted_at : (i : ℕ) → i < length seen → get_or (noted seen w) i 0 ≡ get_or seen i 0 + bit (eqb w i)
  noted_at i h =
      by_test (eqb w i)
      (λ t.
      let e : w ≡ i = eqb-true w i t in
      sym (ap (λ (l : List ℕ). get_or l i 0) (noted_yes (omega arith)))
      ∙ ap (λ (x : ℕ). get_or (set seen x (get_or seen x 0 + 1)) i 0) e
      ∙ get_or-set_same seen i (get_or seen i 0 + 1) 0 h
      ∙ ap (λ (b : Bool). get_or seen i 0 + bit b) (sym t))
      (λ t.
      let n : get_or seen i 0 ≡ get_or seen i 0 + bit (eqb w i) = omega (arith, ap bit t) in
      by_test (ltb w (length seen))
      (λ u.
      sym (ap (λ (l : List ℕ). get_or l i 0) (noted_yes (ltb-true w (length seen) u)))
      ∙ get_or-set_other seen w i (get_or seen w 0 + 1) 0 (λ q. eqb-false w i t (sym q))
      ∙ n)
      (λ u. sym (ap (λ (l : List ℕ). get_or l i 0) (noted_no (ltb-false w (length seen) u))) ∙ n))

  -- so it is one more at most
  pub noted-below : (n : ℕ) → Below seen n → Below (noted seen w) (n + 1)
  noted-below n b i h =
      by_test (eqb w i) (λ t. omega (arith, noted_at i (omega (arith, noted-length)), ap bit t, b i (omega (arith, noted-length))))
      (λ t. omega (arith, noted_at i (omega (arith, noted-length)), ap bit t, b i (omega (arith, noted-length))))

  -- a word that ends the layer is no data symbol's number
  pub noted-end : length seen ≤ layer_word 0 → ends_layer w ≡ true → noted seen w ≡ seen
  noted-end h t =
      elim (dec_lt w (layer_word 0)) [
        | yes l ↦ absurd (false≢true (ends_low w l ∙ t))
        | no l ↦ sym (noted_no (omega arith))
      ]

-- ---- the pass, one turn of a loop

module _ (seen ws : List ℕ) (i : ℕ) where
  pub tally-end : i < length ws → ends_layer (get_or ws i 0) ≡ true → tallied seen (drop i ws) ≡ tally seen (drop i ws)
  unfolding tally
  tally-end h t =
      ap (tallied seen) (drop-cons ws i 0 h)
      ∙ sym (pick_yes (ends_layer (get_or ws i 0)) (tallied seen (get_or ws i 0 ∷ drop (suc i) ws)) (tally (noted seen (get_or ws i 0)) (drop (suc i) ws)) t)
      ∙ ap (tally seen) (sym (drop-cons ws i 0 h))

  pub tally_on : i < length ws → ends_layer (get_or ws i 0) ≡ false → tally (noted seen (get_or ws i 0)) (drop (i + 1) ws) ≡ tally seen (drop i ws)
  unfolding tally
  tally_on h t =
      ap (λ (n : ℕ). tally (noted seen (get_or ws i 0)) (drop n ws)) (add-one i)
      ∙ sym (pick_no (ends_layer (get_or ws i 0)) (tallied seen (get_or ws i 0 ∷ drop (suc i) ws)) (tally (noted seen (get_or ws i 0)) (drop (suc i) ws)) t)
      ∙ ap (tally seen) (sym (drop-cons ws i 0 h))

-- ---- the counts at the end of words of which c says how often each number is among them

-- from counts s: the pass ends at Y, and each entry has its count
pub record Comes (s X Y : List ℕ) (c : ℕ → ℕ) : Type 0 where
  pub rest-is : (tally s X).rest ≡ Y
  pub as_long : length (tally s X).seen ≡ length s
  pub counts : (i : ℕ) → i < length s → get_or (tally s X).seen i 0 ≡ get_or s i 0 + c i

-- whatever the counts were; openers are no data symbols
abbrev pub Pass : List ℕ → List ℕ → (ℕ → ℕ) → Type 0
Pass X Y c = (s : List ℕ) → length s ≤ layer_word 0 → Comes s X Y c

pass_same : (X Y : List ℕ) (c e : ℕ → ℕ) → ((i : ℕ) → c i ≡ e i) → Pass X Y c → Pass X Y e
pass_same X Y c e h p s n =
    let k = p s n in
    record { rest-is = k.rest-is; as_long = k.as_long; counts = λ i q. k.counts i q ∙ ap (λ (m : ℕ). get_or s i 0 + m) (h i) }

pub pass_end : (w : ℕ) (X : List ℕ) → ends_layer w ≡ true → Pass (w ∷ X) (w ∷ X) (λ i. 0)
unfolding tally
pass_end w X t s n =
    let e : tally s (w ∷ X) ≡ tallied s (w ∷ X) = pick_yes (ends_layer w) (tallied s (w ∷ X)) (tally (noted s w) X) t in
    record {
      rest-is = ap (λ (y : Tally). y.rest) e;
      as_long = ap (λ (y : Tally). length y.seen) e;
      counts = λ i q. ap (λ (y : Tally). get_or y.seen i 0) e ∙ omega arith;
    }

pass_word : (w : ℕ) (X Y : List ℕ) (c : ℕ → ℕ) → ends_layer w ≡ false → Pass X Y c → Pass (w ∷ X) Y (λ i. bit (eqb w i) + c i)
unfolding tally
pass_word w X Y c t p s n =
    let e : tally s (w ∷ X) ≡ tally (noted s w) X = pick_no (ends_layer w) (tallied s (w ∷ X)) (tally (noted s w) X) t in
    let l : length (noted s w) ≡ length s = noted-length s w in
    let k = p (noted s w) (omega arith) in
    record {
      rest-is = ap (λ (y : Tally). y.rest) e ∙ k.rest-is;
      as_long = ap (λ (y : Tally). length y.seen) e ∙ k.as_long ∙ l;
      counts = λ i q. ap (λ (y : Tally). get_or y.seen i 0) e ∙ k.counts i (omega arith) ∙ omega (arith, noted_at s w i q);
    }

-- a word that is above every data symbol
pass_opener : (w : ℕ) (X Y : List ℕ) (c : ℕ → ℕ) → layer_word 0 ≤ w → ends_layer w ≡ false → Pass X Y c → Pass (w ∷ X) Y c
unfolding tally
pass_opener w X Y c h t p s n =
    let e : tally s (w ∷ X) ≡ tally s X =
    pick_no (ends_layer w) (tallied s (w ∷ X)) (tally (noted s w) X) t ∙ ap (λ (l : List ℕ). tally l X) (sym (noted_no s w (omega arith))) in
    let k = p s n in
    record {
      rest-is = ap (λ (y : Tally). y.rest) e ∙ k.rest-is;
      as_long = ap (λ (y : Tally). length y.seen) e ∙ k.as_long;
      counts = λ i q. ap (λ (y : Tally). get_or y.seen i 0) e ∙ k.counts i q;
    }

pass_members : (ms X Y : List ℕ) (c : ℕ → ℕ) → every (λ x. ltb x (layer_word 0)) ms ≡ true → Pass X Y c → Pass (ms ++ X) Y (λ i. count (is_it i) ms + c i)
unfolding every count
pass_members [] X Y c a p = pass_same X Y c (λ i. 0 + c i) (λ i. sym (zero-add (c i))) p
pass_members (x ∷ ms) X Y c a p =
    let (u, v) = and_yes (ltb x (layer_word 0)) (every (λ x. ltb x (layer_word 0)) ms) a in
    pass_same (x ∷ (ms ++ X)) Y (λ i. bit (eqb x i) + (count (is_it i) ms + c i)) (λ i. bit (eqb x i) + count (is_it i) ms + c i) (λ i. omega arith)
    (pass_word x (ms ++ X) Y (λ i. count (is_it i) ms + c i) (sym (ends_low x (ltb-true x (layer_word 0) u))) (pass_members ms X Y c v p))

pub pass_equations : (j e : ℕ) (es : List (List ℕ)) (X Y : List ℕ) (c : ℕ → ℕ) → j < max_depth → EquationsOk j e es → e + length es ≤ 3 * k_of j → Pass X Y c
    → Pass (equations_words e es ++ X) Y (λ i. times i es + c i)
unfolding equations_words times
pass_equations j e [] X Y c hj o h p = pass_same X Y c (λ i. 0 + c i) (λ i. sym (zero-add (c i))) p
pass_equations j e (ms ∷ es) X Y c hj o h p =
    let k = k_small j hj in
    let small = chain_within 0 (k_of j + e) (layer_word 0) ms (omega (arith, k)) (equation_chain j e ms o.0) in
    let opener : ends_layer (equation_word e) ≡ false =
    sym (ends-equation (equation_word e) (omega arith)) ∙ lt-leb (end_word 0) (equation_word e) (omega (arith, k)) in
    subst (λ (l : List ℕ). Pass (equation_word e ∷ l) Y (λ i. count (is_it i) ms + times i es + c i)) (sym (append_assoc ms (equations_words (suc e) es) X))
    (pass_opener (equation_word e) (ms ++ (equations_words (suc e) es ++ X)) Y (λ i. count (is_it i) ms + times i es + c i) (omega arith) opener
    (pass_same (ms ++ (equations_words (suc e) es ++ X)) Y (λ i. count (is_it i) ms + (times i es + c i)) (λ i. count (is_it i) ms + times i es + c i)
    (λ i. omega arith)
    (pass_members ms (equations_words (suc e) es ++ X) Y (λ i. times i es + c i) small
    (pass_equations j (suc e) es X Y c hj o.1 (omega arith) p))))
