-- The reader's definition, a word at a time from a place of the list: what the proofs of its code cite.
use mathlib.Core.Path.{◌≡◌, refl, sym, ap, ◌∙◌}
use mathlib.Core.Bool.{Bool, true, false, ◌&&◌}
use mathlib.Core.Logic.{⊎_elim}
use mathlib.Core.List.{List}
use Prim.Native.Nat.{ℕ, suc, ◌+◌, ◌*◌, ◌≤◌, ◌<◌}
use native.Mathlib.Numerals.{add-one}
use lib.ListN.{length, get_or, drop, drop_of_length-le}
use lib.Seq.{drop-cons}
use lib.Dec.{ltb, eqb}
use borrow.Author.Tests.{ltb-true, ltb-false, eqb-true, lt-ltb, le-ltb}
use Rattle.octets.specs.Choice.{pick}
use Rattle.std.specs.Prelude.{Option, Some, None, Ok, Err}
use Rattle.std.specs.Result.{IsErrAnd}
use Rattle.std.proofs.lemmas.Result.{err_from_is_err_and}
use Rattle.parity_table.specs.declared.TableError.{TableError}
use Rattle.parity_table.specs.Shape.{k_of}
use Rattle.parity_table.specs.Table.{layer_word, equation_word, end_word}
use Rattle.parity_table.specs.Reader.{Answer, Wrong, Whole, Next, Layer, Equation, Member, End, Nothing, layered, opened, member_fits, fits, after, at_end, run}
use Rattle.table_reader.specs.Steps.{word_at, word_is, goes_on, WordRead}
use Rattle.octets.proofs.Choice.{by_test, pick_yes, pick_no, pick_ind, and_yes}
use Rattle.parity_table.proofs.Run.{member-fits, after-goes, after-ends}

-- ---- a refusal that a `?` hands on

pub refused_by : (d : ℕ) (s : Next) (ws : List ℕ) (at : ℕ) {x : TableError} (r q : Answer) → r ≡ Err x → IsErrAnd q (λ y. y ≡ x) → goes_on d s ws at r ≡ q
refused_by d s ws at r q e f = let (y, g, h) = err_from_is_err_and q f in ap (goes_on d s ws at) e ∙ ap {B = Answer} Err (sym h) ∙ sym g

-- what was next matters no more
pub handed_on : (d : ℕ) (s t : Next) (ws : List ℕ) (at to : ℕ) {x : TableError} (r q : Answer) → r ≡ Err x → IsErrAnd q (λ y. y ≡ x)
    → goes_on d s ws at r ≡ goes_on d t ws to q
handed_on d s t ws at to r q e f =
    let (y, g, h) = err_from_is_err_and q f in
    refused_by d s ws at r q e f ∙ g ∙ sym (ap (goes_on d t ws to) g)

-- ---- a turn of the reader, and its end

turn : (d i : ℕ) (s : Next) (ws : List ℕ) → i < length ws
    → run d i s (drop i ws) ≡ pick (fits i s (get_or ws i 0)) (run d (suc i) (after d s (get_or ws i 0)) (drop (suc i) ws)) (Wrong i)
unfolding run
turn d i s ws h = rw (drop-cons ws i 0)

turn_yes : (d i : ℕ) (s t : Next) (ws : List ℕ) → i < length ws → fits i s (get_or ws i 0) ≡ true → after d s (get_or ws i 0) ≡ t
    → run d i s (drop i ws) ≡ run d (i + 1) t (drop (i + 1) ws)
turn_yes d i s t ws h f a =
    turn d i s ws h
    ∙ pick_yes (fits i s (get_or ws i 0)) _ _ f
    ∙ ap (λ (n : Next). run d (suc i) n (drop (suc i) ws)) a
    ∙ ap (λ (n : ℕ). run d n t (drop n ws)) (sym (add-one i))

turn_no : (d i : ℕ) (s : Next) (ws : List ℕ) → i < length ws → fits i s (get_or ws i 0) ≡ false → run d i s (drop i ws) ≡ Wrong i
turn_no d i s ws h f = turn d i s ws h ∙ pick_no (fits i s (get_or ws i 0)) _ _ f

pub past : (d i : ℕ) (s : Next) (ws : List ℕ) → length ws ≤ i → run d i s (drop i ws) ≡ at_end i s
unfolding run
past d i s ws h = ap (run d i s) (drop_of_length-le ws {i = i} h)

-- ---- what stands at a place

pub word-found : (ws : List ℕ) (i w : ℕ) → word_at ws i ≡ Some w → (i < length ws) × (get_or ws i 0 ≡ w)
unfolding word_at
word-found ws i w =
    pick_ind (λ (o : Option ℕ). o ≡ Some w → (i < length ws) × (get_or ws i 0 ≡ w)) (ltb i (length ws)) (λ t q. (ltb-true i (length ws) t, cc)) (λ t q. cc)

pub word-missing : (ws : List ℕ) (i : ℕ) → word_at ws i ≡ None → length ws ≤ i
unfolding word_at
word-missing ws i = pick_ind (λ (o : Option ℕ). o ≡ None → length ws ≤ i) (ltb i (length ws)) (λ t q. cc) (λ t q. ltb-false i (length ws) t)

-- ---- a word that has to be

pub word-inside : (ws : List ℕ) (i w : ℕ) → word_is ws i w ≡ true → i < length ws
unfolding word_is
word-inside ws i w t = ltb-true i (length ws) (and_yes (ltb i (length ws)) (eqb (get_or ws i 0) w) t).0

pub word-here : (ws : List ℕ) (i w : ℕ) → i < length ws → eqb (get_or ws i 0) w ≡ word_is ws i w
unfolding word_is
word-here ws i w h = sym (ap (λ (b : Bool). b && eqb (get_or ws i 0) w) (lt-ltb i (length ws) h))

-- where one word alone may stand, the reader goes on past it, or stops
module _ (d i : ℕ) (s t : Next) (w : ℕ) (ws : List ℕ) (one : (x : ℕ) → fits i s x ≡ eqb x w) (next : after d s w ≡ t) (stop : at_end i s ≡ Wrong i) where
  goes : word_is ws i w ≡ true → run d i s (drop i ws) ≡ run d (i + 1) t (drop (i + 1) ws)
  goes q =
      let h : i < length ws = word-inside ws i w q in
      let e : eqb (get_or ws i 0) w ≡ true = word-here ws i w h ∙ q in
      turn_yes d i s t ws h (one (get_or ws i 0) ∙ e) (ap (after d s) (eqb-true (get_or ws i 0) w e) ∙ next)

  stops : word_is ws i w ≡ false → run d i s (drop i ws) ≡ Wrong i
  stops q =
      by_test (ltb i (length ws))
      (λ p.
      let h : i < length ws = ltb-true i (length ws) p in
      turn_no d i s ws h (one (get_or ws i 0) ∙ word-here ws i w h ∙ q))
      (λ p. past d i s ws (ltb-false i (length ws) p) ∙ stop)

  -- so where the code has read one
  leads : (to : ℕ) (r : Answer) → WordRead ws i w to r → run d i s (drop i ws) ≡ goes_on d t ws to r
  leads to (Ok _) (h, n) = goes h ∙ ap (λ (x : ℕ). run d x t (drop x ws)) (sym n)
  leads to (Err e) (h, q) = stops h ∙ sym q

module _ (d i to : ℕ) (ws : List ℕ) (r : Answer) where
  pub layer-leads : (j : ℕ) → WordRead ws i (layer_word j) to r → run d i (Layer j) (drop i ws) ≡ goes_on d (opened d j 0) ws to r
  unfolding fits after at_end
  layer-leads j = leads d i (Layer j) (opened d j 0) (layer_word j) ws (λ x. refl) refl refl to r

  pub equation-leads : (j e : ℕ) → WordRead ws i (equation_word e) to r → run d i (Equation j e) (drop i ws) ≡ goes_on d (Member j e 0 0) ws to r
  unfolding fits after at_end
  equation-leads j e = leads d i (Equation j e) (Member j e 0 0) (equation_word e) ws (λ x. refl) refl refl to r

  pub end-leads : WordRead ws i (end_word i) to r → run d i End (drop i ws) ≡ goes_on d Nothing ws to r
  unfolding fits after at_end
  end-leads = leads d i End Nothing (end_word i) ws (λ x. refl) refl refl to r

-- after the end word
module _ (d i : ℕ) (ws : List ℕ) where
  pub end_more : i < length ws → run d i Nothing (drop i ws) ≡ Wrong i
  unfolding fits
  end_more h = turn_no d i Nothing ws h refl

  pub end-last : length ws ≤ i → run d i Nothing (drop i ws) ≡ Whole
  unfolding at_end
  end-last h = past d i Nothing ws h

-- ---- a member

-- a member that fits and isn't the last is below it, and at most the seventh
pub member-more : (z m lo w : ℕ) → member_fits z m lo w ≡ true → (w ≡ z → ⊥) → (w < z) × (m < 7)
member-more z m lo w f n = ⊎_elim (λ h. h) (λ h. absurd (n h.0)) (member-fits z m lo w f).1

module _ (d i j e m lo : ℕ) (ws : List ℕ) where
  pub member-wrong : i < length ws → member_fits (k_of j + e) m lo (get_or ws i 0) ≡ false → run d i (Member j e m lo) (drop i ws) ≡ Wrong i
  unfolding fits
  member-wrong h f = turn_no d i (Member j e m lo) ws h f

  pub member-short : length ws ≤ i → run d i (Member j e m lo) (drop i ws) ≡ Wrong i
  unfolding at_end
  member-short h = past d i (Member j e m lo) ws h

  pub member-last : i < length ws → member_fits (k_of j + e) m lo (get_or ws i 0) ≡ true → get_or ws i 0 ≡ k_of j + e
      → run d i (Member j e m lo) (drop i ws) ≡ run d (i + 1) (opened d j (suc e)) (drop (i + 1) ws)
  unfolding fits
  member-last h f q = turn_yes d i (Member j e m lo) (opened d j (suc e)) ws h f (after-ends d j e m lo (get_or ws i 0) q)

  pub member-next : i < length ws → member_fits (k_of j + e) m lo (get_or ws i 0) ≡ true → (get_or ws i 0 ≡ k_of j + e → ⊥)
      → run d i (Member j e m lo) (drop i ws) ≡ run d (i + 1) (Member j e (m + 1) (get_or ws i 0 + 1)) (drop (i + 1) ws)
  unfolding fits
  member-next h f n =
      let b = member-more (k_of j + e) m lo (get_or ws i 0) f n in
      turn_yes d i (Member j e m lo) (Member j e (m + 1) (get_or ws i 0 + 1)) ws h f
      (after-goes d j e m lo (get_or ws i 0) b.0
      ∙ ap (λ (n : ℕ). Member j e n (suc (get_or ws i 0))) (sym (add-one m))
      ∙ ap (Member j e (m + 1)) (sym (add-one (get_or ws i 0))))

-- ---- the next equation, and the next layer

pub opened-more : (d j e : ℕ) → e < 3 * k_of j → opened d j e ≡ Equation j e
unfolding opened
opened-more d j e h = pick_yes (ltb e (3 * k_of j)) _ _ (lt-ltb e (3 * k_of j) h)

pub opened-over : (d j e : ℕ) → 3 * k_of j ≤ e → opened d j e ≡ layered d (suc j)
unfolding opened
opened-over d j e h = pick_no (ltb e (3 * k_of j)) _ _ (le-ltb e (3 * k_of j) h)

pub layered-more : (d j : ℕ) → j < d → layered d j ≡ Layer j
unfolding layered
layered-more d j h = pick_yes (ltb j d) _ _ (lt-ltb j d h)

pub layered-over : (d j : ℕ) → d ≤ j → layered d j ≡ End
unfolding layered
layered-over d j h = pick_no (ltb j d) _ _ (le-ltb j d h)
