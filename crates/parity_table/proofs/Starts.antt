-- The loops that find where the equations stand.
use mathlib.Core.Path.{◌≡◌, refl, sym, ap, ◌∙◌}
use mathlib.Core.Bool.{Bool, true, false, ◌&&◌}
use mathlib.Core.List.{List, [], ◌∷◌, ◌++◌, append_assoc, append-nil}
use Prim.Native.Nat.{ℕ, ◌+◌, ◌≤◌, ◌<◌}
use native.Mathlib.Numerals.{add-one}
use native.Mathlib.Omega.{arith}
use lib.ListN.{length, get_or, take, drop, set, length-set, take-append-drop}
use lib.Seq.{drop-cons, drop-length, drop-drop, take-suc-set, drop-set-lt, length-take-le}
use lib.Dec.{ltb}
use Rattle.std.specs.List.{prefix_len}
use mathlib.Core.Bool.{cond}
use borrow.Author.Tests.{lt-ltb, le-ltb, le-leb, lt-leb}
use Rattle.octets.specs.Choice.{pick}
use Rattle.octets.proofs.Choice.{pick_yes, pick_no, yes_and}
use Rattle.parity_table.specs.Table.{word}
use Rattle.parity_table.specs.Parse.{members_of, opens_equation, starts_from, index_of, over}

-- ---- the starts

pub opens_yes : (w : ℕ) → word 2 0 ≤ w → w < word 3 0 → opens_equation w ≡ true
unfolding opens_equation
opens_yes w h g = yes_and (le-leb (word 2 0) w h) (lt-ltb w (word 3 0) g)

pub opens_low : (w : ℕ) → w < word 2 0 → opens_equation w ≡ false
unfolding opens_equation
opens_low w h = ap (λ (b : Bool). b && ltb w (word 3 0)) (lt-leb (word 2 0) w h)

pub opens_high : (w : ℕ) → word 3 0 ≤ w → opens_equation w ≡ false
unfolding opens_equation
opens_high w h =
    ap (λ (b : Bool). b && ltb w (word 3 0)) (le-leb (word 2 0) w (omega arith)) ∙ le-ltb w (word 3 0) h

starts-turn : (ws : List ℕ) (i : ℕ) → i < length ws
    → starts_from i (drop i ws) ≡ pick (opens_equation (get_or ws i 0)) ((i + 1) ∷ starts_from (i + 1) (drop (i + 1) ws)) (starts_from (i + 1) (drop (i + 1) ws))
unfolding starts_from
starts-turn ws i h = rw (add-one, drop-cons ws i 0)

-- q starts are written, from the first i words; s₀ is what was lent
pub record Filling (ws s₀ s : List ℕ) (q i : ℕ) : Type 0 where
  pub within : i ≤ length ws
  pub long : length s ≡ length s₀
  pub room : q + length (starts_from i (drop i ws)) ≤ length s
  pub done : take q s ++ starts_from i (drop i ws) ≡ index_of ws
  pub kept : drop q s ≡ drop q s₀

pub filling_start : (ws s₀ : List ℕ) → length (index_of ws) ≤ length s₀ → Filling ws s₀ s₀ 0 0
filling_start ws s₀ h = record { within = omega arith; long = refl; room = omega arith; done = refl; kept = refl }

module _ (ws s₀ s : List ℕ) (q i : ℕ) (f : Filling ws s₀ s q i) (h : i < length ws) where
  pub filling_skip : opens_equation (get_or ws i 0) ≡ false → Filling ws s₀ s q (i + 1)
  filling_skip t =
      let e : starts_from i (drop i ws) ≡ starts_from (i + 1) (drop (i + 1) ws) = starts-turn ws i h ∙ pick_no (opens_equation (get_or ws i 0)) _ _ t in
      record {
        within = omega arith;
        long = f.long;
        room = omega (arith, f.room, ap length e);
        done = ap (λ (l : List ℕ). take q s ++ l) (sym e) ∙ f.done;
        kept = f.kept;
      }

  put_is : opens_equation (get_or ws i 0) ≡ true → starts_from i (drop i ws) ≡ (i + 1) ∷ starts_from (i + 1) (drop (i + 1) ws)
  put_is t = starts-turn ws i h ∙ pick_yes (opens_equation (get_or ws i 0)) _ _ t

  pub filling_room : opens_equation (get_or ws i 0) ≡ true → q < length s
  filling_room t = omega (arith, f.room, ap length (put_is t))

  pub filling_put : opens_equation (get_or ws i 0) ≡ true → Filling ws s₀ (set s q (i + 1)) (q + 1) (i + 1)
  filling_put t =
      let e = put_is t in
      let g : q < length s = filling_room t in
      record {
        within = omega arith;
        long = length-set s q (i + 1) ∙ f.long;
        room = omega (arith, f.room, ap length e, length-set s q (i + 1));
        done =
            ap (λ (n : ℕ). take n (set s q (i + 1)) ++ starts_from (i + 1) (drop (i + 1) ws)) (add-one q)
            ∙ ap (λ (l : List ℕ). l ++ starts_from (i + 1) (drop (i + 1) ws)) (take-suc-set s q (i + 1) g)
            ∙ append_assoc (take q s) ((i + 1) ∷ []) (starts_from (i + 1) (drop (i + 1) ws))
            ∙ ap (λ (l : List ℕ). take q s ++ l) (sym e)
            ∙ f.done;
        kept =
            drop-set-lt (q + 1) s q (i + 1) (omega arith)
            ∙ sym (drop-drop 1 q s)
            ∙ ap (drop 1) f.kept
            ∙ drop-drop 1 q s₀;
      }

pub filling_end : (ws s₀ s : List ℕ) (q i : ℕ) → Filling ws s₀ s q i → length ws ≤ i → s ≡ over (index_of ws) s₀
unfolding starts_from
filling_end ws s₀ s q i f h =
    let n : i ≡ length ws = omega (arith, f.within) in
    let none : starts_from i (drop i ws) ≡ [] = ap (λ (k : ℕ). starts_from i (drop k ws)) n ∙ ap (starts_from i) (drop-length ws) in
    let all : take q s ≡ index_of ws = sym (append-nil (take q s)) ∙ ap (λ (l : List ℕ). take q s ++ l) (sym none) ∙ f.done in
    let long : length (index_of ws) ≡ q = sym (ap length all) ∙ length-take-le q s (omega (arith, f.room)) in
    sym (take-append-drop q s)
    ∙ ap (λ (l : List ℕ). l ++ drop q s) all
    ∙ ap (λ (l : List ℕ). index_of ws ++ l) f.kept
    ∙ ap (λ (k : ℕ). index_of ws ++ drop k s₀) (sym long)

-- ---- the members in front: as many as the words in front that are members

pub members-prefix : (ws : List ℕ) → prefix_len (λ w. ltb w (word 1 0)) ws ≡ length (members_of ws)
unfolding members_of pick
members-prefix [] = refl
members-prefix (w ∷ ws) = elim (ltb w (word 1 0)) as (λ b. cond b (1 + prefix_len (λ w. ltb w (word 1 0)) ws) 0 ≡ length (pick b (w ∷ members_of ws) [])) [
  | true ↦ omega (arith, members-prefix ws)
  | false ↦ refl
]
