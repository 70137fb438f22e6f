-- The tournament of the equations to take, while one of them changes, and its least entry.
use mathlib.Core.Bool.{Bool, ◌&&◌, false, true}
use mathlib.Core.List.{List}
use mathlib.Core.Path.{◌∙◌, ◌≡◌, ap, ap₂, subst, sym}
use Prim.Native.Nat.{◌-◌, ◌*◌, ◌/◌, ◌<◌, ◌≤◌, ℕ}
use native.Mathlib.Decide.{dec_lt, ℕ_discrete}
use native.Mathlib.Omega.{arith}
use lib.Dec.{eqb, leb, ltb}
use lib.ListN.{get_or, get_or-replicate, length, length-replicate, replicate, set}
use lib.Seq.{get_or-set_other, get_or-set_same}
use borrow.Author.Tests.{eq-eqb, le-leb, le-ltb, lt-leb, lt-ltb, ne_eqb}
use Rattle.octets.proofs.Choice.{by_test, pick_no, pick_yes, yes_and}
use Rattle.octets.specs.Choice.{pick}
use Rattle.tournament.proofs.TreeLaws.{length-entries, level-entries, level-tournament}
use Rattle.tournament.specs.Tournament.{Entered, Least, entries}
use Rattle.peeling.specs.Search.{Order, Ordered, ready}

module _ {n : ℕ} {p : ℕ → Bool} {order : List ℕ} (k : Order n p order) where
  -- tests that say the same of the equations
  pub order_same : (q : ℕ → Bool) → ((x : ℕ) → x < n → q x ≡ p x) → Order n q order
  order_same q h =
      record {
        tournament = k.tournament;
        sized = k.sized;
        entry = λ x l. k.entry x l ∙ sym (ap (λ (b : Bool). pick b x n) (h x l));
      }

  -- .. of all but equation e, whose entry is set
  pub order_set : (q : ℕ → Bool) (e v : ℕ) (after : List ℕ) → e < n → ((x : ℕ) → x < n → (x ≡ e → ⊥) → q x ≡ p x) → Entered order e v after
      → v ≡ pick (q e) e n → Order n q after
  order_set q e v after l h c ev =
      let s : length (entries order) ≡ length order / 2 = length-entries order k.tournament.paired in
      record {
        tournament = c.tournament;
        sized = c.sized ∙ k.sized;
        entry = λ x lx.
            ap (λ (xs : List ℕ). get_or xs x 0) c.entered
            ∙ elim (ℕ_discrete x e) [
              | yes z ↦ rw z (get_or-set_same (entries order) e v 0 (omega (arith, k.sized)) ∙ ev)
              | no z ↦ get_or-set_other (entries order) e x v 0 z ∙ k.entry x lx ∙ sym (ap (λ (b : Bool). pick b x n) (h x lx z))
            ];
      }

  -- its least entry is the lowest equation that passes
  module _ {r : ℕ} (m : Least (entries order) r) where
    entries-are : length (entries order) ≡ n
    entries-are = length-entries order k.tournament.paired ∙ omega (arith, k.sized)

    pub least-passes : r < n → p r ≡ true
    least-passes l =
        let (x, lx, ex) = m.found in
        let lx' : x < n = omega (arith, entries-are) in
        by_test (p x) (λ t. subst (λ (y : ℕ). p y ≡ true) (sym (pick_yes (p x) x n t) ∙ sym (k.entry x lx') ∙ ex) t)
        (λ t. absurd (omega (arith, pick_no (p x) x n t, k.entry x lx')))

    pub least_first : (x : ℕ) → x < r → x < n → p x ≡ false
    least_first x h l =
        by_test (p x) (λ t. absurd (omega (arith, pick_yes (p x) x n t, k.entry x l, m.at_most x (omega (arith, entries-are))))) (λ t. t)

-- every entry is n: none passes
pub order_none : (n : ℕ) (p : ℕ → Bool) (l : ℕ) → l ≡ 2 * n → ((x : ℕ) → p x ≡ false) → Order n p (replicate l n)
order_none n p l e h =
    record {
      tournament = level-tournament l n (omega arith);
      sized = length-replicate l n ∙ e;
      entry = λ x k.
          ap (λ (xs : List ℕ). get_or xs x 0) (level-entries l n (omega arith)) ∙ get_or-replicate (l / 2) x n 0 (omega arith) ∙ sym (pick_no (p x) x n (h x));
    }

-- ---- an equation whose count changes

module _ (u a : List ℕ) (q v : ℕ) where
  pub ready-other : (x : ℕ) → (x ≡ q → ⊥) → ready u (set a q v) x ≡ ready u a x
  ready-other x h = ap (λ (c : ℕ). eqb (get_or u x 0) 0 && leb c 1) (get_or-set_other a q x v 0 h)

  module _ (l : q < length a) where
    pub ready-here : ready u (set a q v) q ≡ (eqb (get_or u q 0) 0 && leb v 1)
    ready-here = ap (λ (c : ℕ). eqb (get_or u q 0) 0 && leb c 1) (get_or-set_same a q v 0 l)

    pub ready-used : (get_or u q 0 ≡ 0 → ⊥) → ready u (set a q v) q ≡ false
    ready-used h = ap (λ (b : Bool). b && leb (get_or (set a q v) q 0) 1) (ne_eqb (get_or u q 0) 0 h)

    pub ready-now : get_or u q 0 ≡ 0 → v ≤ 1 → ready u (set a q v) q ≡ true
    ready-now h k = ready-here ∙ ap₂ (λ (b c : Bool). b && c) (eq-eqb (get_or u q 0) 0 h) (le-leb v 1 k)

-- one less is at most 1 where the number was, unless it is 1 now
one_less : (c : ℕ) → 1 ≤ c → (c - 1 ≡ 1 → ⊥) → leb (c - 1) 1 ≡ leb c 1
one_less c h d =
    elim (dec_lt 1 c) [
      | yes k ↦ lt-leb (c - 1) 1 (omega arith) ∙ sym (lt-leb c 1 k)
      | no k ↦ le-leb (c - 1) 1 (omega arith) ∙ sym (le-leb c 1 (omega arith))
    ]

-- equation q has one absent member fewer
module _ (u a : List ℕ) (at : ℕ) {o : List ℕ} (k : Ordered u a at o) (q : ℕ) (sized : length a ≡ length u) (l : q < length u) (some : 1 ≤ get_or a q 0) where
  abbrev less : List ℕ
  less = set a q (get_or a q 0 - 1)

  abbrev then : ℕ → Bool
  then x = ltb x at && ready u less x

  others : (x : ℕ) → (x ≡ q → ⊥) → then x ≡ (ltb x at && ready u a x)
  others x z = ap (λ (b : Bool). ltb x at && b) (ready-other u a q (get_or a q 0 - 1) x z)

  keeps : then q ≡ (ltb q at && ready u a q) → Ordered u less at o
  keeps h =
      order_same k then (λ x lx. elim (ℕ_discrete x q) [
        | yes z ↦ rw z h
        | no z ↦ others x z
      ])

  pub noted_many : (get_or a q 0 - 1 ≡ 1 → ⊥) → Ordered u less at o
  noted_many d =
      keeps
      (ap (λ (b : Bool). ltb q at && b)
      (ready-here u a q (get_or a q 0 - 1) (omega arith) ∙ ap (λ (b : Bool). eqb (get_or u q 0) 0 && b) (one_less (get_or a q 0) some d)))

  pub noted_late : at ≤ q → Ordered u less at o
  noted_late d = keeps (ap (λ (b : Bool). b && ready u less q) (le-ltb q at d) ∙ sym (ap (λ (b : Bool). b && ready u a q) (le-ltb q at d)))

  pub noted-used : (get_or u q 0 ≡ 0 → ⊥) → Ordered u less at o
  noted-used d =
      keeps
      (ap (λ (b : Bool). ltb q at && b)
      (ready-used u a q (get_or a q 0 - 1) (omega arith) d ∙ sym (ap (λ (b : Bool). b && leb (get_or a q 0) 1) (ne_eqb (get_or u q 0) 0 d))))

  pub noted-ready : q < at → get_or u q 0 ≡ 0 → get_or a q 0 - 1 ≡ 1 → (after : List ℕ) → Entered o q q after → Ordered u less at after
  noted-ready b z d after c =
      order_set k then q q after l (λ x lx. others x) c
      (sym (pick_yes (then q) q (length u) (yes_and (lt-ltb q at b) (ready-now u a q (get_or a q 0 - 1) (omega arith) z (omega arith)))))
