-- The lowest equation to take, by the lists of the search, and these lists once its turn is over.
use mathlib.Core.Bool.{Bool, ◌&&◌, false, true}
use mathlib.Core.List.{List}
use mathlib.Core.Path.{◌∙◌, ◌≡◌, ap, ap₂, sym, subst}
use Prim.Native.Nat.{◌+◌, ◌<◌, ◌≤◌, max, ℕ}
use native.Mathlib.Decide.{dec_lt}
use native.Mathlib.Omega.{arith}
use lib.Dec.{eqb, leb, ltb}
use Rattle.std.proofs.Common.{MatchOption, None, Option, Some}
use lib.ListN.{get_or, length, length-set, set}
use lib.Seq.{get_or-set_other, get_or-set_same}
use borrow.Author.Tests.{le-ltb, lt-ltb, ltb-true}
use Rattle.octets.proofs.Choice.{and_yes, pick_no}
use Rattle.tournament.specs.Tournament.{Entered, Least, entries}
use Rattle.model.proofs.Counts.{is_it}
use Rattle.model.specs.Repair.{absent_at}
use Rattle.model.specs.Shape.{place, tree}
use Rattle.model.specs.Symbols.{count}
use Rattle.equation.specs.Rooms.{members_at}
use Rattle.equation.specs.Turns.{can}
use Rattle.peeling.proofs.OrderLaws.{least_first, least-passes, order_same, order_set}
use Rattle.peeling.proofs.SweepLaws.{and_false}
use Rattle.peeling.proofs.TurnLaws.{count-stored}
use Rattle.peeling.specs.Levels.{Peelable}
use Rattle.peeling.specs.Search.{Counted, Lowered, Next, Order, Ordered, Over, Picked, Thread, ready}

module _ {ws starts : List ℕ} {from j : ℕ} {m a : List ℕ} (u : List ℕ) (q : Counted ws starts from j (length u) m a) where
  pub can-is : (x : ℕ) → x < length u → can j m u x (members_at ws starts (from + x)) ≡ ready u a x
  can-is x h = ap (λ (c : ℕ). eqb (get_or u x 0) 0 && leb c 1) (sym (q.counts x h))

-- ---- equation e is used

module _ (u a : List ℕ) (e : ℕ) where
  used-other : (x : ℕ) → (x ≡ e → ⊥) → ready (set u e 1) a x ≡ ready u a x
  used-other x d = ap (λ (c : ℕ). eqb c 0 && leb (get_or a x 0) 1) (get_or-set_other u e x 1 0 d)

  used-here : e < length u → ready (set u e 1) a e ≡ false
  used-here h = ap (λ (c : ℕ). eqb c 0 && leb (get_or a e 0) 1) (get_or-set_same u e 1 0 h)

  module _ (at : ℕ) where
    -- it is used, and the cursor is past it
    abbrev then : ℕ → Bool
    then x = ltb x (max at (e + 1)) && ready (set u e 1) a x

    resized : {order : List ℕ} → Order (length u) then order → Ordered (set u e 1) a (max at (e + 1)) order
    resized {order} = subst (λ (n : ℕ). Order n then order) (sym (length-set u e 1))

-- ---- the order's least entry

module _ (u a : List ℕ) (at : ℕ) {order : List ℕ} (k : Ordered u a at order) {e : ℕ} (l : Least (entries order) e) where
  before : (x : ℕ) → x < at → (ltb x at && ready u a x) ≡ false → ready u a x ≡ false
  before x h f = sym (ap (λ (b : Bool). b && ready u a x) (lt-ltb x at h)) ∙ f

  -- is an equation before the cursor, which leaves the order
  pub picked_before : e < length u → (v : ℕ) (after : List ℕ) → v ≡ length u → Entered order e v after → Picked u a at e after
  picked_before h v after ev c =
      let (b, r) = and_yes (ltb e at) (ready u a e) (least-passes k l h) in
      let he : e < at = ltb-true e at b in
      let z : max at (e + 1) ≡ at = omega arith in
      record {
        inside = h;
        none = λ x lx. before x (omega arith) (least_first k l x lx (omega arith));
        is-ready = r;
        ordered =
            resized u a e at
            (order_set k (then u a e at) e v after h (λ x lx d. ap₂ (λ (y : ℕ) (w : Bool). ltb x y && w) z (used-other u a e x d)) c
            (ev ∙ sym (pick_no (then u a e at e) e (length u) (and_false (ltb e (max at (e + 1))) (ready (set u e 1) a e) (used-here u a e h)))));
      }

  -- is none: the equation is the next from the cursor on, if any
  module _ (h : length u ≤ e) where
    empty : (x : ℕ) → x < length u → (ltb x at && ready u a x) ≡ false
    empty x b = least_first k l x (omega arith) b

    gone : (r : ℕ) → at ≤ r → r < length u → ((x : ℕ) → x < r → ready u a x ≡ false) → (x : ℕ) → x < length u → then u a r at x ≡ false
    gone r hr hu below x b =
        elim (dec_lt x r) [
          | yes y ↦ and_false (ltb x (max at (r + 1))) (ready (set u r 1) a x) (used-other u a r x (λ z. omega arith) ∙ below x y)
          | no y ↦ elim (dec_lt r x) [
            | yes z ↦ ap (λ (c : Bool). c && ready (set u r 1) a x) (le-ltb x (max at (r + 1)) (omega arith))
            | no z ↦
                let i : x ≡ r = omega arith in
                rw i (and_false (ltb r (max at (r + 1))) (ready (set u r 1) a r) (used-here u a r hu))
          ]
        ]

    pub picked_after : (r : Option ℕ) → Next u a at r → MatchOption r (Over u a order) (λ (q : ℕ). Picked u a at q order)
    picked_after None n =
        let none : (x : ℕ) → x < length u → ready u a x ≡ false =
        λ x b. elim (dec_lt x at) [
          | yes y ↦ before x y (empty x b)
          | no y ↦ n x (omega arith) b
        ] in
        record {
          none = none;
          ordered = order_same k (λ x. ltb x 0 && ready u a x) (λ x b. ap (λ (c : Bool). c && ready u a x) (le-ltb x 0 (omega arith)) ∙ sym (empty x b));
        }
    picked_after (Some r) n =
        let none : (x : ℕ) → x < r → ready u a x ≡ false =
        λ x b. elim (dec_lt x at) [
          | yes y ↦ before x y (empty x (omega (arith, n.1)))
          | no y ↦ n.3 x (omega arith) b
        ] in
        record {
          inside = n.1;
          none = none;
          is-ready = n.2;
          ordered = resized u a r at (order_same k (then u a r at) (λ x b. gone r n.0 n.1 none x b ∙ sym (empty x b)));
        }

-- ---- the counts, once symbol x, which was absent, is stored

module _ {ws starts : List ℕ} {from j n : ℕ} {m a : List ℕ} (q : Counted ws starts from j n m a) (x : ℕ) (gone : absent_at tree m j x ≡ true)
    (room : place tree j x < length m) where
  -- each equation has an absent member for each member x
  pub enough : (e : ℕ) → e < n → count (is_it x) (members_at ws starts (from + e)) ≤ get_or a e 0
  enough e h = omega (arith, q.counts e h, count-stored j m x gone room (members_at ws starts (from + e)))

  pub counted-stored : (a' m' : List ℕ) → length a' ≡ length a → m' ≡ set m (place tree j x) 1 → Lowered ws starts from n x a a' → Counted ws starts from j n m' a'
  counted-stored a' m' la em l =
      subst (λ (w : List ℕ). Counted ws starts from j n w a') (sym em)
      (record {
        sized = la ∙ q.sized;
        counts = λ e h. omega (arith, l e h, q.counts e h, count-stored j m x gone room (members_at ws starts (from + e)));
      })

-- the thread of a symbol, as the loop has it
pub thread_of : {root ws starts last next t m o u a order : List ℕ} {from j : ℕ} (k : Peelable root ws starts last next t m o u a order from j) (x : ℕ)
    → x < k.lent.symbols → Thread ws starts from (length u) last next x
thread_of k x h =
    record {
      threaded = k.threaded;
      narrow = λ e l. omega (arith, (k.lent.sized e l).1, k.eight);
      known = omega (arith, k.last-room);
      room = k.next-room;
    }
