-- The lists of the search before the first equation: the counts, filled equation by equation, and an order without entries.
use mathlib.Core.Bool.{Bool, ◌&&◌}
use mathlib.Core.List.{List}
use mathlib.Core.Path.{◌∙◌, ◌≡◌, ap, subst, sym}
use Prim.Native.Nat.{◌+◌, ◌*◌, ◌<◌, ℕ}
use native.Mathlib.Decide.{ℕ_discrete}
use native.Mathlib.Omega.{arith}
use lib.Dec.{ltb}
use lib.ListN.{get_or, length, replicate, set}
use lib.Seq.{get_or-set_other, get_or-set_same}
use borrow.Author.Tests.{le-ltb}
use Rattle.model.specs.Repair.{absent_at}
use Rattle.model.specs.Shape.{tree}
use Rattle.model.specs.Symbols.{count}
use Rattle.equation.specs.Rooms.{members_at}
use Rattle.peeling.proofs.OrderLaws.{order_none}
use Rattle.peeling.specs.Search.{Order, Ordered, ready}

-- no equation is before the cursor
pub order_start : (u a : List ℕ) {after : List ℕ} {l : ℕ} → l ≡ 2 * length u → after ≡ replicate l (length u) → Ordered u a 0 after
order_start u a {l = l} lo eo =
    subst (Order (length u) (λ e. ltb e 0 && ready u a e)) (sym eo)
    (order_none (length u) (λ e. ltb e 0 && ready u a e) l lo (λ x. ap (λ (b : Bool). b && ready u a x) (le-ltb x 0 (omega arith))))

-- the counts of the equations before number i are there
abbrev pub CountedTo : List ℕ → List ℕ → ℕ → ℕ → List ℕ → ℕ → List ℕ → Type 0
CountedTo ws starts from j m i a = (e : ℕ) → e < i → get_or a e 0 ≡ count (absent_at tree m j) (members_at ws starts (from + e))

pub counts-next : (ws starts : List ℕ) (from j : ℕ) (m : List ℕ) (i : ℕ) (a : List ℕ) → CountedTo ws starts from j m i a → i < length a → (c : ℕ)
    → c ≡ count (absent_at tree m j) (members_at ws starts (from + i)) → CountedTo ws starts from j m (i + 1) (set a i c)
counts-next ws starts from j m i a p h c ec x l =
    elim (ℕ_discrete x i) [
      | yes z ↦ rw z (get_or-set_same a i c 0 h ∙ ec)
      | no z ↦ get_or-set_other a i x c 0 z ∙ p x (omega arith)
    ]
