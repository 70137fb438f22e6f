-- The loop of (b): what its calls ask, and what it keeps.
use mathlib.Core.Bool.{false, true}
use mathlib.Core.List.{List}
use mathlib.Core.Path.{◌∙◌, ◌≡◌, subst, sym}
use Prim.Native.Nat.{◌+◌, ◌^◌, ◌<◌, ◌≤◌, max, ℕ}
use native.Mathlib.Omega.{arith}
use lib.Dec.{eqb}
use lib.ListN.{get_or, length, set}
use Rattle.std.proofs.Common.{Err, Ok}
use Rattle.octets.proofs.Choice.{and_yes}
use Rattle.model.specs.Shape.{place, tree}
use Rattle.symbol_hash.specs.declared.Kind.{Kind}
use Rattle.equation.specs.Rooms.{Stands, Turnable, members_at}
use Rattle.equation.specs.Turns.{Took, can, few}
use Rattle.equation.specs.declared.Turn.{Turn}
use Rattle.equation.specs.declared.Turn.TheVariants.{Stored, Used}
use Rattle.peeling.proofs.PeelLaws.{Ends, Peeling, member_below, peel-over, peel_start, refuted_ends, stored-few, stored_on, turnable, used_fewer, used_on}
use Rattle.peeling.proofs.PickLaws.{can-is, counted-stored, enough, thread_of}
use Rattle.peeling.proofs.TurnLaws.{seen, unused}
use Rattle.peeling.specs.Levels.{Peelable}
use Rattle.peeling.specs.Search.{Counted, Lowerable, Lowered, Ordered, Over, Picked, Thread}
use Rattle.peeling.specs.States.{gain_of}
use Rattle.peeling.specs.declared.Refutation.{Refutation}

-- a peeling whose next equation can be found, by a cursor `at`
pub record Searching (kind : Kind) (root ws starts : List ℕ) (from j : ℕ) (t₀ m₀ o₀ u₀ : List ℕ) (s₀ : ℕ) (t m o u a order : List ℕ) (s at : ℕ) : Type 0 where
  pub peeling : Peeling kind root ws starts from j t₀ m₀ o₀ u₀ s₀ t m o u s
  pub counted : Counted ws starts from j (length u) m a
  pub ordered : Ordered u a at order
  pub inside : at ≤ length u

module _ {root ws starts last next : List ℕ} {from j : ℕ} {t₀ m₀ o₀ u₀ a₀ order₀ : List ℕ} (pk : Peelable root ws starts last next t₀ m₀ o₀ u₀ a₀ order₀ from j) where
  pub search_start : (kind : Kind) (s : ℕ) → Searching kind root ws starts from j t₀ m₀ o₀ u₀ s t₀ m₀ o₀ u₀ a₀ order₀ s 0
  search_start kind s =
      record { peeling = peel_start kind root ws starts from j t₀ m₀ o₀ u₀ s; counted = pk.counted; ordered = pk.ordered; inside = omega arith }

  module _ {kind : Kind} {s₀ : ℕ} {t m o u a order : List ℕ} {s at : ℕ} (q : Searching kind root ws starts from j t₀ m₀ o₀ u₀ s₀ t m o u a order s at) where
    listed : length u ≡ length u₀
    listed = q.peeling.used-length

    pub absent-kept : length a ≡ length a₀
    absent-kept = q.counted.sized ∙ listed ∙ sym pk.counted.sized

    pub order_kept : length order ≡ length order₀
    order_kept = omega (arith, q.ordered.sized, listed, pk.ordered.sized)

    pub pick_asks : Ordered u a at order × (length a ≡ length u) × (1 ≤ length u) × (length u ≤ 2 ^ 30) × (at ≤ length u)
    pick_asks = (q.ordered, q.counted.sized, omega (arith, listed, pk.some), omega (arith, listed, pk.lent.low), q.inside)

    -- no equation can be taken
    pub search_over : {order' : List ℕ} → Over u a order' → Ends kind root ws starts from j t₀ m₀ o₀ u₀ s₀ t m o u s (Ok tt) × (s ≤ s₀ + length u₀)
        × (Counted ws starts from j (length u) m a × Ordered u a 0 order')
    search_over v =
        (peel-over q.peeling (λ x b. can-is u q.counted x (omega (arith, listed)) ∙ v.none x (omega (arith, listed))), stored-few q.peeling, (q.counted, v.ordered))

    -- equation e is the lowest
    module _ {e : ℕ} {order' : List ℕ} (l : Picked u a at e order') where
      pub taken-inside : e < length u₀
      taken-inside = omega (arith, listed, l.inside)

      aye : can j m u e (members_at ws starts (from + e)) ≡ true
      aye = can-is u q.counted e l.inside ∙ l.is-ready

      none : (x : ℕ) → x < e → can j m u x (members_at ws starts (from + x)) ≡ false
      none x h = can-is u q.counted x (omega (arith, l.inside)) ∙ l.none x h

      pub take_asks : Stands ws starts (from + e) × Turnable root (members_at ws starts (from + e)) t m o u j e
          × (few j m (members_at ws starts (from + e)) ≡ true)
      take_asks =
          (pk.lent.listed.stands e taken-inside, turnable pk.lent taken-inside q.peeling, (and_yes (eqb (get_or u e 0) 0) (few j m (members_at ws starts (from + e))) aye).1)

      -- it has been taken with the answer r, and the cursor is past it
      module _ {at' : ℕ} (ea : at' ≡ max at (e + 1)) {t' m' o' u' : List ℕ} {r : Turn}
          (k : Took kind root (members_at ws starts (from + e)) j e t m o u t' m' o' u' r) where
        pub search_refuted : (z : Refutation) → gain_of e r ≡ Err z → Ends kind root ws starts from j t₀ m₀ o₀ u₀ s₀ t' m' o' u' s (Err z)
        search_refuted = refuted_ends q.peeling taken-inside none aye k

        ordered_on : u' ≡ set u e 1 → Ordered u' a at' order'
        ordered_on eu =
            subst (λ (z : ℕ). Ordered u' a z order') (sym ea) (subst (λ (y : List ℕ). Ordered y a (max at (e + 1)) order') (sym eu) l.ordered)

        pub used_less : r ≡ Used → unused u' < unused u
        used_less er = used_fewer q.peeling taken-inside none aye k (seen k Used er).changed.1

        pub stored_less : (x : ℕ) → r ≡ Stored x → unused u' < unused u
        stored_less x er = used_fewer q.peeling taken-inside none aye k (seen k (Stored x) er).changed.3

        module _ (lt : length t' ≡ length t) (lm : length m' ≡ length m) (lo : length o' ≡ length o) (lu : length u' ≡ length u) where
          pub search_used : r ≡ Used → Searching kind root ws starts from j t₀ m₀ o₀ u₀ s₀ t' m' o' u' a order' s at'
          search_used er =
              let w = (seen k Used er).changed in
              record {
                peeling = used_on q.peeling taken-inside none aye k lt lm lo lu w.1 er;
                counted =
                    subst (λ (n : ℕ). Counted ws starts from j n m' a) (sym lu)
                    (subst (λ (y : List ℕ). Counted ws starts from j (length u) y a) (sym w.0) q.counted);
                ordered = ordered_on w.1;
                inside = omega (arith, lu, listed, q.inside);
              }

          -- symbol x was stored
          module _ (x : ℕ) (er : r ≡ Stored x) where
            known : x < pk.lent.symbols
            known = member_below pk.lent taken-inside x (seen k (Stored x) er).changed.0

            marked : place tree j x < length m
            unfolding place
            marked = omega (arith, known, q.peeling.marks-length, pk.lent.level.marks-room)

            thread : Thread ws starts from (length u') last next x
            thread = subst (λ (n : ℕ). Thread ws starts from n last next x) (sym (lu ∙ listed)) (thread_of pk x known)

            counted_on : Counted ws starts from j (length u') m a
            counted_on = subst (λ (n : ℕ). Counted ws starts from j n m a) (sym lu) q.counted

            pub lower_asks : Lowerable last next u' a order' at' x
            lower_asks =
                record {
                  words = ws;
                  starts = starts;
                  from = from;
                  thread = thread;
                  enough = enough counted_on x (seen k (Stored x) er).changed.1 marked;
                  ordered = ordered_on (seen k (Stored x) er).changed.3;
                  sized = counted_on.sized;
                  low = omega (arith, lu, listed, pk.lent.low);
                }

            pub search_stored : (a' order'' : List ℕ) → length a' ≡ length a → Ordered u' a' at' order''
                → ((ws' starts' : List ℕ) (from' : ℕ) → Thread ws' starts' from' (length u') last next x → Lowered ws' starts' from' (length u') x a a')
                → Searching kind root ws starts from j t₀ m₀ o₀ u₀ s₀ t' m' o' u' a' order'' (s + 1) at'
            search_stored a' order'' la od lw =
                let w = (seen k (Stored x) er).changed in
                record {
                  peeling = stored_on q.peeling taken-inside none aye k lt lm lo lu w.3 x er;
                  counted = counted-stored counted_on x w.1 marked a' m' la w.2 (lw ws starts from thread);
                  ordered = od;
                  inside = omega (arith, lu, listed, q.inside);
                }
