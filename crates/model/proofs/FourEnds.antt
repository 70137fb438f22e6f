-- The four ends of a repair, each of which is a final state.
use mathlib.Core.Path.{◌≡◌, refl, sym, ◌∙◌, subst}
use mathlib.Core.Logic.{⊎_elim}
use mathlib.Core.Bool.{true, ◌&&◌, false≢true}
use mathlib.Core.List.{List, []}
use Prim.Native.Nat.{ℕ, zero, suc, ◌+◌, ◌*◌, ◌<◌}
use native.Mathlib.Nat.{add-zero, zero-add}
use native.Mathlib.Omega.{arith}
use lib.ListN.{length}
use borrow.Author.Tests.{ltb-true, ltb-false}
use Rattle.octets.proofs.Choice.{by_test, pick_ind, and_yes, both}
use Rattle.model.specs.Shape.{Shape, ShapeOk}
use Rattle.model.specs.Symbols.{lowest, committed, sym_at}
use Rattle.model.specs.Coded.{Digests, Agrees}
use Rattle.model.specs.Repair.{End, working, whole, fault, unavailable, twins, going, St, end_as, absent_at, gaps_left, settle, layer, layers, finish, repair}
use Rattle.model.specs.Ends.{Roomy, PeeledAll, Sized, filled, WholeEnd, EndOk, FourEnds}
use Rattle.model.specs.Finals.{Final}
use Rattle.model.proofs.Counts.{and_no, lowest-is}
use Rattle.model.proofs.Tables.{TableLaws}
use Rattle.model.proofs.Binding.{root_is}
use Rattle.model.proofs.Frame.{symbol-sized}
use Rattle.model.proofs.Peeling.{Stop, Goes, goes_on_lem, has_stopped, stays_stopped}
use Rattle.model.proofs.Closing.{Between, stop_at, between, stop_final, whole-final}
use Rattle.model.proofs.Entering.{en, r, stage_layer, peeled-layer, mid_layer, none_left}

going-working : (z : End) → going z ≡ true → z ≡ working
unfolding going
going-working working g = refl
going-working whole g = absurd (false≢true g)
going-working (fault l e x n) g = absurd (false≢true g)
going-working (unavailable l) g = absurd (false≢true g)
going-working (twins l x) g = absurd (false≢true g)

module _ (S : Shape) (sh : ShapeOk S) (H : ℕ → ℕ → List ℕ → List ℕ) (root : List ℕ) (tbl : List (List (List ℕ))) (ok : TableLaws S tbl) where
  module _ (t₀ m₀ o₀ : List ℕ) (ho : Roomy tbl o₀) where
    abbrev BetweenSt : ℕ → St → Type 0
    BetweenSt d st = Between S sh H root tbl ok t₀ m₀ o₀ ho d st

    abbrev StopSt : St → End → Type 0
    StopSt st z = Stop S H root tbl t₀ m₀ o₀ st z

    -- before layer d, or stopped above it
    abbrev Stand : ℕ → St → Type 0
    Stand d st = Goes (BetweenSt d st) (StopSt st) st.end

    abbrev PeeledSt : St → Type 0
    PeeledSt st = PeeledAll S H root tbl t₀ m₀ st

    -- ---- layer after layer

    module _ (j : ℕ) (hj : j < length tbl) (st : St) (b : BetweenSt j st) where
      abbrev q : St
      q = r S sh H root tbl ok t₀ m₀ o₀ ho j hj st b

      -- the lowest gap that is left, if any
      abbrev low : ℕ
      low = lowest (absent_at S q.marks j) 0 (S.n j)

      -- what (c) leaves
      settle_stand : Stand (suc j) (settle S j q)
      unfolding settle gaps_left end_as
      settle_stand =
          pick_ind (Stand (suc j)) (going q.end && gaps_left S j q)
          (λ t.
          let (g, l) = and_yes (going q.end) (gaps_left S j q) t in
          stop_at S sh H root tbl ok t₀ m₀ o₀ ho j hj (en S sh H root tbl ok t₀ m₀ o₀ ho j hj st b).marks q
          (mid_layer S sh H root tbl ok t₀ m₀ o₀ ho j hj st b g) (none_left S sh H root tbl ok t₀ m₀ o₀ ho j hj st b g)
          low (ltb-true low (S.n j) l) ((lowest-is (absent_at S q.marks j) 0 (S.n j)).found (omega (arith, ltb-true low (S.n j) l))))
          (λ t. by_test (going q.end)
          (λ g. ⊎_elim (λ n. both g n)
          (λ n. subst (λ (z : End). Goes (BetweenSt (suc j) q) (StopSt q) z) (sym (going-working q.end g))
          (between S sh H root tbl ok t₀ m₀ o₀ ho j hj (en S sh H root tbl ok t₀ m₀ o₀ ho j hj st b).marks q
          (mid_layer S sh H root tbl ok t₀ m₀ o₀ ho j hj st b g) (none_left S sh H root tbl ok t₀ m₀ o₀ ho j hj st b g)
          (λ i h. (lowest-is (absent_at S q.marks j) 0 (S.n j)).before i (omega arith) (omega (arith, ltb-false low (S.n j) n)))))
          (and_no (going q.end) (gaps_left S j q) t))
          (λ n. stays_stopped _ (StopSt q) (BetweenSt (suc j) q) q.end n (stage_layer S sh H root tbl ok t₀ m₀ o₀ ho j hj st b)))

      settle-peeled : PeeledSt st → PeeledSt (settle S j q)
      unfolding settle end_as
      settle-peeled p =
          let now : PeeledSt q = peeled-layer S sh H root tbl ok t₀ m₀ o₀ ho j hj st b p in
          pick_ind PeeledSt (going q.end && gaps_left S j q) (λ t. now) (λ t. now)

    abbrev before : (j : ℕ) (st : St) → going st.end ≡ true → Stand j st → BetweenSt j st
    before j st = goes_on_lem (BetweenSt j st) (StopSt st) st.end

    layer_stand : (j : ℕ) (hj : j < length tbl) (st : St) → Stand j st → Stand (suc j) (layer S H root tbl j st)
    unfolding layer
    layer_stand j hj st s =
        pick_ind (Stand (suc j)) (going st.end) (λ g. settle_stand j hj st (before j st g s))
        (λ n. stays_stopped (BetweenSt j st) (StopSt st) (BetweenSt (suc j) st) st.end n s)

    layer-peeled : (j : ℕ) (hj : j < length tbl) (st : St) → Stand j st → PeeledSt st → PeeledSt (layer S H root tbl j st)
    unfolding layer
    layer-peeled j hj st s p = pick_ind PeeledSt (going st.end) (λ g. settle-peeled j hj st (before j st g s) p) (λ n. p)

    layers_stand : (f j : ℕ) (st : St) → j + f ≡ length tbl → Stand j st → PeeledSt st → Stand (length tbl) (layers S H root tbl j f st) × PeeledSt (layers S H root tbl j f st)
    unfolding layers
    layers_stand zero j st e s p = (subst (λ (d : ℕ). Stand d st) (sym (add-zero j) ∙ e) s, p)
    layers_stand (suc f) j st e s p =
        layers_stand f (suc j) (layer S H root tbl j st) (omega arith) (layer_stand j (omega arith) st s) (layer-peeled j (omega arith) st s p)

    -- ---- the end

    module _ (digests : Digests H) (hr : length root ≡ 32 * S.n 0) where
      agrees_of : (st : St) → BetweenSt (length tbl) st → Agrees S H tbl root (sym_at S st.tree)
      unfolding committed
      agrees_of st b =
          record {
            coded = record {
              sized = λ j i h. symbol-sized S tbl st.tree st.marks b.always.sized j i h.0 h.1;
              holds = λ j e h k. (b.complete j h).holds e k;
              stands = λ j i h. sym ((b.complete (suc j) h.0).hashed i h.1);
            };
            rooted = root_is S H digests root hr (sym_at S st.tree) (λ i k. sym ((b.complete 0 ok.deep).hashed i k));
          }

      pub whole-end : (st : St) → BetweenSt (length tbl) st → WholeEnd S H root tbl t₀ m₀ o₀ (end_as whole st)
      unfolding end_as
      whole-end st b =
          record {
            last = b.last;
            all_held = λ l i h k. (b.complete l h).full i k;
            agrees = agrees_of st b;
            drained = b.drained;
            out-kept = b.out-kept;
          }

    -- before layer 0
    abbrev begun : St
    begun = record { tree = t₀; marks = m₀; out = o₀; used = []; stored = 0; entered = 0; end = working }

    pub start_between : Sized S tbl t₀ m₀ → BetweenSt 0 begun
    unfolding filled
    start_between sz =
        record {
          last = refl;
          always = record {
            in_depth = omega arith;
            sized = sz;
            untouched = refl;
            unmarked = refl;
            counted = refl;
            above = λ l h. absurd (omega arith);
            drained = λ l h. absurd (omega arith);
            held = λ l i h. absurd (omega arith);
            kept = λ l i h. absurd (omega arith);
            cleared = λ l i h. absurd (omega arith);
          };
          complete = λ l h. absurd (omega arith);
          drained = λ l h. absurd (omega arith);
          out-kept = refl;
        }

    through : Sized S tbl t₀ m₀ → Stand (length tbl) (layers S H root tbl 0 (length tbl) begun) × PeeledSt (layers S H root tbl 0 (length tbl) begun)
    through sz = layers_stand (length tbl) 0 begun (zero-add (length tbl)) (start_between sz) (λ l h. absurd (omega arith))

    -- ---- every repair of a tree and marks of the right lengths, with a roomy output buffer, ..

    -- .. ends in a final state
    pub repair-final : Sized S tbl t₀ m₀ → Final S H root tbl t₀ m₀ (repair S H root tbl t₀ m₀ o₀)
    unfolding repair finish
    repair-final sz =
        let z : St = layers S H root tbl 0 (length tbl) begun in
        pick_ind (Final S H root tbl t₀ m₀) (going z.end)
        (λ g. whole-final S sh H root tbl ok t₀ m₀ o₀ ho z (before (length tbl) z g (through sz).0))
        (λ n. stop_final S sh H root tbl ok t₀ m₀ o₀ ho z z.end refl (has_stopped (BetweenSt (length tbl) z) (StopSt z) z.end n (through sz).0))

    repair-peeled : Sized S tbl t₀ m₀ → PeeledSt (repair S H root tbl t₀ m₀ o₀)
    unfolding repair finish end_as
    repair-peeled sz = pick_ind PeeledSt (going (layers S H root tbl 0 (length tbl) begun).end) (λ g. (through sz).1) (λ n. (through sz).1)

    -- .. and as its end promises
    repair-ends : Digests H → length root ≡ 32 * S.n 0 → Sized S tbl t₀ m₀
        → EndOk S H root tbl t₀ m₀ o₀ (repair S H root tbl t₀ m₀ o₀) (repair S H root tbl t₀ m₀ o₀).end
    unfolding repair finish end_as
    repair-ends digests hr sz =
        let z : St = layers S H root tbl 0 (length tbl) begun in
        pick_ind (λ (st : St). EndOk S H root tbl t₀ m₀ o₀ st st.end) (going z.end)
        (λ g. whole-end digests hr z (before (length tbl) z g (through sz).0))
        (λ n. (has_stopped (BetweenSt (length tbl) z) (StopSt z) z.end n (through sz).0).ends)

  pub four_ends : Digests H → FourEnds S H root tbl
  four_ends digests t₀ m₀ o₀ sz ho hr =
      record { always = (repair-final t₀ m₀ o₀ ho sz).always; peels = repair-peeled t₀ m₀ o₀ ho sz; ends = repair-ends t₀ m₀ o₀ ho digests hr sz }
