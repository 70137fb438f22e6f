-- (b) on the lent buffers: the order's least entry is the lowest equation to take.
use mathlib.Core.Bool.{false, true}
use mathlib.Core.List.{List}
use mathlib.Core.Path.{◌∙◌, ◌≡◌, ap, ap₂, refl, sym}
use Prim.Native.Nat.{◌+◌, ◌-◌, ◌<◌, ◌≤◌, suc, ℕ}
use native.Mathlib.Nat.{mul-le-mul_right}
use native.Mathlib.Numerals.{add-one}
use native.Mathlib.Omega.{arith}
use lib.Dec.{ltb}
use lib.ListN.{length, set}
use borrow.Author.Tests.{ltb-true}
use Rattle.std.proofs.Common.{Err, Ok}
use Rattle.parity_table.specs.Table.{equation_of}
use Rattle.model.proofs.Counts.{count_le, every-member, is_it}
use Rattle.model.proofs.Hung.{peel-hung}
use Rattle.model.specs.Fault.{proof_length}
use Rattle.model.specs.Repair.{End, act, going, peel, takeable, working}
use Rattle.model.specs.Shape.{Hangs, Shape, tree}
use Rattle.model.specs.Symbols.{count}
use Rattle.symbol_hash.specs.SymbolHash.{symbol_hash}
use Rattle.symbol_hash.specs.declared.Kind.{Kind}
use Rattle.equation.specs.Rooms.{Level, Turnable, members_at}
use Rattle.equation.specs.States.{state}
use Rattle.equation.specs.Turns.{Took, can, end_by, stored_by}
use Rattle.equation.specs.declared.Turn.{Turn}
use Rattle.equation.specs.declared.Turn.TheVariants.{Stored, Used}
use Rattle.peeling.proofs.SweepLaws.{level_keep}
use Rattle.peeling.proofs.TurnLaws.{ended, fewer, none_left, refuted_turn, step_is, unused}
use Rattle.peeling.specs.Levels.{Lent, Reads}
use Rattle.peeling.specs.States.{Came, Outcome, gain_of}
use Rattle.peeling.specs.declared.Refutation.{Refutation}

-- Peeling of layer j began with t₀ m₀ o₀ u₀ and s₀ symbols stored. What is left to do is a turn for each unused equation, with the turns that u₀ left
-- over.
pub record Peeling (kind : Kind) (root ws starts : List ℕ) (from j : ℕ) (t₀ m₀ o₀ u₀ : List ℕ) (s₀ : ℕ) (t m o u : List ℕ) (s : ℕ) : Type 0 where
  pub tree-length : length t ≡ length t₀
  pub marks-length : length m ≡ length m₀
  pub out-length : length o ≡ length o₀
  pub used-length : length u ≡ length u₀
  pub few-stored : s + unused u ≤ s₀ + unused u₀
  pub goes : (tbl : List (List (List ℕ))) → Reads tbl ws starts from j (length u₀) → (d : ℕ)
      → peel tree (symbol_hash kind) root tbl j (unused u + (length u₀ - unused u₀)) (state t m o u s d working)
      ≡ peel tree (symbol_hash kind) root tbl j (length u₀) (state t₀ m₀ o₀ u₀ s₀ d working)

-- what the loop comes to
abbrev pub Ends : Kind → List ℕ → List ℕ → List ℕ → ℕ → ℕ → List ℕ → List ℕ → List ℕ → List ℕ → ℕ → List ℕ → List ℕ → List ℕ → List ℕ → ℕ → Outcome → Type 0
Ends kind root ws starts from j t₀ m₀ o₀ u₀ s₀ t m o u s z =
    (S : Shape) → Hangs S j → (tbl : List (List (List ℕ))) → Reads tbl ws starts from j (length u₀)
    → Came (peel S (symbol_hash kind) root tbl j (length u₀)) j t₀ m₀ o₀ u₀ t m o u s₀ s z

pub peel_start : (kind : Kind) (root ws starts : List ℕ) (from j : ℕ) (t m o u : List ℕ) (s : ℕ) → Peeling kind root ws starts from j t m o u s t m o u s
peel_start kind root ws starts from j t m o u s =
    let n : unused u + (length u - unused u) ≡ length u = omega (arith, count_le (is_it 0) u) in
    record {
      tree-length = refl;
      marks-length = refl;
      out-length = refl;
      used-length = refl;
      few-stored = omega arith;
      goes = λ tbl rd d. ap (λ (f : ℕ). peel tree (symbol_hash kind) root tbl j f (state t m o u s d working)) n;
    }

module _ {kind : Kind} {root ws starts : List ℕ} {from j : ℕ} {t₀ m₀ o₀ u₀ : List ℕ} {s₀ : ℕ} {t m o u : List ℕ} {s : ℕ}
    (p : Peeling kind root ws starts from j t₀ m₀ o₀ u₀ s₀ t m o u s) where
  pub stored-few : s ≤ s₀ + length u₀
  stored-few = omega (arith, p.few-stored, count_le (is_it 0) u₀)

  -- by a table that has these equations
  reads_can : (tbl : List (List (List ℕ))) → Reads tbl ws starts from j (length u₀) → (x : ℕ) → x < length u₀
      → can j m u x (equation_of tbl j x) ≡ can j m u x (members_at ws starts (from + x))
  reads_can tbl rd x h = ap (can j m u x) (rd.members x h)

  -- no equation is left
  pub peel-over : ((x : ℕ) → x < length u₀ → can j m u x (members_at ws starts (from + x)) ≡ false)
      → Ends kind root ws starts from j t₀ m₀ o₀ u₀ s₀ t m o u s (Ok tt)
  unfolding takeable
  peel-over none S hung tbl rd =
      record {
        goes = λ d.
            peel-hung S j hung (symbol_hash kind) root tbl (length u₀) (state t₀ m₀ o₀ u₀ s₀ d working) ∙ sym (p.goes tbl rd d)
            ∙ none_left kind root tbl j (unused u + (length u₀ - unused u₀)) (state t m o u s d working)
            (λ x l. let b : x < length u₀ = omega (arith, rd.count) in reads_can tbl rd x b ∙ none x b);
      }

  -- equation e, the lowest that can be taken, is taken, with the answer r
  module _ {e : ℕ} (he : e < length u₀) (none : (x : ℕ) → x < e → can j m u x (members_at ws starts (from + x)) ≡ false)
      (aye : can j m u e (members_at ws starts (from + e)) ≡ true) {t' m' o' u' : List ℕ} {r : Turn}
      (k : Took kind root (members_at ws starts (from + e)) j e t m o u t' m' o' u' r) where
    abbrev here : List ℕ
    here = members_at ws starts (from + e)

    one_fewer : suc (unused (set u e 1)) ≡ unused u
    one_fewer = fewer j m u e here (omega (arith, p.used-length)) aye

    -- it is the next step of the peeling
    onward : (tbl : List (List (List ℕ))) → Reads tbl ws starts from j (length u₀) → (d : ℕ)
        → peel tree (symbol_hash kind) root tbl j (unused (set u e 1) + (length u₀ - unused u₀)) (state t' m' o' u' (stored_by r s) d (end_by j e r))
        ≡ peel tree (symbol_hash kind) root tbl j (length u₀) (state t₀ m₀ o₀ u₀ s₀ d working)
    unfolding peel going takeable
    onward tbl rd d =
        let f : suc (unused (set u e 1) + (length u₀ - unused u₀)) ≡ unused u + (length u₀ - unused u₀) = omega (arith, one_fewer) in
        ap (peel tree (symbol_hash kind) root tbl j (unused (set u e 1) + (length u₀ - unused u₀)))
        (sym (k.goes s d)
        ∙ ap (λ (l : List ℕ). act tree (symbol_hash kind) root j e l (state t m o u s d working)) (sym (rd.members e he))
        ∙ sym (step_is kind root tbl j (state t m o u s d working) e refl (λ x h. reads_can tbl rd x (omega arith) ∙ none x h) (omega (arith, rd.count)) (reads_can tbl rd e he ∙ aye)))
        ∙ ap (λ (q : ℕ). peel tree (symbol_hash kind) root tbl j q (state t m o u s d working)) f
        ∙ p.goes tbl rd d

    -- ---- an end

    pub refuted_ends : (z : Refutation) → gain_of e r ≡ Err z → Ends kind root ws starts from j t₀ m₀ o₀ u₀ s₀ t' m' o' u' s (Err z)
    refuted_ends z q S hung tbl rd =
        let (ez, es, g) = refuted_turn j e r z q in
        record {
          goes = λ d.
              peel-hung S j hung (symbol_hash kind) root tbl (length u₀) (state t₀ m₀ o₀ u₀ s₀ d working) ∙ sym (onward tbl rd d)
              ∙ ended kind root tbl j (unused (set u e 1) + (length u₀ - unused u₀)) (state t' m' o' u' (stored_by r s) d (end_by j e r)) g
              ∙ ap₂ (λ (q : ℕ) (y : End). state t' m' o' u' q d y) (es s) ez;
        }

    -- ---- going on

    pub used_fewer : u' ≡ set u e 1 → unused u' < unused u
    used_fewer eu = omega (arith, ap unused eu, one_fewer)

    module _ (lt : length t' ≡ length t) (lm : length m' ≡ length m) (lo : length o' ≡ length o) (lu : length u' ≡ length u) (eu : u' ≡ set u e 1) where
      goes_on_lem : (g : ℕ) → g ≡ stored_by r s → end_by j e r ≡ working → g ≤ s + 1 → Peeling kind root ws starts from j t₀ m₀ o₀ u₀ s₀ t' m' o' u' g
      goes_on_lem g eg ee lg =
          record {
            tree-length = lt ∙ p.tree-length;
            marks-length = lm ∙ p.marks-length;
            out-length = lo ∙ p.out-length;
            used-length = lu ∙ p.used-length;
            few-stored = omega (arith, p.few-stored, used_fewer eu);
            goes = λ tbl rd d.
                ap₂ (λ (q : ℕ) (y : End). peel tree (symbol_hash kind) root tbl j (unused u' + (length u₀ - unused u₀)) (state t' m' o' u' q d y)) eg (sym ee)
                ∙ ap (λ (l : List ℕ). peel tree (symbol_hash kind) root tbl j (unused l + (length u₀ - unused u₀)) (state t' m' o' u' (stored_by r s) d (end_by j e r))) eu
                ∙ onward tbl rd d;
          }

      pub used_on : r ≡ Used → Peeling kind root ws starts from j t₀ m₀ o₀ u₀ s₀ t' m' o' u' s
      used_on er = goes_on_lem s (sym (ap (λ (q : Turn). stored_by q s) er)) (ap (end_by j e) er) (omega arith)

      pub stored_on : (x : ℕ) → r ≡ Stored x → Peeling kind root ws starts from j t₀ m₀ o₀ u₀ s₀ t' m' o' u' (s + 1)
      stored_on x er = goes_on_lem (s + 1) (add-one s ∙ sym (ap (λ (q : Turn). stored_by q s) er)) (ap (end_by j e) er) (omega arith)

-- ---- what the calls of the loop ask

module _ {root ws starts : List ℕ} {from j : ℕ} {t₀ m₀ o₀ u₀ : List ℕ} (k : Lent root ws starts t₀ m₀ o₀ u₀ from j) {e : ℕ} (he : e < length u₀) where
  pub member_below : (x : ℕ) → 1 ≤ count (is_it x) (members_at ws starts (from + e)) → x < k.symbols
  member_below x c = ltb-true x k.symbols (every-member (λ y. ltb y k.symbols) x (members_at ws starts (from + e)) (k.listed.within e he) c)

  pub turnable : {kind : Kind} {s₀ : ℕ} {t m o u : List ℕ} {s : ℕ} → Peeling kind root ws starts from j t₀ m₀ o₀ u₀ s₀ t m o u s
      → Turnable root (members_at ws starts (from + e)) t m o u j e
  unfolding proof_length
  turnable {t = t} {m = m} p =
      let v : Level root t m j k.symbols = level_keep p.tree-length p.marks-length k.level in
      let l : length (members_at ws starts (from + e)) - 1 ≤ k.most - 1 = omega (arith, (k.sized e he).1) in
      record {
        work = record {
          members = record { symbols = k.symbols; numbered = k.numbered; layers = v.layers; within = k.listed.within e he };
          rooted = v.rooted;
          some = (k.sized e he).0;
          out-room = omega (arith, p.out-length, k.out-room, mul-le-mul_right {m = length (members_at ws starts (from + e)) - 1} {n = k.most - 1} (suc j) l);
          twins-room = omega (arith, p.out-length, k.twins-room);
          low = omega (arith, k.low);
        };
        marked = record { layer = v.layers.layer; symbols = k.symbols; room = v.marks-room; within = k.listed.within e he };
        listed = omega (arith, p.used-length);
      }
