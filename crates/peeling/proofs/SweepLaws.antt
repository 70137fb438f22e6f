-- (a) on the lent buffers, symbol by symbol.
use mathlib.Core.Bool.{Bool, ◌&&◌, false, not, true}
use mathlib.Core.List.{List}
use mathlib.Core.Path.{◌∙◌, ◌≡◌, ap, ap₂, refl, sym}
use Prim.Native.Nat.{◌*◌, ◌+◌, ◌-◌, ◌<◌, ◌≤◌, suc, ℕ}
use native.Mathlib.Numerals.{add-one}
use native.Mathlib.Omega.{arith}
use lib.ListN.{length, set}
use lib.Seq.{paste}
use Rattle.octets.proofs.Choice.{pick_no, pick_yes}
use Rattle.model.proofs.Hung.{sweep-hung}
use Rattle.model.proofs.Sweeping.{no_gap_is}
use Rattle.model.specs.Ends.{gap_at}
use Rattle.model.specs.Repair.{absent_at, erase_sym, fits_at, sweep, sweep_at, working}
use Rattle.model.specs.Shape.{Hangs, Shape, place, places, tree}
use Rattle.model.specs.Symbols.{put_at, sym_at, zeros}
use Rattle.symbol_hash.specs.SymbolHash.{symbol_hash}
use Rattle.symbol_hash.specs.declared.Kind.{Kind}
use Rattle.equation.specs.Rooms.{Level}
use Rattle.equation.specs.States.{fits_in, state}
use Rattle.peeling.specs.States.{Moved}

-- ---- one symbol

pub and_false : (a b : Bool) → b ≡ false → (a && b) ≡ false
and_false true b e = e
and_false false b e = refl

module _ (kind : Kind) (root t m : List ℕ) (j i : ℕ) where
  -- the test of (a): the symbol is no gap
  test-is : (not (absent_at tree m j i) && fits_in kind root t j i (sym_at tree t j i)) ≡ not (gap_at tree (symbol_hash kind) root t m t j i)
  unfolding gap_at
  test-is = no_gap_is (absent_at tree m j i) (fits_in kind root t j i (sym_at tree t j i))

  pub sweep_keep : gap_at tree (symbol_hash kind) root t m t j i ≡ false → Moved (sweep_at tree (symbol_hash kind) root j i) t m t m
  unfolding sweep_at fits_at
  sweep_keep g = record { goes = λ o u s d. pick_yes (not (absent_at tree m j i) && fits_in kind root t j i (sym_at tree t j i)) _ _ (test-is ∙ ap not g) }

  pub sweep_erase : (base : ℕ) (t' m' : List ℕ) → base ≡ places tree j → gap_at tree (symbol_hash kind) root t m t j i ≡ true
      → t' ≡ paste t (256 * (base + i)) zeros 256 → m' ≡ set m (base + i) 0 → Moved (sweep_at tree (symbol_hash kind) root j i) t m t' m'
  unfolding sweep_at fits_at erase_sym put_at place
  sweep_erase base t' m' eb g et em =
      record {
        goes = λ o u s d.
            pick_no (not (absent_at tree m j i) && fits_in kind root t j i (sym_at tree t j i)) _ _ (test-is ∙ ap not g)
            ∙ ap₂ (λ (a b : List ℕ). state a b o u s d working)
            (sym (et ∙ ap (λ (b : ℕ). paste t (256 * (b + i)) zeros 256) eb)) (sym (em ∙ ap (λ (b : ℕ). set m (b + i) 0) eb));
      }

-- ---- the whole layer

-- symbol i of n is next
pub record Sweeping (kind : Kind) (root : List ℕ) (j n : ℕ) (t₀ m₀ : List ℕ) (i : ℕ) (t m : List ℕ) : Type 0 where
  pub tree-length : length t ≡ length t₀
  pub marks-length : length m ≡ length m₀
  pub goes : (o u : List ℕ) (s d : ℕ)
      → sweep tree (symbol_hash kind) root j i (n - i) (state t m o u s d working) ≡ sweep tree (symbol_hash kind) root j 0 n (state t₀ m₀ o u s d working)

module _ (kind : Kind) (root : List ℕ) (j n : ℕ) (t₀ m₀ : List ℕ) where
  pub sweep_start : Sweeping kind root j n t₀ m₀ 0 t₀ m₀
  sweep_start =
      let z : n - 0 ≡ n = omega arith in
      record { tree-length = refl; marks-length = refl; goes = λ o u s d. ap (λ (f : ℕ). sweep tree (symbol_hash kind) root j 0 f (state t₀ m₀ o u s d working)) z }

module _ {kind : Kind} {root : List ℕ} {j n : ℕ} {t₀ m₀ : List ℕ} {i : ℕ} {t m : List ℕ} (w : Sweeping kind root j n t₀ m₀ i t m) where
  pub sweep-turn : {t' m' : List ℕ} → i < n → length t' ≡ length t → length m' ≡ length m → Moved (sweep_at tree (symbol_hash kind) root j i) t m t' m'
      → Sweeping kind root j n t₀ m₀ (i + 1) t' m'
  unfolding sweep
  sweep-turn h lt lm mv =
      let f : n - i ≡ suc (n - (i + 1)) = omega arith in
      record {
        tree-length = lt ∙ w.tree-length;
        marks-length = lm ∙ w.marks-length;
        goes = λ o u s d.
            ap (sweep tree (symbol_hash kind) root j (i + 1) (n - (i + 1))) (sym (mv.goes o u s d))
            ∙ ap (λ (q : ℕ). sweep tree (symbol_hash kind) root j q (n - (i + 1)) (sweep_at tree (symbol_hash kind) root j i (state t m o u s d working))) (add-one i)
            ∙ sym (ap (λ (q : ℕ). sweep tree (symbol_hash kind) root j i q (state t m o u s d working)) f)
            ∙ w.goes o u s d;
      }

  pub sweep-end : n ≤ i → (S : Shape) → Hangs S j → Moved (sweep S (symbol_hash kind) root j 0 n) t₀ m₀ t m
  unfolding sweep
  sweep-end h S hung =
      let f : n - i ≡ 0 = omega arith in
      record {
        goes = λ o u s d.
            sweep-hung S j hung (symbol_hash kind) root n 0 (state t₀ m₀ o u s d working)
            ∙ sym (w.goes o u s d) ∙ ap (λ (q : ℕ). sweep tree (symbol_hash kind) root j i q (state t m o u s d working)) f;
      }

-- ---- what it asks

pub level_keep : {root t m t' m' : List ℕ} {j n : ℕ} → length t' ≡ length t → length m' ≡ length m → Level root t m j n → Level root t' m' j n
level_keep lt lm l =
    record {
      layers = record { layer = l.layers.layer; room = omega (arith, l.layers.room) };
      rooted = l.rooted;
      marks-room = omega (arith, l.marks-room);
    }
