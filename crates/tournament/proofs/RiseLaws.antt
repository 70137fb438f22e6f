-- A tournament while an entry changes: the nodes above it follow, from the lowest to the first. At each moment the one above the last change, it may be,
-- is not right yet, and every other is.
use mathlib.Core.Path.{◌≡◌, refl, sym, ap, ap₂, ◌∙◌}
use mathlib.Core.List.{List}
use Prim.Native.Nat.{ℕ, ◌+◌, ◌*◌, ◌/◌, ◌≤◌, ◌<◌, min}
use native.Mathlib.Decide.{ℕ_discrete}
use native.Mathlib.Omega.{arith}
use lib.ListN.{length, get_or, drop, set, length-set}
use lib.Seq.{get_or-set_same, get_or-set_other, drop-set-add, drop-set-lt}
use Rattle.tournament.specs.Tournament.{entries, RightAt, Tournament, Entered}

-- ---- one store, at place i

module _ (tree : List ℕ) (i v : ℕ) where
  -- node q stays right where neither it nor one of the two below it is there
  still_right : (q : ℕ) → (q ≡ i → ⊥) → (q ≡ i / 2 → ⊥) → RightAt tree q → RightAt (set tree i v) q
  still_right q a b h =
      get_or-set_other tree i q v 0 a ∙ h
      ∙ sym (ap₂ min (get_or-set_other tree i (2 * q) v 0 (λ t. omega arith)) (get_or-set_other tree i (2 * q + 1) v 0 (λ t. omega arith)))

  -- node i becomes right by the lesser of the two below it
  now-right : 1 ≤ i → i < length tree → v ≡ min (get_or tree (2 * i) 0) (get_or tree (2 * i + 1) 0) → RightAt (set tree i v) i
  now-right a l h =
      get_or-set_same tree i v 0 l ∙ h
      ∙ sym (ap₂ min (get_or-set_other tree i (2 * i) v 0 (λ t. omega arith)) (get_or-set_other tree i (2 * i + 1) v 0 (λ t. omega arith)))

  -- a node is no entry
  same_entries : i < length tree / 2 → entries (set tree i v) ≡ entries tree
  unfolding entries
  same_entries h = ap (λ (n : ℕ). drop (n / 2) (set tree i v)) (length-set tree i v) ∙ drop-set-lt (length tree / 2) tree i v h

set-entry : (tree : List ℕ) (e v : ℕ) → entries (set tree (length tree / 2 + e) v) ≡ set (entries tree) e v
unfolding entries
set-entry tree e v =
    ap (λ (n : ℕ). drop (n / 2) (set tree (length tree / 2 + e) v)) (length-set tree (length tree / 2 + e) v)
    ∙ drop-set-add (length tree / 2) tree e v

-- ---- the way up

-- the entries of tree₀, of which place i changed last: every node but the one above it is right
pub record Rising (tree₀ tree : List ℕ) (i : ℕ) : Type 0 where
  pub paired : length tree ≡ 2 * (length tree / 2)
  pub sized : length tree ≡ length tree₀
  pub inside : (1 ≤ i) × (i < length tree)
  pub kept : entries tree ≡ entries tree₀
  pub right : (q : ℕ) → 1 ≤ q → q < length tree / 2 → (q ≡ i / 2 → ⊥) → RightAt tree q

pub rising_start : (tree : List ℕ) (e v : ℕ) → Tournament tree → e < length tree / 2
    → Rising (set tree (length tree / 2 + e) v) (set tree (length tree / 2 + e) v) (length tree / 2 + e)
rising_start tree e v t h =
    let s : length (set tree (length tree / 2 + e) v) ≡ length tree = length-set tree (length tree / 2 + e) v in
    record {
      paired = omega arith;
      sized = refl;
      inside = omega arith;
      kept = refl;
      right = λ q a l d. still_right tree (length tree / 2 + e) v q (λ z. omega arith) d (t.right q a (omega arith));
    }

module _ (tree₀ tree : List ℕ) (i : ℕ) (r : Rising tree₀ tree i) where
  pub rising_turn : (m : ℕ) → 1 < i → m ≡ min (get_or tree (2 * (i / 2)) 0) (get_or tree (2 * (i / 2) + 1) 0) → Rising tree₀ (set tree (i / 2) m) (i / 2)
  rising_turn m a h =
      let s : length (set tree (i / 2) m) ≡ length tree = length-set tree (i / 2) m in
      record {
        paired = omega arith;
        sized = s ∙ r.sized;
        inside = omega arith;
        kept = same_entries tree (i / 2) m (omega arith) ∙ r.kept;
        right = λ q b l d. elim (ℕ_discrete q (i / 2)) [
          | yes z ↦ rw z (now-right tree (i / 2) m (omega arith) (omega arith) h)
          | no z ↦ still_right tree (i / 2) m q z d (r.right q b (omega arith) z)
        ];
      }

  -- none is above place 1
  top_right : i ≤ 1 → Tournament tree
  top_right h = record { paired = r.paired; right = λ q a l. r.right q a l (λ z. omega arith) }

  -- the node above is right as it is
  stop_right : RightAt tree (i / 2) → Tournament tree
  stop_right h =
      record {
        paired = r.paired;
        right = λ q a l. elim (ℕ_discrete q (i / 2)) [
          | yes z ↦ rw z h
          | no z ↦ r.right q a l z
        ];
      }

-- ---- the end

module _ (tree : List ℕ) (e v : ℕ) (after : List ℕ) (i : ℕ) (r : Rising (set tree (length tree / 2 + e) v) after i) where
  entered : Tournament after → Entered tree e v after
  entered t =
      record { tournament = t; sized = r.sized ∙ length-set tree (length tree / 2 + e) v; entered = r.kept ∙ set-entry tree e v }

  pub rising_end : i ≤ 1 → Entered tree e v after
  rising_end h = entered (top_right (set tree (length tree / 2 + e) v) after i r h)

  pub rising_stop : RightAt after (i / 2) → Entered tree e v after
  rising_stop h = entered (stop_right (set tree (length tree / 2 + e) v) after i r h)
