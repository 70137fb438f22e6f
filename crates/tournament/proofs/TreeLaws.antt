-- What a caller has of a tournament: how many entries, one whose places are all the same, and that its first node is the least entry.
use mathlib.Core.Path.{◌≡◌, sym, ap, ◌∙◌}
use mathlib.Core.List.{List}
use Prim.Native.Nat.{ℕ, zero, suc, ◌+◌, ◌-◌, ◌*◌, ◌/◌, ◌≤◌, ◌<◌}
use native.Mathlib.Decide.{dec_le, ℕ_discrete}
use native.Mathlib.Omega.{arith}
use lib.ListN.{length, get_or, replicate, length-drop, length-replicate, get_or-replicate}
use lib.Seq.{get_or-drop, ext_get_or}
use Rattle.tournament.specs.Tournament.{entries, Tournament, Least}

-- ---- the entries

pub get_d_entries : (tree : List ℕ) (x : ℕ) → get_or (entries tree) x 0 ≡ get_or tree (length tree / 2 + x) 0
unfolding entries
get_d_entries tree x = get_or-drop (length tree / 2) tree x 0

pub length-entries : (tree : List ℕ) → length tree ≡ 2 * (length tree / 2) → length (entries tree) ≡ length tree / 2
unfolding entries
length-entries tree p = length-drop (length tree / 2) tree ∙ omega arith

-- ---- every place the same

module _ (l v : ℕ) (p : l ≡ 2 * (l / 2)) where
  pub level-tournament : Tournament (replicate l v)
  level-tournament =
      let s : length (replicate l v) ≡ l = length-replicate l v in
      record {
        paired = omega arith;
        right = λ i a h.
            omega (arith, get_or-replicate l i v 0 (omega arith), get_or-replicate l (2 * i) v 0 (omega arith), get_or-replicate l (2 * i + 1) v 0 (omega arith));
      }

  pub level-entries : entries (replicate l v) ≡ replicate (l / 2) v
  level-entries =
      let s : length (replicate l v) ≡ l = length-replicate l v in
      let n : length (entries (replicate l v)) ≡ l / 2 = length-entries (replicate l v) (omega arith) ∙ omega arith in
      ext_get_or 0 (entries (replicate l v)) (replicate (l / 2) v) (n ∙ sym (length-replicate (l / 2) v))
      (λ i h. get_d_entries (replicate l v) i ∙ get_or-replicate l (length (replicate l v) / 2 + i) v 0 (omega arith) ∙ sym (get_or-replicate (l / 2) i v 0 (omega arith)))

-- ---- the first node

module _ (tree : List ℕ) (t : Tournament tree) where
  -- what stands above a place is at most what stands there
  above_at_most : (i : ℕ) → 2 ≤ i → i < length tree → get_or tree (i / 2) 0 ≤ get_or tree i 0
  above_at_most i a l =
      let r = t.right (i / 2) (omega arith) (omega arith) in
      elim (ℕ_discrete i (2 * (i / 2))) [
        | yes z ↦ omega (arith, ap (λ (n : ℕ). get_or tree n 0) z)
        | no z ↦
            let z' : i ≡ 2 * (i / 2) + 1 = omega arith in
            omega (arith, ap (λ (n : ℕ). get_or tree n 0) z')
      ]

  -- k bounds the place
  first_at_most : (k i : ℕ) → i ≤ k → 1 ≤ i → i < length tree → get_or tree 1 0 ≤ get_or tree i 0
  first_at_most zero i b a l = absurd (omega arith)
  first_at_most (suc k) i b a l =
      elim (dec_le 2 i) [
        | yes z ↦ omega (arith, first_at_most k (i / 2) (omega arith) (omega arith) (omega arith), above_at_most i z l)
        | no z ↦
            let z' : i ≡ 1 = omega arith in
            omega (arith, ap (λ (n : ℕ). get_or tree n 0) z')
      ]

  -- what stands at place i is an entry; k bounds the places that follow
  is-entry : (k i : ℕ) → length tree ≤ i + k → 1 ≤ i → i < length tree
      → (x : ℕ) × (x < length tree / 2) × (get_or tree (length tree / 2 + x) 0 ≡ get_or tree i 0)
  is-entry zero i b a l = absurd (omega arith)
  is-entry (suc k) i b a l =
      elim (dec_le (length tree / 2) i) [
        | yes z ↦ let e : length tree / 2 + (i - length tree / 2) ≡ i = omega arith in (i - length tree / 2, omega arith, ap (λ (n : ℕ). get_or tree n 0) e)
        | no z ↦
            let r = t.right i a (omega arith) in
            elim (dec_le (get_or tree (2 * i) 0) (get_or tree (2 * i + 1) 0)) [
              | yes q ↦ let (x, h, e) = is-entry k (2 * i) (omega arith) (omega arith) (omega arith) in (x, h, omega arith)
              | no q ↦ let (x, h, e) = is-entry k (2 * i + 1) (omega arith) (omega arith) (omega arith) in (x, h, omega arith)
            ]
      ]

  pub first-least : 2 ≤ length tree → Least (entries tree) (get_or tree 1 0)
  first-least l =
      let n = length-entries tree t.paired in
      let (x, h, e) = is-entry (length tree) 1 (omega arith) (omega arith) (omega arith) in
      record {
        at_most = λ y k.
            omega (arith, get_d_entries tree y, first_at_most (length tree) (length tree / 2 + y) (omega (arith, t.paired)) (omega arith) (omega (arith, t.paired)));
        found = (x, omega arith, get_d_entries tree x ∙ e);
      }
