-- What taking a sample answers and leaves.
use mathlib.Core.Path.{◌≡◌, refl, sym, ap, ap₂, ◌∙◌}
use mathlib.Core.Bool.{Bool, true, ◌&&◌}
use mathlib.Core.List.{List}
use Prim.Native.Nat.{ℕ, ◌-◌, ◌*◌, ◌≤◌, ◌<◌}
use native.Mathlib.Omega.{arith}
use lib.ListN.{length}
use lib.Dec.{ltb}
use borrow.Author.Tests.{eqb-true, ltb-true}
use Rattle.std.specs.Prelude.{Some, None}
use Rattle.octets.specs.Choice.{pick}
use Rattle.octets.proofs.Choice.{and_yes, pick_ind}
use Rattle.parity_table.specs.Shape.{max_depth, depth_fits, n_of}
use Rattle.model.specs.Shape.{tree, places}
use Rattle.model.specs.Symbols.{sym_at, lowest}
use Rattle.model.specs.Sampling.{sample_size, sample_bytes}
use Rattle.sampling.specs.Lent.{BaseSymbol}
use Rattle.sampling.specs.Absent.{absent, first_absent}
use Rattle.calls.specs.declared.Stop.{Stop}
use Rattle.calls.specs.Stops.{Answer, Done, Stopped, Small}
use Rattle.calls.specs.Lengths.{tree_sized, sample_sized}
use Rattle.calls.specs.Tests.{◌then◌, opened, test_marks, test_number}
use Rattle.calls.proofs.LengthLaws.{places_small, tree-lengths}
use Rattle.calls.specs.Marks.{lowest_bad}
use Rattle.calls.proofs.TestLaws.{Opened, opened-sized, opens, marks-right, number-below, then_done, opened_by, number_passed, small_plain, small_then, small_opened, small_marks, small_number}
use Rattle.sample_calls.specs.Taking.{leaves, take_sized, needed, take_tested, taken_by, sample_taken}

-- ---- the lengths, where their test passes, and what is known of a call that has passed all tests

pub sizes : (d t m s : ℕ) → take_sized d t m s ≡ true → (t ≡ 256 * places tree d) × (m ≡ places tree d) × (s ≡ 256 * sample_size d)
sizes d t m s e =
    let (p, q) = and_yes (tree_sized d t m) (sample_sized d s) e in
    let (v, w) = tree-lengths d t m p in
    (v, w, eqb-true s (256 * sample_size d) q)

pub passed : (d i t : ℕ) (m : List ℕ) (s : ℕ) → take_tested d i t m s ≡ Done → Opened d (take_sized d t (length m) s) × BaseSymbol d i
passed d i t m s e =
    let (o, r) = then_done (opened d (take_sized d t (length m) s)) (test_marks m then test_number d i then needed (first_absent d i m)) e in
    let n = (then_done (test_number d i) (needed (first_absent d i m)) (then_done (test_marks m) (test_number d i then needed (first_absent d i m)) r).1).0 in
    let k = opened_by d (take_sized d t (length m) s) o in
    (k, (k.some, k.shallow, number_passed d i n))

-- what tests 1 and 2 come to, where the test of lengths looks at the depth too
pub by_opened : (d i t : ℕ) (m : List ℕ) (n : ℕ) (s : Bool) → s ≡ (depth_fits d && take_sized d t (length m) n) → (a : Answer) → a ≡ opened d s
    → (a then test_marks m then test_number d i then needed (first_absent d i m)) ≡ take_tested d i t m n
by_opened d i t m n s e a h =
    ap (λ (x : Answer). x then test_marks m then test_number d i then needed (first_absent d i m))
    (h ∙ ap (opened d) e ∙ opened-sized d (take_sized d t (length m) n))

-- .. and the needed symbols decide, once tests 4 and 5 have passed too
pub by_passed : (d i t : ℕ) (m : List ℕ) (n : ℕ) (s : Bool) → s ≡ (depth_fits d && take_sized d t (length m) n) → Done ≡ opened d s → Done ≡ test_marks m
    → Done ≡ test_number d i → needed (first_absent d i m) ≡ take_tested d i t m n
by_passed d i t m n s e o g h =
    ap₂ (λ (x y : Answer). x then y then needed (first_absent d i m)) g h ∙ by_opened d i t m n s e Done o

-- ---- what is left

module _ (d i : ℕ) (t m s : List ℕ) where
  pub answer-is : (sample_taken d i t m s).answer ≡ take_tested d i (length t) m (length s)
  unfolding sample_taken
  answer-is = refl

  pub refused : (w : Stop) → Stopped w ≡ take_tested d i (length t) m (length s) → leaves (Stopped w) s ≡ sample_taken d i t m s
  unfolding sample_taken
  refused w e = ap (λ (a : Answer). taken_by a d i t s) e

  pub taken : (s' : List ℕ) → Done ≡ take_tested d i (length t) m (length s) → s' ≡ sample_bytes tree (sym_at tree t) d i → leaves Done s' ≡ sample_taken d i t m s
  unfolding sample_taken
  taken s' e es = ap (λ (x : List ℕ). leaves Done x) es ∙ ap (λ (a : Answer). taken_by a d i t s) e

  -- a call that is done has passed the tests, and leaves the sample; one that passes 1, 2, 4 and 5 needs its symbols held
  pub tests_passed : (sample_taken d i t m s).answer ≡ Done → take_tested d i (length t) m (length s) ≡ Done
  tests_passed e = sym answer-is ∙ e

  pub when_done : (sample_taken d i t m s).answer ≡ Done → sample_taken d i t m s ≡ leaves Done (sample_bytes tree (sym_at tree t) d i)
  when_done e = sym (taken _ (sym (tests_passed e)) refl)

  pub needs_held : depth_fits d ≡ true → take_sized d (length t) (length m) (length s) ≡ true → length m ≤ lowest_bad m → i < n_of (d - 1)
      → (sample_taken d i t m s).answer ≡ needed (first_absent d i m)
  needs_held f l g h =
      answer-is
      ∙ ap₂ (λ (x y : Answer). x then y then test_number d i then needed (first_absent d i m)) (sym (opens d (take_sized d (length t) (length m) (length s)) f l))
      (sym (marks-right m g))
      ∙ ap (λ (x : Answer). x then needed (first_absent d i m)) (sym (number-below d i h))

  -- ---- its value is small

  small_found : (x : ℕ) → d ≤ max_depth → Small (needed (pick (ltb x (sample_size d)) (Some x) None))
  small_found x h =
      pick_ind (λ r. Small (needed r)) (ltb x (sample_size d))
      (λ l. record { first = omega (arith, ltb-true x (sample_size d) l); second = omega arith }) (λ l. small_plain refl)

  pub small : Small (sample_taken d i t m s).answer
  unfolding first_absent
  small =
      rw answer-is
      (small_then (opened d (take_sized d (length t) (length m) (length s))) (test_marks m then test_number d i then needed (first_absent d i m)) (small_opened d _)
      (λ o.
      let k = opened_by d (take_sized d (length t) (length m) (length s)) o in
      let l = sizes d (length t) (length m) (length s) k.lengths in
      small_then (test_marks m) (test_number d i then needed (first_absent d i m)) (small_marks m (omega (arith, l.1, places_small d k.shallow)))
      (λ h.
      small_then (test_number d i) (needed (first_absent d i m)) (small_number d i) (λ n. small_found (lowest (absent d i m) 0 (sample_size d)) k.shallow))))
