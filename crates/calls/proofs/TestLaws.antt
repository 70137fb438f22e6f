-- Tests in their order, and what is known of a call that has passed them.
use mathlib.Core.Path.{◌≡◌, refl, sym, ap, ◌∙◌, subst}
use mathlib.Core.Bool.{Bool, true, false, ◌&&◌}
use mathlib.Core.List.{List}
use Rattle.std.specs.Prelude.{Ok, Err, Option, Some, None, cond}
use Rattle.std.specs.List.{position}
use Prim.Native.Nat.{ℕ, ◌-◌, ◌≤◌, ◌<◌, ◌^◌}
use native.Mathlib.Decide.{dec_lt}
use native.Mathlib.Omega.{arith}
use lib.ListN.{length}
use lib.Dec.{ltb}
use borrow.Author.Tests.{lt-ltb, le-ltb, ltb-true}
use Rattle.octets.specs.Choice.{pick}
use Rattle.octets.proofs.Choice.{by_test, pick_yes, pick_no, pick_ind}
use Rattle.parity_table.specs.Shape.{max_depth, depth_fits, n_of}
use Rattle.parity_table.proofs.Shape.{depth_is}
use Rattle.calls.specs.declared.Stop.{Stop}
use Rattle.calls.specs.declared.Stop.TheVariants.{Depth, Length, Table, Mark, Number, Head, Hash, NoFault, Absent, Uncovered, Record, OtherTable, NotWhole}
use Rattle.calls.specs.Stops.{Answer, Done, Stopped, number_of, values_of, Small}
use Rattle.calls.specs.Marks.{lowest_bad}
use Rattle.calls.proofs.MarkLaws.{position-bad}
use Rattle.calls.specs.Tests.{◌then◌, test_depth, test_lengths, test_marks, test_number, opened}

pub stopped_not : (s : Stop) → Stopped s ≡ Done → ⊥
stopped_not s e = cc

-- ---- one test after another

pub then_done : (a b : Answer) → (a then b) ≡ Done → (a ≡ Done) × (b ≡ Done)
then_done (Ok _) b e = (refl, e)
then_done (Err s) b e = absurd (stopped_not s e)

-- what holds of a test that stops the call, and of those after it where it doesn't
pub then_ind {ℓ} : (P : Answer → Type ℓ) (a b : Answer) → ((s : Stop) → a ≡ Stopped s → P (Stopped s)) → (a ≡ Done → P b) → P (a then b)
then_ind P (Ok _) b f g = g refl
then_ind P (Err s) b f g = f s refl

-- ---- tests 1 and 2

module _ (d : ℕ) (sized : Bool) where
  pub no_depth : depth_fits d ≡ false → Stopped Depth ≡ opened d sized
  unfolding test_depth pick
  no_depth f = rw f

  module _ (f : depth_fits d ≡ true) where
    pub no_length : sized ≡ false → Stopped Length ≡ opened d sized
    unfolding test_depth test_lengths pick
    no_length l = rw (f, l)

    pub opens : sized ≡ true → Done ≡ opened d sized
    unfolding test_depth test_lengths pick
    opens l = rw (f, l)

  -- what is known of a call that has passed them
  pub record Opened : Type 0 where
    pub deep : depth_fits d ≡ true
    pub some : 1 ≤ d
    pub shallow : d ≤ max_depth
    pub lengths : sized ≡ true

  pub opened_by : opened d sized ≡ Done → Opened
  opened_by e =
      by_test (depth_fits d)
      (λ f.
      by_test sized (λ l. record { deep = f; some = (depth_is d f).0; shallow = (depth_is d f).1; lengths = l })
      (λ l. absurd (stopped_not Length (no_length f l ∙ e))))
      (λ f. absurd (stopped_not Depth (no_depth f ∙ e)))

-- a test of lengths that looks at the depth too
pub opened-sized : (d : ℕ) (sized : Bool) → opened d (depth_fits d && sized) ≡ opened d sized
opened-sized d sized =
    by_test (depth_fits d) (λ f. ap (λ (b : Bool). opened d (b && sized)) f) (λ f. sym (no_depth d (depth_fits d && sized) f) ∙ no_depth d sized f)

-- .. and at the length of a table that is lent
pub opened_both : (d : ℕ) (sized long : Bool) → opened d ((depth_fits d && sized) && long) ≡ opened d (sized && long)
opened_both d sized long =
    by_test (depth_fits d) (λ f. ap (λ (b : Bool). opened d ((b && sized) && long)) f)
    (λ f. sym (no_depth d ((depth_fits d && sized) && long) f) ∙ no_depth d (sized && long) f)

-- ---- tests 4 and 5

module _ (m : List ℕ) where
  pub marks_bad : lowest_bad m < length m → Stopped (Mark (lowest_bad m)) ≡ test_marks m
  unfolding test_marks
  marks_bad h = sym (pick_yes (ltb (lowest_bad m) (length m)) (Stopped (Mark (lowest_bad m))) Done (lt-ltb (lowest_bad m) (length m) h))

  pub marks-right : length m ≤ lowest_bad m → Done ≡ test_marks m
  unfolding test_marks
  marks-right h = sym (pick_no (ltb (lowest_bad m) (length m)) (Stopped (Mark (lowest_bad m))) Done (le-ltb (lowest_bad m) (length m) h))

  -- the stop at what a search by position finds
  abbrev pub stop_by : Option ℕ → Answer
  stop_by (Some p) = Stopped (Mark p)
  stop_by None = Done

  pub by_position : (r : Option ℕ) → r ≡ position (λ v. ltb 1 v) m → stop_by r ≡ test_marks m
  by_position r e =
      let P : ℕ → Type 0 = λ n. stop_by (cond (ltb n (length m)) (Some n) None) ≡ test_marks m in
      rw e
      (subst P (sym (position-bad m))
      (elim (dec_lt (lowest_bad m) (length m)) [
        | yes h ↦ rw (lt-ltb (lowest_bad m) (length m) h) (marks_bad h)
        | no h ↦ rw (le-ltb (lowest_bad m) (length m) (omega arith)) (marks-right (omega arith))
      ]))

  pub marks-passed : test_marks m ≡ Done → length m ≤ lowest_bad m
  marks-passed e =
      elim (dec_lt (lowest_bad m) (length m)) [
        | yes h ↦ absurd (stopped_not _ (marks_bad h ∙ e))
        | no h ↦ omega arith
      ]

module _ (d i : ℕ) where
  pub number-over : n_of (d - 1) ≤ i → Stopped Number ≡ test_number d i
  unfolding test_number
  number-over h = sym (pick_no (ltb i (n_of (d - 1))) Done (Stopped Number) (le-ltb i (n_of (d - 1)) h))

  pub number-below : i < n_of (d - 1) → Done ≡ test_number d i
  unfolding test_number
  number-below h = sym (pick_yes (ltb i (n_of (d - 1))) Done (Stopped Number) (lt-ltb i (n_of (d - 1)) h))

  pub number_passed : test_number d i ≡ Done → i < n_of (d - 1)
  number_passed e =
      elim (dec_lt i (n_of (d - 1))) [
        | yes h ↦ h
        | no h ↦ absurd (stopped_not Number (number-over (omega arith) ∙ e))
      ]

-- ---- numbers

pub number-low : (a : Answer) → number_of a < 2 ^ 8
number-low (Ok _) = omega arith
number-low (Err Depth) = omega arith
number-low (Err Length) = omega arith
number-low (Err (Table i)) = omega arith
number-low (Err (Mark p)) = omega arith
number-low (Err Number) = omega arith
number-low (Err Head) = omega arith
number-low (Err (Hash l p)) = omega arith
number-low (Err NoFault) = omega arith
number-low (Err (Absent x)) = omega arith
number-low (Err (Uncovered j i)) = omega arith
number-low (Err Record) = omega arith
number-low (Err OtherTable) = omega arith
number-low (Err NotWhole) = omega arith

-- an answer without values
pub small_plain : {a : Answer} → values_of a ≡ (0, 0) → Small a
small_plain {a} e = record { first = omega (arith, ap (λ (v : ℕ × ℕ). v.0) e); second = omega (arith, ap (λ (v : ℕ × ℕ). v.1) e) }

pub small_then : (a b : Answer) → Small a → (a ≡ Done → Small b) → Small (a then b)
small_then a b s f = then_ind Small a b (λ w e. subst_small a (Stopped w) e s) f
  where
    subst_small : (x y : Answer) → x ≡ y → Small x → Small y
    subst_small x y e k = subst Small e k

pub small_opened : (d : ℕ) (sized : Bool) → Small (opened d sized)
unfolding test_depth test_lengths
small_opened d sized =
    small_then (test_depth d) (test_lengths sized)
    (pick_ind Small (depth_fits d) (λ f. small_plain refl) (λ f. small_plain refl))
    (λ e. pick_ind Small sized (λ f. small_plain refl) (λ f. small_plain refl))

-- a place, where there are so many marks
pub small_marks : (m : List ℕ) → length m < 2 ^ 24 → Small (test_marks m)
unfolding test_marks
small_marks m l =
    pick_ind Small (ltb (lowest_bad m) (length m))
    (λ h. record { first = omega (arith, ltb-true (lowest_bad m) (length m) h); second = omega arith }) (λ h. small_plain refl)

pub small_number : (d i : ℕ) → Small (test_number d i)
unfolding test_number
small_number d i = pick_ind Small (ltb i (n_of (d - 1))) (λ h. small_plain refl) (λ h. small_plain refl)
