-- What reading a block back answers and leaves.
use mathlib.Core.Path.{◌≡◌, refl, sym, ap, ap₂, ◌∙◌}
use mathlib.Core.Bool.{Bool, true, ◌&&◌}
use mathlib.Core.List.{List, ◌++◌}
use Prim.Native.Nat.{ℕ, suc, ◌+◌, ◌-◌, ◌*◌, ◌≤◌, ◌<◌}
use native.Mathlib.Decide.{dec_lt}
use native.Mathlib.Omega.{arith}
use lib.ListN.{length, take, drop}
use lib.Seq.{length-take-le}
use lib.Dec.{ltb}
use borrow.Author.Tests.{eqb-true, lt-ltb, le-ltb, ltb-true, ltb-false}
use Rattle.octets.proofs.Choice.{by_test, and_yes, pick_yes, pick_no, pick_ind}
use Rattle.parity_table.specs.Shape.{depth_fits, k_of}
use Rattle.parity_table.proofs.Shape.{k_small}
use Rattle.std.specs.Prelude.{Option, Some, None}
use Rattle.model.specs.Shape.{tree, places}
use Rattle.model.specs.Symbols.{found}
use Rattle.model.specs.Repair.{absent_at}
use Rattle.root_record.specs.Records.{size_in, head_right}
use Rattle.root_record.proofs.RecordLaws.{head-parts}
use Rattle.model.specs.Writer.{block_of}
use Rattle.model.proofs.Shapes.{tree_ok}
use Rattle.calls.specs.declared.Stop.{Stop}
use Rattle.calls.specs.declared.Stop.TheVariants.{Absent}
use Rattle.calls.specs.Stops.{Answer, Done, Stopped, Small}
use Rattle.calls.specs.Lengths.{tree_sized, block_sized, record_sized}
use Rattle.calls.specs.Tests.{◌then◌, headed, test_marks}
use Rattle.calls.proofs.LengthLaws.{places_small, tree-lengths}
use Rattle.calls.specs.Marks.{lowest_bad}
use Rattle.calls.proofs.RecordLaws.{Headed, headed_by, headed-sized, by_head, small_headed}
use Rattle.calls.proofs.TestLaws.{stopped_not, marks-right, then_done, small_plain, small_then, small_marks}
use Rattle.volume_calls.specs.Reading.{leaves, read_sized, lowest_absent, test_base, block_tested, block_given, read_by, block_read}

-- the base's data symbols have marks
pub base-room : (d : ℕ) → 1 ≤ d → places tree (d - 1) + k_of (d - 1) ≤ places tree d
unfolding places
base-room d h = let e : suc (d - 1) ≡ d = omega arith in omega (arith, tree_ok.shape.within (d - 1), ap (places tree) e)

-- ---- test 9

module _ (d : ℕ) (m : List ℕ) where
  pub base-absent : lowest_absent d m < k_of (d - 1) → Stopped (Absent (lowest_absent d m)) ≡ test_base d m
  unfolding test_base
  base-absent h =
      sym (pick_yes (ltb (lowest_absent d m) (k_of (d - 1))) (Stopped (Absent (lowest_absent d m))) Done (lt-ltb (lowest_absent d m) (k_of (d - 1)) h))

  pub base_there : k_of (d - 1) ≤ lowest_absent d m → Done ≡ test_base d m
  unfolding test_base
  base_there h =
      sym (pick_no (ltb (lowest_absent d m) (k_of (d - 1))) (Stopped (Absent (lowest_absent d m))) Done (le-ltb (lowest_absent d m) (k_of (d - 1)) h))

  -- the stop at the first absent symbol, if there is one
  abbrev pub needed : Option ℕ → Answer
  needed (Some x) = Stopped (Absent x)
  needed None = Done

  pub base_found : (r : Option ℕ) → r ≡ found (absent_at tree m (d - 1)) (k_of (d - 1)) → needed r ≡ test_base d m
  base_found r e =
      let low = lowest_absent d m in
      let k = k_of (d - 1) in
      ap needed e
      ∙ by_test (ltb low k) (λ t. ap needed (pick_yes (ltb low k) (Some low) None t) ∙ base-absent (ltb-true low k t))
      (λ t. ap needed (pick_no (ltb low k) (Some low) None t) ∙ base_there (ltb-false low k t))

  pub base-passed : test_base d m ≡ Done → k_of (d - 1) ≤ lowest_absent d m
  base-passed e =
      elim (dec_lt (lowest_absent d m) (k_of (d - 1))) [
        | yes h ↦ absurd (stopped_not _ (base-absent h ∙ e))
        | no h ↦ omega arith
      ]

-- ---- the lengths, where their test passes

pub sizes : (d r t m b : ℕ) → read_sized d r t m b ≡ true
    → (t ≡ 256 * places tree d) × (m ≡ places tree d) × (r ≡ 556) × (b ≡ 256 * k_of (d - 1))
sizes d r t m b e =
    let (p, q) = and_yes (tree_sized d t m) (record_sized r && block_sized d b) e in
    let (x, y) = and_yes (record_sized r) (block_sized d b) q in
    let (v, w) = tree-lengths d t m p in
    (v, w, eqb-true r 556 x, eqb-true b (256 * k_of (d - 1)) y)

-- .. and what tests 1, 2 and 11 come to, where the test of lengths looks at the depth too
pub headed_as : (d : ℕ) (r : List ℕ) (t : ℕ) (m : List ℕ) (b : ℕ) (s : Bool) → s ≡ (depth_fits d && read_sized d (length r) t (length m) b)
    → (a : Answer) → a ≡ headed d s r → a ≡ headed d (read_sized d (length r) t (length m) b) r
headed_as d r t m b s e a h = h ∙ ap (λ (x : Bool). headed d x r) e ∙ headed-sized d (read_sized d (length r) t (length m) b) r

-- .. and so of the tests together
pub by_head_lem : (d : ℕ) (r : List ℕ) (t : ℕ) (m : List ℕ) (b : ℕ) (s : Bool) → s ≡ (depth_fits d && read_sized d (length r) t (length m) b)
    → (a : Answer) → a ≡ headed d s r → (a then test_marks m then test_base d m) ≡ block_tested d r t m b
by_head_lem d r t m b s e a h = ap (λ (x : Answer). x then test_marks m then test_base d m) (headed_as d r t m b s e a h)

-- a call that passes the tests has passed 1, 2 and 11
pub passed : (d : ℕ) (r : List ℕ) (t : ℕ) (m : List ℕ) (b : ℕ) → block_tested d r t m b ≡ Done → Headed d (read_sized d (length r) t (length m) b) r
passed d r t m b e =
    let s = read_sized d (length r) t (length m) b in
    headed_by d s r (then_done (headed d s r) (test_marks m then test_base d m) e).0

-- the block has room for as many bytes as the record says
pub size_room : (d : ℕ) (r : List ℕ) (b : ℕ) → head_right d r ≡ true → b ≡ 256 * k_of (d - 1) → size_in r ≤ b
size_room d r b h e = omega (arith, (head-parts d r h).3)

-- ---- what is left

-- the first n bytes of the buffer are those of the base, and the rest is left
pub given_back : (d n : ℕ) (r t b front : List ℕ) → n ≡ size_in r → n ≤ length b → front ≡ take (length (take n b)) (block_of tree d t)
    → front ++ drop n b ≡ block_given d r t b
given_back d n r t b front en room ef =
    let l : length (take n b) ≡ n = length-take-le n b room in
    ap₂ (λ (x y : List ℕ). x ++ y) (ef ∙ ap (λ (k : ℕ). take k (block_of tree d t)) (l ∙ en)) (ap (λ (k : ℕ). drop k b) en)

module _ (d : ℕ) (r t m b : List ℕ) where
  abbrev sized : Bool
  sized = read_sized d (length r) (length t) (length m) (length b)

  pub answer-is : (block_read d r t m b).answer ≡ block_tested d r (length t) m (length b)
  unfolding block_read
  answer-is = refl

  pub refused : (s : Stop) → Stopped s ≡ block_tested d r (length t) m (length b) → leaves (Stopped s) b ≡ block_read d r t m b
  unfolding block_read
  refused s e = ap (λ (a : Answer). read_by a d r t b) e

  pub copied : (b' : List ℕ) → Done ≡ block_tested d r (length t) m (length b) → b' ≡ block_given d r t b → leaves Done b' ≡ block_read d r t m b
  unfolding block_read
  copied b' e eb = ap (λ (x : List ℕ). leaves Done x) eb ∙ ap (λ (a : Answer). read_by a d r t b) e

  -- a call that is done has passed the tests, and leaves the block; one that passes them is done
  pub tests_passed : (block_read d r t m b).answer ≡ Done → block_tested d r (length t) m (length b) ≡ Done
  tests_passed e = sym answer-is ∙ e

  pub when_done : (block_read d r t m b).answer ≡ Done → block_read d r t m b ≡ leaves Done (block_given d r t b)
  when_done e = sym (copied _ (sym (tests_passed e)) refl)

  pub done_when : depth_fits d ≡ true → sized ≡ true → head_right d r ≡ true → length m ≤ lowest_bad m → k_of (d - 1) ≤ lowest_absent d m
      → (block_read d r t m b).answer ≡ Done
  done_when f l x g h =
      answer-is
      ∙ ap₂ (λ (x y : Answer). x then y then test_base d m) (sym (by_head d sized r f l x)) (sym (marks-right m g))
      ∙ sym (base_there d m h)

  -- ---- its value is small

  pub small : Small (block_read d r t m b).answer
  unfolding test_base
  small =
      rw answer-is
      (small_then (headed d sized r) (test_marks m then test_base d m) (small_headed d sized r)
      (λ o.
      let k = (headed_by d sized r o).opened-is in
      let n = sizes d (length r) (length t) (length m) (length b) k.lengths in
      small_then (test_marks m) (test_base d m) (small_marks m (omega (arith, n.1, places_small d k.shallow)))
      (λ h.
      pick_ind Small (ltb (lowest_absent d m) (k_of (d - 1)))
      (λ x.
      record {
        first = omega (arith, ltb-true (lowest_absent d m) (k_of (d - 1)) x, k_small (d - 1) (omega (arith, k.some, k.shallow)));
        second = omega arith;
      })
      (λ x. small_plain refl))))
