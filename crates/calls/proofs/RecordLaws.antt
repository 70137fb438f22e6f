-- Tests 11 and 12, and the admission of a table by a record.
use mathlib.Core.Path.{◌≡◌, refl, sym, ap, ◌∙◌, subst}
use mathlib.Core.Bool.{Bool, true, false, ◌&&◌}
use mathlib.Core.List.{List}
use Prim.Native.Nat.{ℕ, ◌-◌, ◌≤◌}
use native.Mathlib.Omega.{arith}
use lib.ListN.{length, take, drop, length-drop}
use lib.Seq.{take_all}
use Rattle.octets.proofs.Choice.{by_test, yes_and, pick_yes, pick_no, pick_ind}
use Rattle.sha256.specs.Call.{longest}
use Rattle.parity_table.specs.Shape.{depth_fits}
use Rattle.parity_table.proofs.Shape.{depth_low}
use Rattle.table_bytes.specs.Bytes.{words_of, length_fits}
use Rattle.table_bytes.proofs.ByteForm.{quarter_most}
use Rattle.root_record.specs.Records.{root_in, head_right, names_table}
use Rattle.calls.specs.declared.Stop.TheVariants.{Depth, Record, OtherTable}
use Rattle.calls.specs.Stops.{Answer, Done, Stopped, Small}
use Rattle.calls.specs.Room.{Room}
use Rattle.calls.specs.Tests.{◌then◌, left, test_head, test_named, opened, headed, words_tested, admitted, admitted_by, words_left, starts_left}
use Rattle.calls.proofs.TestLaws.{stopped_not, then_done, Opened, opened_by, opened-sized, opens, no_depth, small_plain, small_then, small_opened}
use Rattle.calls.proofs.AdmissionLaws.{TableTaken, Ready, ready, admission, admits, small_admitted}

-- the root in a record
pub root_length : (r : List ℕ) → length r ≡ 556 → length (root_in r) ≡ 512
unfolding root_in
root_length r e = omega (arith, length-drop 44 r)

pub root_part_lem : (r : List ℕ) → take (length r - 44) (drop 44 r) ≡ root_in r
unfolding root_in
root_part_lem r = take_all (length r - 44) (drop 44 r) (omega (arith, length-drop 44 r))

-- ---- test 11

module _ (d : ℕ) (r : List ℕ) where
  pub head-wrong : head_right d r ≡ false → Stopped Record ≡ test_head d r
  unfolding test_head
  head-wrong f = sym (pick_no (head_right d r) Done (Stopped Record) f)

  pub head-fits : head_right d r ≡ true → Done ≡ test_head d r
  unfolding test_head
  head-fits f = sym (pick_yes (head_right d r) Done (Stopped Record) f)

  pub head_passed : test_head d r ≡ Done → head_right d r ≡ true
  head_passed e = by_test (head_right d r) (λ f. f) (λ f. absurd (stopped_not Record (head-wrong f ∙ e)))

-- ---- test 12

-- a table that calls take can be hashed
pub table-short : (n : ℕ) → length_fits n ≡ true → n ≤ longest
table-short n e = omega (arith, quarter_most n e)

module _ (r table : List ℕ) where
  pub other-table : names_table r table ≡ false → Stopped OtherTable ≡ test_named r table
  unfolding test_named
  other-table f = sym (pick_no (names_table r table) Done (Stopped OtherTable) f)

  pub named_table : names_table r table ≡ true → Done ≡ test_named r table
  unfolding test_named
  named_table f = sym (pick_yes (names_table r table) Done (Stopped OtherTable) f)

  pub named-passed : test_named r table ≡ Done → names_table r table ≡ true
  named-passed e = by_test (names_table r table) (λ f. f) (λ f. absurd (stopped_not OtherTable (other-table f ∙ e)))

-- ---- 1, 2, 11

module _ (d : ℕ) (sized : Bool) (r : List ℕ) where
  pub record Headed : Type 0 where
    pub opened-is : Opened d sized
    pub head : head_right d r ≡ true

  pub headed_by : headed d sized r ≡ Done → Headed
  headed_by e =
      let (o, h) = then_done (opened d sized) (test_head d r) e in
      record { opened-is = opened_by d sized o; head = head_passed d r h }

  pub by_head : depth_fits d ≡ true → sized ≡ true → head_right d r ≡ true → Done ≡ headed d sized r
  by_head f s h = head-fits d r h ∙ ap (λ (a : Answer). a then test_head d r) (opens d sized f s)

  -- a test of lengths that looks at the depth too
  pub headed-sized : headed d (depth_fits d && sized) r ≡ headed d sized r
  headed-sized = ap (λ (a : Answer). a then test_head d r) (opened-sized d sized)

  pub small_headed : Small (headed d sized r)
  unfolding test_head
  small_headed =
      small_then (opened d sized) (test_head d r) (small_opened d sized)
      (λ e. pick_ind Small (head_right d r) (λ h. small_plain refl) (λ h. small_plain refl))

-- ---- 1, 2, 11, 3, 10, 12

module _ (d : ℕ) (sized : Bool) (r table : List ℕ) where
  abbrev both : Bool
  both = sized && length_fits (length table)

  abbrev begun : Answer
  begun = headed d both r

  abbrev rest : Answer
  rest = words_tested d (words_of table) then test_named r table

  -- after 11, the tests of a table without a record are 3 and 10
  pub after-head : Done ≡ begun → admitted d sized table ≡ words_tested d (words_of table)
  after-head e = ap (λ (a : Answer). a then words_tested d (words_of table)) (then_done (opened d both) (test_head d r) (sym e)).0

  pub by_begun : (a : Answer) → a ≡ begun → (a then rest) ≡ admitted_by d sized r table
  by_begun a e = ap (λ (b : Answer). b then rest) e

  pub by_words : Done ≡ begun → (a : Answer) → a ≡ admitted d sized table → (a then test_named r table) ≡ admitted_by d sized r table
  by_words e a w = ap (λ (b : Answer). b then test_named r table) (w ∙ after-head e) ∙ by_begun Done e

  -- what is known of a call that has passed them
  pub record AdmittedBy : Type 0 where
    pub lengths : sized ≡ true
    pub head : head_right d r ≡ true
    pub taken : TableTaken d table
    pub named : names_table r table ≡ true

  pub table-admitted : admitted_by d sized r table ≡ Done → Done ≡ admitted d sized table
  table-admitted e =
      let (b, w) = then_done begun rest e in
      sym (after-head (sym b) ∙ (then_done (words_tested d (words_of table)) (test_named r table) w).0)

  pub admission_by : admitted_by d sized r table ≡ Done → AdmittedBy
  admission_by e =
      let (b, w) = then_done begun rest e in
      let k = admission d sized table (sym (table-admitted e)) in
      record {
        lengths = k.lengths;
        head = (headed_by d both r b).head;
        taken = k.taken;
        named = named-passed r table (then_done (words_tested d (words_of table)) (test_named r table) w).1;
      }

  pub admits_by : AdmittedBy → Done ≡ admitted_by d sized r table
  admits_by k =
      let e : Done ≡ begun = by_head d both r k.taken.deep (yes_and k.lengths k.taken.length-fits) k.head in
      named_table r table k.named ∙ by_words e Done (admits d sized table k.taken k.lengths)

  -- its words and its index are in the call's buffers
  pub ready_by : Done ≡ admitted_by d sized r table → (w lentw s lents : List ℕ) → Room d lentw lents → w ≡ left begun (words_left d sized table lentw) lentw
      → s ≡ left begun (starts_left d sized table lents) lents → Ready d sized table w s lents
  ready_by e w lentw s lents room ew es =
      let b = (then_done begun rest (sym e)).0 in
      ready d sized table (table-admitted (sym e)) w lentw s lents room
      (ew ∙ ap (λ (a : Answer). left a (words_left d sized table lentw) lentw) b) (es ∙ ap (λ (a : Answer). left a (starts_left d sized table lents) lents) b)

  pub small_admitted_by : Small (admitted_by d sized r table)
  unfolding test_named
  small_admitted_by =
      small_then begun rest (small_headed d both r)
      (λ e.
      small_then (words_tested d (words_of table)) (test_named r table) (subst Small (after-head (sym e)) (small_admitted d sized table))
      (λ w. pick_ind Small (names_table r table) (λ h. small_plain refl) (λ h. small_plain refl)))

-- a test of lengths that looks at the depth too
pub admitted_by-sized : (d : ℕ) (s w : Bool) (r table : List ℕ) → s ≡ (depth_fits d && w) → admitted_by d s r table ≡ admitted_by d w r table
admitted_by-sized d s w r table e =
    by_test (depth_fits d) (λ f. ap (λ (x : Bool). admitted_by d x r table) (e ∙ ap (λ (b : Bool). b && w) f))
    (λ f.
    ap (λ (a : Answer). (a then test_head d r) then words_tested d (words_of table) then test_named r table)
    (sym (no_depth d (s && length_fits (length table)) f) ∙ no_depth d (w && length_fits (length table)) f))

-- the answer at depth 0
pub none-admitted_by : (sized : Bool) (r table : List ℕ) → Stopped Depth ≡ admitted_by 0 sized r table
none-admitted_by sized r table =
    ap (λ (a : Answer). (a then test_head 0 r) then words_tested 0 (words_of table) then test_named r table)
    (no_depth 0 (sized && length_fits (length table)) (sym (depth_low 0 (omega arith))))
