-- The admission of a table: what it answers, and what is known where it is admitted.
use mathlib.Core.Path.{◌≡◌, refl, sym, ap, ap₂, ◌∙◌, subst}
use mathlib.Core.Bool.{Bool, true, false, ◌&&◌}
use mathlib.Core.List.{List}
use Rattle.std.specs.Prelude.{Ok, Err}
use Prim.Native.Nat.{ℕ, ◌+◌, ◌-◌, ◌*◌, ◌/◌, ◌≤◌, ◌<◌, ◌^◌}
use native.Mathlib.Decide.{dec_lt}
use native.Mathlib.Omega.{arith}
use lib.ListN.{length, take, drop, replicate, length-take, length-drop, length-append, length-replicate}
use lib.Seq.{take_all, take_at}
use lib.Dec.{eqb, ltb}
use lib.Pow.{pow_mono}
use borrow.Author.Tests.{eqb-true, ltb-true}
use Rattle.octets.proofs.Choice.{by_test, and_yes, yes_and}
use Rattle.parity_table.specs.Shape.{max_depth, depth_fits, is_deep, k_of, shallow}
use Rattle.parity_table.specs.declared.TableError.TheVariants as error
use Rattle.table_bytes.specs.Bytes.{words_of, front_words, length_fits}
use Rattle.parity_table.specs.Parse.{Indexed, index_of, over, table_of, equations_above}
use Rattle.parity_table.specs.Longest.{longest}
use Rattle.parity_table.specs.Reader.{Answer as Read, Whole, Wrong, read_of}
use Rattle.table_bytes.proofs.ByteForm.{words-front, words_of-length, quarter_most}
use Rattle.parity_table.proofs.Accepts.{accepted-depth, accepted-table, index-length, refused-wrong}
use Rattle.parity_table.proofs.Front.{accepted-short, read-front}
use Rattle.parity_table.proofs.Longest.{longest-room}
use Rattle.parity_table.proofs.Shape.{depth_is, depth_low, k_small, not_deep}
use Rattle.coverage.specs.Coverage.{Coverage, Covered, UncoveredAt, coverage_of}
use Rattle.coverage.proofs.Right.{found-low}
use Rattle.model.specs.Shape.{tree}
use Rattle.model.proofs.Tables.{TableLaws, table_laws}
use Rattle.calls.specs.declared.Stop.TheVariants.{Depth, Length, Table, Mark, Number, Head, Hash, NoFault, Absent, Uncovered, Record, OtherTable, NotWhole}
use Rattle.calls.specs.Stops.{Answer, Done, Stopped, Small, number_of}
use Rattle.calls.specs.Tests.{◌then◌, left, read_answer, cover_answer, opened, words_tested, admitted, words_left, starts_left}
use Rattle.calls.specs.Room.{Room, WordsRoom, stops_at_depth}
use Rattle.calls.proofs.TestLaws.{stopped_not, then_done, opened_by, no_depth, opens, small_plain, small_then, small_opened}

pub read_whole : (r : Read) → read_answer r ≡ Done → r ≡ Whole
read_whole (Ok _) e = refl
read_whole (Err x) e = absurd (stopped_not _ e)

cover_done : (c : Coverage) → cover_answer c ≡ Done → c ≡ Covered
cover_done (Ok _) e = refl
cover_done (Err u) e = absurd (stopped_not _ e)

-- a table that calls take at this depth
pub record TableTaken (d : ℕ) (table : List ℕ) : Type 0 where
  pub deep : depth_fits d ≡ true
  pub length-fits : length_fits (length table) ≡ true
  pub accepted : read_of d (words_of table) ≡ Whole
  pub covered : coverage_of d (table_of (words_of table)) ≡ Covered

module _ (d : ℕ) (sized : Bool) (table : List ℕ) where
  abbrev long : Bool
  long = length_fits (length table)

  abbrev begun : Answer
  begun = opened d (sized && long)

  -- ---- the answer, and the call's own buffer for words

  -- what tests 1 and 2 come to decides the answer, and what the buffer holds
  pub by_begun : (a : Answer) → a ≡ begun → (w : List ℕ)
      → ((a then words_tested d (words_of table)) ≡ admitted d sized table)
      × (left a (over (front_words table (length w)) w) w ≡ words_left d sized table w)
  by_begun a e w = (
    ap (λ (b : Answer). b then words_tested d (words_of table)) e,
    ap (λ (b : Answer). left b (over (front_words table (length w)) w) w) e,
  )

  -- the buffer for the index, by the answer
  pub starts_by : (a : Answer) → a ≡ admitted d sized table → (s : List ℕ) → left a (over (index_of (words_of table)) s) s ≡ starts_left d sized table s
  starts_by a e s = ap (λ (b : Answer). left b (over (index_of (words_of table)) s) s) e

  -- ---- an admitted table

  pub record Admitted : Type 0 where
    pub lengths : sized ≡ true
    pub taken : TableTaken d table

  pub admission : admitted d sized table ≡ Done → Admitted
  admission e =
      let (o, t) = then_done begun (words_tested d (words_of table)) e in
      let (r, c) = then_done (read_answer (read_of d (words_of table))) (cover_answer (coverage_of d (table_of (words_of table)))) t in
      let k = opened_by d (sized && long) o in
      let (s, l) = and_yes sized long k.lengths in
      record {
        lengths = s;
        taken = record {
          deep = k.deep;
          length-fits = l;
          accepted = read_whole (read_of d (words_of table)) r;
          covered = cover_done (coverage_of d (table_of (words_of table))) c;
        };
      }

  -- its words stand in front of the call's buffer
  module _ (e : Done ≡ admitted d sized table) (w lent : List ℕ) (room : WordsRoom d lent) (ew : w ≡ words_left d sized table lent) where
    -- all of them have room
    words_fit : length table / 4 ≤ length lent
    words_fit =
        let k = (admission (sym e)).taken in
        omega (arith, room k.deep, accepted-short d (words_of table) k.accepted, words_of-length table)

    words_are : w ≡ over (words_of table) lent
    words_are =
        ew
        ∙ ap (λ (a : Answer). left a (over (front_words table (length lent)) lent) lent) (then_done begun (words_tested d (words_of table)) (sym e)).0
        ∙ ap (λ (l : List ℕ). over l lent) (take_all (length lent) (words_of table) (omega (arith, words_fit, words_of-length table)))

    pub words_there : take (length table / 4) w ≡ words_of table
    words_there = ap (λ (n : ℕ). take n w) (sym (words_of-length table)) ∙ words-front (words_of table) lent w words_are

    pub words_count : length table / 4 ≡ length (take (length table / 4) w)
    words_count = sym (ap length words_there ∙ words_of-length table)

    pub words-room : length table / 4 ≤ length w
    words-room = omega (arith, words_count, length-take (length table / 4) w)

    -- and their index has room in a buffer with an entry for each equation
    pub starts-room : (n : ℕ) → (depth_fits d ≡ true → equations_above d ≤ n) → length (index_of (take (length table / 4) w)) ≤ n
    starts-room n h =
        let k = (admission (sym e)).taken in
        subst (λ (l : List ℕ). length (index_of l) ≤ n) (sym words_there) (omega (arith, h k.deep, index-length d (words_of table) k.accepted))

  -- its words and its index are in the call's buffers
  pub record Ready (w s lents : List ℕ) : Type 0 where
    pub admits : Admitted
    pub words_there : take (length table / 4) w ≡ words_of table
    pub indexed : Indexed d (take (length table / 4) w) s
    pub words_count : length table / 4 ≡ length (take (length table / 4) w)
    pub words-room : length table / 4 ≤ length w
    -- the index's buffer keeps its length
    pub starts-count : length lents ≡ length s

  pub ready : Done ≡ admitted d sized table → (w lentw s lents : List ℕ) → Room d lentw lents → w ≡ words_left d sized table lentw
      → s ≡ starts_left d sized table lents → Ready w s lents
  ready e w lentw s lents h ew es =
      let ix = index_of (words_of table) in
      let k = (admission (sym e)).taken in
      let front = words_there e w lentw h.words-room ew in
      let is : s ≡ over ix lents = es ∙ sym (starts_by Done e lents) in
      let room : length ix ≤ length lents = omega (arith, h.starts-room k.deep, index-length d (words_of table) k.accepted) in
      record {
        admits = admission (sym e);
        words_there = front;
        indexed = subst (λ q. Indexed d q s) (sym front)
            (record {
              accepted = k.accepted;
              index = ap (take (length ix)) is ∙ take_at ix (drop (length ix) lents) (length ix) refl;
            });
        words_count = words_count e w lentw h.words-room ew;
        words-room = words-room e w lentw h.words-room ew;
        starts-count = sym (ap length is ∙ length-append ix (drop (length ix) lents) ∙ omega (arith, room, length-drop (length ix) lents));
      }

-- ---- the call's arrays

-- what comes after a table that breaks a rule is not asked
never_whole : (r : Read) (a b : Answer) → (r ≡ Whole → ⊥) → (read_answer r then a) ≡ (read_answer r then b)
never_whole (Ok _) a b n = absurd (n refl)
never_whole (Err x) a b n = refl

-- a list is tested by its front, where that has more words than the longest table
pub tested_front : (d w : ℕ) (ws : List ℕ) → longest d < w → words_tested d (take w ws) ≡ words_tested d ws
tested_front d w ws h =
    elim (dec_lt w (length ws)) [
      | yes l ↦
          ap (λ (r : Read). read_answer r then cover_answer (coverage_of d (table_of (take w ws)))) (read-front d w ws h)
          ∙ never_whole (read_of d ws) _ _ (λ r. omega (arith, accepted-short d ws r))
      | no l ↦ ap (words_tested d) (take_all w ws (omega arith))
    ]

-- the first words in a buffer, the front of a table's
pub front_there : (table lent v : List ℕ) (n : ℕ) → n ≡ length (front_words table (length lent)) → v ≡ over (front_words table (length lent)) lent
    → take n v ≡ front_words table (length lent)
front_there table lent v n e h = ap (λ (m : ℕ). take m v) e ∙ words-front (front_words table (length lent)) lent v h

-- arrays of these lengths, by depth b, serve every depth up to b
abbrev pub words_for : ℕ → ℕ
words_for b = 9 * (3 * (4 * 2 ^ b - 4)) + b + 1

abbrev pub starts_for : ℕ → ℕ
starts_for b = 3 * (4 * 2 ^ b - 4)

words_up_to : (d b : ℕ) → 1 ≤ d → d ≤ b → longest d < words_for b
unfolding equations_above k_of
words_up_to d b h g = longest-room d b (words_for b) h g (omega arith)

starts_up_to : (d b : ℕ) → d ≤ b → equations_above d ≤ starts_for b
unfolding equations_above k_of
starts_up_to d b g = omega (arith, pow_mono {i = d} {j = b} g)

module _ (d b : ℕ) (up_to_lem : depth_fits d ≡ true → d ≤ b) where
  pub words_for_lem : WordsRoom d (replicate (words_for b) 0)
  words_for_lem f = omega (arith, words_up_to d b (depth_is d f).0 (up_to_lem f), length-replicate {A = ℕ} (words_for b) 0)

  pub room_for : Room d (replicate (words_for b) 0) (replicate (starts_for b) 0)
  room_for =
      record {
        words-room = words_for_lem;
        starts-room = λ f. omega (arith, starts_up_to d b (up_to_lem f), length-replicate {A = ℕ} (starts_for b) 0);
      }

-- a call of a depth that fits, and one that needs no large arrays
pub deep_up_to : (d : ℕ) → depth_fits d ≡ true → d ≤ max_depth
deep_up_to d f = (depth_is d f).1

pub shallow_up_to : (d : ℕ) {r : Bool} → r ≡ is_deep d → r ≡ false → depth_fits d ≡ true → d ≤ shallow
shallow_up_to d e n f = not_deep d (sym e ∙ n) f

-- what is admitted
pub admits : (d : ℕ) (sized : Bool) (table : List ℕ) → TableTaken d table → sized ≡ true → Done ≡ admitted d sized table
admits d sized table k q =
    ap₂ (λ (a b : Answer). a then b) (opens d (sized && length_fits (length table)) k.deep (yes_and q k.length-fits))
    (ap₂ (λ (r : Read) (x : Coverage). read_answer r then cover_answer x) (sym k.accepted) (sym k.covered))

-- a test of lengths that looks at the depth too
pub admitted-sized : (d : ℕ) (s w : Bool) (table : List ℕ) → s ≡ (depth_fits d && w) → admitted d s table ≡ admitted d w table
admitted-sized d s w table e =
    by_test (depth_fits d) (λ f. ap (λ (x : Bool). admitted d x table) (e ∙ ap (λ (b : Bool). b && w) f))
    (λ f.
    ap (λ (a : Answer). a then words_tested d (words_of table))
    (sym (no_depth d (s && length_fits (length table)) f) ∙ no_depth d (w && length_fits (length table)) f))

-- ---- laws of an accepted table, and values

-- the laws that it satisfies
pub table_laws_of : (d : ℕ) (table : List ℕ) → read_of d (words_of table) ≡ Whole → TableLaws tree (table_of (words_of table))
table_laws_of d table r =
    let (some, shallow) = accepted-depth d (words_of table) r in
    table_laws d (table_of (words_of table)) some shallow (accepted-table d (words_of table) r)

pub small_read : (r : Read) → ((i : ℕ) → r ≡ Wrong i → i < 2 ^ 24) → Small (read_answer r)
small_read (Ok _) w = small_plain refl
small_read (Err error.Depth) w = small_plain refl
small_read (Err error.Length) w = small_plain refl
small_read (Err (error.Wrong i)) w = record { first = w i refl; second = omega arith }

-- a layer and a data symbol of a table of a depth that fits are low numbers
small_cover : (d : ℕ) → d ≤ max_depth → (c : Coverage) → ((j i : ℕ) → c ≡ UncoveredAt j i → (j < d) × (i ≤ k_of j)) → Small (cover_answer c)
small_cover d h (Ok _) w = small_plain refl
small_cover d h (Err u) w =
    let (l, s) = w u.layer u.symbol refl in record { first = omega arith; second = omega (arith, k_small u.layer (omega arith)) }

pub small_words : (d : ℕ) (ws : List ℕ) → length ws < 2 ^ 24 → Small (words_tested d ws)
small_words d ws h =
    small_then (read_answer (read_of d ws)) (cover_answer (coverage_of d (table_of ws)))
    (small_read (read_of d ws) (λ i e. omega (arith, (refused-wrong d ws i e).1.within)))
    (λ e. small_cover d (accepted-depth d ws (read_whole (read_of d ws) e)).1 (coverage_of d (table_of ws)) (found-low d (table_of ws)))

pub small_table : (d : ℕ) (sized : Bool) (table : List ℕ) → opened d (sized && length_fits (length table)) ≡ Done → Small (words_tested d (words_of table))
small_table d sized table o =
    let k = opened_by d (sized && length_fits (length table)) o in
    let l = (and_yes sized (length_fits (length table)) k.lengths).1 in
    small_words d (words_of table) (omega (arith, words_of-length table, quarter_most (length table) l))

pub small_admitted : (d : ℕ) (sized : Bool) (table : List ℕ) → Small (admitted d sized table)
small_admitted d sized table =
    small_then (opened d (sized && length_fits (length table))) (words_tested d (words_of table)) (small_opened d (sized && length_fits (length table)))
    (small_table d sized table)

-- ---- answer 1

pub depth_stop : (a : Answer) → number_of a ≡ 1 → a ≡ Stopped Depth
depth_stop (Ok tt) e = absurd (omega arith)
depth_stop (Err Depth) e = refl
depth_stop (Err Length) e = absurd (omega arith)
depth_stop (Err (Table i)) e = absurd (omega arith)
depth_stop (Err (Mark p)) e = absurd (omega arith)
depth_stop (Err Number) e = absurd (omega arith)
depth_stop (Err Head) e = absurd (omega arith)
depth_stop (Err (Hash l p)) e = absurd (omega arith)
depth_stop (Err NoFault) e = absurd (omega arith)
depth_stop (Err (Absent x)) e = absurd (omega arith)
depth_stop (Err (Uncovered j i)) e = absurd (omega arith)
depth_stop (Err Record) e = absurd (omega arith)
depth_stop (Err OtherTable) e = absurd (omega arith)
depth_stop (Err NotWhole) e = absurd (omega arith)

pub at_depth : (d : ℕ) (a : Answer) → stops_at_depth d a ≡ true → (0 < d) × (a ≡ Stopped Depth)
unfolding stops_at_depth
at_depth d a t = let (e, h) = and_yes (eqb (number_of a) 1) (ltb 0 d) t in (ltb-true 0 d h, depth_stop a (eqb-true (number_of a) 1 e))

-- the answer at depth 0
pub none-admitted : (sized : Bool) (table : List ℕ) → Stopped Depth ≡ admitted 0 sized table
none-admitted sized table = ap (λ (a : Answer). a then words_tested 0 (words_of table)) (no_depth 0 (sized && length_fits (length table)) (sym (depth_low 0 (omega arith))))
