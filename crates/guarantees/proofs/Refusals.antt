-- Every call answers as its tests say: with which number and values, and just when.
use Rattle.std.specs.Prelude.{Ok, Err, Result}
use Rattle.parity_table.specs.declared.TableError.TheVariants as table_error
use mathlib.Core.Path.{◌≡◌, refl, sym, ap, ap₂, ◌∙◌, subst}
use mathlib.Core.Logic.{◌≢◌}
use mathlib.Core.Bool.{Bool, true, false, not, ◌&&◌, true≢false}
use mathlib.Core.List.{List}
use Prim.Native.Nat.{ℕ, zero, suc, ◌+◌, ◌-◌, ◌*◌, ◌%◌, ◌^◌, ◌≤◌, ◌<◌}
use native.Mathlib.Omega.{arith}
use native.Mathlib.Decide.{dec_lt}
use lib.ListN.{length, get_or, replicate, length-replicate}
use lib.Dec.{leb, ltb, eqb}
use borrow.Author.Tests.{ltb-true, ltb-false, leb-true, eqb-true, eqb-false, lt-ltb, le-leb, eq-eqb, ne_eqb}
use Rattle.octets.specs.Choice.{pick}
use Rattle.octets.proofs.Choice.{by_test, pick_ind, and_yes, yes_and, both, not_yes}
use Rattle.sha256.specs.Call.{longest, fits, answer}
use Rattle.sha256.specs.declared.WrongLength.{WrongLength}
use Rattle.parity_table.specs.Shape.{depth_fits, k_of, n_of}
use Rattle.parity_table.specs.Reader.{Answer as Read}
use Rattle.parity_table.specs.Reader as read
use Rattle.parity_table.specs.Right.{Right}
use Rattle.parity_table.specs.Reader.{read_of}
use Rattle.table_bytes.specs.Bytes.{length_fits, words_of}
use Rattle.parity_table.specs.Table.{TableOk}
use Rattle.parity_table.specs.Parse.{table_of}
use Rattle.parity_table.proofs.Parse.{formed-rules}
use Rattle.coverage.specs.Coverage.{Coverage, Covered, UncoveredAt, coverage_of, Right as Covers}
use Rattle.coverage.proofs.Right.{coverage_right, covered_found, not_covered, first_unique as thin-unique}
use Rattle.house_table.specs.House.{house_words, house_answer}
use Rattle.parity_table.proofs.Shape.{depth_is}
use Rattle.parity_table.proofs.Accepts.{read_right, read-depth, first_unique, formed-accepted}
use Rattle.house_table.proofs.HouseRules.{house-count}
use Rattle.model.specs.Shape.{tree, place, places}
use Rattle.model.specs.Symbols.{lowest, symbol_in}
use Rattle.model.specs.Climb.{Climb, leads, breaks}
use Rattle.model.specs.Repair.{absent_at}
use Rattle.model.specs.Sampling.{sample_size, sample_layer, data_no, parity_no, sample_number}
use Rattle.model.specs.SampleCheck.{sample_data, sample_parity, sample_has, sample_check, SampleLeads}
use Rattle.model.proofs.Counts.{lowest-is}
use Rattle.model.proofs.Shapes.{place_lt}
use Rattle.model.proofs.Samples.{Fit, all_fit, BrokenSample, sample-breaks}
use Rattle.symbol_hash.specs.SymbolHash.{symbol_hash}
use Rattle.symbol_hash.specs.declared.Kind.{Kind}
use Rattle.std.specs.Prelude.{Some, None}
use Rattle.sampling.specs.Absent.{absent, first_absent}
use Rattle.sampling.specs.Lent.{BaseSymbol}
use Rattle.sampling.proofs.SymbolLaws.{sample-place_lt}
use Rattle.root_record.specs.Records.{kind_in, root_in, head_right, names_table}
use Rattle.calls.specs.declared.Stop.{Stop}
use Rattle.calls.specs.declared.Stop.TheVariants.{Depth, Length, Table, Mark, Number, Head, Hash, NoFault, Absent, Uncovered, Record, OtherTable, NotWhole}
use Rattle.calls.specs.Stops.{Answer}
use Rattle.calls.specs.Stops.{Done, Stopped}
use Rattle.calls.specs.Stops.{number_of, values_of}
use Rattle.calls.specs.Marks.{is_bad}
use Rattle.calls.specs.Lengths.{tree_sized, block_fits, block_sized, record_sized, sample_sized}
use Rattle.calls.specs.Tests.{◌then◌, test_depth, test_lengths, test_head, read_answer, cover_answer, test_named, test_marks, test_number, opened, headed, words_tested, admitted, admitted_by}
use Rattle.volume_calls.specs.Reading.{read_sized, test_base, block_read}
use Rattle.volume_calls.specs.Writing.{write_sized, tree_written, test_kind, tree_written_by}
use Rattle.sample_calls.specs.Checking.{check_sized, led, sample_checked}
use Rattle.sample_calls.specs.Taking.{take_sized, needed, sample_taken}
use Rattle.fault_calls.specs.Repairing.{repair_sized, repair_tested, repaired}
use Rattle.recoding.specs.Recoding.{recode_sized, nothing_to_do, called_whole, test_whole, recoded}
use Rattle.calls.proofs.TestLaws.{then_done, marks-right}
use Rattle.calls.proofs.AdmissionLaws.{TableTaken}
use Rattle.calls.proofs.RecordLaws.{AdmittedBy, admission_by, admits_by}
use Rattle.volume_calls.proofs.WritingLaws.{answer-is as written-answer}
use Rattle.volume_calls.proofs.ReadingLaws.{answer-is as block-answer}
use Rattle.sample_calls.proofs.CheckingLaws.{sizes as check-sizes}
use Rattle.sample_calls.proofs.TakingLaws.{answer-is as sample-answer}
use Rattle.cedunmi_c.specs.Result.{hash_answer}
use Rattle.guarantees.specs.Layouts.{bytes_from, symbol_no, data_symbols, tree_symbols, mark_at, hash_for, sampled_layer, sampled_number, kind_no, root_part}
use Rattle.guarantees.specs.Trees.{Hasher, hash_by}
use Rattle.guarantees.specs.Tables.{TableRight, FirstWrongWord, AllInTwo, FirstNotInTwo}
use Rattle.guarantees.specs.Answers.{done, test, unless, one, two, Just}
use Rattle.guarantees.specs.Terms.{equations_of}
use Rattle.guarantees.specs.Refusals.{LowestOf, DepthRight, TableLength, TreeLengths, BlockLength, RecordLength, SampleLength, KindRight, HeadRight, NamesTable, BadMark, AbsentSampled, InBase, data_of_sample, AllHashesLead, SampleFits, SampleBreaks, hash_tests, takes_words, takes_table, takes_named, words_tests, table_tests, house_tests, WriterLengths, writer_tests, numbered_tests, block_tests, sampler_tests, sample_tests, RepairLengths, repair_tests, OutputLength, CalledWhole, RecodeLengths, recode_tests, Refusals}
use Rattle.guarantees.proofs.Answers.{all_done, stops_unless, stops_one, stops_two, passes-unless, passes-one, passes-two}
use Rattle.guarantees.proofs.Layouts.{tree-symbols, mark_at_lem, hash_for_lem}
use Rattle.guarantees.proofs.Marks.{all_right, none_bad}
use Rattle.guarantees.proofs.Whole.{result_whole, lent_called, called_lent}
use Rattle.guarantees.proofs.Trees.{hash_in_lem}
use Rattle.guarantees.proofs.Records.{either, at_most, head-right, right-head, names_table_lem, table-named}
use Rattle.guarantees.proofs.Tables.{first-wrong, wrong_first, right-formed, formed-right, covered_all, all_covered, first_not, not_first}

-- ---- depth and table

pub depth-right : (d : ℕ) → depth_fits d ≡ true → DepthRight d
depth-right d f = let (p, q) = depth_is d f in (p, omega arith)

pub depth-fits : (d : ℕ) → DepthRight d → depth_fits d ≡ true
unfolding depth_fits
depth-fits d r = yes_and (le-leb 1 d r.0) (le-leb d 9 r.1)

pub depth-wrong : (d : ℕ) → depth_fits d ≡ false → DepthRight d → ⊥
depth-wrong d f r = true≢false (sym (depth-fits d r) ∙ f)

-- ---- one test after another

pub then_assoc : (a b c : Answer) → ((a then b) then c) ≡ (a then b then c)
then_assoc (Ok tt) b c = refl
then_assoc (Err s) b c = refl

then_none : (a : Answer) → (a then Done) ≡ a
then_none (Ok tt) = refl
then_none (Err s) = refl

-- a test without a value, by a test that says whether it is right
by_right : (k : ℕ) {later : ℕ → ℕ × ℕ → Type 0} (R : Type 0) (b : Bool) (w : Stop) (a : Answer) → number_of (Stopped w) ≡ k → values_of (Stopped w) ≡ (0, 0)
    → (b ≡ true → R) → (R → b ≡ true) → (R → Just a later) → Just (pick b Done (Stopped w) then a) (test k (unless R) later)
by_right k {later} R b w a p q said seen j =
    pick_ind (λ (z : Answer). Just (z then a) (test k (unless R) later)) b (λ t. passes-unless (said t) (j (said t)))
    (λ t. rw (p, q) (stops_unless (λ r. true≢false (sym (seen r) ∙ t))))

-- tests 1 and 2, R being what the lengths are to be
pub by_opened : (d : ℕ) {later : ℕ → ℕ × ℕ → Type 0} (R : Type 0) (sized : Bool) (a : Answer) → (sized ≡ true → R) → (R → sized ≡ true)
    → (depth_fits d ≡ true → R → Just a later) → Just (opened d sized then a) (test 1 (unless (DepthRight d)) (test 2 (unless R) later))
unfolding test_depth test_lengths
by_opened d {later} R sized a said seen j =
    subst (λ (z : Answer). Just z (test 1 (unless (DepthRight d)) (test 2 (unless R) later))) (sym (then_assoc (test_depth d) (test_lengths sized) a))
    (by_right 1 (DepthRight d) (depth_fits d) Depth (test_lengths sized then a) refl refl (depth-right d) (depth-fits d)
    (λ r. by_right 2 R sized Length a refl refl said seen (j (depth-fits d r))))

-- test 11, and tests 1, 2 and 11
by_head : (d : ℕ) (r : List ℕ) {later : ℕ → ℕ × ℕ → Type 0} (a : Answer) → (HeadRight d r → Just a later)
    → Just (test_head d r then a) (test 11 (unless (HeadRight d r)) later)
unfolding test_head
by_head d r a j = by_right 11 (HeadRight d r) (head_right d r) Record a refl refl (head-right d r) (right-head d r) j

by_headed : (d : ℕ) (r : List ℕ) {later : ℕ → ℕ × ℕ → Type 0} (R : Type 0) (sized : Bool) (a : Answer) → (sized ≡ true → R) → (R → sized ≡ true)
    → (depth_fits d ≡ true → R → HeadRight d r → Just a later)
    → Just (headed d sized r then a) (test 1 (unless (DepthRight d)) (test 2 (unless R) (test 11 (unless (HeadRight d r)) later)))
by_headed d r {later} R sized a said seen j =
    subst (λ (z : Answer). Just z (test 1 (unless (DepthRight d)) (test 2 (unless R) (test 11 (unless (HeadRight d r)) later))))
    (sym (then_assoc (opened d sized) (test_head d r) a))
    (by_opened d R sized (test_head d r then a) said seen (λ f k. by_head d r a (j f k)))

-- the words of a table, at a depth that fits
module _ (d : ℕ) (f : depth_fits d ≡ true) where
  pub words-cases : (P : Read → Type 0) (ws : List ℕ) → ((i : ℕ) → FirstWrongWord d ws i → P (read.Wrong i)) → (TableRight d ws → P read.Whole) → P (read_of d ws)
  words-cases P ws wrong whole = go (read_of d ws) (read_right d ws)
    where
      go : (r : Read) → Right d ws r → P r
      go (Err table_error.Depth) x = absurd (both f x)
      go (Err table_error.Length) x = absurd x
      go (Err (table_error.Wrong i)) x = wrong i (first-wrong d ws i x.1)
      go (Ok tt) x = whole (formed-right d ws x.1)

-- the coverage of one that keeps the rules
pub cover_cases : (d : ℕ) (tbl : List (List (List ℕ))) (P : Coverage → Type 0) → TableOk d tbl → ((j i : ℕ) → FirstNotInTwo d tbl j i → P (UncoveredAt j i))
    → (AllInTwo d tbl → P Covered) → P (coverage_of d tbl)
cover_cases d tbl P o thin all = go (coverage_of d tbl) (coverage_right d tbl o)
  where
    go : (c : Coverage) → Covers d tbl c → P c
    go (Ok tt) x = all (covered_all d tbl x)
    go (Err u) x = thin u.layer u.symbol (first_not d tbl u.layer u.symbol x)

-- tests 3 and 10, of words at a depth that fits
module _ (d : ℕ) (ws : List ℕ) {later : ℕ → ℕ × ℕ → Type 0} where
  by_coverage : TableOk d (table_of ws) → (a : Answer) → (AllInTwo d (table_of ws) → Just a later)
      → Just (cover_answer (coverage_of d (table_of ws)) then a) (test 10 (two (FirstNotInTwo d (table_of ws))) later)
  by_coverage o a j =
      let tbl : List (List (List ℕ)) = table_of ws in
      cover_cases d tbl (λ c. Just (cover_answer c then a) (test 10 (two (FirstNotInTwo d tbl)) later)) o
      (λ l i x. stops_two l i x (λ m n y. let (p, q) = thin-unique d tbl m n l i (not_first d tbl m n y) (not_first d tbl l i x) in (p, q)))
      (λ c. passes-two (λ l i x. not_covered d tbl l i (not_first d tbl l i x) (all_covered d tbl c)) (j c))

  pub by_words : depth_fits d ≡ true → (a : Answer) → (TableRight d ws → AllInTwo d (table_of ws) → Just a later)
      → Just (words_tested d ws then a) (takes_words d ws later)
  by_words f a j =
      let c : Answer = cover_answer (coverage_of d (table_of ws)) in
      subst (λ (z : Answer). Just z (takes_words d ws later)) (sym (then_assoc (read_answer (read_of d ws)) c a))
      (words-cases d f (λ r. Just (read_answer r then (c then a)) (takes_words d ws later)) ws
      (λ i w. stops_one i w (λ v x. first_unique d ws v i (wrong_first d ws v x) (wrong_first d ws i w)))
      (λ w.
      passes-one (λ v x. x.not_right w)
      (by_coverage (formed-rules d ws (right-formed d ws w) (depth_is d f).1) a (j w))))

-- ---- a call that is lent a table: tests 1, 2, 3 and 10

module _ (table : List ℕ) where
  pub table_long : length_fits (length table) ≡ true → TableLength table
  unfolding length_fits
  table_long l =
      let (p, q) = and_yes (leb (length table) 220792) (eqb (length table % 4) 0) l in
      record { not_over = leb-true (length table) 220792 p; in_words = eqb-true (length table % 4) 0 q }

  pub long_table : TableLength table → length_fits (length table) ≡ true
  unfolding length_fits
  long_table r = yes_and (le-leb (length table) 220792 r.not_over) (eq-eqb (length table % 4) 0 r.in_words)

-- R being what the lengths are to be, the table's among them
pub by_admitted : (d : ℕ) {later : ℕ → ℕ × ℕ → Type 0} (R : Type 0) (sized : Bool) (table : List ℕ) (a : Answer)
    → (sized ≡ true → TableLength table → R) → (R → (sized ≡ true) × TableLength table)
    → (depth_fits d ≡ true → R → TableRight d (words_of table) → AllInTwo d (equations_of table) → Just a later)
    → Just (admitted d sized table then a) (test 1 (unless (DepthRight d)) (test 2 (unless R) (takes_table d table later)))
by_admitted d {later} R sized table a said seen j =
    let tests : Answer = words_tested d (words_of table) in
    subst (λ (z : Answer). Just z (test 1 (unless (DepthRight d)) (test 2 (unless R) (takes_table d table later))))
    (sym (then_assoc (opened d (sized && length_fits (length table))) tests a))
    (by_opened d R (sized && length_fits (length table)) (tests then a)
    (λ l. let (p, q) = and_yes sized (length_fits (length table)) l in said p (table_long table q))
    (λ r. let (p, q) = seen r in yes_and p (long_table table q))
    (λ f r. by_words d (words_of table) f a (j f r)))

-- test 12
by_named : (r table : List ℕ) {later : ℕ → ℕ × ℕ → Type 0} (a : Answer) → (NamesTable r table → Just a later)
    → Just (test_named r table then a) (test 12 (unless (NamesTable r table)) later)
unfolding test_named
by_named r table a j = by_right 12 (NamesTable r table) (names_table r table) OtherTable a refl refl (names_table_lem r table) (table-named r table) j

-- .. of a call that is lent a table and a record: tests 1, 2, 11, 3, 10 and 12
pub by_admitted_by : (d : ℕ) {later : ℕ → ℕ × ℕ → Type 0} (R : Type 0) (sized : Bool) (r table : List ℕ) (a : Answer)
    → (sized ≡ true → TableLength table → R) → (R → (sized ≡ true) × TableLength table)
    → (depth_fits d ≡ true → R → HeadRight d r → TableRight d (words_of table) → AllInTwo d (equations_of table) → NamesTable r table → Just a later)
    → Just (admitted_by d sized r table then a) (test 1 (unless (DepthRight d)) (test 2 (unless R) (takes_named d r table later)))
by_admitted_by d {later} R sized r table a said seen j =
    let long : Bool = length_fits (length table) in
    let tests : Answer = words_tested d (words_of table) in
    let named : Answer = test_named r table in
    subst (λ (z : Answer). Just z (test 1 (unless (DepthRight d)) (test 2 (unless R) (takes_named d r table later))))
    (sym (then_assoc (headed d (sized && long) r) (tests then named) a ∙ ap (λ (z : Answer). headed d (sized && long) r then z) (then_assoc tests named a)))
    (by_headed d r R (sized && long) (tests then (named then a))
    (λ l. let (p, q) = and_yes sized long l in said p (table_long table q))
    (λ k. let (p, q) = seen k in yes_and p (long_table table q))
    (λ f k h. by_words d (words_of table) f (named then a) (λ w c. by_named r table a (j f k h w c))))

-- ---- the lowest number that a search finds

one-lowest : (P : ℕ → Type 0) (n v w : ℕ) → LowestOf P n v → LowestOf P n w → v ≡ w
one-lowest P n v w x y =
    elim (dec_lt v w) [
      | yes h ↦ absurd (y.none-lower v h x.holds)
      | no h ↦ elim (dec_lt w v) [
        | yes k ↦ absurd (x.none-lower w k y.holds)
        | no k ↦ omega arith
      ]
    ]

-- a search by a test that says what P says
module _ (p : ℕ → Bool) (P : ℕ → Type 0) (n : ℕ) (said : (q : ℕ) → q < n → p q ≡ true → P q) (seen : (q : ℕ) → q < n → P q → p q ≡ true) where
  pub found : lowest p 0 n < n → LowestOf P n (lowest p 0 n)
  found h =
      let low = lowest-is p 0 n in
      record {
        below = h;
        holds = said (lowest p 0 n) h (low.found (omega arith));
        none-lower = λ q l x. true≢false (sym (seen q (omega arith) x) ∙ low.before q (omega arith) l);
      }

  pub missed : n ≤ lowest p 0 n → (v : ℕ) → LowestOf P n v → ⊥
  missed h v x = true≢false (sym (seen v x.below x.holds) ∙ (lowest-is p 0 n).before v (omega arith) (omega (arith, x.below)))

  -- the test of such a search
  pub by_search : (k : ℕ) {later : ℕ → ℕ × ℕ → Type 0} (stop : ℕ → Stop) (a : Answer) → ((v : ℕ) → number_of (Stopped (stop v)) ≡ k)
      → ((v : ℕ) → values_of (Stopped (stop v)) ≡ (v, 0)) → (n ≤ lowest p 0 n → Just a later)
      → Just (pick (ltb (lowest p 0 n) n) (Stopped (stop (lowest p 0 n))) Done then a) (test k (one (LowestOf P n)) later)
  by_search k {later} stop a e g j =
      pick_ind (λ (z : Answer). Just (z then a) (test k (one (LowestOf P n)) later)) (ltb (lowest p 0 n) n)
      (λ l.
      let w = found (ltb-true (lowest p 0 n) n l) in
      rw (e (lowest p 0 n), g (lowest p 0 n)) (stops_one (lowest p 0 n) w (λ v x. one-lowest P n v (lowest p 0 n) x w)))
      (λ l. let h = ltb-false (lowest p 0 n) n l in passes-one (missed h) (j h))

-- ---- tests of the calls on trees

-- tree and marks
sized : (d : ℕ) (t m : List ℕ) → tree_sized d (length t) (length m) ≡ true → TreeLengths d t m
sized d t m h =
    let (p, q) = and_yes (eqb (length t) (256 * places tree d)) (eqb (length m) (places tree d)) h in
    record {
      tree-bytes = rw (tree-symbols d) (eqb-true (length t) (256 * places tree d) p);
      mark-bytes = rw (tree-symbols d) (eqb-true (length m) (places tree d) q);
    }

pub size_tests : (d : ℕ) (t m : List ℕ) → TreeLengths d t m → tree_sized d (length t) (length m) ≡ true
size_tests d t m k =
    yes_and (eq-eqb (length t) (256 * places tree d) (k.tree-bytes ∙ ap (λ (n : ℕ). 256 * n) (tree-symbols d)))
    (eq-eqb (length m) (places tree d) (k.mark-bytes ∙ tree-symbols d))

-- test 4: a mark that passes is 0 or 1
module _ (d : ℕ) (m : List ℕ) (full : length m ≡ tree_symbols d) where
  abbrev Bad : ℕ → Type 0
  Bad p = (get_or m p 0 ≢ 0) × (get_or m p 0 ≢ 1)

  bad_said : (p : ℕ) → p < length m → is_bad m p ≡ true → Bad p
  unfolding is_bad
  bad_said p l h = (λ e. omega (arith, ltb-true 1 (get_or m p 0) h), λ e. omega (arith, ltb-true 1 (get_or m p 0) h))

  bad_seen : (p : ℕ) → p < length m → Bad p → is_bad m p ≡ true
  unfolding is_bad
  bad_seen p l h =
      elim (dec_lt 1 (get_or m p 0)) [
        | yes k ↦ lt-ltb 1 (get_or m p 0) k
        | no k ↦ absurd (h.1 (elim (dec_lt 0 (get_or m p 0)) [ yes q ↦ omega arith | no q ↦ absurd (h.0 (omega arith)) ]))
      ]

  by_marks : {later : ℕ → ℕ × ℕ → Type 0} (a : Answer) → (((p : ℕ) → p < tree_symbols d → get_or m p 0 ≤ 1) → Just a later)
      → Just (test_marks m then a) (test 4 (one (BadMark d m)) later)
  unfolding test_marks
  by_marks {later} a j =
      subst (λ (n : ℕ). Just (test_marks m then a) (test 4 (one (LowestOf Bad n)) later)) full
      (by_search (is_bad m) Bad (length m) bad_said bad_seen 4 Mark a (λ v. refl) (λ v. refl) (λ h. j (λ p l. all_right m h p (omega arith))))

-- test 5
by_number : (d i : ℕ) {later : ℕ → ℕ × ℕ → Type 0} (a : Answer) → (i < n_of (d - 1) → Just a later) → Just (test_number d i then a) (test 5 (unless (InBase d i)) later)
unfolding test_number k_of n_of
by_number d i a j = by_right 5 (InBase d i) (ltb i (n_of (d - 1))) Number a refl refl (ltb-true i (n_of (d - 1))) (lt-ltb i (n_of (d - 1))) j

-- a symbol is absent just when its mark is 0, all marks being 0 or 1
module _ (m : List ℕ) (j i : ℕ) (low : get_or m (place tree j i) 0 ≤ 1) where
  pub absent_said : absent_at tree m j i ≡ true → get_or m (place tree j i) 0 ≡ 0
  unfolding absent_at
  absent_said h =
      let k = eqb-false (get_or m (place tree j i) 0) 1 (not_yes (eqb (get_or m (place tree j i) 0) 1) h) in
      elim (dec_lt 0 (get_or m (place tree j i) 0)) [ yes q ↦ absurd (k (omega arith)) | no q ↦ omega arith ]

  pub absent-seen : get_or m (place tree j i) 0 ≡ 0 → absent_at tree m j i ≡ true
  unfolding absent_at
  absent-seen e = ap not (ne_eqb (get_or m (place tree j i) 0) 1 (λ q. omega arith))

-- ---- hasher and table

hasher : (m d : List ℕ) → Just (hash_answer (answer m d)) (hash_tests m d)
unfolding answer fits
hasher m d =
    pick_ind (λ (a : Result Unit WrongLength). Just (hash_answer a) (hash_tests m d)) (leb (length m) longest && eqb (length d) 32)
    (λ t.
    let (p, q) = and_yes (leb (length m) longest) (eqb (length d) 32) t in
    passes-unless (leb-true (length m) longest p, eqb-true (length d) 32 q) all_done)
    (λ t. stops_unless (λ r. true≢false (sym (yes_and (le-leb (length m) longest r.0) (eq-eqb (length d) 32 r.1)) ∙ t)))

table-words : (d : ℕ) (ws : List ℕ) → Just (words_tested d ws) (words_tests d ws)
table-words d ws =
    by_test (depth_fits d)
    (λ f.
    passes-unless (depth-right d f)
    (subst (λ (z : Answer). Just z (takes_words d ws done)) (then_none (words_tested d ws)) (by_words d ws f Done (λ w c. all_done))))
    (λ f.
    subst (λ (r : Read). Just (read_answer r then cover_answer (coverage_of d (table_of ws))) (words_tests d ws)) (read-depth d ws f)
    (stops_unless (depth-wrong d f)))

table-bytes : (d : ℕ) (table : List ℕ) → Just (admitted d true table) (table_tests d table)
table-bytes d table =
    subst (λ (z : Answer). Just z (table_tests d table)) (then_none (admitted d true table))
    (by_admitted d (TableLength table) true table Done (λ t l. l) (λ l. (refl, l)) (λ f l w c. all_done))

house : (d w n m : ℕ) → m ≡ w * (5 * 12 * (2 ^ d - 1) + 1) → Just (read_answer (house_answer d n m)) (house_tests d w n)
unfolding house_answer
house d w n m e =
    pick_ind (λ (r : Read). Just (read_answer r) (house_tests d w n)) (depth_fits d)
    (λ f.
    passes-unless (depth-right d f)
    (pick_ind (λ (r : Read). Just (read_answer r) (test 2 (unless (n ≡ w * (5 * 12 * (2 ^ d - 1) + 1))) done)) (eqb n m)
    (λ t. passes-unless (eqb-true n m t ∙ e) all_done) (λ t. stops_unless (λ r. eqb-false n m t (r ∙ sym e)))))
    (λ f. stops_unless (depth-wrong d f))

-- ---- tree and block

-- a symbol of the tree, whose marks are all 0 or 1
module _ (d : ℕ) (m : List ℕ) (low : (p : ℕ) → p < tree_symbols d → get_or m p 0 ≤ 1) (j i : ℕ) (hj : j < d) (hi : i < n_of j) where
  low-mark : get_or m (place tree j i) 0 ≤ 1
  low-mark = low (place tree j i) (omega (arith, place_lt tree d j i hj hi, tree-symbols d))

  mark_said : absent_at tree m j i ≡ true → mark_at m j i ≡ 0
  mark_said h = mark_at_lem m j i ∙ absent_said m j i low-mark h

  mark-seen : mark_at m j i ≡ 0 → absent_at tree m j i ≡ true
  mark-seen e = absent-seen m j i low-mark (sym (mark_at_lem m j i) ∙ e)

module _ (d : ℕ) (table b t m r : List ℕ) where
  abbrev own : Bool
  own = write_sized d (length b) (length t) (length m) (length r)

  pub lengths_own : own ≡ true → TableLength table → WriterLengths d table b t m r
  unfolding k_of
  lengths_own h l =
      let (u, q) = and_yes (tree_sized d (length t) (length m)) (block_fits d (length b) && record_sized (length r)) h in
      let (p, w) = and_yes (block_fits d (length b)) (record_sized (length r)) q in
      record {
        table-length = l;
        block-fits = leb-true (length b) (256 * k_of (d - 1)) p;
        tree-lengths = sized d t m u;
        record_length = eqb-true (length r) 556 w;
      }

  pub own_lengths : WriterLengths d table b t m r → (own ≡ true) × TableLength table
  unfolding k_of
  own_lengths k = (
    yes_and (size_tests d t m k.tree-lengths)
        (yes_and (le-leb (length b) (256 * k_of (d - 1)) k.block-fits) (eq-eqb (length r) 556 k.record_length)),
    k.table-length,
  )

  tree_writer : (kind : Kind) → Just (tree_written d kind table b t m r).answer (writer_tests d table b t m r)
  tree_writer kind =
      subst (λ (z : Answer). Just z (writer_tests d table b t m r)) (then_none (admitted d own table) ∙ sym (written-answer d kind table b t m r))
      (by_admitted d (WriterLengths d table b t m r) own table Done lengths_own own_lengths (λ f k w c. all_done))

  tree_writer_by : (number : ℕ) → Just (tree_written_by d number table b t m r).answer (numbered_tests d table b t m r number)
  unfolding tree_written_by test_kind
  tree_writer_by number =
      by_opened d (WriterLengths d table b t m r) (own && length_fits (length table)) (test_kind number then words_tested d (words_of table))
      (λ l. let (p, q) = and_yes own (length_fits (length table)) l in lengths_own p (table_long table q))
      (λ k. let (p, q) = own_lengths k in yes_and p (long_table table q))
      (λ f k.
      by_right 11 (KindRight number) (leb number 1) Record (words_tested d (words_of table)) refl refl
      (λ h. either number (leb-true number 1 h)) (λ e. le-leb number 1 (at_most number e))
      (λ e.
      subst (λ (z : Answer). Just z (takes_table d table done)) (then_none (words_tested d (words_of table)))
      (by_words d (words_of table) f Done (λ w c. all_done))))

module _ (d : ℕ) (r t m b : List ℕ) where
  block_reader : Just (block_read d r t m b).answer (block_tests d r t m b)
  unfolding test_base k_of n_of
  block_reader =
      subst (λ (z : Answer). Just z (block_tests d r t m b)) (sym (block-answer d r t m b))
      (by_headed d r (RecordLength r × TreeLengths d t m × BlockLength d b) (read_sized d (length r) (length t) (length m) (length b))
      (test_marks m then test_base d m)
      (λ h.
      let (p, q) = and_yes (tree_sized d (length t) (length m)) (record_sized (length r) && block_sized d (length b)) h in
      let (v, w) = and_yes (record_sized (length r)) (block_sized d (length b)) q in
      (eqb-true (length r) 556 v, sized d t m p, eqb-true (length b) (256 * k_of (d - 1)) w))
      (λ k. yes_and (size_tests d t m k.1) (yes_and (eq-eqb (length r) 556 k.0) (eq-eqb (length b) (256 * k_of (d - 1)) k.2)))
      (λ f k h.
      by_marks d m k.1.mark-bytes (test_base d m)
      (λ low.
      let some = (depth-right d f).0 in
      subst (λ (z : Answer). Just z (test 9 (one (LowestOf (λ i. mark_at m (d - 1) i ≡ 0) (k_of (d - 1)))) done)) (then_none (test_base d m))
      (by_search (absent_at tree m (d - 1)) (λ i. mark_at m (d - 1) i ≡ 0) (k_of (d - 1))
      (λ i h. mark_said d m low (d - 1) i (omega arith) (omega arith))
      (λ i h. mark-seen d m low (d - 1) i (omega arith) (omega arith)) 9 Absent Done (λ v. refl) (λ v. refl) (λ h. all_done)))))

-- ---- samples

pub sampled_layer_lem : (d x : ℕ) → sampled_layer d x ≡ sample_layer d x
unfolding sampled_layer sample_layer
sampled_layer_lem d zero = omega arith
sampled_layer_lem d (suc y) = omega arith

pub sampled_number_lem : (d i x : ℕ) → sampled_number d i x ≡ sample_number tree d i x
unfolding sampled_number sample_number data_no parity_no k_of
sampled_number_lem d i zero = refl
sampled_number_lem d i (suc y) =
    ap (λ (l : ℕ). pick (eqb (y % 2) 0) (i % data_symbols l) (data_symbols l + i % (3 * data_symbols l))) (sampled_layer_lem d (suc y))

-- the mark of symbol x of a sample
sampled_mark : (d i x : ℕ) (m : List ℕ) → mark_at m (sampled_layer d x) (sampled_number d i x) ≡ get_or m (place tree (sample_layer d x) (sample_number tree d i x)) 0
sampled_mark d i x m = ap₂ (λ (l n : ℕ). mark_at m l n) (sampled_layer_lem d x) (sampled_number_lem d i x) ∙ mark_at_lem m (sample_layer d x) (sample_number tree d i x)

needed-pick : (b : Bool) (x : ℕ) → (pick b (Stopped (Absent x)) Done then Done) ≡ needed (pick b (Some x) None)
unfolding pick
needed-pick true x = refl
needed-pick false x = refl

module _ (d i : ℕ) (t m s : List ℕ) where
  -- symbol x of the sample
  module _ (low : (p : ℕ) → p < tree_symbols d → get_or m p 0 ≤ 1) (base : BaseSymbol d i) (x : ℕ) (h : x < sample_size d) where
    low_sampled : get_or m (place tree (sample_layer d x) (sample_number tree d i x)) 0 ≤ 1
    low_sampled = low (place tree (sample_layer d x) (sample_number tree d i x)) (omega (arith, sample-place_lt d i x base h, tree-symbols d))

    sampled_said : absent d i m x ≡ true → mark_at m (sampled_layer d x) (sampled_number d i x) ≡ 0
    unfolding absent
    sampled_said a = sampled_mark d i x m ∙ absent_said m (sample_layer d x) (sample_number tree d i x) low_sampled a

    sampled_seen : mark_at m (sampled_layer d x) (sampled_number d i x) ≡ 0 → absent d i m x ≡ true
    unfolding absent
    sampled_seen e =
        absent-seen m (sample_layer d x) (sample_number tree d i x) low_sampled (sym (sampled_mark d i x m) ∙ e)

  sampler : Just (sample_taken d i t m s).answer (sampler_tests d i t m s)
  unfolding first_absent k_of n_of
  sampler =
      subst (λ (z : Answer). Just z (sampler_tests d i t m s)) (sym (sample-answer d i t m s))
      (by_opened d (TreeLengths d t m × SampleLength d s) (take_sized d (length t) (length m) (length s))
      (test_marks m then test_number d i then needed (first_absent d i m))
      (λ h.
      let (p, q) = and_yes (tree_sized d (length t) (length m)) (sample_sized d (length s)) h in
      (sized d t m p, eqb-true (length s) (256 * sample_size d) q))
      (λ r. yes_and (size_tests d t m r.0) (eq-eqb (length s) (256 * sample_size d) r.1))
      (λ f r.
      by_marks d m r.0.mark-bytes (test_number d i then needed (first_absent d i m))
      (λ low.
      by_number d i (needed (first_absent d i m))
      (λ h.
      let base : BaseSymbol d i = ((depth-right d f).0, (depth-right d f).1, h) in
      subst (λ (z : Answer). Just z (test 9 (one (AbsentSampled d i m)) done))
      (needed-pick (ltb (lowest (absent d i m) 0 (sample_size d)) (sample_size d)) (lowest (absent d i m) 0 (sample_size d)))
      (by_search (absent d i m) (λ x. mark_at m (sampled_layer d x) (sampled_number d i x) ≡ 0) (sample_size d) (sampled_said low base) (sampled_seen low base) 9
      Absent Done (λ v. refl) (λ v. refl) (λ q. all_done))))))

module _ (H : Hasher) (d i : ℕ) (root s : List ℕ) where
  pub leads_so : SampleLeads tree H root d i s → AllHashesLead H d i root s
  unfolding sample_has sample_data sample_parity symbol_in bytes_from data_no parity_no k_of
  leads_so k =
      record {
        base = k.base ∙ sym (hash_for_lem root (data_of_sample H d i root s) (d - 1) i);
        data_symbol = λ j h. k.data_symbol j h ∙ sym (hash_for_lem root (data_of_sample H d i root s) j (i % data_symbols j));
        parity_symbol = λ j h. k.parity_symbol j h ∙ sym (hash_for_lem root (data_of_sample H d i root s) j (data_symbols j + i % (3 * data_symbols j)));
      }

  pub so_leads : AllHashesLead H d i root s → SampleLeads tree H root d i s
  unfolding sample_has sample_data sample_parity symbol_in bytes_from data_no parity_no k_of
  so_leads k =
      record {
        base = k.base ∙ hash_for_lem root (data_of_sample H d i root s) (d - 1) i;
        data_symbol = λ j h. k.data_symbol j h ∙ hash_for_lem root (data_of_sample H d i root s) j (i % data_symbols j);
        parity_symbol = λ j h. k.parity_symbol j h ∙ hash_for_lem root (data_of_sample H d i root s) j (data_symbols j + i % (3 * data_symbols j));
      }

  -- symbol x of the sample has the hash, by either numbering
  module _ (some : 1 ≤ d) (x : ℕ) where
    abbrev fit : Type 0
    fit = Fit tree H root d i some s x (sample_layer d x) (sample_number tree d i x)

    hash-is : sample_has tree root d s (sample_layer d x) (sample_number tree d i x) ≡ hash_for root (data_of_sample H d i root s) (sampled_layer d x) (sampled_number d i x)
    unfolding sample_has sample_data symbol_in bytes_from
    hash-is =
        sym (hash_for_lem root (data_of_sample H d i root s) (sample_layer d x) (sample_number tree d i x))
        ∙ sym (ap₂ (hash_for root (data_of_sample H d i root s)) (sampled_layer_lem d x) (sampled_number_lem d i x))

    hash_said : fit → SampleFits H d i root s x
    unfolding symbol_in bytes_from
    hash_said e = ap₂ (λ (l n : ℕ). H l n (symbol_no s x)) (sampled_layer_lem d x) (sampled_number_lem d i x) ∙ e ∙ hash-is

    hash-seen : SampleFits H d i root s x → fit
    unfolding symbol_in bytes_from
    hash-seen e = ap₂ (λ (l n : ℕ). H l n (symbol_no s x)) (sym (sampled_layer_lem d x)) (sym (sampled_number_lem d i x)) ∙ e ∙ sym hash-is

  breaks_so : (some : 1 ≤ d) (l : ℕ) → BrokenSample tree H root d i some s l → SampleBreaks H d i root s l
  breaks_so some l w =
      record {
        index = w.index;
        inside = w.inside;
        at_layer = sampled_layer_lem d w.index ∙ w.at_layer;
        breaks = λ e. w.broken (hash-seen some w.index e);
        lead_below = λ x h k. hash_said some x (w.below x h (omega (arith, sampled_layer_lem d x)));
      }

  -- there is one such layer
  pub breaks-one : (v l : ℕ) → SampleBreaks H d i root s v → SampleBreaks H d i root s l → v ≡ l
  breaks-one v l a c =
      let not-below : v < l → ⊥ = λ h. c.breaks (a.lead_below c.index c.inside (omega (arith, c.at_layer))) in
      let not-above : l < v → ⊥ = λ h. a.breaks (c.lead_below a.index a.inside (omega (arith, a.at_layer))) in
      omega arith

  by_climb : 1 ≤ d → (c : Climb) → sample_check tree H root d i s ≡ c → Just (led c) (test 7 (one (SampleBreaks H d i root s)) done)
  by_climb some leads e =
      passes-one (λ v k. k.breaks (hash_said some k.index (all_fit tree H root d i some s e k.index k.inside))) all_done
  by_climb some (breaks l) e =
      let k = breaks_so some l (sample-breaks tree H root d i some s l e) in stops_one l k (λ v z. breaks-one v l z k)

sample-checker : (d i : ℕ) (r s : List ℕ) → Just (sample_checked d i r s) (sample_tests d i r s)
unfolding sample_checked root_in k_of n_of
sample-checker d i r s =
    let last : Answer = led (sample_check tree (symbol_hash (kind_in r)) (root_part r) d i s) in
    let fits : Bool = check_sized d (length r) (length s) in
    subst (λ (z : Answer). Just z (sample_tests d i r s)) (sym (then_assoc (headed d fits r) (test_number d i) last))
    (by_headed d r (RecordLength r × SampleLength d s) fits (test_number d i then last)
    (check-sizes d (length r) (length s))
    (λ k. yes_and (eq-eqb (length r) 556 k.0) (eq-eqb (length s) (256 * sample_size d) k.1))
    (λ f k h. by_number d i last (λ b.
    by_climb (hash_by (kind_no r 0)) d i (root_part r) s (depth-right d f).0 (sample_check tree (symbol_hash (kind_in r)) (root_part r) d i s)
    (ap (λ (h : Hasher). sample_check tree h (root_part r) d i s) (hash_in_lem r)))))

-- ---- repair

module _ (d : ℕ) (r table t m o : List ℕ) where
  abbrev lent : Bool
  lent = repair_sized d (length r) (length t) (length m) (length o)

  pub repair_own : lent ≡ true → TableLength table → RepairLengths d r table t m o
  repair_own h l =
      let (u, q) = and_yes (tree_sized d (length t) (length m)) (record_sized (length r) && eqb (length o) (12 + 256 * (8 * d - 1))) h in
      let (v, w) = and_yes (record_sized (length r)) (eqb (length o) (12 + 256 * (8 * d - 1))) q in
      record {
        record_length = eqb-true (length r) 556 v;
        table-length = l;
        tree-lengths = sized d t m u;
        output-length = eqb-true (length o) (12 + 256 * (8 * d - 1)) w;
      }

  pub own_repair : RepairLengths d r table t m o → (lent ≡ true) × TableLength table
  own_repair k = (
    yes_and (size_tests d t m k.tree-lengths)
        (yes_and (eq-eqb (length r) 556 k.record_length) (eq-eqb (length o) (12 + 256 * (8 * d - 1)) k.output-length)),
    k.table-length,
  )

  repairer : Just (repair_tested d r table t m o) (repair_tests d r table t m o)
  unfolding repair_tested
  repairer =
      by_admitted_by d (RepairLengths d r table t m o) lent r table (test_marks m) repair_own own_repair
      (λ f k h w c n.
      subst (λ (z : Answer). Just z (test 4 (one (BadMark d m)) done)) (then_none (test_marks m))
      (by_marks d m k.tree-lengths.mark-bytes Done (λ low. all_done)))

-- ---- the recoder

-- a table that passes its tests is one that calls take
pub taken_so : (d : ℕ) (table : List ℕ) → depth_fits d ≡ true → TableLength table → TableRight d (words_of table) → AllInTwo d (equations_of table) → TableTaken d table
taken_so d table f l w c =
    let formed = right-formed d (words_of table) w in
    record {
      deep = f;
      length-fits = long_table table l;
      accepted = formed-accepted d (words_of table) f formed;
      covered = covered_found d (equations_of table) (formed-rules d (words_of table) formed (depth_is d f).1) (all_covered d (equations_of table) c);
    }

module _ (d : ℕ) (r table t m t' m' r' : List ℕ) where
  abbrev lent_both : Bool
  lent_both = recode_sized d (length r) (length t) (length m) (length t') (length m') (length r')

  pub recode_own : lent_both ≡ true → TableLength table → RecodeLengths d r table t m t' m' r'
  recode_own h l =
      let (u, q) = and_yes (tree_sized d (length t) (length m)) (tree_sized d (length t') (length m') && (record_sized (length r) && record_sized (length r'))) h in
      let (v, p) = and_yes (tree_sized d (length t') (length m')) (record_sized (length r) && record_sized (length r')) q in
      let (x, y) = and_yes (record_sized (length r)) (record_sized (length r')) p in
      record {
        record_length = eqb-true (length r) 556 x;
        table-length = l;
        tree-lengths = sized d t m u;
        new_tree-lengths = sized d t' m' v;
        new_record-length = eqb-true (length r') 556 y;
      }

  pub own_recode : RecodeLengths d r table t m t' m' r' → (lent_both ≡ true) × TableLength table
  own_recode k = (
    yes_and (size_tests d t m k.tree-lengths)
        (yes_and (size_tests d t' m' k.new_tree-lengths) (yes_and (eq-eqb (length r) 556 k.record_length) (eq-eqb (length r') 556 k.new_record-length))),
    k.table-length,
  )

  -- a call that is done has passed the tests before 4, and those from 4 on
  pub recode_passed : (recoded d r table t m t' m' r').answer ≡ Done
      → AdmittedBy d lent_both r table × ((test_marks m then test_whole (called_whole d r table t m)) ≡ Done)
  unfolding recoded
  recode_passed e =
      let (a, l) = then_done (admitted_by d lent_both r table) (test_marks m then test_whole (called_whole d r table t m)) e in
      (admission_by d lent_both r table a, l)

  -- a repair of the source is then of well-formed input
  module _ (f : depth_fits d ≡ true) (k : RecodeLengths d r table t m t' m' r') (hr : HeadRight d r) (taken : TableTaken d table) (n : NamesTable r table)
      (low : (p : ℕ) → p < tree_symbols d → get_or m p 0 ≤ 1) where
    source-formed : (o : List ℕ) → OutputLength d o → repair_tested d r table t m o ≡ Done
    unfolding repair_tested
    source-formed o x =
        sym (ap₂ (λ (a b : Answer). a then b)
        (admits_by d (repair_sized d (length r) (length t) (length m) (length o)) r table
        (record {
          lengths = yes_and (size_tests d t m k.tree-lengths) (yes_and (eq-eqb (length r) 556 k.record_length) (eq-eqb (length o) (12 + 256 * (8 * d - 1)) x));
          head = right-head d r hr;
          taken = taken;
          named = table-named r table n;
        }))
        (marks-right m (none_bad m (λ p h. low p (omega (arith, k.tree-lengths.mark-bytes))))))

    -- by one output buffer, and so by every other
    abbrev blank : List ℕ
    blank = replicate (12 + 256 * (8 * d - 1)) 0

    blank_length : OutputLength d blank
    blank_length = length-replicate {A = ℕ} (12 + 256 * (8 * d - 1)) 0

    whole_said : nothing_to_do (repaired d r table t m blank).answer ≡ true → CalledWhole d r table t m
    whole_said b o x =
        lent_called d r table t m o (source-formed o x)
        (called_lent d r table t m blank (source-formed blank blank_length) (result_whole (repaired d r table t m blank).answer b))

    whole-seen : CalledWhole d r table t m → nothing_to_do (repaired d r table t m blank).answer ≡ true
    whole-seen w = ap nothing_to_do (w blank blank_length)

  recoder : Just (recoded d r table t m t' m' r').answer (recode_tests d r table t m t' m' r')
  unfolding recoded test_whole
  recoder =
      by_admitted_by d (RecodeLengths d r table t m t' m' r') lent_both r table (test_marks m then test_whole (called_whole d r table t m)) recode_own own_recode
      (λ f k hr w c n.
      let taken = taken_so d table f k.table-length w c in
      by_marks d m k.tree-lengths.mark-bytes (test_whole (called_whole d r table t m))
      (λ low.
      subst (λ (z : Answer). Just z (test 14 (unless (CalledWhole d r table t m)) done)) (then_none (test_whole (called_whole d r table t m)))
      (by_right 14 (CalledWhole d r table t m) (nothing_to_do (repaired d r table t m (blank f k hr taken n low)).answer) NotWhole Done refl refl
      (whole_said f k hr taken n low) (whole-seen f k hr taken n low) (λ x. all_done))))

-- ---- the number 0

pub done-only : (a : Answer) → number_of a ≡ 0 → a ≡ Done
done-only (Ok tt) e = refl
done-only (Err Depth) e = absurd (omega arith)
done-only (Err Length) e = absurd (omega arith)
done-only (Err (Table i)) e = absurd (omega arith)
done-only (Err (Mark p)) e = absurd (omega arith)
done-only (Err Number) e = absurd (omega arith)
done-only (Err Head) e = absurd (omega arith)
done-only (Err (Hash l p)) e = absurd (omega arith)
done-only (Err NoFault) e = absurd (omega arith)
done-only (Err (Absent x)) e = absurd (omega arith)
done-only (Err (Uncovered j i)) e = absurd (omega arith)
done-only (Err Record) e = absurd (omega arith)
done-only (Err OtherTable) e = absurd (omega arith)
done-only (Err NotWhole) e = absurd (omega arith)

whole-only : (a : Read) → number_of (read_answer a) ≡ 0 → a ≡ read.Whole
whole-only (Err table_error.Depth) e = absurd (omega arith)
whole-only (Err table_error.Length) e = absurd (omega arith)
whole-only (Err (table_error.Wrong i)) e = absurd (omega arith)
whole-only (Ok tt) e = refl

hashed-only : (a : Result Unit WrongLength) → number_of (hash_answer a) ≡ 0 → a ≡ Ok tt
hashed-only (Ok tt) e = refl
hashed-only (Err w) e = absurd (omega arith)

-- ---- all of them

pub refusals : Refusals
refusals =
    record {
      done_call = λ a. (done-only a, λ e. ap number_of e);
      done-read = λ a. (whole-only a, λ e. ap (λ (r : Read). number_of (read_answer r)) e);
      done-hash = λ a. (hashed-only a, λ e. ap (λ (h : Result Unit WrongLength). number_of (hash_answer h)) e);
      hasher = hasher;
      table-words = table-words;
      table-bytes = table-bytes;
      house-words = λ d n. house d 1 n (length (house_words d)) (house-count d ∙ omega arith);
      house-bytes = λ d n. house d 4 n (length (house_words d) * 4) (omega (arith, house-count d));
      tree_writer = λ d kind table b t m r. tree_writer d table b t m r kind;
      tree_writer_by = λ d number table b t m r. tree_writer_by d table b t m r number;
      block_reader = block_reader;
      sampler = sampler;
      sample-checker = sample-checker;
      repairer = repairer;
      recoder = recoder;
    }
