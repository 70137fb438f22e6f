-- What a call has passed that stops at a later test, or at none: tests 1, 2 and 11, and those of a table.
use mathlib.Core.Path.{◌≡◌, refl, sym, ap₂, ◌∙◌}
use mathlib.Core.Bool.{Bool, true, true≢false, ◌&&◌}
use mathlib.Core.List.{List}
use Prim.Native.Nat.{ℕ, ◌+◌, ◌-◌, ◌*◌, ◌≤◌, ◌<◌}
use lib.ListN.{length, get_or}
use lib.Dec.{leb}
use borrow.Author.Tests.{le-leb, leb-true, eq-eqb}
use Rattle.octets.proofs.Choice.{by_test, and_yes, yes_and}
use Rattle.parity_table.specs.Shape.{depth_fits}
use Rattle.parity_table.specs.Parse.{table_of}
use Rattle.parity_table.proofs.Parse.{formed-rules}
use Rattle.table_bytes.specs.Bytes.{length_fits}
use Rattle.root_record.specs.Records.{head_right, names_table}
use Rattle.volume_calls.specs.Writing.{write_sized}
use Rattle.fault_calls.specs.Checking.{proof_sized}
use Rattle.calls.specs.Stops.{Answer}
use Rattle.calls.specs.Stops.{Done}
use Rattle.calls.specs.Tests.{◌then◌}
use Rattle.calls.proofs.AdmissionLaws.{TableTaken}
use Rattle.calls.proofs.TestLaws.{marks-right}
use Rattle.calls.proofs.RecordLaws.{admits_by}
use Rattle.fault_calls.specs.Repairing.{repair_sized, repair_tested}
use Rattle.recoding.specs.Recoding.{recode_sized}
use Rattle.guarantees.specs.Answers.{test, fails, holds, unless}
use Rattle.guarantees.specs.Tables.{TableRight, FirstWrongWord, AllInTwo, FirstNotInTwo}
use Rattle.guarantees.specs.Refusals.{DepthRight, TableLength, TreeLengths, OutputLength, KindRight, HeadRight, NamesTable, WriterLengths, RepairLengths, RecodeLengths, takes_words}
use Rattle.guarantees.specs.FaultProofs.{ProofLengths}
use Rattle.guarantees.proofs.Answers.{past, past_so}
use Rattle.guarantees.proofs.Marks.{none_bad}
use Rattle.guarantees.proofs.Records.{either, at_most, head-right, right-head, names_table_lem, table-named}
use Rattle.guarantees.proofs.Tables.{right-formed}
use Rattle.guarantees.proofs.Refusals.{depth-right, depth-fits, size_tests, words-cases, cover_cases, table_long, long_table, lengths_own, own_lengths, repair_own, own_repair, recode_own, own_recode}
use Rattle.guarantees.proofs.FaultProofs.{lengths_own as proof-own, own_lengths as own-proof}

-- what a test decides holds where its opposite doesn't
pub decided : {R : Type 0} (b : Bool) → (b ≡ true → R) → (R → b ≡ true) → ((R → ⊥) → ⊥) → R
decided b said seen x = by_test b said (λ f. absurd (x (λ r. true≢false (sym (seen r) ∙ f))))

abbrev pub Stable : Type 0 → Type 0
Stable R = ((R → ⊥) → ⊥) → R

-- ---- tests 3 and 10, at a depth that there is

module _ (d : ℕ) (ws : List ℕ) (f : depth_fits d ≡ true) where
  abbrev tbl : List (List (List ℕ))
  tbl = table_of ws

  pub right_so : ((i : ℕ) → FirstWrongWord d ws i → ⊥) → TableRight d ws
  right_so x = words-cases d f (λ r. TableRight d ws) ws (λ i w. absurd (x i w)) (λ w. w)

  all_so : TableRight d ws → ((j i : ℕ) → FirstNotInTwo d tbl j i → ⊥) → AllInTwo d tbl
  all_so w x =
      cover_cases d tbl (λ c. AllInTwo d tbl) (formed-rules d ws (right-formed d ws w) (depth-right d f).1) (λ j i y. absurd (x j i y)) (λ c. c)

  not_thin : AllInTwo d tbl → (j i : ℕ) → FirstNotInTwo d tbl j i → ⊥
  not_thin c j i x =
      let (e, g, n, m, k) = c j i x.layer x.data_symbol in n (x.one_or_none e g m k)

  module _ {later : ℕ → ℕ × ℕ → Type 0} {n : ℕ} {v : ℕ × ℕ} where
    pub past_words : (3 ≡ n → ⊥) → (10 ≡ n → ⊥) → takes_words d ws later n v → TableRight d ws × AllInTwo d tbl × later n v
    past_words o q (fails e x) = absurd (o (sym e))
    past_words o q (holds x (fails e y)) = absurd (q (sym e))
    past_words o q (holds x (holds y l)) =
        let w = right_so (λ n w. x (n, 0) (record { is = w; alone = refl })) in (w, all_so w (λ j i z. y (j, i) (record { are = z })), l)

    pub past_words_so : TableRight d ws → AllInTwo d tbl → later n v → takes_words d ws later n v
    past_words_so w c l = holds (λ v x. x.is.not_right w) (holds (λ v x. not_thin c v.0 v.1 x.are) l)

    pub left-words : TableRight d ws → AllInTwo d tbl → takes_words d ws later n v → later n v
    left-words w c (fails e x) = absurd (x.is.not_right w)
    left-words w c (holds x (fails e y)) = absurd (not_thin c v.0 v.1 y.are)
    left-words w c (holds x (holds y l)) = l

-- ---- the tests before these, 1, 2 and 11: a call that stops with another number has passed them, by what they ask

pub depth_stable : (d : ℕ) → Stable (DepthRight d)
depth_stable d = decided (depth_fits d) (depth-right d) (depth-fits d)

pub head_stable : (d : ℕ) (r : List ℕ) → Stable (HeadRight d r)
head_stable d r = decided (head_right d r) (head-right d r) (right-head d r)

pub kind_stable : (number : ℕ) → Stable (KindRight number)
kind_stable number = decided (leb number 1) (λ t. either number (leb-true number 1 t)) (λ k. le-leb number 1 (at_most number k))

module _ (d : ℕ) {R : Type 0} {later : ℕ → ℕ × ℕ → Type 0} {n : ℕ} {v : ℕ × ℕ} (o : 1 ≡ n → ⊥) (q : 2 ≡ n → ⊥) where
  pub past_lengths : Stable R → test 1 (unless (DepthRight d)) (test 2 (unless R) later) n v → DepthRight d × R × later n v
  past_lengths so t = let (r, l) = past o (depth_stable d) t in let (s, m) = past q so l in (r, s, m)

  pub past_lengths_so : DepthRight d → R → later n v → test 1 (unless (DepthRight d)) (test 2 (unless R) later) n v
  past_lengths_so r s l = past_so o r (past_so q s l)

pub record Front (d : ℕ) (before : Type 0) (tests later : ℕ → ℕ × ℕ → Type 0) : Type 0 where
  pub deep : before → depth_fits d ≡ true
  pub into : {n : ℕ} {v : ℕ × ℕ} → (1 ≡ n → ⊥) → (2 ≡ n → ⊥) → (11 ≡ n → ⊥) → tests n v → before × later n v
  pub back : {n : ℕ} {v : ℕ × ℕ} → (1 ≡ n → ⊥) → (2 ≡ n → ⊥) → (11 ≡ n → ⊥) → before → later n v → tests n v

-- 1 alone; 1 and 2; 1, 2 and 11, of a record's head or of a kind's number
pub depth-front : (d : ℕ) {later : ℕ → ℕ × ℕ → Type 0} → Front d (DepthRight d) (test 1 (unless (DepthRight d)) later) later
depth-front d = record { deep = depth-fits d; into = λ o q z t. past o (depth_stable d) t; back = λ o q z r l. past_so o r l }

pub lengths-front : (d : ℕ) {R : Type 0} {later : ℕ → ℕ × ℕ → Type 0} → Stable R
    → Front d (DepthRight d × R) (test 1 (unless (DepthRight d)) (test 2 (unless R) later)) later
lengths-front d so =
    record {
      deep = λ b. depth-fits d b.0;
      into = λ o q z t. let (r, s, l) = past_lengths d o q so t in ((r, s), l);
      back = λ o q z b l. past_lengths_so d o q b.0 b.1 l;
    }

pub head-front : (d : ℕ) {R K : Type 0} {later : ℕ → ℕ × ℕ → Type 0} → Stable R → Stable K
    → Front d (DepthRight d × R × K) (test 1 (unless (DepthRight d)) (test 2 (unless R) (test 11 (unless K) later))) later
head-front d so right =
    record {
      deep = λ b. depth-fits d b.0;
      into = λ o q z t. let (k, s, l) = past_lengths d o q so t in let (h, m) = past z right l in ((k, s, h), m);
      back = λ o q z b l. past_lengths_so d o q b.0 b.1 (past_so z b.2 l);
    }

pub table_stable : (table : List ℕ) → Stable (TableLength table)
table_stable table = decided (length_fits (length table)) (table_long table) (long_table table)

-- lengths of a call's own buffers and of its table
both_stable : {R : Type 0} (sized : Bool) (table : List ℕ) → (sized ≡ true → TableLength table → R) → (R → (sized ≡ true) × TableLength table) → Stable R
both_stable sized table said seen =
    decided (sized && length_fits (length table))
    (λ t. let (p, q) = and_yes sized (length_fits (length table)) t in said p (table_long table q))
    (λ r. let (p, q) = seen r in yes_and p (long_table table q))

pub writer_stable : (d : ℕ) (table b t m r : List ℕ) → Stable (WriterLengths d table b t m r)
writer_stable d table b t m r =
    both_stable (write_sized d (length b) (length t) (length m) (length r)) table (lengths_own d table b t m r) (own_lengths d table b t m r)

pub proof_stable : (r table b : List ℕ) → Stable (ProofLengths r table b)
proof_stable r table b = both_stable (proof_sized (length r) (length b)) table (proof-own 0 r table b) (own-proof 0 r table b)

pub repair_stable : (d : ℕ) (r table t m o : List ℕ) → Stable (RepairLengths d r table t m o)
repair_stable d r table t m o =
    both_stable (repair_sized d (length r) (length t) (length m) (length o)) table (repair_own d r table t m o) (own_repair d r table t m o)

pub recode_stable : (d : ℕ) (r table t m t' m' r' : List ℕ) → Stable (RecodeLengths d r table t m t' m' r')
recode_stable d r table t m t' m' r' =
    both_stable (recode_sized d (length r) (length t) (length m) (length t') (length m') (length r')) table
    (recode_own d r table t m t' m' r') (own_recode d r table t m t' m' r')

-- ---- test 12

pub names_stable : (r table : List ℕ) → Stable (NamesTable r table)
names_stable r table = decided (names_table r table) (names_table_lem r table) (table-named r table)

-- ---- a repair that no test turns away

pub repair-passes : (d : ℕ) (r table t m o : List ℕ) → length r ≡ 556 → head_right d r ≡ true → TableTaken d table → names_table r table ≡ true
    → TreeLengths d t m → OutputLength d o → ((p : ℕ) → p < length m → get_or m p 0 ≤ 1) → repair_tested d r table t m o ≡ Done
unfolding repair_tested
repair-passes d r table t m o full head taken named l room low =
    let own : Bool = repair_sized d (length r) (length t) (length m) (length o) in
    sym (ap₂ (λ (x y : Answer). x then y)
    (admits_by d own r table
    (record {
      lengths = yes_and (size_tests d t m l) (yes_and (eq-eqb (length r) 556 full) (eq-eqb (length o) (12 + 256 * (8 * d - 1)) room));
      head = head;
      taken = taken;
      named = named;
    }))
    (marks-right m (none_bad m low)))
