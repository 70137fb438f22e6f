-- CR 1: which tables are taken, and which stop with 10. Every call's tests are known (`Refusals`, `FaultProofs`); below is what they say of its table.
use mathlib.Core.Path.{◌≡◌, refl, sym, ap, subst}
use mathlib.Core.Bool.{true}
use mathlib.Core.List.{List}
use Prim.Native.Nat.{ℕ}
use native.Mathlib.Omega.{arith}
use Rattle.octets.specs.BigEndian.{bytes_of}
use Rattle.parity_table.specs.Shape.{depth_fits}
use Rattle.parity_table.specs.Parse.{table_of}
use Rattle.house_table.specs.House.{house_table, house_words}
use Rattle.house_table.proofs.HouseRules.{house-formed, house_parsed}
use Rattle.house_table.proofs.HouseCovered.{house_covered}
use Rattle.calls.specs.Stops.{Answer}
use Rattle.calls.specs.Stops.{Done}
use Rattle.calls.specs.Stops.{number_of, values_of}
use Rattle.calls.proofs.AdmissionLaws.{admits}
use Rattle.calls.proofs.Taken.{house-taken}
use Rattle.guarantees.specs.Answers.{done, fails, holds, Just}
use Rattle.guarantees.specs.Tables.{TableRight, FirstWrongWord, AllInTwo, FirstNotInTwo}
use Rattle.guarantees.specs.Refusals.{takes_words}
use Rattle.guarantees.specs.Change1.{Table, Change1}
use Rattle.guarantees.proofs.Answers.{never, done_never}
use Rattle.guarantees.proofs.Passing.{right_so, past_words, past_words_so, Front, depth-front, head_stable, kind_stable, lengths-front, head-front, table_stable, writer_stable, proof_stable, repair_stable, recode_stable}
use Rattle.guarantees.proofs.Tables.{formed-right, covered_all}
use Rattle.guarantees.proofs.Refusals.{depth-fits, done-only, refusals}
use Rattle.guarantees.proofs.FaultProofs.{fault-proofs}

-- ---- tests 3 and 10, at a depth that there is

module _ (d : ℕ) (ws : List ℕ) (f : depth_fits d ≡ true) {later : ℕ → ℕ × ℕ → Type 0} where
  found_3 : {v : ℕ × ℕ} → takes_words d ws later 3 v → ((w : ℕ × ℕ) → later 3 w → ⊥) → FirstWrongWord d ws v.0
  found_3 (fails e x) later-not = x.is
  found_3 {v} (holds x l) later-not = absurd (never (λ e. omega arith) later-not v l)

  so_3 : (i : ℕ) → FirstWrongWord d ws i → takes_words d ws later 3 (i, 0)
  so_3 i w = fails refl (record { is = w; alone = refl })

  found_10 : {v : ℕ × ℕ} → takes_words d ws later 10 v → ((w : ℕ × ℕ) → later 10 w → ⊥) → TableRight d ws × FirstNotInTwo d (table_of ws) v.0 v.1
  found_10 (fails e x) later-not = absurd (omega arith)
  found_10 (holds x (fails e y)) later-not = (right_so d ws f (λ n w. x (n, 0) (record { is = w; alone = refl })), y.are)
  found_10 {v} (holds x (holds y l)) later-not = absurd (later-not v l)

  so_10 : (j i : ℕ) → TableRight d ws → FirstNotInTwo d (table_of ws) j i → takes_words d ws later 10 (j, i)
  so_10 j i w y = holds (λ v x. x.is.not_right w) (fails refl (record { are = y }))

-- ---- a call by its tests; those after 10 give neither 3 nor 10

module _ {d : ℕ} {ws : List ℕ} {before : Type 0} {tests later : ℕ → ℕ × ℕ → Type 0} {a : Answer} (f : Front d before tests (takes_words d ws later)) (j : Just a tests) where
  by_tests : ((v : ℕ × ℕ) → later 3 v → ⊥) → ((v : ℕ × ℕ) → later 10 v → ⊥) → Table d ws before a
  by_tests no-3 no-10 =
      record {
        stops_with_3 = λ i. (
          λ h. let (b, l) = f.into (λ e. omega arith) (λ e. omega arith) (λ e. omega arith) ((j.answers 3 (i, 0)).0 h) in (b, found_3 d ws (f.deep b) l no-3),
          λ (b, w). (j.answers 3 (i, 0)).1 (f.back (λ e. omega arith) (λ e. omega arith) (λ e. omega arith) b (so_3 d ws (f.deep b) i w)),
        );
        stops_with_10 = λ l i. (
          λ h.
              let (b, x) = f.into (λ e. omega arith) (λ e. omega arith) (λ e. omega arith) ((j.answers 10 (l, i)).0 h) in
              let (w, y) = found_10 d ws (f.deep b) x no-10 in (b, w, y),
          λ (b, w, y). (j.answers 10 (l, i)).1 (f.back (λ e. omega arith) (λ e. omega arith) (λ e. omega arith) b (so_10 d ws (f.deep b) l i w y)),
        );
        taken-only = λ e.
            let (b, l) = f.into (λ e. omega arith) (λ e. omega arith) (λ e. omega arith) ((j.answers 0 (0, 0)).0 (ap number_of e, ap values_of e)) in let (w, c, m) = past_words d ws (f.deep b) (λ e. omega arith) (λ e. omega arith) l in (w, c);
      }

-- where none comes after 10, it is done just when these are passed
module _ {d : ℕ} {ws : List ℕ} {before : Type 0} {tests : ℕ → ℕ × ℕ → Type 0} {a : Answer} (f : Front d before tests (takes_words d ws done)) (j : Just a tests) where
  alone : Table d ws before a
  alone = by_tests f j (done_never (λ e. omega arith)) (done_never (λ e. omega arith))

  passed : a ≡ Done → before
  passed e = (f.into (λ e. omega arith) (λ e. omega arith) (λ e. omega arith) ((j.answers 0 (0, 0)).0 (ap number_of e, ap values_of e))).0

  takes : before → TableRight d ws → AllInTwo d (table_of ws) → a ≡ Done
  takes b w c =
      done-only a ((j.answers 0 (0, 0)).1 (f.back (λ e. omega arith) (λ e. omega arith) (λ e. omega arith) b (past_words_so d ws (f.deep b) w c (refl, refl)))).0

-- ---- the calls

pub change_1 : Change1
change_1 =
    record {
      words_check = λ d ws. alone (depth-front d) (refusals.table-words d ws);
      table_check = λ d table. alone (lengths-front d (table_stable table)) (refusals.table-bytes d table);
      tree_writer = λ d kind table b t m r.
          alone (lengths-front d (writer_stable d table b t m r)) (refusals.tree_writer d kind table b t m r);
      tree_writer_by = λ d number table b t m r.
          alone (head-front d (writer_stable d table b t m r) (kind_stable number)) (refusals.tree_writer_by d number table b t m r);
      proof-checker = λ d r table b.
          by_tests
          (head-front d (proof_stable r table b) (head_stable d r)) (fault-proofs.checker-answers d r table b)
          (never (λ e. omega arith) (never (λ e. omega arith) (never (λ e. omega arith) (never (λ e. omega arith) (never (λ e. omega arith) (done_never (λ e. omega arith)))))))
          (never (λ e. omega arith) (never (λ e. omega arith) (never (λ e. omega arith) (never (λ e. omega arith) (never (λ e. omega arith) (done_never (λ e. omega arith)))))));
      repairer = λ d r table t m o.
          by_tests
          (head-front d (repair_stable d r table t m o) (head_stable d r)) (refusals.repairer d r table t m o)
          (never (λ e. omega arith) (never (λ e. omega arith) (done_never (λ e. omega arith)))) (never (λ e. omega arith) (never (λ e. omega arith) (done_never (λ e. omega arith))));
      recoder = λ d r table t m t' m' r'.
          by_tests
          (head-front d (recode_stable d r table t m t' m' r') (head_stable d r)) (refusals.recoder d r table t m t' m' r')
          (never (λ e. omega arith) (never (λ e. omega arith) (never (λ e. omega arith) (done_never (λ e. omega arith)))))
          (never (λ e. omega arith) (never (λ e. omega arith) (never (λ e. omega arith) (done_never (λ e. omega arith)))));
      words-taken = λ d ws. (
        λ e. let (w, c) = (alone (depth-front d) (refusals.table-words d ws)).taken-only e in (passed (depth-front d) (refusals.table-words d ws) e, w, c),
        λ (r, w, c). takes (depth-front d) (refusals.table-words d ws) r w c,
      );
      table_taken = λ d table.
          let f = lengths-front d (table_stable table) in
          let j = refusals.table-bytes d table in (
            λ e. let (w, c) = (alone f j).taken-only e in let (r, l) = passed f j e in (r, l, w, c),
            λ (r, l, w, c). takes f j (r, l) w c,
          );
      house_covered = λ d. covered_all d (house_table d) (house_covered d);
      house-taken = λ d r. (
        takes (depth-front d) (refusals.table-words d (house_words d)) r (formed-right d (house_words d) (house-formed d))
            (subst (AllInTwo d) (sym (house_parsed d r.1)) (covered_all d (house_table d) (house_covered d))),
        sym (admits d true (bytes_of (house_words d)) (house-taken d (depth-fits d r)) refl),
      );
    }
