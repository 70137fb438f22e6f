-- Tables as bytes that calls take, the house table among them; words and their bytes have one answer.
use mathlib.Core.Path.{◌≡◌, sym, ap, ap₂, ◌∙◌, subst}
use mathlib.Core.Bool.{true}
use mathlib.Core.List.{List}
use Prim.Native.Nat.{ℕ, ◌*◌, ◌≤◌}
use lib.ListN.{length}
use Rattle.octets.specs.BigEndian.{bytes_of}
use Rattle.octets.proofs.Choice.{by_test}
use Rattle.parity_table.specs.Shape.{depth_fits}
use Rattle.parity_table.specs.Reader.{Answer as Read}
use Rattle.parity_table.specs.Table.{TableOk, table_words}
use Rattle.parity_table.specs.Parse.{table_of}
use Rattle.parity_table.specs.Coverage.{Covered}
use Rattle.parity_table.proofs.Accepts.{read-depth}
use Rattle.parity_table.proofs.Shape.{depth_is}
use Rattle.table_bytes.specs.Bytes.{max_bytes, words_of, length_fits}
use Rattle.table_bytes.proofs.RoundTrip.{Words, words-bytes, bytes_fit, table-bytes_fit, table-bytes-accepted, table-bytes_say}
use Rattle.house_table.specs.House.{house_table, house_words}
use Rattle.house_table.proofs.HouseRules.{house-rules, house-words_of}
use Rattle.house_table.proofs.HouseBytes.{house-short}
use Rattle.house_table.proofs.HouseCovered.{house_covered}
use Rattle.coverage.specs.Coverage.{coverage_of}
use Rattle.coverage.proofs.Right.{covered_found}
use Rattle.calls.specs.Stops.{Answer}
use Rattle.calls.specs.Tests.{◌then◌, read_answer, cover_answer, words_tested, admitted}
use Rattle.calls.proofs.TestLaws.{no_depth, opens}
use Rattle.calls.proofs.AdmissionLaws.{TableTaken}

-- the check of a table answers of words what it answers of their bytes
pub bytes_tested : (d : ℕ) (ws : List ℕ) → Words ws → length ws * 4 ≤ max_bytes → admitted d true (bytes_of ws) ≡ words_tested d ws
bytes_tested d ws w h =
    by_test (depth_fits d)
    (λ f. ap₂ (λ (a b : Answer). a then b) (sym (opens d (length_fits (length (bytes_of ws))) f (bytes_fit ws h))) (ap (words_tested d) (words-bytes ws w)))
    (λ f.
    sym (ap (λ (a : Answer). a then words_tested d (words_of (bytes_of ws))) (no_depth d (length_fits (length (bytes_of ws))) f))
    ∙ ap (λ (r : Read). read_answer r then cover_answer (coverage_of d (table_of ws))) (read-depth d ws f))

-- a table by the rules that is covered and not too long is taken, as bytes
pub taken-table : (d : ℕ) (tbl : List (List (List ℕ))) → depth_fits d ≡ true → TableOk d tbl → Covered d tbl → length (table_words tbl) * 4 ≤ max_bytes
    → TableTaken d (bytes_of (table_words tbl))
taken-table d tbl t o c short =
    record {
      deep = t;
      length-fits = table-bytes_fit d tbl o t short;
      accepted = table-bytes-accepted d tbl o t short;
      covered = ap (coverage_of d) (table-bytes_say d tbl o t short) ∙ covered_found d tbl o c;
    }

-- .. and so is the house table
pub house-taken : (d : ℕ) → depth_fits d ≡ true → TableTaken d (bytes_of (house_words d))
house-taken d t =
    subst (λ (ws : List ℕ). TableTaken d (bytes_of ws)) (sym (house-words_of d))
    (taken-table d (house_table d) t (house-rules d) (house_covered d) (house-short d (depth_is d t).1))
