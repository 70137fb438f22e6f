-- The tests that calls share, in their order: 1, 2, 11, 3, 10, 12, 4, 5. Definitions only.
use Rattle.std.specs.Prelude.{Bool, ◌&&◌, List, ℕ, ◌-◌, length, ltb, Ok, Err}
use Rattle.octets.specs.Choice.{pick}
use Rattle.parity_table.specs.Shape.{depth_fits, n_of}
use Rattle.parity_table.specs.declared.TableError.{TableError}
use Rattle.parity_table.specs.declared.TableError.TheVariants as error
use Rattle.parity_table.specs.Reader.{Answer as Read, read_of}
use Rattle.parity_table.specs.Parse.{table_of, index_of, over}
use Rattle.table_bytes.specs.Bytes.{words_of, front_words, length_fits}
use Rattle.root_record.specs.Records.{head_right, names_table}
use Rattle.coverage.specs.declared.Uncovered.{Uncovered as Thin}
use Rattle.coverage.specs.Coverage.{Coverage, coverage_of}
use Rattle.calls.specs.declared.Stop.{Stop}
use Rattle.calls.specs.declared.Stop.TheVariants.{Depth, Length, Table, Mark, Number, Uncovered, Record, OtherTable}
use Rattle.calls.specs.Stops.{Answer, Done, Stopped}
use Rattle.calls.specs.Marks.{lowest_bad}

infixr 20 ◌then◌
-- a test, then those after it: the first that fails stops the call
abbrev pub ◌then◌ : Answer → Answer → Answer
(Ok _) then b = b
(Err s) then b = Err s

-- what a buffer holds after a call that answers a: `new` where it is done, else what it held
abbrev pub left : Answer → List ℕ → List ℕ → List ℕ
left (Ok _) new old = new
left (Err s) new old = old

-- ---- the tests

-- 1: "depth not 1 to 5", or 9: "Depth 10 stops with 1"
unfoldable pub test_depth : ℕ → Answer
test_depth d = pick (depth_fits d) Done (Stopped Depth)

-- 2: "a buffer's length wrong"
unfoldable pub test_lengths : Bool → Answer
test_lengths sized = pick sized Done (Stopped Length)

-- 11: "A head with a wrong kind, a length over 256·k or another depth than the call's stops with 11 after 2"
unfoldable pub test_head : ℕ → List ℕ → Answer
test_head d r = pick (head_right d r) Done (Stopped Record)

-- 3: "a table breaks a rule", with the first wrong word
abbrev pub table_stop : TableError → Stop
table_stop error.Depth = Depth
table_stop error.Length = Length
table_stop (error.Wrong i) = Table i

abbrev pub read_answer : Read → Answer
read_answer (Ok _) = Done
read_answer (Err e) = Stopped (table_stop e)

-- 10: "A table that keeps the old rules but breaks this stops with 10, tested right after 3, with the first such layer and its lowest such symbol."
abbrev pub cover_stop : Thin → Stop
cover_stop u = Uncovered u.layer u.symbol

abbrev pub cover_answer : Coverage → Answer
cover_answer (Ok _) = Done
cover_answer (Err u) = Stopped (cover_stop u)

-- 12: "a table of another word count or hash stops with 12 after 10"
unfoldable pub test_named : List ℕ → List ℕ → Answer
test_named r table = pick (names_table r table) Done (Stopped OtherTable)

-- 4: "a mark neither 0 nor 1", with the lowest place
unfoldable pub test_marks : List ℕ → Answer
test_marks m = pick (ltb (lowest_bad m) (length m)) (Stopped (Mark (lowest_bad m))) Done

-- 5: "base symbol number not below n"
unfoldable pub test_number : ℕ → ℕ → Answer
test_number d i = pick (ltb i (n_of (d - 1))) Done (Stopped Number)

-- ---- every call begins with these

-- 1, 2; `sized` says whether the call's own buffers have their lengths
abbrev pub opened : ℕ → Bool → Answer
opened d sized = test_depth d then test_lengths sized

-- of a call that is lent a record: 1, 2, 11
abbrev pub headed : ℕ → Bool → List ℕ → Answer
headed d sized r = opened d sized then test_head d r

-- of a table as words: 1, 3, 10
abbrev pub words_tested : ℕ → List ℕ → Answer
words_tested d ws = read_answer (read_of d ws) then cover_answer (coverage_of d (table_of ws))

-- of a call that is lent a table as bytes: 1, 2, 3, 10
abbrev pub admitted : ℕ → Bool → List ℕ → Answer
admitted d sized table = opened d (sized && length_fits (length table)) then words_tested d (words_of table)

-- of a call that is lent a record and a table: 1, 2, 11, 3, 10, 12
abbrev pub admitted_by : ℕ → Bool → List ℕ → List ℕ → Answer
admitted_by d sized r table = headed d (sized && length_fits (length table)) r then words_tested d (words_of table) then test_named r table

-- what a call's own buffers then hold: for words, which are used once tests 1 and 2 have passed, as many as it has room for; and for the index of a
-- table that is admitted
abbrev pub words_left : ℕ → Bool → List ℕ → List ℕ → List ℕ
words_left d sized table lent = left (opened d (sized && length_fits (length table))) (over (front_words table (length lent)) lent) lent

abbrev pub starts_left : ℕ → Bool → List ℕ → List ℕ → List ℕ
starts_left d sized table lent = left (admitted d sized table) (over (index_of (words_of table)) lent) lent
