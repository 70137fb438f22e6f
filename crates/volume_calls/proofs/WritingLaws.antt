-- What writing a tree answers and leaves.
use mathlib.Core.Path.{◌≡◌, refl, sym, ap, ap₂, ◌∙◌}
use mathlib.Core.Bool.{Bool, true, ◌&&◌}
use mathlib.Core.List.{List, ◌++◌, append-nil}
use Prim.Native.Nat.{ℕ, ◌-◌, ◌*◌, ◌≤◌, ◌<◌}
use native.Mathlib.Omega.{arith}
use lib.ListN.{length, take, drop, length-drop}
use lib.Seq.{drop_at, drop-length, length-take-le}
use lib.Dec.{leb}
use borrow.Author.Tests.{eqb-true, leb-true, le-leb, lt-leb}
use Rattle.octets.proofs.Choice.{and_yes, pick_yes, pick_no, pick_ind}
use Rattle.parity_table.specs.Shape.{depth_fits, k_of}
use Rattle.table_bytes.specs.Bytes.{words_of, length_fits}
use Rattle.parity_table.specs.Parse.{table_of}
use Rattle.symbol_hash.specs.SymbolHash.{symbol_hash}
use Rattle.symbol_hash.specs.declared.Kind.{Kind}
use Rattle.symbol_hash.specs.Kinds.{kind_number}
use Rattle.model.specs.Shape.{tree, places}
use Rattle.model.specs.Writer.{write_tree, written_marks, written_root, filled}
use Rattle.root_record.specs.Records.{kind_of, record_of, root_in}
use Rattle.root_record.proofs.RecordLaws.{number_small, kind_back}
use Rattle.calls.specs.declared.Stop.{Stop}
use Rattle.calls.specs.declared.Stop.TheVariants.{Record}
use Rattle.calls.specs.Stops.{Answer, Done, Stopped, Small}
use Rattle.calls.specs.Lengths.{tree_sized, block_fits, record_sized}
use Rattle.calls.proofs.LengthLaws.{tree-lengths}
use Rattle.calls.specs.Tests.{◌then◌, opened, words_tested, admitted}
use Rattle.calls.proofs.TestLaws.{small_plain, small_then, small_opened}
use Rattle.calls.proofs.AdmissionLaws.{admitted-sized, small_admitted, small_table}
use Rattle.volume_calls.specs.Writing.{leaves, write_sized, written_tree, written_record, written_by, write_tested, tree_written, test_kind, tree_written_by}

-- a root that is put behind the head of a record
pub root_put : (r root : List ℕ) → length r ≡ 556 → root_in (take 44 r ++ (root ++ drop (length r - 44) (drop 44 r))) ≡ root
unfolding root_in
root_put r root e =
    drop_at (take 44 r) (root ++ drop (length r - 44) (drop 44 r)) 44 (length-take-le 44 r (omega arith))
    ∙ ap (λ (l : List ℕ). root ++ l) (ap (λ (n : ℕ). drop n (drop 44 r)) (sym (length-drop 44 r)) ∙ drop-length (drop 44 r))
    ∙ append-nil root

module _ (d : ℕ) (kind : Kind) (table b t m r : List ℕ) where
  pub answer-is : (tree_written d kind table b t m r).answer ≡ write_tested d table b t m r
  unfolding tree_written
  answer-is = refl

  -- the tests' answer decides
  pub by_tests : (a : Answer) → a ≡ write_tested d table b t m r → written_by a d kind table b t m r ≡ tree_written d kind table b t m r
  unfolding tree_written
  by_tests a e = ap (λ (x : Answer). written_by x d kind table b t m r) e

  -- .. where the test of lengths looks at the depth too
  pub by_admitted : (s : Bool) → s ≡ (depth_fits d && write_sized d (length b) (length t) (length m) (length r)) → (a : Answer) → a ≡ admitted d s table
      → written_by a d kind table b t m r ≡ tree_written d kind table b t m r
  by_admitted s e a h = by_tests a (h ∙ admitted-sized d s (write_sized d (length b) (length t) (length m) (length r)) table e)

  pub written : (tbl : List (List (List ℕ))) (t' m' root r' : List ℕ) → tbl ≡ table_of (words_of table)
      → t' ≡ write_tree tree (symbol_hash kind) tbl (filled tree d b) t → m' ≡ written_marks tree d
      → root ≡ written_root tree (symbol_hash kind) t' → r' ≡ record_of kind d (length b) table root → leaves Done t' m' r' ≡ written_by Done d kind table b t m r
  written tbl t' m' root r' ew et em eo er =
      let u : t' ≡ written_tree d kind table b t =
      et ∙ ap (λ (q : List (List (List ℕ))). write_tree tree (symbol_hash kind) q (filled tree d b) t) ew in
      let v : r' ≡ written_record d kind table b t =
      er ∙ ap (record_of kind d (length b) table) (eo ∙ ap (written_root tree (symbol_hash kind)) u) in
      ap (λ (q : List ℕ). leaves Done t' m' q) v ∙ ap₂ (λ (x y : List ℕ). leaves Done x y (written_record d kind table b t)) u em

  -- a call that is done has passed the tests, and leaves what is written
  pub tests_passed : (tree_written d kind table b t m r).answer ≡ Done → write_tested d table b t m r ≡ Done
  tests_passed e = sym answer-is ∙ e

  pub when_done : (tree_written d kind table b t m r).answer ≡ Done
      → tree_written d kind table b t m r ≡ leaves Done (written_tree d kind table b t) (written_marks tree d) (written_record d kind table b t)
  when_done e = sym (by_tests Done (sym (tests_passed e)))

  pub small : Small (tree_written d kind table b t m r).answer
  small = rw answer-is (small_admitted d (write_sized d (length b) (length t) (length m) (length r)) table)

-- ---- the kind as a number

pub kind-is : (kind : Kind) (number : ℕ) → kind_number kind ≡ number → (kind ≡ kind_of number) × (number ≤ 1)
kind-is kind number e = (sym (kind_back kind) ∙ ap kind_of e, omega (arith, e, number_small kind))

module _ (d number : ℕ) (table b t m r : List ℕ) where
  abbrev sized : Bool
  sized = write_sized d (length b) (length t) (length m) (length r) && length_fits (length table)

  pub as_kind : number ≤ 1 → tree_written d (kind_of number) table b t m r ≡ tree_written_by d number table b t m r
  unfolding tree_written tree_written_by test_kind
  as_kind h =
      ap (λ (a : Answer). written_by (opened d sized then a then words_tested d (words_of table)) d (kind_of number) table b t m r)
      (sym (pick_yes (leb number 1) Done (Stopped Record) (le-leb number 1 h)))

  -- a number that no kind has, a being what tests 1 and 2 come to
  pub no_kind : 1 < number → (a : Answer) → a ≡ opened d sized → (s : Stop) → Stopped s ≡ (a then Stopped Record)
      → leaves (Stopped s) t m r ≡ tree_written_by d number table b t m r
  unfolding tree_written_by test_kind
  no_kind h a ea s e =
      ap (λ (x : Answer). written_by x d (kind_of number) table b t m r)
      (e ∙ ap₂ (λ (x y : Answer). x then y then words_tested d (words_of table)) ea
      (sym (pick_no (leb number 1) Done (Stopped Record) (lt-leb number 1 h))))

  pub small_by : Small (tree_written_by d number table b t m r).answer
  unfolding tree_written_by test_kind
  small_by =
      small_then (opened d sized) (test_kind number then words_tested d (words_of table)) (small_opened d sized)
      (λ o.
      small_then (test_kind number) (words_tested d (words_of table))
      (pick_ind Small (leb number 1) (λ f. small_plain refl) (λ f. small_plain refl)) (λ k. small_table d (write_sized d (length b) (length t) (length m) (length r)) table o))

-- the lengths, where the test passes
pub sizes : (d b t m r : ℕ) → write_sized d b t m r ≡ true
    → (b ≤ 256 * k_of (d - 1)) × (t ≡ 256 * places tree d) × (m ≡ places tree d) × (r ≡ 556)
sizes d b t m r e =
    let (p, q) = and_yes (tree_sized d t m) (block_fits d b && record_sized r) e in
    let (x, y) = and_yes (block_fits d b) (record_sized r) q in
    let (v, w) = tree-lengths d t m p in
    (leb-true b (256 * k_of (d - 1)) x, v, w, eqb-true r 556 y)
