-- Demand 2: what is written, read back, sampled and accepted.
use mathlib.Core.Path.{◌≡◌, refl, sym, ap, ap₂, ◌∙◌, subst}
use mathlib.Core.Logic.{◌⊎◌, inl, inr, ⊎_elim}
use mathlib.Core.Bool.{true}
use mathlib.Core.List.{List, ◌++◌}
use Prim.Native.Nat.{ℕ, ◌+◌, ◌-◌, ◌*◌, ◌/◌, ◌^◌, ◌≤◌, ◌<◌}
use native.Mathlib.Omega.{arith}
use native.Mathlib.Nat.{zero-add}
use lib.ListN.{length, get_or, take, drop, length-append, length-take, length-drop, get_or-append}
use lib.Seq.{take_at, take-append_seam, drop-append_seam, drop_at, length-take-le, get_or-take, get_or-drop}
use borrow.Author.Tests.{eq-eqb, le-leb}
use Rattle.octets.proofs.Choice.{yes_and}
use Rattle.parity_table.specs.Shape.{depth_fits, k_of, n_of}
use Rattle.parity_table.specs.Table.{TableOk}
use Rattle.table_bytes.specs.Bytes.{words_of}
use Rattle.sha256.specs.Hash.{sha256}
use Rattle.parity_table.proofs.Shape.{depth_is}
use Rattle.parity_table.proofs.Accepts.{accepted-formed, accepted-depth, accepted-table}
use Rattle.parity_table.proofs.Parse.{formed-words}
use Rattle.symbol_hash.specs.SymbolHash.{symbol_hash}
use Rattle.symbol_hash.specs.declared.Kind.{Kind}
use Rattle.symbol_hash.proofs.Laws.{length-symbol_hash}
use Rattle.model.specs.Shape.{tree, place, places}
use Rattle.model.specs.Symbols.{symbol_in, sym_at}
use Rattle.model.specs.Climb.{Climb, leads, breaks}
use Rattle.model.specs.Coded.{Agrees}
use Rattle.model.specs.Writer.{block_of, BaseOf, filled, write_tree, written_marks, written_root, Written}
use Rattle.model.specs.Repair.{absent_at}
use Rattle.model.specs.Sampling.{sample_size, sample_layer, sample_number, sample_bytes}
use Rattle.model.specs.SampleCheck.{sample_check, SampleTrue, SampleCollision}
use Rattle.model.proofs.Shapes.{tree_ok}
use Rattle.model.proofs.Tables.{TableFits, table_fits}
use Rattle.model.proofs.Counts.{lowest-is}
use Rattle.model.proofs.Writer.{block-symbol, marks-one, marks-length, written, written_same}
use Rattle.model.proofs.Filling.{length-filled, filled-front, length-block}
use Rattle.model.proofs.Bytes.{joined_length, joined_piece}
use Rattle.model.proofs.Flat.{sym_at-length}
use Rattle.model.proofs.Binding.{trees_same}
use Rattle.sampling.specs.Lent.{BaseSymbol}
use Rattle.sampling.proofs.SymbolLaws.{in_tree, sample-place_lt}
use Rattle.model.proofs.Samples.{accepted-leads, leads-accepted, taken-length, taken-accepted, accepted_true}
use Rattle.root_record.specs.Records.{kind_in, record_of, size_in, root_in, head_right, names_table}
use Rattle.root_record.proofs.RecordLaws.{record_kind, record_length, record_root, record_size, record_right, record_names, head-parts}
use Rattle.calls.specs.Stops.{Answer}
use Rattle.calls.specs.Stops.{Done}
use Rattle.calls.specs.Stops.{number_of}
use Rattle.calls.specs.Marks.{lowest_bad}
use Rattle.volume_calls.specs.Reading.{BlockLeft, read_sized, lowest_absent, test_base, block_given, block_read}
use Rattle.volume_calls.specs.Writing.{TreeLeft, leaves, write_sized, tree_written}
use Rattle.sample_calls.specs.Checking.{check_tested, led, sample_checked}
use Rattle.sample_calls.specs.Taking.{SampleLeft, needed, sample_taken}
use Rattle.calls.specs.Tests.{◌then◌, headed, test_marks}
use Rattle.calls.proofs.TestLaws.{then_done}
use Rattle.calls.proofs.AdmissionLaws.{TableTaken, admission, admits}
use Rattle.volume_calls.proofs.WritingLaws.{answer-is as write-answer, tests_passed as write-passed, when_done as write_done, sizes as write-sizes}
use Rattle.volume_calls.proofs.ReadingLaws.{base-passed, passed as read-passed, sizes as read-sizes, tests_passed as read-tests, when_done as read_left, done_when as read-when}
use Rattle.sample_calls.proofs.CheckingLaws.{passed as check-passed, sizes as check-sizes, at_end_lem}
use Rattle.sample_calls.proofs.TakingLaws.{passed as take-passed, sizes as take-sizes, tests_passed as take-tests, when_done as take_left, needs_held}
use Rattle.guarantees.specs.Terms.{equations_of}
use Rattle.guarantees.specs.Layouts.{bytes_from, all_symbols, symbol_at, sampled_layer, sampled_number, kind_no, record_bytes, block_size, root_part, block_start, filled_up}
use Rattle.guarantees.specs.Tables.{listed}
use Rattle.guarantees.specs.Trees.{kind_bits, hash_by, CorrectlyCoded, RootOf, AgreesWith, HasBlock}
use Rattle.guarantees.specs.Refusals.{BlockLength, RecordLength, SampleLength, InBase}
use Rattle.guarantees.specs.Demand2.{tree_after, marks_after, record_after, root_after, Exactly, CompleteTree, ReadsBase, block_after, GivesBack, ReadsWritten, TreesCollide, ReadsOriginal, ReadsAgreed, SampleRight, TakesExactly, AcceptsTaken, AcceptedIsTrue, Demand2}
use Rattle.guarantees.proofs.Layouts.{tree-symbols, symbol_at_lem, mark_at_lem}
use Rattle.guarantees.proofs.Records.{block_size_lem, root_in_lem, block_room_lem, head-right, right-head, bits_are, record_number, record_bytes_lem}
use Rattle.guarantees.proofs.Marks.{held-marked, none_bad, none-absent, none_needed}
use Rattle.guarantees.proofs.Tables.{rules_ok, ok_rules, listed-words}
use Rattle.guarantees.proofs.Trees.{hash_of, hash_in_lem, symbols-are, right-coded, agrees_with, with_agrees, block-base, base-block, twins_of}
use Rattle.guarantees.proofs.Refusals.{depth-fits, table_long, size_tests, sampled_layer_lem, sampled_number_lem, leads_so, so_leads}

-- ---- a table that was taken

module _ (depth : ℕ) (table : List ℕ) (k : TableTaken depth table) where
  pub rules : TableOk depth (equations_of table)
  rules = accepted-table depth (words_of table) k.accepted

  -- its words are those of its equations
  pub words-listed : words_of table ≡ listed (equations_of table)
  words-listed =
      let r = k.accepted in
      formed-words depth (words_of table) (accepted-formed depth (words_of table) r).1 (accepted-depth depth (words_of table) r).1 ∙ sym (listed-words (equations_of table))

-- ---- writing

-- the tests that a tree that was written has passed
pub record WriterInput (depth : ℕ) (table block t m r : List ℕ) : Type 0 where
  pub taken : TableTaken depth table
  pub block-fits : length block ≤ 256 * k_of (depth - 1)
  pub tree-full : length t ≡ 256 * places tree depth
  pub marks-full : length m ≡ places tree depth
  pub record_full : length r ≡ 556

pub coding : (d : ℕ) (kind : Kind) (table block t m r : List ℕ) → (tree_written d kind table block t m r).answer ≡ Done → WriterInput d table block t m r
coding d kind table block t m r e =
    let a = admission d (write_sized d (length block) (length t) (length m) (length r)) table (write-passed d kind table block t m r e) in
    let (b, v, w, x) = write-sizes d (length block) (length t) (length m) (length r) a.lengths in
    record { taken = a.taken; block-fits = b; tree-full = v; marks-full = w; record_full = x }

pub written_when : (d : ℕ) (kind : Kind) (table block t m r : List ℕ) → WriterInput d table block t m r → (tree_written d kind table block t m r).answer ≡ Done
written_when d kind table block t m r k =
    write-answer d kind table block t m r
    ∙ sym (admits d (write_sized d (length block) (length t) (length m) (length r)) table k.taken
    (yes_and (yes_and (eq-eqb (length t) (256 * places tree d) k.tree-full) (eq-eqb (length m) (places tree d) k.marks-full))
    (yes_and (le-leb (length block) (256 * k_of (d - 1)) k.block-fits) (eq-eqb (length r) 556 k.record_full))))

-- "fills up with zeros", by either definition
pub filled_up_lem : (d : ℕ) (block : List ℕ) → filled_up d block ≡ filled tree d block
unfolding filled k_of
filled_up_lem d block = refl

module _ (depth : ℕ) (kind : Kind) (table block : List ℕ) where
  abbrev tbl : List (List (List ℕ))
  tbl = equations_of table

  abbrev full : List ℕ
  full = filled tree depth block

  module _ (t m r : List ℕ) (e : (tree_written depth kind table block t m r).answer ≡ Done) where
    abbrev new : List ℕ
    new = write_tree tree (symbol_hash kind) tbl full t

    abbrev root : List ℕ
    root = written_root tree (symbol_hash kind) new

    abbrev new_record_lem : List ℕ
    new_record_lem = record_of kind depth (length block) table root

    c : WriterInput depth table block t m r
    c = coding depth kind table block t m r e

    left : tree_written depth kind table block t m r ≡ leaves Done new (written_marks tree depth) new_record_lem
    left = write_done depth kind table block t m r e

    pub tree-left : tree_after depth kind table block t m r ≡ new
    tree-left = ap (λ (w : TreeLeft Answer). w.tree) left

    pub marks-left : marks_after depth kind table block t m r ≡ written_marks tree depth
    marks-left = ap (λ (w : TreeLeft Answer). w.marks) left

    pub record_left : record_after depth kind table block t m r ≡ new_record_lem
    record_left = ap (λ (w : TreeLeft Answer). w.root_record) left

    pub root_left : root_after depth kind table block t m r ≡ root
    unfolding root_in
    root_left = ap root_part record_left ∙ record_root kind depth (length block) table root

    deep : length tbl ≡ depth
    deep = (rules depth table c.taken).depth

    pub fits : TableFits tree tbl
    fits = table_fits depth tbl (depth_is depth c.taken.deep).0 (rules depth table c.taken)

    pub block-length : length full ≡ 256 * k_of (length tbl - 1)
    block-length = length-filled tree depth block c.block-fits ∙ ap (λ (d : ℕ). 256 * k_of (d - 1)) (sym deep)

    pub lent_length : length t ≡ 256 * places tree (length tbl)
    lent_length = c.tree-full ∙ ap (λ (d : ℕ). 256 * places tree d) (sym deep)

    so : Written tree (symbol_hash kind) tbl full new
    so = written tree tree_ok (symbol_hash kind) (length-symbol_hash kind) tbl fits full block-length t lent_length

    new_length : length new ≡ 256 * places tree depth
    new_length = so.sized ∙ ap (λ (d : ℕ). 256 * places tree d) deep

    back : block_of tree depth new ≡ full
    back = ap (λ (d : ℕ). block_of tree d new) (sym deep) ∙ so.block_back

    ok : TableOk depth tbl
    ok = rules depth table c.taken

    agrees_so : AgreesWith (symbol_hash kind) depth tbl root (symbol_at new)
    agrees_so = rw (symbols-are new) (agrees_with kind depth tbl ok root (sym_at tree new) so.agrees)

    block_so : HasBlock depth (symbol_at new) full
    block_so i h =
        symbol_at_lem new (depth - 1) i
        ∙ base-block depth (sym_at tree new) full (λ q l. sym (block-symbol tree depth new q l) ∙ ap (λ (b : List ℕ). symbol_in b q) back) i h

    only_so : (f : ℕ → ℕ → List ℕ) → CorrectlyCoded (symbol_hash kind) depth tbl f → HasBlock depth f full → (j i : ℕ) → j < depth → i < all_symbols j → symbol_at new j i ≡ f j i
    unfolding k_of n_of
    only_so f k b j i hj hi =
        symbol_at_lem new j i
        ∙ so.only f (right-coded kind depth tbl ok f k) (subst (λ (d : ℕ). BaseOf tree d f full) (sym deep) (block-base depth f full b)) j i (omega (arith, deep), hi)

    root_so : (f : ℕ → ℕ → List ℕ) → CorrectlyCoded (symbol_hash kind) depth tbl f → HasBlock depth f full → RootOf (symbol_hash kind) f root
    root_so f k b =
        record {
          full = agrees_so.root_of_lem.full;
          hashes = λ i h. agrees_so.root_of_lem.hashes i h ∙ ap (symbol_hash kind 0 i) (only_so f k b 0 i (depth_is depth c.taken.deep).0 (omega arith));
        }

    -- the record that is written passes 11 and 12, and says what was written
    count_small : length table / 4 < 2 ^ 30
    count_small = omega (arith, (table_long table c.taken.length-fits).not_over)

    pub after-full : length (record_after depth kind table block t m r) ≡ 556
    after-full = rw record_left (record_length kind depth (length block) table root agrees_so.root_of_lem.full)

    pub after-right : head_right depth (record_after depth kind table block t m r) ≡ true
    after-right = rw record_left (record_right kind depth (length block) table root c.taken.deep c.block-fits count_small)

    pub after_names : names_table (record_after depth kind table block t m r) table ≡ true
    after_names = rw record_left (record_names kind depth (length block) table root c.taken.deep c.block-fits count_small)

    pub after-size : size_in (record_after depth kind table block t m r) ≡ length block
    after-size = rw record_left (record_size kind depth (length block) table root c.taken.deep c.block-fits count_small)

    pub after_kind : kind_in (record_after depth kind table block t m r) ≡ kind
    after_kind = rw record_left (record_kind kind depth (length block) table root c.taken.deep c.block-fits count_small)

    pub after-bits : kind_no (record_after depth kind table block t m r) 0 ≡ kind_bits kind
    after-bits = rw record_left (record_number kind depth (length block) table root c.taken.deep c.block-fits count_small) ∙ sym (bits_are kind)

    exactly : Exactly depth kind table block t m r
    exactly =
        record {
          by_rules = ok_rules depth tbl ok;
          table-words = words-listed depth table c.taken;
          block-fits = omega (arith, c.block-fits, block_room_lem depth);
          agrees = rw (tree-left, root_left, hash_of kind) agrees_so;
          has_block = rw (tree-left, filled_up_lem depth block) block_so;
          only = rw (tree-left, filled_up_lem depth block, hash_of kind) only_so;
          only_root = rw (root_left, filled_up_lem depth block, hash_of kind) root_so;
          exact_record = record_left ∙ sym (record_bytes_lem kind depth (length block) table root)
              ∙ ap (λ (k : ℕ). record_bytes k depth (length block) (length (words_of table)) (sha256 table) root) (sym (bits_are kind))
              ∙ ap (record_bytes (kind_bits kind) depth (length block) (length (words_of table)) (sha256 table)) (sym root_left);
          marked = rw marks-left (λ p h. marks-one tree depth p (omega (arith, tree-symbols depth)));
          lengths = rw (tree-left, marks-left)
              (record {
                tree-bytes = new_length ∙ ap (λ (n : ℕ). 256 * n) (sym (tree-symbols depth));
                mark-bytes = marks-length tree depth ∙ sym (tree-symbols depth);
              });
        }

  same_again : (t m r t' m' r' : List ℕ) (e : (tree_written depth kind table block t m r).answer ≡ Done)
      (e' : (tree_written depth kind table block t' m' r').answer ≡ Done)
      → (tree_after depth kind table block t m r ≡ tree_after depth kind table block t' m' r')
      × (marks_after depth kind table block t m r ≡ marks_after depth kind table block t' m' r')
      × (record_after depth kind table block t m r ≡ record_after depth kind table block t' m' r')
  same_again t m r t' m' r' e e' =
      let q : new t m r e ≡ new t' m' r' e' =
      written_same tree tree_ok (symbol_hash kind) (length-symbol_hash kind) tbl (fits t m r e) full t t' (block-length t m r e) (lent_length t m r e)
      (lent_length t' m' r' e') in (
        tree-left t m r e ∙ q ∙ sym (tree-left t' m' r' e'),
        marks-left t m r e ∙ sym (marks-left t' m' r' e'),
        record_left t m r e ∙ ap (λ (w : List ℕ). record_of kind depth (length block) table (written_root tree (symbol_hash kind) w)) q ∙ sym (record_left t' m' r' e'),
      )

-- ---- reading back

-- byte p of the base's data symbols
pub base-byte : (d p : ℕ) (t : List ℕ) → p < 256 * k_of (d - 1) → get_or (block_of tree d t) p 0 ≡ get_or t (block_start d + p) 0
unfolding block_of place
base-byte d p t h =
    let at : 256 * (places tree (d - 1) + 0) + p ≡ block_start d + p = omega (arith, tree-symbols (d - 1)) in
    get_or-take (256 * k_of (d - 1)) (drop (256 * (places tree (d - 1) + 0)) t) p 0 h
    ∙ get_or-drop (256 * (places tree (d - 1) + 0)) t p 0
    ∙ ap (λ (q : ℕ). get_or t q 0) at

-- n bytes of x in front of the rest of b
module _ (n : ℕ) (x b : List ℕ) (h : n ≤ length x) (k : n ≤ length b) where
  front_length : length (take n x ++ drop n b) ≡ length b
  front_length = omega (arith, length-append (take n x) (drop n b), length-take-le n x h, length-drop n b)

  front-byte : (p : ℕ) → p < n → get_or (take n x ++ drop n b) p 0 ≡ get_or x p 0
  front-byte p l = get_or-append (take n x) (drop n b) 0 p (omega (arith, length-take-le n x h)) ∙ get_or-take n x p 0 l

  front_rest : drop n (take n x ++ drop n b) ≡ drop n b
  front_rest = drop_at (take n x) (drop n b) n (length-take-le n x h)

-- a block in front of the rest of b
given_back : (d : ℕ) (r t b block : List ℕ) → size_in r ≡ length block → take (length block) (block_of tree d t) ≡ block → GivesBack block b (block_given d r t b)
given_back d r t b block n e =
    let is : block_given d r t b ≡ block ++ drop (length block) b =
    ap (λ (k : ℕ). take k (block_of tree d t) ++ drop k b) n ∙ ap (λ (l : List ℕ). l ++ drop (length block) b) e in
    record {
      block-is = ap (take (length block)) is ∙ take-append_seam block (drop (length block) b);
      rest-left = ap (drop (length block)) is ∙ drop-append_seam block (drop (length block) b);
    }

-- the tests that a block that was read has passed
pub record Reading (d : ℕ) (r t m b : List ℕ) : Type 0 where
  pub fit_depth : depth_fits d ≡ true
  pub tree-full : length t ≡ 256 * places tree d
  pub block-full : length b ≡ 256 * k_of (d - 1)
  pub head : head_right d r ≡ true
  pub base-held : k_of (d - 1) ≤ lowest_absent d m

pub reading : (d : ℕ) (r t m b : List ℕ) → (block_read d r t m b).answer ≡ Done → Reading d r t m b
reading d r t m b e =
    let q = read-tests d r t m b e in
    let k = read-passed d r (length t) m (length b) q in
    let s = read-sizes d (length r) (length t) (length m) (length b) k.opened-is.lengths in
    let x = (then_done (headed d (read_sized d (length r) (length t) (length m) (length b)) r) (test_marks m then test_base d m) q).1 in
    record {
      fit_depth = k.opened-is.deep;
      tree-full = s.0;
      block-full = s.3;
      head = k.head;
      base-held = base-passed d m (then_done (test_marks m) (test_base d m) x).1;
    }

reads_base : ReadsBase
unfolding k_of
reads_base depth r t m b e =
    let k = reading depth r t m b e in
    let l = ap (λ (w : BlockLeft Answer). w.block) (read_left depth r t m b e) in
    let x : List ℕ = block_of tree depth t in
    let n : ℕ = size_in r in
    let low = lowest-is (absent_at tree m (depth - 1)) 0 (k_of (depth - 1)) in
    let below : n ≤ 256 * k_of (depth - 1) = (head-parts depth r k.head).3 in
    let in_b : n ≤ length b = omega (arith, k.block-full) in
    let in-x : n ≤ length x = omega (arith, length-block tree depth tree_ok t (depth_is depth k.fit_depth).0 k.tree-full) in
    record {
      all_held = λ i h. mark_at_lem m (depth - 1) i ∙ held-marked m (depth - 1) i (low.before i (omega arith) (omega (arith, k.base-held)));
      size_fits = omega (arith, block_size_lem r);
      same_length = rw l (front_length n x b in-x in_b);
      first_ones = λ p h.
          let q : p < n = omega (arith, block_size_lem r) in rw l (front-byte n x b in-x in_b p q ∙ base-byte depth p t (omega arith));
      rest-left = rw (block_size_lem r, l) (front_rest n x b in-x in_b);
    }

module _ (depth : ℕ) (t m : List ℕ) (k : CompleteTree depth t m) where
  fit : depth_fits depth ≡ true
  fit = depth-fits depth k.depth-right

  no_bad : length m ≤ lowest_bad m
  no_bad = none_bad m (λ p h. omega (arith, k.all_held p (omega (arith, k.lengths.mark-bytes))))

  held : (p : ℕ) → p < places tree depth → get_or m p 0 ≡ 1
  held p h = k.all_held p (omega (arith, tree-symbols depth))

  complete-read : (r b : List ℕ) → RecordLength r → head_right depth r ≡ true → BlockLength depth b → (block_read depth r t m b).answer ≡ Done
  unfolding k_of
  complete-read r b full head l =
      read-when depth r t m b fit
      (yes_and (size_tests depth t m k.lengths) (yes_and (eq-eqb (length r) 556 full) (eq-eqb (length b) (256 * k_of (depth - 1)) l))) head no_bad
      (none-absent depth k.depth-right.0 m held)

  complete_sampled : (i : ℕ) (s : List ℕ) → InBase depth i → SampleLength depth s → (sample_taken depth i t m s).answer ≡ Done
  unfolding k_of n_of
  complete_sampled i s h l =
      needs_held depth i t m s fit (yes_and (size_tests depth t m k.lengths) (eq-eqb (length s) (256 * sample_size depth) l)) no_bad h
      ∙ ap needed (none_needed depth k.depth-right.0 m held i (k.depth-right.0, k.depth-right.1, h))

symbol-length : (u : List ℕ) (j i : ℕ) → length (symbol_at u j i) ≡ 256 → length (sym_at tree u j i) ≡ 256
symbol-length u j i e = ap length (sym (symbol_at_lem u j i)) ∙ e

-- two trees that agree with one root are the same, or show a collision
pub one-tree : (kind : Kind) (depth : ℕ) (tbl : List (List (List ℕ))) → TableOk depth tbl → (root u v : List ℕ) → length u ≡ 256 * places tree depth
    → length v ≡ 256 * places tree depth → AgreesWith (symbol_hash kind) depth tbl root (symbol_at u)
    → AgreesWith (symbol_hash kind) depth tbl root (symbol_at v) → (u ≡ v) ⊎ TreesCollide (symbol_hash kind) depth (symbol_at u) (symbol_at v)
unfolding k_of n_of
one-tree kind depth tbl k root u v hu hv au av =
    let d : length tbl ≡ depth = k.depth in
    let far : 256 * places tree depth ≡ 256 * places tree (length tbl) = ap (λ (n : ℕ). 256 * places tree n) (sym d) in
    ⊎_elim inl
    (λ x.
    let j : ℕ = x.layer in
    let i : ℕ = x.number in
    let hj : j < depth = omega (arith, x.inside.0) in
    inr (record {
      layer = j;
      number = i;
      in_tree = (hj, x.inside.1);
      collide = rw (symbol_at_lem u j i, symbol_at_lem v j i)
          (twins_of kind j i (sym_at tree u j i) (sym_at tree v j i) (symbol-length u j i (au.correctly_coded.sized j i hj x.inside.1))
          (symbol-length v j i (av.correctly_coded.sized j i hj x.inside.1)) x.collide);
    }))
    (trees_same tree tree_ok.shape (symbol_hash kind) (length-symbol_hash kind) tbl root u v (hu ∙ far) (hv ∙ far)
    (with_agrees kind depth tbl k root (sym_at tree u) (rw (symbols-are u) at au)) (with_agrees kind depth tbl k root (sym_at tree v) (rw (symbols-are v) at av)))

-- the written tree's block, and a tree that agrees with the record that was written
module _ (depth : ℕ) (kind : Kind) (table block t m r : List ℕ) (e : (tree_written depth kind table block t m r).answer ≡ Done) where
  pub after_block : block_of tree depth (tree_after depth kind table block t m r) ≡ filled tree depth block
  after_block = ap (block_of tree depth) (tree-left depth kind table block t m r e) ∙ back depth kind table block t m r e

  pub after_one : (u : List ℕ) → length u ≡ 256 * places tree depth
      → AgreesWith (hash_by (kind_bits kind)) depth (equations_of table) (root_after depth kind table block t m r) (symbol_at u)
      → (u ≡ tree_after depth kind table block t m r) ⊎ TreesCollide (hash_by (kind_bits kind)) depth (symbol_at u) (symbol_at (tree_after depth kind table block t m r))
  after_one u hu a =
      rw (hash_of kind)
      (one-tree kind depth (equations_of table) (ok depth kind table block t m r e) (root_after depth kind table block t m r) u (tree_after depth kind table block t m r) hu
      (ap length (tree-left depth kind table block t m r e) ∙ new_length depth kind table block t m r e) (rw (hash_of kind) at a) (rw (hash_of kind) at (exactly depth kind table block t m r e).agrees))

reads_written : ReadsWritten
reads_written depth kind table block t m r b e l =
    let x = exactly depth kind table block t m r e in
    let t' : List ℕ = tree_after depth kind table block t m r in
    let m' : List ℕ = marks_after depth kind table block t m r in
    let r' : List ℕ = record_after depth kind table block t m r in
    let done : (block_read depth r' t' m' b).answer ≡ Done =
    complete-read depth t' m' (record { depth-right = depth_is depth (c depth kind table block t m r e).taken.deep; lengths = x.lengths; all_held = x.marked })
    r' b (after-full depth kind table block t m r e) (after-right depth kind table block t m r e) l in
    let is : block_of tree depth t' ≡ filled tree depth block = after_block depth kind table block t m r e in (
      done,
      rw (ap (λ (w : BlockLeft Answer). w.block) (read_left depth r' t' m' b done))
          (given_back depth r' t' b block (after-size depth kind table block t m r e) (ap (take (length block)) is ∙ filled-front tree depth block)),
    )

reads_original : ReadsOriginal
reads_original depth kind table block t m r e u w b q a =
    let r' : List ℕ = record_after depth kind table block t m r in
    ⊎_elim
    (λ s.
    inl (rw (ap (λ (x : BlockLeft Answer). x.block) (read_left depth r' u w b q))
    (given_back depth r' u b block (after-size depth kind table block t m r e)
    (ap (take (length block)) (ap (block_of tree depth) s ∙ after_block depth kind table block t m r e) ∙ filled-front tree depth block))))
    inr (after_one depth kind table block t m r e u (reading depth r' u w b q).tree-full a)

-- the bytes that were read are the first of the tree's block
pub first-bytes : (d : ℕ) (r t m b : List ℕ) → (block_read d r t m b).answer ≡ Done → take (block_size r) (block_after d r t m b) ≡ take (size_in r) (block_of tree d t)
first-bytes d r t m b e =
    let k = reading d r t m b e in
    let x : List ℕ = block_of tree d t in
    let n : ℕ = size_in r in
    let below : n ≤ 256 * k_of (d - 1) = (head-parts d r k.head).3 in
    let in-x : n ≤ length x = omega (arith, length-block tree d tree_ok t (depth_is d k.fit_depth).0 k.tree-full) in
    rw (block_size_lem r, ap (λ (w : BlockLeft Answer). w.block) (read_left d r t m b e)) (take_at (take n x) (drop n b) n (length-take-le n x in-x))

reads_agreed : ReadsAgreed
reads_agreed depth r tbl rule u w b v x c eu ev au av =
    ⊎_elim (λ s. inl (first-bytes depth r u w b eu ∙ ap (λ (l : List ℕ). take (size_in r) (block_of tree depth l)) s ∙ sym (first-bytes depth r v x c ev))) inr
    (rw (hash_in_lem r)
    (one-tree (kind_in r) depth tbl (rules_ok depth tbl rule) (root_part r) u v (reading depth r u w b eu).tree-full (reading depth r v x c ev).tree-full
    (rw (hash_in_lem r) at au) (rw (hash_in_lem r) at av)))

-- ---- samples

done-led : (z : Climb) → led z ≡ Done → z ≡ leads
done-led leads e = refl
done-led (breaks j) e = absurd (omega (arith, ap number_of e))

sample-right : (depth i : ℕ) (r s : List ℕ) → sample_checked depth i r s ≡ Done → SampleRight depth i r s
unfolding sample_checked root_in k_of n_of
sample-right depth i r s e =
    let last : Answer = led (sample_check tree (symbol_hash (kind_in r)) (root_part r) depth i s) in
    let (q, l) = then_done (check_tested depth i r (length s)) last e in
    let (k, b) = check-passed depth i r (length s) q in
    let (full, sized) = check-sizes depth (length r) (length s) k.opened-is.lengths in
    record {
      ready = record {
        depth-right = (k.opened-is.some, k.opened-is.shallow);
        record_length = full;
        sample-length = sized;
        head-right = head-right depth r k.head;
        in_base = b.2;
      };
      all_lead_lem = rw (hash_in_lem r) (leads_so (symbol_hash (kind_in r)) depth i (root_part r) s (accepted-leads tree (symbol_hash (kind_in r)) (root_part r) depth i k.opened-is.some s (done-led (sample_check tree (symbol_hash (kind_in r)) (root_part r) depth i s) l)));
    }

sample-leads : (depth i : ℕ) (r s : List ℕ) → SampleRight depth i r s → sample_check tree (symbol_hash (kind_in r)) (root_part r) depth i s ≡ leads
sample-leads depth i r s k =
    leads-accepted tree (symbol_hash (kind_in r)) (root_part r) depth i k.ready.depth-right.0 s (so_leads (symbol_hash (kind_in r)) depth i (root_part r) s (rw (hash_in_lem r) at k.all_lead_lem))

right-sample : (depth i : ℕ) (r s : List ℕ) → SampleRight depth i r s → sample_checked depth i r s ≡ Done
unfolding root_in k_of n_of
right-sample depth i r s k =
    sym (at_end_lem depth i r s (depth-fits depth k.ready.depth-right)
    (yes_and (eq-eqb (length r) 556 k.ready.record_length) (eq-eqb (length s) (256 * sample_size depth) k.ready.sample-length))
    (right-head depth r k.ready.head-right) k.ready.in_base)
    ∙ ap led (sample-leads depth i r s k)

-- a sample that was taken is of a symbol of the base of a tree of its lengths, at a depth that fits
record Taking (depth i : ℕ) (t m : List ℕ) : Type 0 where
  fit_depth : depth_fits depth ≡ true
  tree-full : length t ≡ 256 * places tree depth
  in_base : i < n_of (depth - 1)

taking : (depth i : ℕ) (t m s : List ℕ) → (sample_taken depth i t m s).answer ≡ Done → Taking depth i t m
taking depth i t m s e =
    let (k, b) = take-passed depth i (length t) m (length s) (take-tests depth i t m s e) in
    record { fit_depth = k.deep; tree-full = (take-sizes depth (length t) (length m) (length s) k.lengths).0; in_base = b.2 }

-- symbol x of a sample, by either numbering
sampled_symbol : (depth i x : ℕ) (f : ℕ → ℕ → List ℕ) → f (sampled_layer depth x) (sampled_number depth i x) ≡ f (sample_layer depth x) (sample_number tree depth i x)
sampled_symbol depth i x f = ap₂ f (sampled_layer_lem depth x) (sampled_number_lem depth i x)

takes_exactly : TakesExactly
unfolding sample_bytes symbol_in bytes_from
takes_exactly depth i t m s e =
    let k = taking depth i t m s e in
    let l = ap (λ (w : SampleLeft Answer). w.sample) (take_left depth i t m s e) in
    let base : BaseSymbol depth i = ((depth_is depth k.fit_depth).0, (depth_is depth k.fit_depth).1, k.in_base) in
    let g : ℕ → List ℕ = λ x. sym_at tree t (sample_layer depth x) (sample_number tree depth i x) in
    let full : (x : ℕ) → x < sample_size depth → length (g x) ≡ 256 =
    λ x h. sym_at-length tree t (sample_layer depth x) (sample_number tree depth i x) (omega (arith, sample-place_lt depth i x base h, k.tree-full)) in
    let from_zero : (x : ℕ) → x < sample_size depth → length (g (0 + x)) ≡ 256 = λ x h. ap (λ (y : ℕ). length (g y)) (zero-add x) ∙ full x h in (
      rw l (joined_length g 256 (sample_size depth) 0 from_zero),
      λ x h.
          rw l
          (joined_piece g 256 (sample_size depth) 0 x h from_zero ∙ ap g (zero-add x) ∙ sym (symbol_at_lem t (sample_layer depth x) (sample_number tree depth i x))
          ∙ sym (sampled_symbol depth i x (symbol_at t))),
    )

module _ (kind : Kind) (depth i : ℕ) (root : List ℕ) (tb : List (List (List ℕ))) (keeps : TableOk depth tb) (f : ℕ → ℕ → List ℕ) (agr : Agrees tree (symbol_hash kind) tb root f)
    (fit : depth_fits depth ≡ true) (hi : i < n_of (depth - 1)) where
  layered : length tb ≡ depth
  layered = keeps.depth

  some : 1 ≤ length tb
  some = omega (arith, layered, (depth_is depth fit).0)

  inside : i < n_of (length tb - 1)
  inside = subst (λ (d : ℕ). i < n_of (d - 1)) (sym layered) hi

  taken_good : (r : List ℕ) → RecordLength r → head_right depth r ≡ true → root_in r ≡ root → kind_in r ≡ kind → sample_checked depth i r (sample_bytes tree f depth i) ≡ Done
  taken_good r full head is kind-so =
      sym (at_end_lem depth i r (sample_bytes tree f depth i) fit
      (yes_and (eq-eqb (length r) 556 full)
      (eq-eqb (length (sample_bytes tree f depth i)) (256 * sample_size depth)
      (subst (λ (d : ℕ). length (sample_bytes tree f d i) ≡ 256 * sample_size d) layered
      (taken-length tree tree_ok (symbol_hash kind) (length-symbol_hash kind) tb some root f agr i inside)))) head hi)
      ∙ ap led
      (ap₂ (λ (x : List ℕ) (k : Kind). sample_check tree (symbol_hash k) x depth i (sample_bytes tree f depth i)) is kind-so
      ∙ subst (λ (d : ℕ). sample_check tree (symbol_hash kind) root d i (sample_bytes tree f d i) ≡ leads) layered
      (taken-accepted tree tree_ok (symbol_hash kind) (length-symbol_hash kind) tb some root f agr i inside))

  accepted_good : (s : List ℕ) → sample_check tree (symbol_hash kind) root depth i s ≡ leads → SampleTrue tree f depth i s ⊎ SampleCollision tree (symbol_hash kind) f depth i s
  accepted_good s e =
      subst (λ (d : ℕ). SampleTrue tree f d i s ⊎ SampleCollision tree (symbol_hash kind) f d i s) layered
      (accepted_true tree tree_ok (symbol_hash kind) (length-symbol_hash kind) tb some root f agr i inside s
      (subst (λ (d : ℕ). sample_check tree (symbol_hash kind) root d i s ≡ leads) (sym layered) e))

accepts-taken : AcceptsTaken
accepts-taken depth i r t m s tbl full head rule a e =
    let k = taking depth i t m s e in
    let keeps = rules_ok depth tbl rule in
    rw (ap (λ (w : SampleLeft Answer). w.sample) (take_left depth i t m s e))
    (taken_good (kind_in r) depth i (root_part r) tbl keeps (sym_at tree t) (with_agrees (kind_in r) depth tbl keeps (root_part r) (sym_at tree t) (rw (symbols-are t, hash_in_lem r) at a)) k.fit_depth
    k.in_base r full (right-head depth r head) (sym (root_in_lem r)) refl)

accepted-is_true : AcceptedIsTrue
unfolding k_of n_of symbol_in bytes_from
accepted-is_true depth i r s tbl rule e f a =
    let z = sample-right depth i r s e in
    let k = z.ready in
    let keeps = rules_ok depth tbl rule in
    let base : BaseSymbol depth i = (k.depth-right.0, k.depth-right.1, k.in_base) in
    ⊎_elim (λ same. inl (λ x h. same x h ∙ sym (sampled_symbol depth i x f)))
    (λ x.
    let y : ℕ = x.index in
    let l : ℕ = sample_layer depth y in
    let n : ℕ = sample_number tree depth i y in
    let there = in_tree depth i y l n base x.inside refl refl in
    inr (record {
      index = y;
      inside = x.inside;
      collide = rw (hash_in_lem r, sampled_layer_lem depth y, sampled_number_lem depth i y)
          (twins_of (kind_in r) l n (symbol_in s y) (f l n)
          (omega (arith, length-take 256 (drop (256 * y) s), length-drop (256 * y) s, k.sample-length, x.inside))
          (a.correctly_coded.sized l n there.0 there.1) x.collide);
    }))
    (accepted_good (kind_in r) depth i (root_part r) tbl keeps f (with_agrees (kind_in r) depth tbl keeps (root_part r) f (rw (hash_in_lem r) at a)) (depth-fits depth k.depth-right) k.in_base s
    (sample-leads depth i r s z))

-- ---- the demand

pub demand_2 : Demand2
demand_2 =
    record {
      writes_exactly = λ depth kind table block t m r e. exactly depth kind table block t m r e;
      writes_the_same = λ depth kind table block t m r t' m' r' e e'. same_again depth kind table block t m r t' m' r' e e';
      reads_complete = λ depth r t m b k full head. complete-read depth t m k r b full (right-head depth r head);
      reads_base = reads_base;
      reads_written = reads_written;
      reads_original = reads_original;
      reads_agreed = reads_agreed;
      accepts_just_when = λ depth i r s. (sample-right depth i r s, right-sample depth i r s);
      takes-complete = λ depth i t m s k. complete_sampled depth t m k i s;
      takes_exactly = takes_exactly;
      accepts-taken = accepts-taken;
      accepted-is_true = accepted-is_true;
    }
