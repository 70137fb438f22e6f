-- Cases 4, 5 and 6 of 01, and case 4 ending with 13. Hashing is not computed: where a symbol's bytes are those that were coded, its hash is the committed one, whatever
-- the hash; so the repair of layer 0 runs with a test that compares bytes first.
use mathlib.Core.Path.{◌≡◌, refl, sym, ap, ◌∙◌, subst, fun_ext, ap₂}
use mathlib.Core.Bool.{Bool, true, false, not, ◌&&◌}
use mathlib.Core.List.{List, [], ◌∷◌, ◌++◌}
use Prim.Native.Nat.{ℕ, zero, suc, ◌+◌, ◌-◌, ◌*◌, ◌/◌, ◌^◌, ◌≤◌, ◌<◌}
use native.Mathlib.Omega.{arith}
use lib.ListN.{length, get_or, set, replicate, length-set}
use lib.Dec.{ltb, eqb}
use borrow.Author.Tests.{ltb-true, eq-eqb}
use Rattle.octets.specs.BigEndian.{be, word_at, words, bytes_of}
use Rattle.octets.specs.Choice.{pick}
use Rattle.octets.specs.ByteLists.{same, xors}
use Rattle.octets.proofs.Choice.{and_yes, yes_and}
use Rattle.parity_table.specs.Shape.{depth_fits, k_of, n_of}
use Rattle.parity_table.specs.Members.{every, last_of}
use Rattle.parity_table.specs.Table.{layer_of, equation_of, equations_words, layers_words, table_words}
use Rattle.table_bytes.specs.Bytes.{words_of}
use Rattle.parity_table.specs.Parse.{add_word, parts_of, table_of}
use Rattle.house_table.specs.House.{house_equation, house_equations, house_layers, house_table, house_words}
use Rattle.symbol_hash.specs.SymbolHash.{symbol_hash}
use Rattle.symbol_hash.specs.declared.Kind.{Kind}
use Rattle.symbol_hash.proofs.Laws.{length-symbol_hash}
use Rattle.model.specs.Shape.{tree, place, places}
use Rattle.model.specs.Symbols.{symbol_in, zeros, xor_of, others, count, first_of, lowest, slot, committed, sym_at, put_at}
use Rattle.model.specs.Coded.{Agrees}
use Rattle.model.specs.Writer.{parities, code, block_of, zero_filled, write_tree}
use Rattle.model.specs.Fault.{proof_bytes}
use Rattle.model.specs.Repair.{End, working, whole, unavailable, going, St, use_eq, write_fault, write_twins, fresh, end_as, finish, absent_at, store_sym, erase_sym, rest_of, gaps_left, settle, fits_at, sweep_at, sweep, form, refute, act, takeable, lowest_eq, step, peel, enter, layer, layers, repair}
use Rattle.octets.proofs.SameLaws.{same_yes, yes_same}
use Rattle.model.proofs.Shapes.{tree_ok}
use Rattle.model.proofs.Binding.{hashes}
use Rattle.model.proofs.Filling.{filled-whole, full-filled}
use Rattle.sha256.specs.Hash.{sha256}
use Rattle.root_record.specs.Records.{kind_number, record_of, kind_in, size_in, root_in, head_right, names_table}
use Rattle.root_record.proofs.RecordLaws.{record_length, record_kind as of-kind, record_root, record_size, record_right as of_right, record_names as of-names}
use Rattle.calls.specs.Stops.{Answer}
use Rattle.calls.specs.Stops.{Done}
use Rattle.calls.specs.Marks.{is_bad, lowest_bad}
use Rattle.volume_calls.specs.Writing.{write_sized, tree_written}
use Rattle.fault_calls.specs.Repairing.{Result, ended, misfilled, RepairLeft, leaves, repair_sized, ended_by, repair_tested, repair_of, repaired_by, repaired}
use Rattle.calls.specs.Tests.{◌then◌}
use Rattle.calls.proofs.TestLaws.{marks-right}
use Rattle.calls.proofs.AdmissionLaws.{TableTaken, admits}
use Rattle.calls.proofs.Taken.{house-taken}
use Rattle.calls.proofs.RecordLaws.{admits_by}
use Rattle.volume_calls.proofs.WritingLaws.{answer-is}
use Rattle.fault_calls.proofs.RepairingLaws.{misfills, ends_so}
use Rattle.guarantees.specs.Terms.{equations_of}
use Rattle.guarantees.specs.Layouts.{symbol_at, record_bytes, root_part}
use Rattle.guarantees.specs.Trees.{Hasher, AgreesWith}
use Rattle.guarantees.specs.Demand2.{Exactly}
use Rattle.guarantees.specs.Cases.{block, house_bytes, coded, coded_record, marks_but, tree_but, left, entered, turn, Gives, Turns, Leaves, record_saying, Misfills}
use Rattle.guarantees.proofs.Records.{root_in_lem, bits_are, head_bytes}
use Rattle.guarantees.proofs.Tables.{rules_ok}
use Rattle.guarantees.proofs.Trees.{hash_of, symbols-are, with_agrees}
use Rattle.guarantees.proofs.Demand2.{tree-left, record_left, after-full, after-right, after_names, after-size, demand_2}

-- ---- what is coded, whatever the volume's kind

-- the first byte of each symbol, as the program `listing` prints them
abbrev pub first_bytes : List ℕ
first_bytes =
    0x01 ∷ 0x02 ∷ 0x04 ∷ 0x08 ∷ 0x03 ∷ 0x05 ∷ 0x09 ∷ 0x00 ∷ 0x05 ∷ 0x0F ∷ 0x0A ∷ 0x00 ∷ 0x09 ∷ 0x0A ∷ 0x0C ∷ 0x00 ∷ []

-- n symbols from number i on, each all of its first byte
abbrev pub symbols_from : ℕ → ℕ → List ℕ
symbols_from i zero = []
symbols_from i (suc n) = replicate 256 (get_or first_bytes i 0) ++ symbols_from (suc i) n

abbrev pub listed : List ℕ
listed = symbols_from 0 16

-- the table that its bytes say
said : equations_of house_bytes ≡ house_table 1
unfolding house_bytes house_words table_words layers_words equations_words table_of parts_of add_word words_of words word_at bytes_of be pick house_table house_layers house_equations house_equation k_of
said = refl

taken : TableTaken 1 house_bytes
unfolding house_bytes depth_fits
taken = house-taken 1 refl

-- the house table has 61 words
house-count : 61 ≡ length house_bytes / 4
unfolding house_bytes house_words table_words layers_words equations_words bytes_of be house_table house_layers house_equations house_equation k_of
house-count = refl

few : length house_bytes / 4 < 2 ^ 30
few = omega (arith, house-count)

-- the block fills the base
block-whole : length block ≡ 256 * k_of 0
unfolding block k_of
block-whole = refl

-- the buffers that the writer is lent
abbrev lent : ℕ → List ℕ
lent n = replicate n 0

marks-length : (xs : List ℕ) → length (marks_but xs) ≡ 16
unfolding marks_but
marks-length [] = refl
marks-length (x ∷ xs) = length-set (marks_but xs) x 0 ∙ marks-length xs

-- byte 1,023 of the tree's block isn't zero
not_blank : zero_filled tree 1 1023 listed ≡ false
unfolding zero_filled block_of every place places k_of n_of
not_blank = refl

-- ---- the repair of layer 0, with any test of a symbol of a number

module _ (fits : ℕ → List ℕ → Bool) where
  abbrev sweep_at_by : ℕ → St → St
  sweep_at_by i st = pick (not (absent_at tree st.marks 0 i) && fits i (sym_at tree st.tree 0 i)) st (erase_sym tree 0 i st)

  abbrev sweep_by : ℕ → ℕ → St → St
  sweep_by i zero st = st
  sweep_by i (suc n) st = sweep_by (suc i) n (sweep_at_by i st)

  abbrev form_by : ℕ → List ℕ → ℕ → List ℕ → St → St
  form_by e ms x v st = pick (fits x v) (store_sym tree 0 e x v st) (write_fault 0 e x (proof_bytes tree (sym_at tree st.tree) 0 e x ms) st)

  abbrev refute_by : ℕ → List ℕ → ℕ → List ℕ → St → St
  refute_by e ms x v st =
      pick (fits x v) (write_twins 0 x (sym_at tree st.tree 0 x) v st) (write_fault 0 e x (proof_bytes tree (sym_at tree st.tree) 0 e x ms) st)

  abbrev act_by : ℕ → List ℕ → St → St
  act_by e ms st =
      pick (eqb (count (absent_at tree st.marks 0) ms) 0)
      (pick (same (xor_of (sym_at tree st.tree 0) ms) zeros) (use_eq e st) (refute_by e ms (last_of ms 0) (rest_of tree 0 ms (last_of ms 0) st) st))
      (form_by e ms (first_of (absent_at tree st.marks 0) ms) (rest_of tree 0 ms (first_of (absent_at tree st.marks 0) ms) st) st)

  abbrev step_by : St → St
  step_by st =
      pick (going st.end && ltb (lowest_eq tree (house_table 1) 0 st) (length (layer_of (house_table 1) 0)))
      (act_by (lowest_eq tree (house_table 1) 0 st) (equation_of (house_table 1) 0 (lowest_eq tree (house_table 1) 0 st)) st) st

  abbrev peel_by : ℕ → St → St
  peel_by zero st = st
  peel_by (suc n) st = peel_by n (step_by st)

  abbrev enter_by : St → St
  enter_by st = sweep_by 0 (n_of 0) (fresh 0 (length (layer_of (house_table 1) 0)) st)

  abbrev repair_by : St → St
  repair_by st = finish (settle tree 0 (peel_by (length (layer_of (house_table 1) 0)) (enter_by st)))

abbrev start : List ℕ → List ℕ → List ℕ → St
start t m o = record { tree = t; marks = m; out = o; used = []; stored = 0; entered = 0; end = working }

-- ---- bytes first

-- x is the coded symbol i
abbrev is_coded : ℕ → List ℕ → Bool
is_coded i x = ltb i 16 && same x (sym_at tree listed 0 i)

abbrev bytes_first : (ℕ → List ℕ → Bool) → ℕ → List ℕ → Bool
bytes_first fits i x = elim (is_coded i x) [ true ↦ true | false ↦ fits i x ]

-- ---- the repairs, computed for any test

-- the coded tree with zeros for the listed symbols
abbrev listed_but : List ℕ → List ℕ
listed_but [] = listed
listed_but (x ∷ xs) = put_at tree (listed_but xs) 0 x zeros

-- layer 0 entered, these symbols missing and n stored; these equations used
abbrev at : List ℕ → List ℕ → ℕ → End → List ℕ → St
at missing us n z o = record { tree = listed_but missing; marks = marks_but missing; out = o; used = us; stored = n; entered = 1; end = z }

-- the sets of symbols of cases 4, 5 and 6
abbrev pub two : List ℕ
two = 0 ∷ 1 ∷ []

abbrev pub eight : List ℕ
eight = 0 ∷ 4 ∷ 5 ∷ 6 ∷ 8 ∷ 9 ∷ 12 ∷ 15 ∷ []

abbrev pub seven : List ℕ
seven = 0 ∷ 4 ∷ 5 ∷ 6 ∷ 8 ∷ 9 ∷ 12 ∷ []

abbrev pub sixteen : List ℕ
sixteen = 0 ∷ 1 ∷ 2 ∷ 3 ∷ 4 ∷ 5 ∷ 6 ∷ 7 ∷ 8 ∷ 9 ∷ 10 ∷ 11 ∷ 12 ∷ 13 ∷ 14 ∷ 15 ∷ []

-- how the repair of case 4 stands before its first turn, and after each of two
abbrev begun : List ℕ → St
begun o = at two (replicate 12 0) 0 working o

abbrev once : List ℕ → St
once o = at (0 ∷ []) (set (replicate 12 0) 1 1) 1 working o

abbrev twice : List ℕ → St
twice o = at [] (set (set (replicate 12 0) 1 1) 0 1) 2 working o

-- a turn takes equation e, which gives symbol x
record Taken (fits : ℕ → List ℕ → Bool) (e x : ℕ) (st st' : St) : Type 0 where
  goes : step_by fits st ≡ st'
  takes : lowest_eq tree (house_table 1) 0 st ≡ e
  was_absent : absent_at tree st.marks 0 x ≡ true
  now-held : absent_at tree st'.marks 0 x ≡ false
  symbol : sym_at tree st'.tree 0 x ≡ sym_at tree listed 0 x
  counted : st'.stored ≡ suc st.stored

-- the repair with these symbols absent comes to this; none of its sixteen marks is bad
abbrev Comes : (ℕ → List ℕ → Bool) → List ℕ → List ℕ → St → Type 0
Comes fits o absent st = (repair_by fits (start listed (marks_but absent) o) ≡ st) × (lowest_bad (marks_but absent) ≡ 16)

record Computed (fits : ℕ → List ℕ → Bool) (o : List ℕ) : Type 0 where
  enters : enter_by fits (start listed (marks_but two) o) ≡ begun o
  first-turn : Taken fits 1 1 (begun o) (once o)
  second-turn : Taken fits 0 0 (once o) (twice o)
  two-absent : Comes fits o two (at [] (replicate 12 1) 2 whole o)
  eight-absent : Comes fits o eight (at seven (0 ∷ 0 ∷ 0 ∷ 0 ∷ 0 ∷ 0 ∷ 0 ∷ 1 ∷ 0 ∷ 0 ∷ 1 ∷ 1 ∷ []) 1 (unavailable 0) o)
  all-absent : Comes fits o sixteen (at sixteen (replicate 12 0) 0 (unavailable 0) o)

computed : (fits : ℕ → List ℕ → Bool) (o : List ℕ) → Computed (bytes_first fits) o
unfolding use_eq fresh finish end_as absent_at store_sym erase_sym rest_of gaps_left settle going takeable lowest_eq put_at sym_at symbol_in place places xor_of xors zeros others count first_of lowest same pick last_of house_table house_layers house_equations house_equation layer_of equation_of k_of n_of marks_but is_bad
computed fits o =
    record {
      enters = refl;
      first-turn = record { goes = refl; takes = refl; was_absent = refl; now-held = refl; symbol = refl; counted = refl };
      second-turn = record { goes = refl; takes = refl; was_absent = refl; now-held = refl; symbol = refl; counted = refl };
      two-absent = (refl, refl);
      eight-absent = (refl, refl);
      all-absent = (refl, refl);
    }

-- ---- a volume of this kind

module _ (kind : Kind) where
  -- the call of the writer is done
  written-done : (tree_written 1 kind house_bytes block (lent 4096) (lent 16) (lent 556)).answer ≡ Done
  unfolding depth_fits block k_of n_of places
  written-done =
      answer-is 1 kind house_bytes block (lent 4096) (lent 16) (lent 556)
      ∙ sym (admits 1 (write_sized 1 (length block) (length (lent 4096)) (length (lent 16)) (length (lent 556))) house_bytes taken refl)

  abbrev exact : Exactly 1 kind house_bytes block (lent 4096) (lent 16) (lent 556)
  exact = demand_2.writes_exactly 1 kind house_bytes block (lent 4096) (lent 16) (lent 556) written-done

  written_listed : write_tree tree (symbol_hash kind) (house_table 1) block (lent 4096) ≡ listed
  unfolding block write_tree code parities put_at sym_at symbol_in place places xor_of xors zeros others pick house_table house_layers house_equations house_equation layer_of k_of n_of
  written_listed = refl

  pub coded-is : coded kind ≡ listed
  unfolding coded
  coded-is =
      tree-left 1 kind house_bytes block (lent 4096) (lent 16) (lent 556) written-done
      ∙ ap₂ (λ (tbl : List (List (List ℕ))) (b : List ℕ). write_tree tree (symbol_hash kind) tbl b (lent 4096)) said (filled-whole tree 1 block block-whole)
      ∙ written_listed

  -- the record's parts
  abbrev coded_root : List ℕ
  coded_root = root_part (coded_record kind)

  record_full : length (coded_record kind) ≡ 556
  unfolding coded_record
  record_full = after-full 1 kind house_bytes block (lent 4096) (lent 16) (lent 556) written-done

  record_right : head_right 1 (coded_record kind) ≡ true
  unfolding coded_record
  record_right = after-right 1 kind house_bytes block (lent 4096) (lent 16) (lent 556) written-done

  record_kind : kind_in (coded_record kind) ≡ kind
  unfolding coded_record
  record_kind =
      ap kind_in (record_left 1 kind house_bytes block (lent 4096) (lent 16) (lent 556) written-done)
      ∙ of-kind kind 1 (length block) house_bytes _ taken.deep (omega (arith, block-whole)) few

  record_names : names_table (coded_record kind) house_bytes ≡ true
  unfolding coded_record
  record_names = after_names 1 kind house_bytes block (lent 4096) (lent 16) (lent 556) written-done

  -- there is no filling
  no_filling : (t : List ℕ) → zero_filled tree 1 (size_in (coded_record kind)) t ≡ true
  unfolding coded_record
  no_filling t =
      ap (λ (n : ℕ). zero_filled tree 1 n t) (after-size 1 kind house_bytes block (lent 4096) (lent 16) (lent 556) written-done ∙ block-whole)
      ∙ full-filled tree 1 t

  -- the coded tree agrees with its root
  coded-agrees : Agrees tree (symbol_hash kind) (house_table 1) coded_root (sym_at tree (coded kind))
  unfolding coded coded_record
  coded-agrees =
      let tbl : List (List (List ℕ)) = equations_of house_bytes in
      let agrees : AgreesWith (symbol_hash kind) 1 tbl coded_root (symbol_at (coded kind)) =
      subst (λ (H : Hasher). AgreesWith H 1 tbl coded_root (symbol_at (coded kind))) (hash_of kind) exact.agrees in
      subst (λ (l : List (List (List ℕ))). Agrees tree (symbol_hash kind) l coded_root (sym_at tree (coded kind))) said
      (with_agrees kind 1 tbl (rules_ok 1 tbl exact.by_rules) coded_root (sym_at tree (coded kind))
      (subst (AgreesWith (symbol_hash kind) 1 tbl coded_root) (symbols-are (coded kind)) agrees))

  -- the test of the definition: the symbol's hash is the one that the root has for it
  abbrev fits_root : ℕ → List ℕ → Bool
  fits_root i x = same (symbol_hash kind 0 i x) (slot coded_root i)

  sweep_by_lem : (n i : ℕ) (st : St) → sweep tree (symbol_hash kind) coded_root 0 i n st ≡ sweep_by fits_root i n st
  unfolding sweep sweep_at fits_at committed
  sweep_by_lem zero i st = refl
  sweep_by_lem (suc n) i st = sweep_by_lem n (suc i) (sweep_at tree (symbol_hash kind) coded_root 0 i st)

  step_by_lem : (st : St) → step tree (symbol_hash kind) coded_root (house_table 1) 0 st ≡ step_by fits_root st
  unfolding step act form refute fits_at committed
  step_by_lem st = refl

  peel_by_lem : (n : ℕ) (st : St) → peel tree (symbol_hash kind) coded_root (house_table 1) 0 n st ≡ peel_by fits_root n st
  unfolding peel
  peel_by_lem zero st = refl
  peel_by_lem (suc n) st = peel_by_lem n (step tree (symbol_hash kind) coded_root (house_table 1) 0 st) ∙ ap (peel_by fits_root n) (step_by_lem st)

  enter_by_lem : (st : St) → enter tree (symbol_hash kind) coded_root (house_table 1) 0 st ≡ enter_by fits_root st
  unfolding enter
  enter_by_lem st = sweep_by_lem (n_of 0) 0 (fresh 0 (length (layer_of (house_table 1) 0)) st)

  repair_by_lem : (t m o : List ℕ) → repair tree (symbol_hash kind) coded_root (house_table 1) t m o ≡ repair_by fits_root (start t m o)
  unfolding repair layers layer going pick house_table house_layers
  repair_by_lem t m o =
      ap (λ (st : St). finish (settle tree 0 st))
      (peel_by_lem (length (layer_of (house_table 1) 0)) (enter tree (symbol_hash kind) coded_root (house_table 1) 0 (start t m o))
      ∙ ap (peel_by fits_root (length (layer_of (house_table 1) 0))) (enter_by_lem (start t m o)))

  -- a coded symbol has the committed hash
  coded-fits : (i : ℕ) (x : List ℕ) → is_coded i x ≡ true → fits_root i x ≡ true
  unfolding committed k_of n_of house_table house_layers
  coded-fits i x e =
      let (a, b) = and_yes (ltb i 16) (same x (sym_at tree listed 0 i)) e in
      let q : x ≡ sym_at tree (coded kind) 0 i = same_yes x (sym_at tree listed 0 i) b ∙ ap (λ (t : List ℕ). sym_at tree t 0 i) (sym coded-is) in
      yes_same
      (ap (symbol_hash kind 0 i) q
      ∙ hashes tree tree_ok.shape (symbol_hash kind) (length-symbol_hash kind) (house_table 1) coded_root (sym_at tree (coded kind)) coded-agrees 0 i (omega arith, ltb-true i 16 a))

  bytes_first_fits : bytes_first fits_root ≡ fits_root
  bytes_first_fits = fun_ext λ i. fun_ext λ x. go i x (is_coded i x) refl
    where
      go : (i : ℕ) (x : List ℕ) (c : Bool) → is_coded i x ≡ c → bytes_first fits_root i x ≡ fits_root i x
      go i x true e = rw (e, bytes_first) (sym (coded-fits i x e))
      go i x false e = rw (e, bytes_first) refl

  -- so the repairs are computed with the definition's test
  computed_root : (o : List ℕ) → Computed fits_root o
  computed_root o = subst (λ (f : ℕ → List ℕ → Bool). Computed f o) bytes_first_fits (computed fits_root o)

  -- ---- the ends

  -- zeros for the same symbols
  but_is : (xs : List ℕ) → listed_but xs ≡ tree_but kind xs
  unfolding tree_but
  but_is [] = sym coded-is
  but_is (x ∷ xs) = ap (λ (t : List ℕ). put_at tree t 0 x zeros) (but_is xs)

  -- a record with the coded tree's root, which the calls take with the house table
  record Serves (r : List ℕ) : Type 0 where
    full : length r ≡ 556
    right : head_right 1 r ≡ true
    kind_is : kind_in r ≡ kind
    names : names_table r house_bytes ≡ true
    root_is : root_in r ≡ coded_root

  module _ (r : List ℕ) (k : Serves r) (absent : List ℕ) (o : List ℕ) (room : length o ≡ 12 + 256 * (8 * 1 - 1)) (marks : lowest_bad (marks_but absent) ≡ 16) where
    -- the call is done
    tested_so : repair_tested 1 r house_bytes (coded kind) (marks_but absent) o ≡ Done
    unfolding repair_tested coded depth_fits places k_of n_of
    tested_so =
        let own : Bool = repair_sized 1 (length r) (length (coded kind)) (length (marks_but absent)) (length o) in
        let sized : own ≡ true =
        yes_and (yes_and (eq-eqb _ _ exact.lengths.tree-bytes) (eq-eqb _ _ (marks-length absent)))
        (yes_and (eq-eqb _ _ k.full) (eq-eqb _ _ room)) in
        sym (ap₂ (λ (x y : Answer). x then y)
        (admits_by 1 own r house_bytes (record { lengths = sized; head = k.right; taken = taken; named = k.names }))
        (marks-right (marks_but absent) (omega (arith, marks, marks-length absent))))

    module _ (missing us : List ℕ) (n : ℕ) (z : End) (comes : repair_by fits_root (start listed (marks_but absent) o) ≡ at missing us n z o) where
      steps-are : repair_of r house_bytes (coded kind) (marks_but absent) o ≡ at missing us n z o
      unfolding repair_of
      steps-are =
          ap₂ (λ (root : List ℕ) (tbl : List (List (List ℕ))). repair tree (symbol_hash (kind_in r)) root tbl (coded kind) (marks_but absent) o) k.root_is said
          ∙ ap₂ (λ (h : Kind) (t : List ℕ). repair tree (symbol_hash h) coded_root (house_table 1) t (marks_but absent) o) k.kind_is coded-is
          ∙ repair_by_lem listed (marks_but absent) o
          ∙ comes

      left_so : (x : Result) → x ≡ ended_by (zero_filled tree 1 (size_in r) (listed_but missing)) n z
          → repaired 1 r house_bytes (coded kind) (marks_but absent) o ≡ leaves x (tree_but kind missing) (marks_but missing) o
      unfolding repaired
      left_so x e =
          ap (λ (a : Answer). repaired_by a 1 (size_in r) (repair_of r house_bytes (coded kind) (marks_but absent) o) (coded kind) (marks_but absent) o) tested_so
          ∙ ap (λ (st : St). leaves (ended_by (zero_filled tree 1 (size_in r) st.tree) st.stored st.end) st.tree st.marks st.out) steps-are
          ∙ ap₂ (λ (y : Result) (t : List ℕ). leaves y t (marks_but missing) o) (sym e) (but_is missing)

  -- by the record that was written
  coded_serves : Serves (coded_record kind)
  coded_serves =
      record { full = record_full; right = record_right; kind_is = record_kind; names = record_names; root_is = sym (root_in_lem (coded_record kind)) }

  leaves_so : (absent o : List ℕ) → length o ≡ 12 + 256 * (8 * 1 - 1) → (missing us : List ℕ) (n : ℕ) (z : End) → Comes fits_root o absent (at missing us n z o)
      → Leaves kind absent z missing n o
  unfolding left
  leaves_so absent o room missing us n z (comes, marks) =
      let q = left_so (coded_record kind) coded_serves absent o room marks missing us n z comes (ended n z)
      (ends_so (zero_filled tree 1 (size_in (coded_record kind)) (listed_but missing)) n z (λ y. no_filling (listed_but missing))) in
      record {
        reports = ap (λ (x : RepairLeft Result). x.answer) q;
        marks-are = ap (λ (x : RepairLeft Result). x.marks) q;
        tree_is = ap (λ (x : RepairLeft Result). x.tree) q;
        out-untouched = ap (λ (x : RepairLeft Result). x.out) q;
      }

  -- ---- a record that says another length

  module _ (size : ℕ) (h : size ≤ 256 * k_of 0) where
    abbrev other : List ℕ
    other = record_of kind 1 size house_bytes coded_root

    saying_is : record_saying kind size ≡ other
    unfolding record_saying record_of
    saying_is =
        ap₂ (λ (k c : ℕ). record_bytes k 1 size c (sha256 house_bytes) coded_root) (bits_are kind) house-count
        ∙ head_bytes (kind_number kind) 1 size (length house_bytes / 4) (sha256 house_bytes) coded_root

    saying_size : size_in (record_saying kind size) ≡ size
    saying_size = rw saying_is (record_size kind 1 size house_bytes coded_root taken.deep h few)

    saying_serves : Serves (record_saying kind size)
    unfolding coded_record
    saying_serves =
        rw saying_is
        (record {
          full = record_length kind 1 size house_bytes coded_root exact.agrees.root_of_lem.full;
          right = of_right kind 1 size house_bytes coded_root taken.deep h few;
          kind_is = of-kind kind 1 size house_bytes coded_root taken.deep h few;
          names = of-names kind 1 size house_bytes coded_root taken.deep h few;
          root_is = record_root kind 1 size house_bytes coded_root;
        })

  -- ---- the turns

  turn_is : (e x : ℕ) (st st' : St) → Taken fits_root e x st st' → turn kind st ≡ st'
  unfolding turn
  turn_is e x st st' k = ap (λ (tbl : List (List (List ℕ))). step tree (symbol_hash kind) coded_root tbl 0 st) said ∙ step_by_lem st ∙ k.goes

  gives : (e x : ℕ) (st st' : St) → Taken fits_root e x st st' → Gives kind e x st
  gives e x st st' k =
      let q = turn_is e x st st' k in
      record {
        takes = ap (λ (tbl : List (List (List ℕ))). lowest_eq tree tbl 0 st) said ∙ k.takes;
        was_absent = k.was_absent;
        now-held = ap (λ (s : St). absent_at tree s.marks 0 x) q ∙ k.now-held;
        symbol = ap (λ (s : St). sym_at tree s.tree 0 x) q ∙ k.symbol ∙ ap (λ (t : List ℕ). sym_at tree t 0 x) (sym coded-is);
        counted = ap (λ (s : St). s.stored) q ∙ k.counted;
      }

  entered-is : (o : List ℕ) → entered kind two o ≡ begun o
  unfolding entered
  entered-is o =
      ap (λ (tbl : List (List (List ℕ))). enter tree (symbol_hash kind) coded_root tbl 0 (start (coded kind) (marks_but two) o)) said
      ∙ ap (λ (t : List ℕ). enter tree (symbol_hash kind) coded_root (house_table 1) 0 (start t (marks_but two) o)) coded-is
      ∙ enter_by_lem (start listed (marks_but two) o)
      ∙ (computed_root o).enters

  -- ---- the rows

  pub two_turns : (o : List ℕ) → Turns kind ((1, 1) ∷ (0, 0) ∷ []) (entered kind two o)
  two_turns o =
      let k = computed_root o in
      subst (Turns kind ((1, 1) ∷ (0, 0) ∷ [])) (sym (entered-is o)) (
        gives 1 1 (begun o) (once o) k.first-turn,
        subst (Turns kind ((0, 0) ∷ [])) (sym (turn_is 1 1 (begun o) (once o) k.first-turn)) (gives 0 0 (once o) (twice o) k.second-turn, tt),
      )

  pub two-absent : (o : List ℕ) → length o ≡ 12 + 256 * (8 * 1 - 1) → Leaves kind two whole [] 2 o
  two-absent o h = leaves_so two o h [] (replicate 12 1) 2 whole (computed_root o).two-absent

  pub eight-absent : (o : List ℕ) → length o ≡ 12 + 256 * (8 * 1 - 1) → Leaves kind eight (unavailable 0) seven 1 o
  eight-absent o h =
      leaves_so eight o h seven (0 ∷ 0 ∷ 0 ∷ 0 ∷ 0 ∷ 0 ∷ 0 ∷ 1 ∷ 0 ∷ 0 ∷ 1 ∷ 1 ∷ []) 1 (unavailable 0) (computed_root o).eight-absent

  pub all-absent : (o : List ℕ) → length o ≡ 12 + 256 * (8 * 1 - 1) → Leaves kind sixteen (unavailable 0) sixteen 0 o
  all-absent o h = leaves_so sixteen o h sixteen (replicate 12 0) 0 (unavailable 0) (computed_root o).all-absent

  pub two-misfilled : (o : List ℕ) → length o ≡ 12 + 256 * (8 * 1 - 1) → Misfills kind two 1023 2 o
  unfolding tree_but k_of
  two-misfilled o h =
      let (comes, marks) = (computed_root o).two-absent in
      let low : 1023 ≤ 256 * k_of 0 = omega arith in
      let r : List ℕ = record_saying kind 1023 in
      let blank : zero_filled tree 1 (size_in r) listed ≡ false = ap (λ (n : ℕ). zero_filled tree 1 n listed) (saying_size 1023 low) ∙ not_blank in
      let q = left_so r (saying_serves 1023 low) two o h marks [] (replicate 12 1) 2 whole comes (misfilled 2)
      (misfills (zero_filled tree 1 (size_in r) listed) 2 whole refl blank) in
      record {
        reports = ap (λ (x : RepairLeft Result). x.answer) q;
        marks-are = ap (λ (x : RepairLeft Result). x.marks) q;
        tree_is = ap (λ (x : RepairLeft Result). x.tree) q;
        out-untouched = ap (λ (x : RepairLeft Result). x.out) q;
      }
