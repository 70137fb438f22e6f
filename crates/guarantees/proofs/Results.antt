-- What a C program reads from the number that a call returns is what the call answered, and from a record what the calls read.
use Rattle.std.specs.Prelude.{Ok, Err}
use mathlib.Core.Path.{◌≡◌, refl, sym, ap, ap₂, ◌∙◌, subst}
use mathlib.Core.Logic.{◌≢◌}
use mathlib.Core.Bool.{Bool, true, false}
use mathlib.Core.List.{List}
use Prim.Native.Nat.{ℕ, ◌+◌, ◌-◌, ◌*◌, ◌/◌, ◌%◌, ◌^◌, ◌≤◌, ◌<◌}
use native.Mathlib.Omega.{arith}
use lib.ListN.{length}
use lib.Dec.{ltb, eqb}
use borrow.Author.Tests.{eq-eqb, ne_eqb, eqb-true, ltb-true, ltb-false, le-ltb}
use Rattle.octets.specs.Choice.{pick}
use Rattle.octets.proofs.Choice.{by_test, pick_yes, pick_no, pick_ind}
use Rattle.parity_table.specs.Shape.{max_depth, n_of}
use Rattle.parity_table.proofs.Shape.{k-low}
use Rattle.table_bytes.proofs.ByteForm.{words_of-length}
use Rattle.model.specs.Repair.{End, working, whole, fault, unavailable, twins, St}
use Rattle.model.specs.Shape.{tree}
use Rattle.model.specs.Ends.{EndOk, TwinsEnd}
use Rattle.model.specs.Writer.{zero_filled}
use Rattle.root_record.specs.Records.{kind_number, kind_in, size_in, root_in}
use Rattle.symbol_hash.specs.SymbolHash.{symbol_hash}
use Rattle.symbol_hash.specs.declared.Kind.{Kind}
use Rattle.symbol_hash.specs.declared.Kind.TheVariants.{Plain, Placed}
use Rattle.calls.specs.Stops.{Answer}
use Rattle.calls.specs.Stops.{Done, Stopped}
use Rattle.calls.specs.Stops.{number_of, values_of, Small}
use Rattle.calls.specs.Tests.{read_answer}
use Rattle.calls.proofs.AdmissionLaws.{small_read, small_admitted}
use Rattle.volume_calls.proofs.WritingLaws.{small_by}
use Rattle.volume_calls.proofs.ReadingLaws.{small as small-block}
use Rattle.sample_calls.proofs.TakingLaws.{small as small-taken}
use Rattle.sample_calls.proofs.CheckingLaws.{small as small-sample}
use Rattle.fault_calls.proofs.CheckingLaws.{small as small-checked}
use Rattle.fault_calls.proofs.RepairingLaws.{formed, small as small-repair}
use Rattle.recoding.proofs.RecodingLaws.{small as small-recoded}
use Rattle.cedunmi_c.proofs.ResultLaws.{small_hash}
use Rattle.house_table.specs.House.{house_words, house_answer}
use Rattle.house_table.proofs.HouseParts.{answer_not_wrong}
use Rattle.sha256.specs.Call.{answer}
use Rattle.calls.proofs.TestLaws.{stopped_not, number-low}
use Rattle.fault_calls.specs.Repairing.{Result, ended, misfilled, ended_by, repair_tested, repair_of, repaired_by, repaired, Fits}
use Rattle.fault_calls.proofs.Ends.{deep, repair-fits, four_ways}
use Rattle.cedunmi_c.specs.Result.{packed, repair_result}
use Rattle.guarantees.specs.Terms.{equations_of}
use Rattle.guarantees.proofs.Records.{either, at_most, head-right}
use Rattle.guarantees.proofs.Change5.{first_kind}
use Rattle.guarantees.proofs.Refusals.{done-only}
use Rattle.guarantees.specs.Layouts.{word_no, kind_no, value_no, block_size, block_room}
use Rattle.guarantees.specs.Refusals.{DepthRight, HeadRight}
use Rattle.guarantees.specs.Results.{cmt_number, cmt_value, cmt_second_value, cmt_repair_end, cmt_repair_stored, cmt_record_word, cmt_record_kind, cmt_record_length, cmt_record_table_bytes, cmt_record_depth, Says, SaysAnswer, SaysEnd, SaysNoEnd, EndedSaid, repair_number, Results}

-- a number below 256, with a value above it and a second one above that, each in its bits
says : (n : ℕ) (v : ℕ × ℕ) → n < 256 → v.0 < 2 ^ 24 → v.1 < 2 ^ 32 → Says (packed n v) n v
says n v h p q = record { number_is = omega arith; value_is = omega arith; second_is = omega arith }

-- an answer whose values have room
said : (a : Answer) → Small a → SaysAnswer a
said a s = says (number_of a) (values_of a) (omega (arith, number-low a)) s.first s.second

-- the house table's writer has no value to return
said_house : (depth n : ℕ) → SaysAnswer (read_answer (house_answer depth n (length (house_words depth) * 4)))
said_house depth n =
    said _
    (small_read (house_answer depth n (length (house_words depth) * 4))
    (λ i e. absurd (answer_not_wrong depth n (length (house_words depth) * 4) i e)))

-- ---- repair

-- a call that stopped
of_refusal : (kind : Kind) (a : Answer) (d n : ℕ) (st : St) (t m o : List ℕ) → Small a → a ≢ Done
    → Says (repair_result kind (repaired_by a d n st t m o).answer) (number_of a) (values_of a)
of_refusal kind (Ok tt) d n st t m o s x = absurd (x refl)
of_refusal kind (Err w) d n st t m o s x = said (Stopped w) s

no_end : (kind : Kind) (a : Answer) (d n : ℕ) (st : St) (t m o : List ℕ) → Small a → a ≢ Done → SaysNoEnd (repair_result kind (repaired_by a d n st t m o).answer)
no_end kind a d n st t m o s x =
    let r : ℕ = repair_result kind (repaired_by a d n st t m o).answer in
    let stopped : eqb (cmt_number r) 0 ≡ false =
    ne_eqb (cmt_number r) 0 (λ q. x (done-only a (sym (of_refusal kind a d n st t m o s x).number_is ∙ q))) in
    let e : cmt_repair_end r ≡ 16777216 = pick_no (eqb (cmt_number r) 0) (cmt_value r) 16777216 stopped in
    let no_twins : eqb (cmt_repair_end r) 3 ≡ false = ne_eqb (cmt_repair_end r) 3 (λ q. omega arith) in
    record {
      end_none = e;
      stored-none = pick_no (eqb (cmt_number r) 0) (cmt_second_value r % 65536) 0 stopped;
      bytes-none = pick_no (eqb (cmt_repair_end r) 1) (cmt_second_value r / 65536) 0 (ne_eqb (cmt_repair_end r) 1 (λ q. omega arith));
      layer-none = pick_no (eqb (cmt_repair_end r) 2) (cmt_second_value r / 65536) 0 (ne_eqb (cmt_repair_end r) 2 (λ q. omega arith));
      twins-layer-none = pick_no (eqb (cmt_repair_end r) 3) (cmt_second_value r / 65536 / 4096) 0 no_twins;
      twins-number-none = pick_no (eqb (cmt_repair_end r) 3) (cmt_second_value r / 65536 % 4096) 0 no_twins;
    }

-- the number r says that a repair ended: no test's number, the symbols stored, and the end
abbrev Told : (r stored end bytes layer : ℕ) (place : ℕ × ℕ) → Type 0
Told r stored end bytes layer place = (cmt_number r ≡ 0) × ((cmt_repair_stored r ≡ stored) × SaysEnd r end bytes layer place)

-- an end's number, the symbols stored and the end's value, each in its bits; the value is shown where the end is 1 or 2, and in two parts where it is 3
module _ (e s v : ℕ) (he : e < 2 ^ 24) (hs : s < 2 ^ 16) (hv : v < 2 ^ 16) where
  abbrev r : ℕ
  r = packed 0 (e, s + v * 2 ^ 16)

  no_number : cmt_number r ≡ 0
  no_number = omega arith

  has_end_lem : eqb (cmt_number r) 0 ≡ true
  has_end_lem = eq-eqb (cmt_number r) 0 no_number

  end_is : cmt_repair_end r ≡ e
  end_is = pick_yes (eqb (cmt_number r) 0) (cmt_value r) 16777216 has_end_lem ∙ omega arith

  shown : (part : ℕ → ℕ) (k : ℕ) → pick (eqb (cmt_repair_end r) k) (part (cmt_second_value r / 65536)) 0 ≡ pick (eqb e k) (part v) 0
  shown part k = let value_is : cmt_second_value r / 65536 ≡ v = omega arith in ap₂ (λ (a b : ℕ). pick (eqb a k) (part b) 0) end_is value_is

  told : (layer number : ℕ) → pick (eqb e 3) (v / 4096) 0 ≡ layer → pick (eqb e 3) (v % 4096) 0 ≡ number
      → Told r s e (pick (eqb e 1) v 0) (pick (eqb e 2) v 0) (layer, number)
  told layer number p q = (
    no_number,
    (
      pick_yes (eqb (cmt_number r) 0) (cmt_second_value r % 65536) 0 has_end_lem ∙ omega arith,
      record {
        end_is = end_is;
        bytes-are = shown (λ x. x) 1;
        layer-is = shown (λ x. x) 2;
        twins-layer-is = shown (λ x. x / 4096) 3 ∙ p;
        twins-number-is = shown (λ x. x % 4096) 3 ∙ q;
      },
    ),
  )

-- a result is said: no number, and how the repair came out
abbrev Said : Kind → Result → Type 0
Said kind x = (cmt_number (repair_result kind x) ≡ 0) × EndedSaid (kind_number kind) (repair_result kind x) x

-- the number of twins has room beside their layer
abbrev TwinsLow : End → Type 0
TwinsLow z = (j x : ℕ) → z ≡ twins j x → x < 4096

end_said : (kind : Kind) (s : ℕ) (z : End) → Fits kind (ended s z) → (z ≡ working → ⊥) → TwinsLow z → Said kind (ended s z)
unfolding pick
end_said kind s working f w l = absurd (w refl)
end_said kind s whole (hs, hv, he) w l = told 0 s 0 he hs hv 0 0 refl refl
end_said kind s (fault j e x n) (hs, hv, he) w l = told 1 s n he hs hv 0 0 refl refl
end_said kind s (unavailable j) (hs, hv, he) w l = told 2 s j he hs hv 0 0 refl refl
end_said Plain s (twins j x) (hs, hv, he) w l = told 3 s 0 he hs hv 0 0 refl refl
end_said Placed s (twins j x) (hs, hv, he) w l =
    let low : x < 4096 = l j x refl in
    let layer-is : (j * 2 ^ 12 + x) / 4096 ≡ j = omega arith in
    let number_is : (j * 2 ^ 12 + x) % 4096 ≡ x = omega arith in
    told 3 s (j * 2 ^ 12 + x) he hs hv j x layer-is number_is

misfilled_said : (kind : Kind) (s : ℕ) → s < 2 ^ 16 → Said kind (misfilled s)
unfolding pick
misfilled_said kind s hs =
    let alone : s + 0 * 2 ^ 16 ≡ s = omega arith in
    subst (λ (n : ℕ). Told (packed 0 (13, n)) s 13 0 0 (0, 0)) alone (told 13 s 0 (omega arith) hs (omega arith) 0 0 refl refl)

-- the end of the steps, the filling being zero or not
ended_said : (kind : Kind) (zero : Bool) (s : ℕ) (z : End) → Fits kind (ended_by zero s z) → (z ≡ working → ⊥) → TwinsLow z → Said kind (ended_by zero s z)
ended_said kind zero s working f w l = absurd (w refl)
ended_said kind zero s whole f w l =
    pick_ind (λ (x : Result). Fits kind x → Said kind x) zero (λ t g. end_said kind s whole g w l) (λ t g. misfilled_said kind s g) f
ended_said kind zero s (fault j e x n) f w l = end_said kind s (fault j e x n) f w l
ended_said kind zero s (unavailable j) f w l = end_said kind s (unavailable j) f w l
ended_said kind zero s (twins j x) f w l = end_said kind s (twins j x) f w l

-- a repair that has come to an end is not working
ended_not : (kind : Kind) (root : List ℕ) (tbl : List (List (List ℕ))) (t m o : List ℕ) (st : St) (z : End) → EndOk tree (symbol_hash kind) root tbl t m o st z
    → z ≡ working → ⊥
ended_not kind root tbl t m o st working x e = x
ended_not kind root tbl t m o st whole x e = let q : ◌≡◌ {A = ℕ} 0 1 = cc in omega arith
ended_not kind root tbl t m o st (fault j y w n) x e = let q : ◌≡◌ {A = ℕ} 0 1 = cc in omega arith
ended_not kind root tbl t m o st (unavailable j) x e = let q : ◌≡◌ {A = ℕ} 0 1 = cc in omega arith
ended_not kind root tbl t m o st (twins j y) x e = let q : ◌≡◌ {A = ℕ} 0 1 = cc in omega arith

module _ (depth : ℕ) (r table t m o : List ℕ) where
  -- twins are of a layer that the tree has, and it has at most 4,096 symbols
  twins-low : repair_tested depth r table t m o ≡ Done → TwinsLow (repair_of r table t m o).end
  unfolding n_of
  twins-low e j x q =
      let st : St = repair_of r table t m o in
      let k = formed depth r table t m o e in
      let four = four_ways depth r table t m o e in
      let twin : TwinsEnd tree (symbol_hash (kind_in r)) (root_in r) (equations_of table) o j x st =
      subst (EndOk tree (symbol_hash (kind_in r)) (root_in r) (equations_of table) t m o st) q four.ends in
      let low : j < max_depth = omega (arith, twin.last, four.always.in_depth, deep depth r table t m o k, k.shallow) in
      omega (arith, twin.in_layer_lem, k-low j low)

  repair_said : (a : Answer) → repair_tested depth r table t m o ≡ a → a ≡ Done → (n : ℕ)
      → Fits (kind_in r) (repaired_by a depth n (repair_of r table t m o) t m o).answer
      → Said (kind_in r) (repaired_by a depth n (repair_of r table t m o) t m o).answer
  repair_said (Ok tt) e d n f =
      let st : St = repair_of r table t m o in
      ended_said (kind_in r) (zero_filled tree depth n st.tree) st.stored st.end f
      (ended_not (kind_in r) (root_in r) (equations_of table) t m o st st.end (four_ways depth r table t m o e).ends) (twins-low e)
  repair_said (Err w) e d n f = absurd (stopped_not w d)

-- ---- records

-- a choice between a number and 0 that comes to more than 0
some_yes : (b : Bool) (x d : ℕ) → 1 ≤ d → pick b x 0 ≡ d → (b ≡ true) × (x ≡ d)
some_yes b x d h e = by_test b (λ t. (t, sym (pick_yes b x 0 t) ∙ e)) (λ f. absurd (omega (arith, pick_no b x 0 f)))

some_no : (b : Bool) (x d : ℕ) → 1 ≤ d → pick b 0 x ≡ d → (b ≡ false) × (x ≡ d)
some_no b x d h e = by_test b (λ t. absurd (omega (arith, pick_yes b 0 x t))) (λ f. (f, sym (pick_no b 0 x f) ∙ e))

module _ (r : List ℕ) where
  record_word : (w : ℕ) → cmt_record_word r w ≡ word_no r w
  unfolding word_no
  record_word w = omega arith

  record_size : cmt_record_length r ≡ block_size r
  record_size = ap (λ (n : ℕ). n % 1073741824) (record_word 1)

  table-bytes : cmt_record_table_bytes r ≡ 4 * value_no r 2
  table-bytes = ap (λ (n : ℕ). 4 * (n % 1073741824)) (record_word 2)

  kind_is : (w : ℕ) → cmt_record_word r w / 1073741824 ≡ kind_no r w
  kind_is w = ap (λ (n : ℕ). n / 1073741824) (record_word w)

  abbrev depth-read : ℕ
  depth-read = cmt_record_word r 0 % 1073741824

  depth_value : depth-read ≡ value_no r 0
  depth_value = ap (λ (n : ℕ). n % 1073741824) (record_word 0)

  abbrev over : Bool
  over = ltb (256 * (4 * 2 ^ (depth-read - 1))) (cmt_record_length r)

  -- what is read is a depth at which 11 lets the record pass
  depth-passes : (d : ℕ) → 1 ≤ d → cmt_record_depth r ≡ d → DepthRight d × HeadRight d r
  depth-passes d h e =
      let (first, e₁) = some_no (ltb 1 (cmt_record_kind r)) _ d h e in
      let (second, e₂) = some_yes (eqb (cmt_record_word r 1 / 1073741824) 2) _ d h e₁ in
      let (third, e₃) = some_yes (eqb (cmt_record_word r 2 / 1073741824) 3) _ d h e₂ in
      let (_, e₄) = some_no (ltb depth-read 1) _ d h e₃ in
      let (shallow, e₅) = some_no (ltb 9 depth-read) _ d h e₄ in
      let (fits, is) = some_no over depth-read d h e₅ in
      let low : cmt_record_length r ≤ block_room depth-read = ltb-false (256 * (4 * 2 ^ (depth-read - 1))) (cmt_record_length r) fits in (
        (h, omega (arith, ltb-false 9 depth-read shallow)),
        record {
          first_kind = either (kind_no r 0) (subst (λ (k : ℕ). k ≤ 1) (kind_is 0) (ltb-false 1 (cmt_record_kind r) first));
          kinds = (sym (kind_is 1) ∙ eqb-true _ 2 second, sym (kind_is 2) ∙ eqb-true _ 3 third);
          depth_is = sym depth_value ∙ is;
          size_fits = omega (arith, low, record_size, ap block_room is);
        },
      )

  passes-depth : (d : ℕ) → DepthRight d → HeadRight d r → cmt_record_depth r ≡ d
  passes-depth d (some, shallow) k =
      let is : depth-read ≡ d = depth_value ∙ k.depth_is in
      let (second, third) = k.kinds in
      pick_no (ltb 1 (cmt_record_kind r)) 0 _ (le-ltb 1 (cmt_record_kind r) (subst (λ (n : ℕ). n ≤ 1) (sym (kind_is 0)) (at_most (kind_no r 0) k.first_kind)))
      ∙ pick_yes (eqb (cmt_record_word r 1 / 1073741824) 2) _ 0 (eq-eqb _ 2 (kind_is 1 ∙ second))
      ∙ pick_yes (eqb (cmt_record_word r 2 / 1073741824) 3) _ 0 (eq-eqb _ 3 (kind_is 2 ∙ third))
      ∙ pick_no (ltb depth-read 1) 0 _ (le-ltb depth-read 1 (omega arith))
      ∙ pick_no (ltb 9 depth-read) 0 _ (le-ltb 9 depth-read (omega arith))
      ∙ pick_no over 0 depth-read (le-ltb (256 * (4 * 2 ^ (depth-read - 1))) (cmt_record_length r) (omega (arith, k.size_fits, record_size, ap block_room is)))
      ∙ is

  no_depth : ((d : ℕ) → DepthRight d → HeadRight d r → ⊥) → cmt_record_depth r ≡ 0
  no_depth n =
      by_test (ltb 0 (cmt_record_depth r)) (λ t. let (a, b) = depth-passes (cmt_record_depth r) (ltb-true 0 (cmt_record_depth r) t) refl in absurd (n (cmt_record_depth r) a b))
      (λ f. omega (arith, ltb-false 0 (cmt_record_depth r) f))

pub results : Results
unfolding repaired
results =
    record {
      ends = λ j e x n i. (refl, refl, refl, refl);
      outcomes = λ stored end stop. (refl, refl, refl);
      of_hasher = λ m digest. said _ (small_hash (answer m digest));
      of_table_check = λ depth table. said _ (small_admitted depth true table);
      of_house_table = said_house;
      of_tree_writer = λ depth number table b t m r. said _ (small_by depth number table b t m r);
      of_block_reader = λ depth r t m b. said _ (small-block depth r t m b);
      of_sampler = λ depth i t m s. said _ (small-taken depth i t m s);
      of_sample_checker = λ depth i r s. said _ (small-sample depth i r s);
      of_proof_checker = λ depth r table b. said _ (small-checked depth r table b);
      of_recoder = λ depth r table t m t' m' r'. said _ (small-recoded depth r table t m t' m' r');
      of_refusal = λ depth r table t m o.
          of_refusal (kind_in r) (repair_tested depth r table t m o) depth (size_in r) (repair_of r table t m o) t m o (small-repair depth r table t m o);
      no_end = λ depth r table t m o.
          no_end (kind_in r) (repair_tested depth r table t m o) depth (size_in r) (repair_of r table t m o) t m o (small-repair depth r table t m o);
      of_repair = λ depth r table t m o e.
          subst (λ (n : ℕ). (cmt_number (repair_number depth r table t m o) ≡ 0) × EndedSaid n (repair_number depth r table t m o) (repaired depth r table t m o).answer)
          (first_kind depth r (head-right depth r (formed depth r table t m o e).admits.head))
          (repair_said depth r table t m o (repair_tested depth r table t m o) refl e (size_in r) (repair-fits (kind_in r) depth r table t m o));
      tree_in_c_lem = λ w. (refl, refl, refl, refl);
      block_in_c_lem = λ w. (refl, refl);
      sample_in_c_lem = λ w. (refl, refl);
      repair_in_c_lem = λ depth r table t m o. (refl, refl, refl);
      record_depth = λ d r k. (λ e. (depth-passes r d k.0 e).1, passes-depth r d k);
      record_no_depth = λ r. (λ z d k h. omega (arith, passes-depth r d k h, k.0), no_depth r);
      record_kind = λ r. kind_is r 0;
      record_length = record_size;
      record_table_bytes = table-bytes;
      named-table-bytes = λ r table l k. omega (arith, l.in_words, k.count-is, words_of-length table, table-bytes r);
    }
