-- 01's starred cases: every row of the table holds.
use mathlib.Core.Path.{◌≡◌, refl, sym, ap, ◌∙◌}
use mathlib.Core.Logic.{◌↔◌}
use mathlib.Core.Bool.{true}
use mathlib.Core.List.{List}
use Prim.Native.Nat.{ℕ, suc, ◌-◌, ◌*◌, ◌≤◌}
use native.Mathlib.Nat.{mul-le-mul_right}
use native.Mathlib.Omega.{arith}
use lib.ListN.{length}
use Rattle.octets.specs.BigEndian.{bytes_of}
use Rattle.parity_table.specs.Shape.{depth_fits, k_of, n_of}
use Rattle.parity_table.specs.Members.{last_of}
use Rattle.parity_table.specs.Table.{layer_of, equation_of, equations_words, layers_words, table_words}
use Rattle.table_bytes.specs.Bytes.{words_of}
use Rattle.house_table.specs.House.{house_equation, house_equations, house_layers, house_table, house_words}
use Rattle.parity_table.proofs.Accepts.{accepted-table}
use Rattle.symbol_hash.specs.SymbolHash.{symbol_hash}
use Rattle.symbol_hash.specs.declared.Kind.{Kind}
use Rattle.model.specs.Shape.{tree, place, places}
use Rattle.model.specs.Symbols.{symbol_in, sym_at}
use Rattle.model.specs.Fault.{proof_length, proof_layer, proof_equation, proof_members}
use Rattle.model.proofs.Sound.{accepted-is}
use Rattle.root_record.specs.Records.{kind_in, root_in}
use Rattle.calls.proofs.AdmissionLaws.{table_laws_of}
use Rattle.calls.proofs.Taken.{house-taken}
use Rattle.fault_calls.proofs.CheckingLaws.{passed}
use Rattle.guarantees.specs.Terms.{equations_of}
use Rattle.guarantees.specs.Before.{now}
use Rattle.guarantees.specs.Cases.{coded, EveryCall, Depths, Has, Longest, Stands, none, ◌also◌, CasesHold}
use Rattle.guarantees.specs.Layouts.{bytes_from, symbol_at, hash_for, kind_value}
use Rattle.guarantees.specs.Answers.{done, test, fails, holds, unless, JustWhen}
use Rattle.guarantees.proofs.Answers.{never, done_never}
use Rattle.guarantees.proofs.Layouts.{symbol_at_lem}
use Rattle.guarantees.proofs.Demand1.{demand_1}
use Rattle.guarantees.proofs.Demand2.{coding, written_when}
use Rattle.guarantees.proofs.RepairCases.{listed, coded-is, two_turns, two-absent, eight-absent, all-absent, two-misfilled}
use Rattle.guarantees.proofs.LongestProof.{longest-accepted}

-- ---- case 8

-- a test that comes first gives its number just when it fails, where later ones don't give it
pub at_test : {k number : ℕ} {values : ℕ × ℕ} {right : Type 0} {later : ℕ → ℕ × ℕ → Type 0} → JustWhen number values (test k (unless right) later)
    → ((v : ℕ × ℕ) → later k v → ⊥) → (number ≡ k) ↔ (right → ⊥)
at_test {k} {number} {values} {right} {later} j l =
    (λ e. found values ((j.answers k values).0 (e, refl)), λ n. ((j.answers k (0, 0)).1 (fails refl (record { is_not = n; alone = refl }))).0)
  where
    found : (v : ℕ × ℕ) → test k (unless right) later k v → right → ⊥
    found v (fails e x) = x.is_not
    found v (holds x y) = absurd (l v y)

-- no later test gives 1
not_1 : {k : ℕ} {wrong : ℕ × ℕ → Type 0} {later : ℕ → ℕ × ℕ → Type 0} → ((v : ℕ × ℕ) → later 1 v → ⊥) → (v : ℕ × ℕ) → test (suc (suc k)) wrong later 1 v → ⊥
not_1 = never (λ e. omega arith)

none_1 : (v : ℕ × ℕ) → done 1 v → ⊥
none_1 = done_never (λ e. omega arith)

depths : Depths 1 9
depths d =
    let k = demand_1.refusals in
    record {
      table-words = λ ws. at_test (k.table-words d ws) (not_1 (not_1 none_1));
      table-bytes = λ b. at_test (k.table-bytes d b) (not_1 (not_1 (not_1 none_1)));
      house-words = λ n. at_test (k.house-words d n) (not_1 none_1);
      house-bytes = λ n. at_test (k.house-bytes d n) (not_1 none_1);
      tree_writer = λ kind table b t m r. at_test (k.tree_writer d kind table b t m r) (not_1 (not_1 (not_1 none_1)));
      tree_writer_by = λ number table b t m r. at_test (k.tree_writer_by d number table b t m r) (not_1 (not_1 (not_1 (not_1 none_1))));
      block_reader = λ r t m b. at_test (k.block_reader d r t m b) (not_1 (not_1 (not_1 (not_1 none_1))));
      sampler = λ i t m s. at_test (k.sampler d i t m s) (not_1 (not_1 (not_1 (not_1 none_1))));
      sample-checker = λ i r s. at_test (k.sample-checker d i r s) (not_1 (not_1 (not_1 (not_1 none_1))));
      proof-checker = λ r table b. at_test (demand_1.proof-checker d r table b) (not_1 (not_1 (not_1 (not_1 (not_1 (not_1 (not_1 (not_1 (not_1 none_1)))))))));
      repairer = λ r table t m o. at_test (k.repairer d r table t m o) (not_1 (not_1 (not_1 (not_1 (not_1 (not_1 none_1))))));
      recoder = λ r table t m t' m' r'. at_test (k.recoder d r table t m t' m' r') (not_1 (not_1 (not_1 (not_1 (not_1 (not_1 (not_1 none_1)))))));
    }

-- so every call stops at a depth that is none of these
pub stops : (d : ℕ) → ((1 ≤ d) × (d ≤ 9) → ⊥) → EveryCall now d (λ number. number ≡ 1)
stops d n =
    let k = depths d in
    record {
      table-words = λ ws. (k.table-words ws).1 n;
      table-bytes = λ b. (k.table-bytes b).1 n;
      house-words = λ m. (k.house-words m).1 n;
      house-bytes = λ m. (k.house-bytes m).1 n;
      tree_writer = λ kind table b t m r. (k.tree_writer kind table b t m r).1 n;
      tree_writer_by = λ number table b t m r. (k.tree_writer_by number table b t m r).1 n;
      block_reader = λ r t m b. (k.block_reader r t m b).1 n;
      sampler = λ i t m s. (k.sampler i t m s).1 n;
      sample-checker = λ i r s. (k.sample-checker i r s).1 n;
      proof-checker = λ r table b. (k.proof-checker r table b).1 n;
      repairer = λ r table t m o. (k.repairer r table t m o).1 n;
      recoder = λ r table t m t' m' r'. (k.recoder r table t m t' m' r').1 n;
    }

pub has : (d n : ℕ) → depth_fits d ≡ true → places tree d ≡ n → Has d n
unfolding k_of
has d n f p =
    record {
      in_all = p;
      writes = λ kind b t m r l. (
        λ e. let c = coding d kind (bytes_of (house_words d)) b t m r e in (c.tree-full ∙ ap (λ (x : ℕ). 256 * x) p, c.marks-full ∙ p, c.record_full),
        λ s.
            written_when d kind (bytes_of (house_words d)) b t m r (record {
              taken = house-taken d f;
              block-fits = l;
              tree-full = s.0 ∙ ap (λ (x : ℕ). 256 * x) (sym p);
              marks-full = s.1 ∙ sym p;
              record_full = s.2;
            }),
      );
    }

-- ---- case 9

longer : (n j d : ℕ) → j ≤ n → d ≤ 8 → proof_length j d ≤ proof_length n 8
unfolding proof_length
longer n j d h k = omega (arith, mul-le-mul_right {m = d - 1} {n = 7} (suc j) (omega arith))

-- at every depth from 2 on
pub longest : (kind : Kind) (a : ℕ) → a ≤ 7 → Longest kind (suc (suc a)) (proof_length (suc a) 8)
unfolding proof_members
longest kind a few =
    let n : ℕ = suc (suc a) in
    record {
      reached = let same : n - 1 ≡ suc a = omega arith in ap (λ (j : ℕ). proof_length j 8) same;
      none_longer = λ j m h k. longer (suc a) j m (omega arith) k;
      some-accepted = longest-accepted kind a few;
      none-accepted = λ r table b e.
          let p = passed n r table b e in
          let tbl : List (List (List ℕ)) = equations_of table in
          let v = accepted-is tree (symbol_hash (kind_in r)) (root_in r) tbl b p.accepts in
          let j : ℕ = proof_layer b in
          let ms : List ℕ = equation_of tbl j (proof_equation b) in
          let deep : length tbl ≡ n = (accepted-table n (words_of table) p.admits.taken.accepted).depth in
          let eight : length ms ≤ 8 = (table_laws_of n table p.admits.taken.accepted).few-members j (proof_equation b) v.named.layer_ok_lem v.named.equation_ok_lem in
          omega (arith, v.exact, longer (suc a) j (length ms) (omega (arith, deep, v.named.layer_ok_lem)) eight);
    }

-- ---- case 10

stands : Stands 2 31 3 224 255
unfolding hash_for bytes_from
stands = record { bytes = refl; stands = λ H tbl f c. c.hashes_stand 0 31 (omega arith) (omega arith) }

-- ---- all of them

table-size : (length (house_words 1) ≡ 61) × (last_of (house_words 1) 0 ≡ kind_value 3 60)
unfolding house_table house_layers house_equations house_equation house_words table_words layers_words equations_words last_of k_of
table-size = (refl, refl)

-- symbol i, as it is listed
symbol : (kind : Kind) (i : ℕ) → symbol_at (coded kind) 0 i ≡ sym_at tree listed 0 i
symbol kind i = symbol_at_lem (coded kind) 0 i ∙ ap (λ (t : List ℕ). sym_at tree t 0 i) (coded-is kind)

pub cases_hold : CasesHold
unfolding house_table house_layers house_equations house_equation layer_of equation_of k_of n_of depth_fits places place sym_at symbol_in proof_length
cases_hold kind =
    refl also refl also refl also table-size also symbol kind 5 also symbol kind 7 also symbol kind 9
    also two_turns kind also two-absent kind also eight-absent kind also all-absent kind also two-misfilled kind
    also stops 0 (λ h. omega (arith, h.0)) also stops 10 (λ h. omega (arith, h.1)) also depths also has 5 _ refl refl also has 9 _ refl refl
    also longest kind 3 (omega arith) also longest kind 7 (omega arith) also stands also none
