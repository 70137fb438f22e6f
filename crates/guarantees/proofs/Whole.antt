-- A tree that a repair calls whole without storing anything: it does so whatever its output buffer holds, since that is a matter of the tree.
use mathlib.Core.Path.{◌≡◌, refl, sym, ap, ap₂, ◌∙◌}
use mathlib.Core.Bool.{Bool, true, false≢true}
use mathlib.Core.List.{List}
use Prim.Native.Nat.{ℕ, ◌+◌, ◌-◌, ◌*◌}
use native.Mathlib.Omega.{arith}
use lib.ListN.{length}
use borrow.Author.Tests.{eqb-true}
use Rattle.octets.proofs.Choice.{by_test, pick_yes, pick_no}
use Rattle.parity_table.specs.Parse.{table_of}
use Rattle.table_bytes.specs.Bytes.{words_of}
use Rattle.symbol_hash.specs.SymbolHash.{symbol_hash}
use Rattle.symbol_hash.specs.declared.Kind.TheVariants.{Plain}
use Rattle.root_record.specs.Records.{kind_in, size_in, root_in}
use Rattle.model.specs.Shape.{tree, places}
use Rattle.model.specs.Writer.{zero_filled}
use Rattle.model.specs.Repair.{End, working, whole, fault, unavailable, twins, St}
use Rattle.model.specs.Ends.{Sized, Roomy, Intact, Unchanged}
use Rattle.model.proofs.Shapes.{tree_ok}
use Rattle.model.proofs.Tables.{TableLaws, table_roomy}
use Rattle.model.proofs.Intact.{intact_unchanged, whole-intact}
use Rattle.calls.specs.Stops.{Answer}
use Rattle.calls.specs.Stops.{Done}
use Rattle.calls.proofs.AdmissionLaws.{table_laws_of}
use Rattle.fault_calls.specs.Repairing.{Result, ended, misfilled, stopped, result_values, ended_by, repair_tested, repair_of, repaired_by, repaired}
use Rattle.fault_calls.proofs.RepairingLaws.{Formed, formed, ends_so}
use Rattle.fault_calls.proofs.Ends.{deep}
use Rattle.recoding.specs.Recoding.{nothing_to_do}

-- the one result in which there was nothing to do
pub result_whole : (x : Result) → nothing_to_do x ≡ true → x ≡ ended 0 whole
result_whole (ended s working) t = absurd (false≢true t)
result_whole (ended s whole) t = ap (λ (n : ℕ). ended n whole) (eqb-true s 0 t)
result_whole (ended s (fault j e x n)) t = absurd (false≢true t)
result_whole (ended s (unavailable j)) t = absurd (false≢true t)
result_whole (ended s (twins j x)) t = absurd (false≢true t)
result_whole (misfilled s) t = absurd (false≢true t)
result_whole (stopped w) t = absurd (false≢true t)

-- an end and the symbols stored, as numbers
numbers : Result → ℕ × ℕ
numbers x = result_values Plain x

whole-end : (b : Bool) (s : ℕ) (z : End) → ended_by b s z ≡ ended 0 whole → (z ≡ whole) × (s ≡ 0) × (b ≡ true)
unfolding numbers
whole-end b s working e = absurd (omega (arith, ap (λ (x : Result). (numbers x).0) e))
whole-end b s whole e =
    by_test b (λ t. (refl, omega (arith, ap (λ (x : Result). (numbers x).1) (sym (pick_yes b (ended s whole) (misfilled s) t) ∙ e)), t))
    (λ t. absurd (omega (arith, ap (λ (x : Result). (numbers x).0) (sym (pick_no b (ended s whole) (misfilled s) t) ∙ e))))
whole-end b s (fault j q x n) e = absurd (omega (arith, ap (λ (x : Result). (numbers x).0) e))
whole-end b s (unavailable j) e = absurd (omega (arith, ap (λ (x : Result). (numbers x).0) e))
whole-end b s (twins j x) e = absurd (omega (arith, ap (λ (x : Result). (numbers x).0) e))

module _ (d : ℕ) (r table t m : List ℕ) where
  abbrev tbl : List (List (List ℕ))
  tbl = table_of (words_of table)

  -- by the tree and its marks alone
  pub record WholeLent : Type 0 where
    pub complete : Intact tree (symbol_hash (kind_in r)) (root_in r) tbl t m
    pub blank : zero_filled tree d (size_in r) t ≡ true

  module _ (o : List ℕ) (e : repair_tested d r table t m o ≡ Done) where
    abbrev st : St
    st = repair_of r table t m o

    k : Formed d r table t m o
    k = formed d r table t m o e

    pub laws : TableLaws tree tbl
    laws = table_laws_of d table k.admits.taken.accepted

    layers : length tbl ≡ d
    layers = deep d r table t m o k

    pub sized : Sized tree tbl t m
    sized =
        record { tree-length = k.tree-full ∙ ap (λ (q : ℕ). 256 * places tree q) (sym layers); marks-length = k.marks-full ∙ ap (places tree) (sym layers) }

    pub roomy : Roomy tbl o
    roomy = table_roomy tree tbl laws o (k.out-full ∙ ap (λ (q : ℕ). 12 + 256 * (8 * q - 1)) (sym layers))

    pub answer-is : (repaired d r table t m o).answer ≡ ended_by (zero_filled tree d (size_in r) st.tree) st.stored st.end
    unfolding repaired
    answer-is = ap (λ (a : Answer). (repaired_by a d (size_in r) st t m o).answer) e

    pub stays : Intact tree (symbol_hash (kind_in r)) (root_in r) tbl t m → Unchanged t m st
    unfolding repair_of
    stays = intact_unchanged tree tree_ok.shape (symbol_hash (kind_in r)) (root_in r) tbl laws t m sized o roomy

    pub lent_called : WholeLent → (repaired d r table t m o).answer ≡ ended 0 whole
    lent_called w =
        let u = stays w.complete in
        answer-is ∙ ap₂ (λ (q : List ℕ) (z : End). ended_by (zero_filled tree d (size_in r) q) st.stored z) u.tree-kept u.ends-whole
        ∙ ap (λ (s : ℕ). ended_by (zero_filled tree d (size_in r) t) s whole) u.none-stored
        ∙ sym (ends_so (zero_filled tree d (size_in r) t) 0 whole (λ n. w.blank))

    pub called_lent : (repaired d r table t m o).answer ≡ ended 0 whole → WholeLent
    unfolding repair_of
    called_lent q =
        let (z, s, b) = whole-end (zero_filled tree d (size_in r) st.tree) st.stored st.end (sym answer-is ∙ q) in
        let c = whole-intact tree tree_ok.shape (symbol_hash (kind_in r)) (root_in r) tbl laws t m sized o roomy z s in
        record { complete = c; blank = ap (zero_filled tree d (size_in r)) (sym (stays c).tree-kept) ∙ b }
