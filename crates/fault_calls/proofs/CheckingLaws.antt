-- What is known of a call that checks a fault proof.
use mathlib.Core.Path.{◌≡◌, ◌∙◌, refl, sym, ap}
use mathlib.Core.Bool.{Bool, true}
use mathlib.Core.List.{List}
use Prim.Native.Nat.{ℕ, ◌≤◌}
use native.Mathlib.Omega.{arith}
use lib.ListN.{length}
use lib.Dec.{leb}
use borrow.Author.Tests.{eqb-true, leb-true}
use Rattle.octets.proofs.Choice.{and_yes}
use Rattle.table_bytes.specs.Bytes.{words_of}
use Rattle.parity_table.specs.Parse.{table_of}
use Rattle.parity_table.proofs.Accepts.{accepted-depth, accepted-table}
use Rattle.symbol_hash.specs.SymbolHash.{symbol_hash}
use Rattle.symbol_hash.specs.declared.Kind.{Kind}
use Rattle.model.specs.Shape.{tree}
use Rattle.model.specs.Fault.{proof_layer, proof_equation, proof_withheld, proof_members, proof_given, Verdict, accepted, wrong_head, wrong_length, broken, no_fault, verdict}
use Rattle.model.proofs.Counts.{length-others}
use Rattle.model.proofs.Sound.{broken-inside}
use Rattle.root_record.specs.Records.{kind_in, root_in}
use Rattle.calls.specs.Lengths.{record_sized}
use Rattle.calls.specs.Tests.{◌then◌, admitted_by}
use Rattle.calls.specs.declared.Stop.{Stop}
use Rattle.calls.specs.Stops.{Answer, Done, Stopped, Small}
use Rattle.calls.proofs.TestLaws.{stopped_not, then_done, small_plain, small_then}
use Rattle.calls.proofs.AdmissionLaws.{TableTaken, table_laws_of}
use Rattle.calls.proofs.RecordLaws.{AdmittedBy, admission_by, small_admitted_by}
use Rattle.fault_calls.specs.Checking.{proof_sized, judged, proof_checked}

-- the lengths, where their test passes
pub sizes : (r b : ℕ) → proof_sized r b ≡ true → (r ≡ 556) × (12 ≤ b)
sizes r b e = let (p, q) = and_yes (record_sized r) (leb 12 b) e in (eqb-true r 556 p, leb-true 12 b q)

done-judged : (v : Verdict) → judged v ≡ Done → v ≡ accepted
done-judged accepted e = refl
done-judged wrong_head e = absurd (stopped_not _ e)
done-judged wrong_length e = absurd (stopped_not _ e)
done-judged (broken l p) e = absurd (stopped_not _ e)
done-judged no_fault e = absurd (stopped_not _ e)

module _ (d : ℕ) (r table b : List ℕ) where
  abbrev found : Verdict
  found = verdict tree (symbol_hash (kind_in r)) (root_in r) (table_of (words_of table)) b

  -- once tests 1, 2, 11, 3, 10 and 12 have passed, the verdict decides
  pub judged_so : Done ≡ admitted_by d (proof_sized (length r) (length b)) r table → judged found ≡ proof_checked d r table b
  unfolding proof_checked
  judged_so e = ap (λ (a : Answer). a then judged found) e

  -- the test of lengths as the call makes it
  module _ {sized : Bool} (es : sized ≡ proof_sized (length r) (length b)) where
    as_sized : admitted_by d sized r table ≡ admitted_by d (proof_sized (length r) (length b)) r table
    as_sized = ap (λ (x : Bool). admitted_by d x r table) es

    -- a test that fails stops the call
    pub refused : (s : Stop) → Stopped s ≡ admitted_by d sized r table → Stopped s ≡ proof_checked d r table b
    unfolding proof_checked
    refused s e = ap (λ (a : Answer). a then judged found) (e ∙ as_sized)

    -- once they have passed, the record has its length, the proof has a head, and the verdict of the cores decides
    pub lengths : Done ≡ admitted_by d sized r table → (length r ≡ 556) × (12 ≤ length b)
    lengths e = sizes (length r) (length b) (sym es ∙ (admission_by d sized r table (sym e)).lengths)

    pub went_on : (kind : Kind) (tbl : List (List (List ℕ))) (root : List ℕ) (v : Verdict) → kind ≡ kind_in r → root ≡ root_in r → tbl ≡ table_of (words_of table)
        → v ≡ verdict tree (symbol_hash kind) root tbl b → Done ≡ admitted_by d sized r table → judged v ≡ proof_checked d r table b
    went_on kind tbl root v ek eo et ev e = ap judged (rw (← ek, ← eo, ← et) ev) ∙ judged_so (e ∙ as_sized)

  -- the tests that an accepted proof has passed
  pub record Passed : Type 0 where
    pub admits : AdmittedBy d (proof_sized (length r) (length b)) r table
    pub accepts : verdict tree (symbol_hash (kind_in r)) (root_in r) (table_of (words_of table)) b ≡ accepted

  pub passed : proof_checked d r table b ≡ Done → Passed
  unfolding proof_checked
  passed e =
      let (a, v) = then_done (admitted_by d (proof_sized (length r) (length b)) r table) (judged found) e in
      record { admits = admission_by d (proof_sized (length r) (length b)) r table a; accepts = done-judged found v }

  -- its values are small: a layer of the table, and a position among the members of an equation
  small_judged : TableTaken d table → (v : Verdict) → found ≡ v → Small (judged v)
  unfolding proof_given proof_members
  small_judged t accepted e = small_plain refl
  small_judged t wrong_head e = small_plain refl
  small_judged t wrong_length e = small_plain refl
  small_judged t (broken l p) e =
      let (n, x, y) = broken-inside tree (symbol_hash (kind_in r)) (root_in r) (table_of (words_of table)) b l p e in
      let laws = table_laws_of d table t.accepted in
      let few = laws.few-members (proof_layer b) (proof_equation b) n.layer_ok_lem n.equation_ok_lem in
      record { first = omega (arith, n.layer_ok_lem, (accepted-table d (words_of table) t.accepted).depth, (accepted-depth d (words_of table) t.accepted).1); second = omega (arith, few, length-others (proof_withheld b) (proof_members (table_of (words_of table)) b)) }
  small_judged t no_fault e = small_plain refl

  pub small : Small (proof_checked d r table b)
  unfolding proof_checked
  small =
      small_then (admitted_by d (proof_sized (length r) (length b)) r table) (judged found) (small_admitted_by d (proof_sized (length r) (length b)) r table)
      (λ e. small_judged (admission_by d (proof_sized (length r) (length b)) r table e).taken found refl)
