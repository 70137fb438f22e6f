-- Demand 3, of repair: its four ends at the entry, and how large the reported numbers are.
use mathlib.Core.Bool.{Bool}
use mathlib.Core.List.{List}
use mathlib.Core.Path.{◌∙◌, ◌≡◌, ap, refl, subst, sym}
use Prim.Native.Nat.{◌*◌, ◌+◌, ◌-◌, ◌<◌, ◌^◌, ◌≤◌, ℕ}
use native.Mathlib.Omega.{arith}
use lib.ListN.{length, take}
use borrow.Author.Tests.{eq-eqb, le-leb}
use Rattle.std.specs.Prelude.{Ok, Err}
use Rattle.octets.proofs.Choice.{yes_and, pick_ind}
use Rattle.parity_table.specs.Shape.{max_depth, n_of}
use Rattle.parity_table.proofs.Accepts.{accepted-table}
use Rattle.parity_table.proofs.Shape.{k-low}
use Rattle.table_bytes.specs.Bytes.{words_of}
use Rattle.parity_table.specs.Parse.{table_of}
use Rattle.symbol_hash.proofs.Laws.{length-symbol_hash}
use Rattle.symbol_hash.specs.declared.Kind.{Kind}
use Rattle.symbol_hash.specs.declared.Kind.TheVariants.{Plain, Placed}
use Rattle.symbol_hash.specs.SymbolHash.{symbol_hash}
use Rattle.model.proofs.FourEnds.{four_ends}
use Rattle.model.proofs.Frame.{filled_le}
use Rattle.model.proofs.Shapes.{places_mono, tree_ok, tree_root}
use Rattle.model.proofs.Sound.{accepted-is}
use Rattle.model.proofs.Tables.{table_roomy}
use Rattle.model.specs.Ends.{EndOk, Ended, FaultEnd}
use Rattle.model.specs.Fault.{accepted, proof_length, verdict}
use Rattle.model.specs.Repair.{St, End, working, whole, fault, unavailable, twins}
use Rattle.model.specs.Shape.{places, tree}
use Rattle.root_record.specs.Records.{kind_in, size_in, root_in}
use Rattle.calls.specs.Tests.{admitted_by}
use Rattle.calls.proofs.LengthLaws.{places_small}
use Rattle.calls.specs.Stops.{Answer, Done, Small}
use Rattle.calls.proofs.AdmissionLaws.{table_laws_of}
use Rattle.calls.proofs.RecordLaws.{root_length, admits_by}
use Rattle.fault_calls.specs.Checking.{proof_sized, judged}
use Rattle.fault_calls.specs.Ends.{FaultAccepted, FaultCollides, FourWays}
use Rattle.fault_calls.specs.Repairing.{Fits, Recorded, end_number, end_value, ended_by, repair_of, repair_tested, repaired_by, repaired}
use Rattle.fault_calls.proofs.CheckingLaws.{judged_so}
use Rattle.fault_calls.proofs.RepairingLaws.{Formed, formed, small}
use Rattle.fault_calls.proofs.Sound.{checker_sound}

-- ---- the four ends

module _ (d : ℕ) (r table t m o : List ℕ) (k : Formed d r table t m o) where
  pub deep : length (table_of (words_of table)) ≡ d
  deep = (accepted-table d (words_of table) k.admits.taken.accepted).depth

  ended_so : Ended tree (symbol_hash (kind_in r)) (root_in r) (table_of (words_of table)) t m o (repair_of r table t m o)
  unfolding repair_of
  ended_so =
      four_ends tree tree_ok.shape (symbol_hash (kind_in r)) (root_in r) (table_of (words_of table)) (table_laws_of d table k.admits.taken.accepted) (length-symbol_hash (kind_in r)) t m o
      (record { tree-length = k.tree-full ∙ ap (λ (q : ℕ). 256 * places tree q) (sym deep); marks-length = k.marks-full ∙ ap (places tree) (sym deep) })
      (table_roomy tree (table_of (words_of table)) (table_laws_of d table k.admits.taken.accepted) o (k.out-full ∙ ap (λ (q : ℕ). 12 + 256 * (8 * q - 1)) (sym deep)))
      (root_length r k.record_full ∙ sym tree_root)

pub four_ways : (d : ℕ) (r table t m o : List ℕ) → FourWays d r table t m o
four_ways d r table t m o e = ended_so d r table t m o (formed d r table t m o e)

-- ---- a fault

-- a proof of at least 12 bytes passes tests 1, 2, 3 and 10 for the same r and table
proof-admitted : (d : ℕ) (r table t m o : List ℕ) → Formed d r table t m o → (b : List ℕ) → 12 ≤ length b
    → Done ≡ admitted_by d (proof_sized (length r) (length b)) r table
proof-admitted d r table t m o k b l =
    admits_by d (proof_sized (length r) (length b)) r table
    (record {
      lengths = yes_and (eq-eqb (length r) 556 k.record_full) (le-leb 12 (length b) l);
      head = k.admits.head;
      taken = k.admits.taken;
      named = k.admits.named;
    })

long : (kind : Kind) (tbl : List (List (List ℕ))) (root b : List ℕ) → verdict tree (symbol_hash kind) root tbl b ≡ accepted → 12 ≤ length b
unfolding proof_length
long kind tbl root b e = omega (arith, (accepted-is tree (symbol_hash kind) root tbl b e).exact)

pub fault-accepted : (d : ℕ) (r table t m o : List ℕ) → FaultAccepted d r table t m o
fault-accepted d r table t m o e j q x n ez =
    let k = formed d r table t m o e in
    let tbl : List (List (List ℕ)) = table_of (words_of table) in
    let st : St = repair_of r table t m o in
    let end : FaultEnd tree (symbol_hash (kind_in r)) (root_in r) tbl o j q x n st = subst (EndOk tree (symbol_hash (kind_in r)) (root_in r) tbl t m o st) ez (ended_so d r table t m o k).ends in
    sym (judged_so d r table (take n st.out) (proof-admitted d r table t m o k (take n st.out) (long (kind_in r) tbl (root_in r) (take n st.out) end.accepts)))
    ∙ ap judged end.accepts

pub fault_collides : (d : ℕ) (r table t m o : List ℕ) → FaultCollides d r table t m o
fault_collides d r table t m o e j q x n ez =
    checker_sound d r table (take n (repair_of r table t m o).out) (fault-accepted d r table t m o e j q x n ez)

-- ---- reported numbers

module _ (d : ℕ) (r table t m o : List ℕ) (k : Formed d r table t m o) where
  abbrev st : St
  st = repair_of r table t m o

  stored-fits : st.stored < 2 ^ 16
  stored-fits =
      let e = (ended_so d r table t m o k).always in
      let n = places_mono tree st.entered (length (table_of (words_of table))) e.in_depth in
      omega (
        arith,
        e.counted,
        filled_le tree (symbol_hash (kind_in r)) (root_in r) t m st.tree st.marks st.entered,
        n,
        ap (places tree) (deep d r table t m o k),
        places_small d k.shallow,
      )

  value_fits : (kind : Kind) (z : End) → EndOk tree (symbol_hash (kind_in r)) (root_in r) (table_of (words_of table)) t m o st z → end_value kind z < 2 ^ 16
  unfolding n_of
  value_fits kind working x = absurd x
  value_fits kind whole x = omega arith
  value_fits kind (fault j e y n) x = omega (arith, x.room, k.out-full, k.shallow)
  value_fits kind (unavailable j) x =
      omega (arith, x.last, (ended_so d r table t m o k).always.in_depth, deep d r table t m o k, k.shallow)
  value_fits Plain (twins j y) x = omega arith
  value_fits Placed (twins j y) x =
      let low : j < max_depth = omega (arith, x.last, (ended_so d r table t m o k).always.in_depth, deep d r table t m o k, k.shallow) in
      omega (arith, low, x.in_layer_lem, k-low j low)

end-number : (z : End) → end_number z < 2 ^ 24
end-number whole = omega arith
end-number (fault j e x n) = omega arith
end-number (unavailable j) = omega arith
end-number (twins j x) = omega arith
end-number working = omega arith

-- the end by the filling
ended-fits : (kind : Kind) (zero : Bool) (s : ℕ) (z : End) → s < 2 ^ 16 → end_value kind z < 2 ^ 16 → Fits kind (ended_by zero s z)
ended-fits kind zero s working h v = (h, v, end-number working)
ended-fits kind zero s whole h v = pick_ind (Fits kind) zero (λ e. (h, v, end-number whole)) (λ e. h)
ended-fits kind zero s (fault j e x n) h v = (h, v, end-number (fault j e x n))
ended-fits kind zero s (unavailable j) h v = (h, v, end-number (unavailable j))
ended-fits kind zero s (twins j x) h v = (h, v, end-number (twins j x))

result_fits : (kind : Kind) (d : ℕ) (r table t m o : List ℕ) (a : Answer) → repair_tested d r table t m o ≡ a → Small a
    → Fits kind (repaired_by a d (size_in r) (repair_of r table t m o) t m o).answer
result_fits kind d r table t m o (Ok _) e h =
    let k = formed d r table t m o e in
    let z : End = (repair_of r table t m o).end in
    ended-fits kind _ _ z (stored-fits d r table t m o k) (value_fits d r table t m o k kind z (ended_so d r table t m o k).ends)
result_fits kind d r table t m o (Err w) e h = h

pub repair-fits : (kind : Kind) (d : ℕ) (r table t m o : List ℕ) → Fits kind (repaired d r table t m o).answer
unfolding repaired
repair-fits kind d r table t m o = result_fits kind d r table t m o (repair_tested d r table t m o) refl (small d r table t m o)

ended_recorded : (n : ℕ) (zero : Bool) (s : ℕ) (z : End) → n ≡ 556 → Recorded n (ended_by zero s z)
ended_recorded n zero s working e = e
ended_recorded n zero s whole e = pick_ind (Recorded n) zero (λ f. e) (λ f. tt)
ended_recorded n zero s (fault j q x l) e = e
ended_recorded n zero s (unavailable j) e = e
ended_recorded n zero s (twins j x) e = e

result_recorded : (d : ℕ) (r table t m o : List ℕ) (a : Answer) → repair_tested d r table t m o ≡ a
    → Recorded (length r) (repaired_by a d (size_in r) (repair_of r table t m o) t m o).answer
result_recorded d r table t m o (Ok _) e = ended_recorded (length r) _ _ (repair_of r table t m o).end (formed d r table t m o e).record_full
result_recorded d r table t m o (Err w) e = tt

pub repair_recorded : (d : ℕ) (r table t m o : List ℕ) → Recorded (length r) (repaired d r table t m o).answer
unfolding repaired
repair_recorded d r table t m o = result_recorded d r table t m o (repair_tested d r table t m o) refl
