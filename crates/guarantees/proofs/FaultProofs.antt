-- Fault proofs by their bytes: what the checker answers, what a proof holds, and what is written.
use mathlib.Core.Path.{◌≡◌, refl, sym, ap, ap₂, ◌∙◌, subst}
use mathlib.Core.Logic.{◌⊎◌, inl, inr, ⊎_elim}
use mathlib.Core.Bool.{Bool, true, false, not}
use mathlib.Core.List.{List}
use Prim.Native.Nat.{ℕ, suc, ◌+◌, ◌*◌, ◌≤◌}
use native.Mathlib.Omega.{arith}
use lib.ListN.{length, get_or, drop}
use lib.Dec.{eqb}
use borrow.Author.Tests.{eqb-true, eq-eqb, le-leb}
use Rattle.octets.specs.Choice.{pick}
use Rattle.octets.specs.ByteLists.{same}
use Rattle.octets.proofs.Choice.{by_test, pick_no, pick_ind, yes_and, both, not_yes, not_no}
use Rattle.parity_table.specs.Shape.{depth_fits}
use Rattle.parity_table.specs.Table.{layer_of, equation_of, TableOk, WellFormed}
use Rattle.table_bytes.specs.Bytes.{words_of}
use Rattle.parity_table.proofs.Shape.{depth_is}
use Rattle.parity_table.proofs.Accepts.{accepted-formed, accepted-table}
use Rattle.coverage.proofs.Right.{found_covered}
use Rattle.parity_table.proofs.Parse.{formed-rules}
use Rattle.symbol_hash.specs.SymbolHash.{symbol_hash}
use Rattle.model.specs.Shape.{tree}
use Rattle.model.specs.Climb.{Ways, all_lead, break_at}
use Rattle.model.specs.Fault.{proof_layer, proof_members, proof_length, body, given_xor, after_given, head_ok, Verdict, accepted, no_fault, ruling, ways_check, path_hash, proof_check, withheld_fits, verdict, InGiven, InPath, ProofHolds}
use Rattle.octets.proofs.SameLaws.{same_yes, yes_same}
use Rattle.model.proofs.Ways.{after_at}
use Rattle.model.proofs.ProofWays.{FirstBreaks, WaysSay, ways_say, ways_are}
use Rattle.calls.specs.declared.Stop.{Stop}
use Rattle.calls.specs.declared.Stop.TheVariants.{Length, Head, NoFault}
use Rattle.calls.specs.Stops.{Answer}
use Rattle.calls.specs.Stops.{Done, Stopped}
use Rattle.calls.specs.Stops.{number_of, values_of}
use Rattle.fault_calls.specs.Checking.{proof_sized, judged, proof_checked}
use Rattle.root_record.specs.Records.{kind_in, root_in}
use Rattle.calls.proofs.AdmissionLaws.{TableTaken}
use Rattle.calls.proofs.RecordLaws.{admits_by}
use Rattle.fault_calls.proofs.CheckingLaws.{sizes, judged_so, passed}
use Rattle.guarantees.specs.Layouts.{bytes_from, hash_for, XorOf, kind_no, root_part}
use Rattle.guarantees.specs.Trees.{Hasher, hash_by}
use Rattle.guarantees.specs.Refusals.{TableLength, HeadRight, NamesTable}
use Rattle.guarantees.specs.Answers.{Answered, done, test, unless, two, Just}
use Rattle.guarantees.specs.Terms.{equations_of}
use Rattle.guarantees.specs.FaultProofs.{given_symbol, Named, given, Exact, path, AllLead, ProofBreaks, Fits, ProofLengths, ProofRight, AcceptsProofJustWhen, proof_tests, ProofCheckerAnswers, Holds, HoldsExactly, HoldsItsSymbols, FaultProofs}
use Rattle.guarantees.proofs.Answers.{all_done, stops_unless, stops_two, passes-unless, passes-two}
use Rattle.guarantees.specs.Tables.{AllInTwo}
use Rattle.guarantees.proofs.Tables.{rules_ok, right-formed, formed-right, covered_all}
use Rattle.guarantees.proofs.Refusals.{depth-fits, table_long, taken_so, by_admitted_by}
use Rattle.guarantees.proofs.Trees.{hash_in_lem}
use Rattle.guarantees.proofs.Records.{head-right, right-head, names_table_lem, table-named}
use Rattle.guarantees.proofs.Layouts.{xor_one}
use Rattle.guarantees.proofs.ProofPlaces.{from_member, given_xor_of, given-held, held-given, way_leads, leads_way, way_broken, broken_way, way_held, held_way, path-leads, leads-path, path-broken, broken-path, path-hash, path-held, held-path}
use Rattle.guarantees.proofs.ProofHeads.{named_fitting, as_named, as_read, length-named, named_ok, ok_named}
use Rattle.guarantees.proofs.ProofWritten.{writes-layout}

-- ---- what is read by the head's names is what is named

module _ (depth : ℕ) (tbl : List (List (List ℕ))) (b : List ℕ) (shallow : depth ≤ 9) (o : TableOk depth tbl) (h : Named depth tbl b) where
  abbrev j : ℕ
  j = h.layer

  abbrev g : ℕ
  g = length (given h)

  -- the withheld member's path follows the given members
  path_there : after_given j (given h) (drop 12 b) ≡ from_member b j g
  path_there = after_at b j (given h) 12

  -- ---- what the proof holds

  held-named : (l m : ℕ) (s : List ℕ) → ProofHolds tree tbl b l m s → Holds h l m s
  unfolding ProofHolds body
  held-named l m s x =
      ⊎_elim
      (λ y.
      let (p, k, w) = given-held b j l m s (given h) 12 y in
      let (u, up, e) = way_held b j p (get_or (given h) p 0) l m s w in
      inl (p, u, k, up, e))
      (λ y. inr (path-held b l m s j g h.withheld (subst (λ (c : List ℕ). InPath tree j h.withheld c l m s) path_there y)))
      (as_named depth tbl b shallow o h
      (λ i y ys. InGiven tree i ys (drop 12 b) l m s ⊎ InPath tree i y (after_given i ys (drop 12 b)) l m s) x)

  named-held : (l m : ℕ) (s : List ℕ) → Holds h l m s → ProofHolds tree tbl b l m s
  unfolding ProofHolds body
  named-held l m s x =
      as_read depth tbl b shallow o h (λ i y ys. InGiven tree i ys (drop 12 b) l m s ⊎ InPath tree i y (after_given i ys (drop 12 b)) l m s)
      (⊎_elim (λ (p, u, k, up, e). inl (held-given b j l m s (given h) 12 p k (held_way b j p (get_or (given h) p 0) l m s u up e)))
      (λ (u, a, up, e). inr (subst (λ (c : List ℕ). InPath tree j h.withheld c l m s) (sym path_there) (held-path b l m s j g h.withheld u a up e)))
      x)

  -- ---- its hashes

  module _ (H : Hasher) (root : List ℕ) where
    abbrev checks : Ways → ℕ → ℕ → List ℕ → Type 0
    checks w i y ys = ways_check tree H root i y 0 ys (drop 12 b) ≡ w

    -- what the check says of the ways that are named, and what they say of it
    abbrev Say : Ways → Type 0
    Say w = WaysSay tree H root b j h.withheld (given h) 12 0 w

    say_named : (w : Ways) → proof_check tree H root tbl b ≡ w → Say w
    unfolding proof_check body
    say_named w e =
        subst Say (as_named depth tbl b shallow o h (checks w) e) (ways_say tree H root b j h.withheld (given h) 12 0)

    named_say : (w : Ways) → Say w → proof_check tree H root tbl b ≡ w
    unfolding proof_check body
    named_say w s = as_read depth tbl b shallow o h (checks w) (ways_are tree H root b j h.withheld (given h) 12 0 w s)

    lead_named : proof_check tree H root tbl b ≡ all_lead → AllLead H root h
    lead_named e =
        let s = say_named all_lead e in
        record {
          given_lead = λ p k. way_leads H root b j p (get_or (given h) p 0) (s.given p k);
          withheld-leads = path-leads H root b j g h.withheld s.path;
        }

    named_lead : AllLead H root h → proof_check tree H root tbl b ≡ all_lead
    named_lead a =
        named_say all_lead
        (record {
          given = λ p k. leads_way H root b j p (get_or (given h) p 0) (a.given_lead p k);
          path = leads-path H root b j g h.withheld a.withheld-leads;
        })

    break_named : (l p : ℕ) → proof_check tree H root tbl b ≡ break_at l p → ProofBreaks H root h l p
    break_named l p e =
        let (q, at, t) = say_named (break_at l p) e in
        let is : q ≡ p = omega arith in
        let s = subst (FirstBreaks tree H root b j h.withheld (given h) 12 l) is t in
        record {
          lead_before = λ r k. way_leads H root b j r (get_or (given h) r 0) (s.before r k);
          breaks =
              ⊎_elim (λ (k, c). inl (k, way_broken H root b j p (get_or (given h) p 0) l c))
              (λ (k, c). let (a, w) = path-broken H root b j g h.withheld l c in inr (k, a, w)) s.here;
        }

    named_break : (l p : ℕ) → ProofBreaks H root h l p → proof_check tree H root tbl b ≡ break_at l p
    named_break l p x =
        named_say (break_at l p) (
          p,
          omega arith,
          record {
            before = λ r k. leads_way H root b j r (get_or (given h) r 0) (x.lead_before r k);
            here =
                ⊎_elim (λ (k, c). inl (k, broken_way H root b j p (get_or (given h) p 0) l c))
                (λ (k, a, w). inr (k, broken-path H root b j g h.withheld l (a, w))) x.breaks;
          },
        )

    -- one or the other
    pub leads_or_breaks : AllLead H root h ⊎ ((l : ℕ) × (p : ℕ) × ProofBreaks H root h l p)
    leads_or_breaks = go (proof_check tree H root tbl b) refl
      where
        go : (w : Ways) → proof_check tree H root tbl b ≡ w → AllLead H root h ⊎ ((l : ℕ) × (p : ℕ) × ProofBreaks H root h l p)
        go all_lead e = inl (lead_named e)
        go (break_at l p) e = inr (l, p, break_named l p e)

    -- ---- its exclusive-or

    module _ (x : Exact h) where
      xor_is : XorOf (λ p. given_symbol b j p 0) g (given_xor j (given h) (drop 12 b))
      unfolding given_symbol layer_of equation_of
      xor_is =
          given_xor_of b j (given h) 12 (λ p. given_symbol b j p 0)
          (omega (arith, ap (λ (n : ℕ). n * (j + 1)) (named_fitting depth tbl b shallow o h).given-count))
          (λ p. let e : 12 + 256 * (p * (j + 1) + 0) ≡ 12 + 256 * (p * suc j) = omega arith in ap (λ (n : ℕ). bytes_from b n 256) e)

      committed-is : path_hash tree root j h.withheld (after_given j (given h) (drop 12 b)) ≡ hash_for root (path H root h) j h.withheld
      committed-is = ap (path_hash tree root j h.withheld) path_there ∙ path-hash H root b j g h.withheld

      equals : ℕ → ℕ → List ℕ → Type 0
      equals i y ys = same (H i y (given_xor i ys (drop 12 b))) (path_hash tree root i y (after_given i ys (drop 12 b))) ≡ true

      fits-named : withheld_fits tree H root tbl b ≡ true → Fits H root h
      unfolding withheld_fits body equals
      fits-named t s y =
          ap (H j h.withheld) (xor_one _ g s _ y xor_is) ∙ same_yes _ _ (as_named depth tbl b shallow o h equals t) ∙ committed-is

      named-fits : Fits H root h → withheld_fits tree H root tbl b ≡ true
      unfolding withheld_fits body equals
      named-fits f = as_read depth tbl b shallow o h equals (yes_same (f _ xor_is ∙ sym committed-is))

-- two readings of one head
module _ (depth : ℕ) (tbl : List (List (List ℕ))) (b : List ℕ) (shallow : depth ≤ 9) (o : TableOk depth tbl) (h z : Named depth tbl b) (H : Hasher) (root : List ℕ) (l p : ℕ) where
  pub breaks_as : ProofBreaks H root h l p → ProofBreaks H root z l p
  breaks_as k = break_named depth tbl b shallow o z H root l p (named_break depth tbl b shallow o h H root l p k)

  pub never_both : AllLead H root h → ProofBreaks H root z l p → ⊥
  never_both a k =
      let e = named_lead depth tbl b shallow o h H root a in
      let f = named_break depth tbl b shallow o z H root l p k in
      let zero_one : ◌≡◌ {A = ℕ} 0 1 = cc in
      omega arith

-- ---- the checker

module _ (depth : ℕ) (r table b : List ℕ) where
  abbrev root : List ℕ
  root = root_part r

  abbrev H : Hasher
  H = hash_by (kind_no r 0)

  abbrev ws : List ℕ
  ws = words_of table

  abbrev tbl : List (List (List ℕ))
  tbl = equations_of table

  -- the tests, from each of them on
  abbrev pub from8 : Answered
  from8 = test 8 (unless ((h : Named depth tbl b) × (Fits H root h → ⊥))) done

  abbrev pub from7 : Answered
  from7 = test 7 (two (λ l p. (h : Named depth tbl b) × ProofBreaks H root h l p)) from8

  abbrev from2 : Answered
  from2 = test 2 (unless ((h : Named depth tbl b) × Exact h)) from7

  abbrev from6 : Answered
  from6 = test 6 (unless (Named depth tbl b)) from2

  -- an answer by these tests, which is Done of a right proof only
  record By (tests : Answered) (a : Answer) : Type 0 where
    just : Just a tests
    only : a ≡ Done → ProofRight depth r table b

  stop : (z : Stop) (k : ℕ) (right : Type 0) (later : Answered) → number_of (Stopped z) ≡ suc k → values_of (Stopped z) ≡ (0, 0) → (right → ⊥)
      → By (test (suc k) (unless right) later) (Stopped z)
  stop z k right later n v x =
      record { just = rw (n, v) (stops_unless x); only = λ e. absurd (omega (arith, ap number_of e)) }

  pass : (a : Answer) (k : ℕ) (right : Type 0) (later : Answered) → right → By later a → By (test k (unless right) later) a
  pass a k right later x y = record { just = passes-unless x y.just; only = y.only }

  abbrev Judged : Answered → Verdict → Type 0
  Judged tests v = By tests (judged v)

  module _ (dr : (1 ≤ depth) × (depth ≤ 9)) (lr : ProofLengths r table b) (hr : HeadRight depth r) (f : WellFormed depth ws) (covers : AllInTwo depth tbl) (names : NamesTable r table) where
    rules : TableOk depth tbl
    rules = formed-rules depth ws f dr.1

    -- the head names h, and the length is the one that it demands
    module _ (h : Named depth tbl b) (x : length b ≡ proof_length (proof_layer b) (length (proof_members tbl b))) where
      exact_of : (z : Named depth tbl b) → Exact z
      exact_of z = x ∙ length-named depth tbl b dr.1 rules z

      at_8 : AllLead H root h → Judged from8 (pick (withheld_fits tree H root tbl b) no_fault accepted)
      at_8 a =
          pick_ind (Judged from8) (withheld_fits tree H root tbl b)
          (λ t. stop NoFault 7 _ done refl refl (λ (z, n). n (fits-named depth tbl b dr.1 rules z H root (exact_of z) t)))
          (λ t.
          let n : Fits H root h → ⊥ = λ y. both (named-fits depth tbl b dr.1 rules h H root (exact_of h) y) t in
          pass Done 8 _ done (h, n)
          (record {
            just = all_done;
            only = λ e. record {
              ready = record {
                depth-right = dr;
                lengths-right = lr;
                head-right = hr;
                table-right = formed-right depth ws f;
                table_covered = covers;
                table-named = names;
                named = h;
                exact = exact_of h;
              };
              all_lead_lem = a;
              differs = n;
            };
          }))

      at_7 : (w : Ways) → proof_check tree H root tbl b ≡ w → Judged from7 (ruling w (withheld_fits tree H root tbl b))
      unfolding ruling
      at_7 all_lead e =
          let rest = at_8 (lead_named depth tbl b dr.1 rules h H root e) in
          record {
            just = passes-two (λ l p (z, k). let q = named_break depth tbl b dr.1 rules z H root l p k in let zero_one : ◌≡◌ {A = ℕ} 0 1 = cc in omega arith) rest.just;
            only = rest.only;
          }
      at_7 (break_at l p) e =
          record {
            just = stops_two l p (h, break_named depth tbl b dr.1 rules h H root l p e)
                (λ m q (z, k). let t = named_break depth tbl b dr.1 rules z H root m q k in (cc, cc));
            only = λ f. absurd (omega (arith, ap number_of f));
          }

    at_6 : Judged from6 (verdict tree H root tbl b)
    unfolding verdict
    at_6 =
        pick_ind (Judged from6) (not (head_ok tbl b))
        (λ t. stop Head 5 _ from2 refl refl (λ h. both (named_ok depth tbl b dr.1 rules h) (not_yes (head_ok tbl b) t)))
        (λ t.
        let h : Named depth tbl b = ok_named depth tbl b dr.1 rules (not_no (head_ok tbl b) t) in
        let n : ℕ = proof_length (proof_layer b) (length (proof_members tbl b)) in
        pass _ 6 _ from2 h
        (pick_ind (Judged from2) (not (eqb (length b) n))
        (λ u. stop Length 1 _ from7 refl refl
        (λ (z, x). both (eq-eqb (length b) n (x ∙ sym (length-named depth tbl b dr.1 rules z))) (not_yes (eqb (length b) n) u)))
        (λ u.
        let x : length b ≡ n = eqb-true (length b) n (not_no (eqb (length b) n) u) in
        pass _ 2 _ from7 (h, exact_of h x h) (at_7 h x (proof_check tree H root tbl b) refl))))

  abbrev ruled : Answer
  ruled = judged (verdict tree (symbol_hash (kind_in r)) root tbl b)

  -- the lengths of record, proof and table
  abbrev own : Bool
  own = proof_sized (length r) (length b)

  pub lengths_own : own ≡ true → TableLength table → ProofLengths r table b
  lengths_own l t =
      let (v, w) = sizes (length r) (length b) l in
      record { record_length = v; table-length = t; head_there = w }

  pub own_lengths : ProofLengths r table b → (own ≡ true) × TableLength table
  own_lengths lr = (yes_and (eq-eqb (length r) 556 lr.record_length) (le-leb 12 (length b) lr.head_there), lr.table-length)

  checked : Just (proof_checked depth r table b) (proof_tests depth r table b)
  unfolding proof_checked root_in
  checked =
      by_admitted_by depth (ProofLengths r table b) own r table ruled lengths_own own_lengths
      (λ f lr hr w c n.
      subst (λ (h : Hasher). Just (judged (verdict tree h root tbl b)) from6) (hash_in_lem r) (at_6 (depth_is depth f) lr hr (right-formed depth ws w) c n).just)

  accepted-right : proof_checked depth r table b ≡ Done → ProofRight depth r table b
  unfolding root_in
  accepted-right e =
      let p = passed depth r table b e in
      let k = p.admits in
      let t = k.taken in
      (at_6 (depth_is depth t.deep) (lengths_own k.lengths (table_long table t.length-fits)) (head-right depth r k.head)
      (accepted-formed depth ws t.accepted).1
      (covered_all depth tbl (found_covered depth tbl (accepted-table depth ws t.accepted) t.covered)) (names_table_lem r table k.named)).only
      (ap judged (ap (λ (h : Hasher). verdict tree h root tbl b) (hash_in_lem r) ∙ p.accepts))

  -- a right proof is accepted
  right-done : ProofRight depth r table b → proof_checked depth r table b ≡ Done
  unfolding verdict ruling root_in
  right-done x =
      let y = x.ready in
      let t : depth_fits depth ≡ true = depth-fits depth y.depth-right in
      let lr = y.lengths-right in
      let o : TableOk depth tbl = formed-rules depth ws (right-formed depth ws y.table-right) y.depth-right.1 in
      let h = y.named in
      let unfit : withheld_fits tree H root tbl b ≡ false =
      by_test (withheld_fits tree H root tbl b) (λ u. absurd (x.differs (fits-named depth tbl b y.depth-right.1 o h H root y.exact u))) (λ u. u) in
      let k : TableTaken depth table = taken_so depth table t lr.table-length y.table-right y.table_covered in
      sym (judged_so depth r table b
      (admits_by depth own r table
      (record { lengths = (own_lengths lr).0; head = right-head depth r y.head-right; taken = k; named = table-named r table y.table-named })))
      ∙ ap judged
      (ap (λ (h : Hasher). verdict tree h root tbl b) (sym (hash_in_lem r))
      ∙ pick_no _ _ _ (ap not (named_ok depth tbl b y.depth-right.1 o h))
      ∙ pick_no _ _ _ (ap not (eq-eqb (length b) _ (y.exact ∙ sym (length-named depth tbl b y.depth-right.1 o h))))
      ∙ ap₂ ruling (named_lead depth tbl b y.depth-right.1 o h H root x.all_lead_lem) unfit
      ∙ pick_no false _ _ refl)

accepts_just_when : AcceptsProofJustWhen
accepts_just_when depth r table b = (accepted-right depth r table b, right-done depth r table b)

checker-answers : ProofCheckerAnswers
checker-answers depth r table b = checked depth r table b

-- ---- what a proof holds

holds_exactly : HoldsExactly
holds_exactly depth tbl b shallow r h l m s =
    let o = rules_ok depth tbl r in
    (held-named depth tbl b shallow o h l m s, named-held depth tbl b shallow o h l m s)

holds_its_symbols : HoldsItsSymbols
holds_its_symbols depth tbl b shallow r h f lay l m s =
    let o = rules_ok depth tbl r in (
      λ x. ⊎_elim
          (λ (p, u, k, up, e). (inl (p, u, k, up), e ∙ lay.given-symbols p u k up.0 ∙ sym (ap₂ f up.1 up.2)))
          (λ (u, a, up, e). (inr (u, a, up), e ∙ lay.path-symbols u a up.0 ∙ sym (ap₂ f up.1 up.2)))
          (held-named depth tbl b shallow o h l m s x),
      λ (x, e). named-held depth tbl b shallow o h l m s
          (⊎_elim (λ (p, u, k, up). inl (p, u, k, up, e ∙ ap₂ f up.1 up.2 ∙ sym (lay.given-symbols p u k up.0)))
          (λ (u, a, up). inr (u, a, up, e ∙ ap₂ f up.1 up.2 ∙ sym (lay.path-symbols u a up.0))) x),
    )

-- ---- all of it

pub fault-proofs : FaultProofs
fault-proofs =
    record {
      accepts_just_when = accepts_just_when;
      checker-answers = checker-answers;
      holds_exactly = holds_exactly;
      holds_its_symbols = holds_its_symbols;
      writes-layout = writes-layout;
    }
