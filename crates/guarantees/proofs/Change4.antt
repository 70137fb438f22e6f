-- CR 4: where a path breaks, of both checkers. Their tests are known (`Refusals`, `FaultProofs`); below is what they say of 7.
use mathlib.Core.Path.{◌≡◌, refl, sym, ap, ◌∙◌, subst}
use mathlib.Core.Bool.{true}
use mathlib.Core.Logic.{◌⊎◌, ◌↔◌, inl, inr, ⊎_elim}
use mathlib.Core.List.{List}
use Prim.Native.Nat.{ℕ, suc, ◌+◌, ◌-◌, ◌*◌, ◌≤◌, ◌<◌}
use native.Mathlib.Nat.{mul-le-mul_right}
use native.Mathlib.Omega.{arith}
use lib.ListN.{length, get_or}
use lib.Dec.{eqb, ltb}
use borrow.Author.Tests.{eqb-true, eq-eqb, ltb-true, lt-ltb}
use Rattle.octets.proofs.ListLaws.{length_part}
use Rattle.octets.proofs.Choice.{yes_and}
use Rattle.parity_table.specs.Shape.{k_of, n_of}
use Rattle.parity_table.specs.Members.{every}
use Rattle.parity_table.specs.Table.{layer_of, equation_of, TableOk}
use Rattle.parity_table.proofs.Parse.{formed-rules}
use Rattle.table_bytes.specs.Bytes.{words_of}
use Rattle.model.specs.Sampling.{sample_size}
use Rattle.model.proofs.Members.{every-below}
use Rattle.model.specs.Fault.{proof_layer, proof_members, proof_length, head_ok}
use Rattle.calls.specs.Stops.{Answer}
use Rattle.calls.specs.Stops.{number_of, values_of}
use Rattle.sample_calls.specs.Checking.{check_sized}
use Rattle.sample_calls.proofs.CheckingLaws.{sizes as check-sizes}
use Rattle.fault_calls.specs.Checking.{proof_checked}
use Rattle.guarantees.specs.Layouts.{bytes_from, all_symbols, up_from, kind_no, root_part}
use Rattle.guarantees.specs.Answers.{Answered, Answers, done, test, fails, holds, unless, one}
use Rattle.guarantees.specs.Tables.{TableRight}
use Rattle.guarantees.specs.Refusals.{DepthRight, RecordLength, SampleLength, HeadRight, InBase, SampleBreaks, sample_tests}
use Rattle.guarantees.specs.FaultProofs.{given_symbol, withheld_symbol, Named, given, Exact, GivenFits, PathFits, AllLead, ProofBreaks, ProofLengths, ProofReady, proof_tests, Holds}
use Rattle.guarantees.specs.Trees.{Hasher, hash_by, members, AgreesWith, Twins}
use Rattle.guarantees.specs.Demand3.{ProofCollides}
use Rattle.guarantees.specs.Demand2.{SampleReady}
use Rattle.guarantees.specs.Terms.{equations_of}
use Rattle.guarantees.specs.Change4.{WayPage, Change4}
use Rattle.guarantees.proofs.Answers.{never, done_never, past, past_so, left}
use Rattle.guarantees.proofs.Tables.{right-formed}
use Rattle.guarantees.proofs.ProofHeads.{Fitting, named_fitting, length-named, named_ok, ok_named}
use Rattle.guarantees.proofs.Passing.{decided, Stable, past_words, past_words_so, left-words, Front, head_stable, names_stable, past_lengths, past_lengths_so, head-front, proof_stable}
use Rattle.guarantees.proofs.Refusals.{depth-fits, refusals}
use Rattle.guarantees.proofs.Pages.{up_low, sample-fits, sample-alone, way_page}
use Rattle.guarantees.proofs.FaultProofs.{from8, from7, leads_or_breaks, breaks_as, never_both, fault-proofs}

-- ---- samples

sizes_stable : (d : ℕ) (r s : List ℕ) → Stable (RecordLength r × SampleLength d s)
sizes_stable d r s =
    decided (check_sized d (length r) (length s)) (check-sizes d (length r) (length s))
    (λ (p, q). yes_and (eq-eqb (length r) 556 p) (eq-eqb (length s) (256 * sample_size d) q))

base_stable : (d i : ℕ) → Stable (InBase d i)
base_stable d i = decided (ltb i (all_symbols (d - 1))) (ltb-true i _) (lt-ltb i _)

module _ (d i : ℕ) (r s : List ℕ) (l p : ℕ) where
  abbrev broken : Type 0
  broken = SampleBreaks (hash_by (kind_no r 0)) d i (root_part r) s l

  sample-found : sample_tests d i r s 7 (l, p) → SampleReady d i r s × broken × (p ≡ 0)
  sample-found t =
      let (dr, lr, t₁₁) = past_lengths d (λ e. omega arith) (λ e. omega arith) (sizes_stable d r s) t in
      let (hr, t₅) = past (λ e. omega arith) (head_stable d r) t₁₁ in
      let (ib, t₇) = past (λ e. omega arith) (base_stable d i) t₅ in
      let (k, z) = at_7 t₇ in
      (record { depth-right = dr; record_length = lr.0; sample-length = lr.1; head-right = hr; in_base = ib }, k, z)
    where
      at_7 : test 7 (one (SampleBreaks (hash_by (kind_no r 0)) d i (root_part r) s)) done 7 (l, p) → broken × (p ≡ 0)
      at_7 (fails e x) = (x.is, x.alone)
      at_7 (holds x y) = absurd (done_never (λ e. omega arith) (l, p) y)

  found-sample : SampleReady d i r s → broken → p ≡ 0 → sample_tests d i r s 7 (l, p)
  found-sample y k z =
      past_lengths_so d (λ e. omega arith) (λ e. omega arith) y.depth-right (y.record_length, y.sample-length)
      (past_so (λ e. omega arith) y.head-right (past_so (λ e. omega arith) y.in_base (fails refl (record { is = k; alone = z }))))

-- ---- proofs

module _ (d : ℕ) (r table b : List ℕ) where
  abbrev root : List ℕ
  root = root_part r

  abbrev H : Hasher
  H = hash_by (kind_no r 0)

  abbrev tbl : List (List (List ℕ))
  tbl = equations_of table

  -- the tests from 8 and from 7 on
  abbrev last : Answered
  last = from8 d r table b

  abbrev hashes : Answered
  hashes = from7 d r table b

  -- the length that the head demands
  abbrev demanded : ℕ
  demanded = proof_length (proof_layer b) (length (proof_members tbl b))

  module _ (dr : DepthRight d) (w : TableRight d (words_of table)) where
    rules : TableOk d tbl
    rules = formed-rules d (words_of table) (right-formed d (words_of table) w) dr.1

    named_stable : Stable (Named d tbl b)
    named_stable = decided (head_ok tbl b) (ok_named d tbl b dr.1 rules) (named_ok d tbl b dr.1 rules)

    exact_of : (h : Named d tbl b) → length b ≡ demanded → Exact h
    exact_of h e = e ∙ length-named d tbl b dr.1 rules h

    of_exact : (h : Named d tbl b) → Exact h → length b ≡ demanded
    of_exact h e = e ∙ sym (length-named d tbl b dr.1 rules h)

    exact_stable : Named d tbl b → Stable ((h : Named d tbl b) × Exact h)
    exact_stable h =
        decided (eqb (length b) demanded) (λ t. (h, exact_of h (eqb-true (length b) demanded t))) (λ (z, e). eq-eqb (length b) demanded (of_exact z e))

  front : {later : Answered}
      → Front d (DepthRight d × ProofLengths r table b × HeadRight d r)
      (test 1 (unless (DepthRight d)) (test 2 (unless (ProofLengths r table b)) (test 11 (unless (HeadRight d r)) later))) later
  front = head-front d (proof_stable r table b) (head_stable d r)

  -- ---- an answer that comes from 7 on

  -- by whichever reading of the head
  as_named : ProofReady d r table b → (P : Named d tbl b → Type 0) → (h : Named d tbl b) → P h → (y : ProofReady d r table b) × P y.named
  as_named y P h x = (
    record {
      depth-right = y.depth-right;
      lengths-right = y.lengths-right;
      head-right = y.head-right;
      table-right = y.table-right;
      table_covered = y.table_covered;
      table-named = y.table-named;
      named = h;
      exact = exact_of y.depth-right y.table-right h (of_exact y.depth-right y.table-right y.named y.exact);
    },
    x,
  )

  -- the number is none of the tests' before 7
  module _ {n : ℕ} {v : ℕ × ℕ} (late : (k : ℕ) → 1 ≤ k → k ≤ 6 → k ≡ n → ⊥) (other : (k : ℕ) → 10 ≤ k → k ≡ n → ⊥) where
    into : proof_tests d r table b n v → ProofReady d r table b × hashes n v
    into t =
        let ((dr, lr, hr), t₃) = front.into (late 1 (omega arith) (omega arith)) (late 2 (omega arith) (omega arith)) (other 11 (omega arith)) t in
        let (w, c, t₁₂) = past_words d (words_of table) (depth-fits d dr) (late 3 (omega arith) (omega arith)) (other 10 (omega arith)) t₃ in
        let (m, t₆) = past (other 12 (omega arith)) (names_stable r table) t₁₂ in
        let (h, t₂) = past (late 6 (omega arith) (omega arith)) (named_stable dr w) t₆ in
        let ((z, e), t₇) = past (late 2 (omega arith) (omega arith)) (exact_stable dr w h) t₂ in
        (record { depth-right = dr; lengths-right = lr; head-right = hr; table-right = w; table_covered = c; table-named = m; named = z; exact = e }, t₇)

    back : (y : ProofReady d r table b) → hashes n v → proof_tests d r table b n v
    back y t =
        front.back (late 1 (omega arith) (omega arith)) (late 2 (omega arith) (omega arith)) (other 11 (omega arith)) (y.depth-right, y.lengths-right, y.head-right)
        (past_words_so d (words_of table) (depth-fits d y.depth-right) y.table-right y.table_covered
        (past_so (other 12 (omega arith)) y.table-named
        (past_so (late 6 (omega arith) (omega arith)) y.named (past_so (late 2 (omega arith) (omega arith)) (y.named, y.exact) t))))

  -- 7, and what comes after it
  found_7 : {l p : ℕ} → hashes 7 (l, p) → (h : Named d tbl b) × ProofBreaks H root h l p
  found_7 (fails e x) = x.are
  found_7 {l} {p} (holds x y) = absurd (never (λ e. omega arith) (done_never (λ e. omega arith)) (l, p) y)

  later_7 : {n : ℕ} {v : ℕ × ℕ} → (7 ≡ n → ⊥) → hashes n v → (l p : ℕ) (h : Named d tbl b) → ProofBreaks H root h l p → ⊥
  later_7 o (fails e x) l p h k = o (sym e)
  later_7 o (holds x y) l p h k = x (l, p) (record { are = (h, k) })

  from_8 : {n : ℕ} {v : ℕ × ℕ} → last n v → (n ≡ 0) ⊎ (n ≡ 8)
  from_8 (fails e x) = inr e
  from_8 (holds x (e, y)) = inl e

  from_7 : {n : ℕ} {v : ℕ × ℕ} → ((l p : ℕ) (h : Named d tbl b) → ProofBreaks H root h l p → ⊥) → hashes n v → (n ≡ 0) ⊎ (n ≡ 8)
  from_7 none (fails e x) = let (h, k) = x.are in absurd (none _ _ h k)
  from_7 none (holds x y) = from_8 y

  -- ---- the statements

  abbrev answer : Answer
  answer = proof_checked d r table b

  tested : (n : ℕ) (v : ℕ × ℕ) → Answers answer n v ↔ proof_tests d r table b n v
  tested = (fault-proofs.checker-answers d r table b).answers

  stops : (l p : ℕ) → Answers answer 7 (l, p) ↔ ((y : ProofReady d r table b) × ProofBreaks H root y.named l p)
  stops l p = (
    λ e. let (y, t) = into (λ k a c e. omega arith) (λ k a e. omega arith) ((tested 7 (l, p)).0 e) in let (h, k) = found_7 t in as_named y (λ z. ProofBreaks H root z l p) h k,
    λ (y, k). (tested 7 (l, p)).1 (back (λ k a c e. omega arith) (λ k a e. omega arith) y (fails refl (record { are = (y.named, k) }))),
  )

  -- an answer that comes after 7, and what comes where every way leads
  later_leads : {n : ℕ} {v : ℕ × ℕ} → (7 ≡ n → ⊥) → (y : ProofReady d r table b) → hashes n v → AllLead H root y.named
  later_leads o y t =
      ⊎_elim (λ a. a) (λ (l, p, k). absurd (later_7 o t l p y.named k))
      (leads_or_breaks d tbl b y.depth-right.1 (rules y.depth-right y.table-right) y.named H root)

  leads_then : (y : ProofReady d r table b) → AllLead H root y.named → (number_of answer ≡ 0) ⊎ (number_of answer ≡ 8)
  leads_then y a =
      let t = left y.head-right (left y.lengths-right (left y.depth-right ((tested (number_of answer) (values_of answer)).0 (refl, refl)))) in
      let t₁₂ = left-words d (words_of table) (depth-fits d y.depth-right) y.table-right y.table_covered t in
      from_7 (λ l p h k. never_both d tbl b y.depth-right.1 (rules y.depth-right y.table-right) y.named h H root l p a k)
      (left (y.named, y.exact) (left y.named (left y.table-named t₁₂)))

  after_7 : ((k : ℕ) → 1 ≤ k → k ≤ 6 → k ≡ number_of answer → ⊥) → ((k : ℕ) → 10 ≤ k → k ≡ number_of answer → ⊥) → (7 ≡ number_of answer → ⊥)
      → (y : ProofReady d r table b) × AllLead H root y.named
  after_7 late other o = let (y, t) = into late other ((tested (number_of answer) (values_of answer)).0 (refl, refl)) in (y, later_leads o y t)

  leads : ((number_of answer ≡ 0) ⊎ (number_of answer ≡ 8)) ↔ ((y : ProofReady d r table b) × AllLead H root y.named)
  leads = (
    ⊎_elim (λ e. after_7 (λ k a c f. omega arith) (λ k a f. omega arith) (λ f. omega arith))
        (λ e. after_7 (λ k a c f. omega arith) (λ k a f. omega arith) (λ f. omega arith)),
    λ (y, a). leads_then y a,
  )

  -- of a proof of layer 0
  top : (l p : ℕ) → Answers answer 7 (l, p) → (h : Named d tbl b) → h.layer ≡ 0 → (l ≡ 0) × (p < length (given h))
  top l p e h z =
      let (y, k) = (stops l p).0 e in
      let k' = breaks_as d tbl b y.depth-right.1 (rules y.depth-right y.table-right) y.named h H root l p k in
      ⊎_elim (λ (q, w). (omega (arith, w.on_way_lem), q)) (λ (q, a, w). absurd (omega arith)) k'.breaks

  -- ---- which page to ask for again

  module _ (ready : ProofReady d r table b) (tb : List (List (List ℕ))) (f : ℕ → ℕ → List ℕ) (agr : AgreesWith H d tb root f) where
    abbrev h : Named d tbl b
    h = ready.named

    abbrev j : ℕ
    j = h.layer

    abbrev g : ℕ
    g = length (given h)

    fitting : Fitting tbl j h.equation h.withheld h.front h.back
    fitting = named_fitting d tbl b ready.depth-right.1 (rules ready.depth-right ready.table-right) h

    count : (length (members tbl j h.equation) - 1) * (j + 1) ≡ g * (j + 1)
    unfolding layer_of equation_of
    count = ap (λ (n : ℕ). n * (j + 1)) fitting.given-count

    shown : (l m : ℕ) (held : List ℕ) → Holds h l m held → l < d → m < all_symbols l → Twins H l m held (f l m) → ProofCollides H d table b f
    shown l m held there deep low twins = record { named = h; layer = l; number = m; held = held; holds = there; in_tree = (deep, low); collide = twins }

    given_page : (p l : ℕ) → p < g → l ≤ j
        → WayPage j (get_or (given h) p 0) (given_symbol b j p) (λ i. GivenFits H root h p (j - i)) f (ProofCollides H d table b f) l
    unfolding k_of n_of given_symbol bytes_from
    given_page p l q on =
        let y : ℕ = get_or (given h) p 0 in
        let below = every-below (n_of j) (given h) (subst (λ ys. every (λ y. ltb y (n_of j)) ys ≡ true) fitting.given-are fitting.given_below) p q in
        way_page H d tb root f agr j y (given_symbol b j p) h.has_layer l on
        (up_low j y l (j - l) (omega arith) (λ e. let z : j ≡ l = omega arith in subst (λ (n : ℕ). y < all_symbols n) z below))
        (λ u c. length_part b (12 + 256 * (p * (j + 1) + (j - u))) 256 (omega (arith, ready.exact, count, mul-le-mul_right {m = suc p} {n = g} (j + 1) q)))
        (λ (u, c, low, twins). shown u (up_from j y (j - u)) (given_symbol b j p (j - u)) (inl (p, j - u, q, (omega arith, omega arith, refl), refl)) (omega (arith, h.has_layer)) low twins)

    withheld_page : (l : ℕ) → l < j
        → WayPage j h.withheld (withheld_symbol b j g) (λ i. PathFits H root h (j - i)) f (ProofCollides H d table b f) l
    unfolding withheld_symbol bytes_from
    withheld_page l on =
        let y : ℕ = h.withheld in
        way_page H d tb root f agr j y (withheld_symbol b j g) h.has_layer l (omega arith) (up_low j y l (j - l) (omega arith) (λ e. absurd (omega arith)))
        (λ u c. length_part b (12 + 256 * (g * (j + 1) + (j - u - 1))) 256 (omega (arith, ready.exact, count)))
        (λ (u, c, low, twins). shown u (up_from j y (j - u)) (withheld_symbol b j g (j - u)) (inr (j - u, omega arith, (omega arith, omega arith, refl), refl)) (omega (arith, h.has_layer)) low twins)

pub change_4 : Change4
change_4 =
    record {
      sample_stops = λ d i r s l p. (
        λ e. sample-found d i r s l p (((refusals.sample-checker d i r s).answers 7 (l, p)).0 e),
        λ (y, k, z). ((refusals.sample-checker d i r s).answers 7 (l, p)).1 (found-sample d i r s l p y k z),
      );
      proof_stops = stops;
      proof-leads = leads;
      proof_of_top = top;
      sample_page = λ d i r s y tbl f agr. record {
        one_of_two = λ x h wrong t. wrong (sample-fits (hash_by (kind_no r 0)) d tbl (root_part r) f agr i s y.depth-right.0 y.in_base x h t);
        topmost = λ x h wrong above.
            sample-alone (hash_by (kind_no r 0)) d tbl (root_part r) f agr i s y.depth-right.0 y.in_base x h y.sample-length wrong above;
      };
      proof_page = λ d r table b y tb f agr. record { given_page = given_page d r table b y tb f agr; withheld_page = withheld_page d r table b y tb f agr };
    }
