-- The tests after the head's, one by one.
use mathlib.Core.Path.{◌≡◌, sym, ap, ◌∙◌}
use mathlib.Core.Bool.{Bool, true, false, not}
use mathlib.Core.List.{List}
use Prim.Native.Nat.{ℕ, suc, ◌+◌, ◌-◌, ◌*◌, ◌≤◌, ◌<◌}
use native.Mathlib.Omega.{arith}
use native.Mathlib.Nat.{mul-le-mul_right}
use lib.ListN.{length, drop}
use lib.Dec.{leb, ltb, eqb}
use borrow.Author.Tests.{leb-true, ltb-true, eq-eqb, ne_eqb}
use Rattle.std.proofs.Common.{Err, Ok, Result}
use Rattle.octets.specs.Choice.{pick}
use Rattle.octets.specs.ByteLists.{same}
use Rattle.octets.proofs.Choice.{and_yes, pick_yes, pick_no}
use Rattle.heads.specs.Heads.{kind_at, value_at}
use Rattle.model.specs.Shape.{Shape, Hangs, tree}
use Rattle.model.specs.Symbols.{count, others}
use Rattle.model.specs.Climb.{Ways}
use Rattle.model.specs.Fault.{proof_withheld, proof_length, body, given_xor, after_given, Verdict, accepted, wrong_head, wrong_length, broken, no_fault, ruling, path_hash, ways_check}
use Rattle.model.proofs.Counts.{is_it, count_le, every-member, ascending_once, length-others}
use Rattle.model.proofs.Ways.{after_at}
use Rattle.model.proofs.Hung.{path_hash-hung, ways_check-hung}
use Rattle.fault_proof.specs.declared.Break.{Break}
use Rattle.fault_proof.specs.Verdicts.{ways_of}
use Rattle.fault_proof.specs.Lent.{Members}
use Rattle.fault_proof.specs.Ruled.{withholds, ruled, judged}

module _ (H : ℕ → ℕ → List ℕ → List ℕ) (root : List ℕ) (j x : ℕ) (ms b : List ℕ) (k : Members j ms root) (m : 1 ≤ count (is_it x) ms) where
  -- ---- numbers

  pub some-member : 1 ≤ length ms
  some-member = omega (arith, count_le (is_it x) ms)

  withheld-below : x < k.symbols
  withheld-below = ltb-true x k.symbols (every-member (λ y. ltb y k.symbols) x ms k.inside (omega arith))

  -- the withheld member stands under the tree's layers, or in the root
  pub withheld-inside : (j ≡ 0 → 32 * suc x ≤ length root) × (0 < j → x < tree.n j)
  withheld-inside = (λ z. omega (arith, withheld-below, k.top z), λ h. omega (arith, withheld-below, (k.hung h).0))

  -- the length is computed with no loss
  pub few_bytes : (length ms - 1) * (j + 1) ≤ 7 * (j + 1)
  few_bytes = mul-le-mul_right {m = length ms - 1} {n = 7} (j + 1) (omega (arith, k.few))

  given_many : length (others x ms) ≡ length ms - 1
  given_many = omega (arith, ascending_once x ms k.ascend, length-others x ms)

  -- ---- the length

  pub other_length : (length b ≡ 12 + 256 * ((length ms - 1) * (j + 1) + j) → ⊥) → wrong_length ≡ ruled tree H root j x ms b
  unfolding ruled proof_length
  other_length n =
      let ne : length b ≡ 12 + 256 * ((length ms - 1) * suc j + j) → ⊥ = λ e. n (omega arith) in
      sym (pick_yes (not (eqb (length b) (12 + 256 * ((length ms - 1) * suc j + j)))) wrong_length _ (ap not (ne_eqb _ _ ne)))

  module _ (e : length b ≡ 12 + 256 * ((length ms - 1) * (j + 1) + j)) where
    same_product : length (others x ms) * suc j ≡ (length ms - 1) * suc j
    same_product = ap (λ n. n * suc j) given_many

    -- where the withheld member's path starts
    pub path-starts : length b - 256 * j ≡ 12 + 256 * (length (others x ms) * suc j)
    path-starts = omega (arith, e, same_product)

    pub ways_room : 12 + 256 * (length (others x ms) * suc j) + 256 * j ≤ length b
    ways_room = omega (arith, e, same_product)

    pub path_room : length b - 256 * j + 256 * j ≤ length b
    path_room = omega (arith, e)

    path_there : after_given j (others x ms) (body b) ≡ drop (length b - 256 * j) b
    unfolding body
    path_there = after_at b j (others x ms) 12 ∙ ap (λ o. drop o b) (sym path-starts)

    -- ---- the hashes

    abbrev ways : Ways
    ways = ways_check tree H root j x 0 (others x ms) (drop 12 b)

    abbrev fit : Bool
    fit = same (H j x (given_xor j (others x ms) (drop 12 b))) (path_hash tree root j x (drop (length b - 256 * j) b))

    by_length : ruled tree H root j x ms b ≡ ruling ways fit
    unfolding ruled proof_length body
    by_length =
        let q : length b ≡ 12 + 256 * ((length ms - 1) * suc j + j) = omega arith in
        pick_no (not (eqb (length b) (12 + 256 * ((length ms - 1) * suc j + j)))) wrong_length _ (ap not (eq-eqb _ _ q))
        ∙ ap (λ c. ruling ways (same (H j x (given_xor j (others x ms) (drop 12 b))) (path_hash tree root j x c))) path_there

    -- w, what the check of the ways finds
    module _ (w : Result Unit Break) (ew : ways_of w ≡ ways) where
      by_ways : ruling (ways_of w) fit ≡ ruled tree H root j x ms b
      by_ways = ap (λ z. ruling z fit) ew ∙ sym by_length

      pub way_broken : (v : Break) → w ≡ Err v → broken v.layer v.position ≡ ruled tree H root j x ms b
      unfolding ruling
      way_broken v t = ap (λ z. ruling (ways_of z) fit) (sym t) ∙ by_ways

      -- s, the exclusive-or of the given members, and whether its hash is the committed one
      module _ (t : w ≡ Ok tt) (s : List ℕ) (es : s ≡ given_xor j (others x ms) (drop 12 b)) (f : Bool)
          (ef : f ≡ same (H j x s) (path_hash tree root j x (drop (length b - 256 * j) b))) where
        by_fit : pick f no_fault accepted ≡ ruled tree H root j x ms b
        unfolding ruling
        by_fit =
            ap (λ z. pick z no_fault accepted) (ef ∙ ap (λ q. same (H j x q) (path_hash tree root j x (drop (length b - 256 * j) b))) es)
            ∙ ap (λ z. ruling (ways_of z) fit) (sym t) ∙ by_ways

        pub no_fault_lem : f ≡ true → no_fault ≡ ruled tree H root j x ms b
        no_fault_lem u = sym (pick_yes f no_fault accepted u) ∙ by_fit

        pub fault-shown : f ≡ false → accepted ≡ ruled tree H root j x ms b
        fault-shown u = sym (pick_no f no_fault accepted u) ∙ by_fit

-- ---- a layer of another shape, under the tree's layers

module _ (S : Shape) (H : ℕ → ℕ → List ℕ → List ℕ) (root : List ℕ) (j : ℕ) (h : Hangs S j) where
  ruled-hung : (x : ℕ) (ms b : List ℕ) → ruled S H root j x ms b ≡ ruled tree H root j x ms b
  unfolding ruled
  ruled-hung x ms b =
      let c : List ℕ = after_given j (others x ms) (body b) in
      cc (ways_check-hung S H root j h x 0 (others x ms) (body b), path_hash-hung S root j h x c)

  pub judged-hung : (ms b : List ℕ) → judged S H root j ms b ≡ judged tree H root j ms b
  unfolding judged
  judged-hung ms b = ap (pick (not (withholds b ms)) wrong_head) (ruled-hung (proof_withheld b) ms b)

-- ---- the withheld member's number

-- w, whether the proof withholds one of the members
module _ (H : ℕ → ℕ → List ℕ → List ℕ) (root : List ℕ) (j : ℕ) (ms b : List ℕ) (w : Bool) (ew : w ≡ withholds b ms) where
  pub judged-head : w ≡ false → wrong_head ≡ judged tree H root j ms b
  unfolding judged
  judged-head t = sym (pick_yes (not (withholds b ms)) wrong_head _ (ap not (sym ew ∙ t)))

  pub judged_on : w ≡ true → (x : ℕ) → x ≡ value_at b 2 → (v : Verdict) → v ≡ ruled tree H root j x ms b → v ≡ judged tree H root j ms b
  unfolding judged proof_withheld
  judged_on t x ex v ev = ev ∙ ap (λ y. ruled tree H root j y ms b) ex ∙ sym (pick_no (not (withholds b ms)) wrong_head _ (ap not (sym ew ∙ t)))

  pub withheld_there : w ≡ true → (x : ℕ) → x ≡ value_at b 2 → 1 ≤ count (is_it x) ms
  unfolding withholds proof_withheld
  withheld_there t x ex =
      rw ex (leb-true 1 (count (is_it (value_at b 2)) ms) (and_yes (eqb (kind_at b 2) 3) (leb 1 (count (is_it (value_at b 2)) ms)) (sym ew ∙ t)).1)
