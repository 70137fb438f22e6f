-- Root records: what their tests find, and that reader and writer are inverse.
use mathlib.Core.Path.{◌≡◌, refl, sym, ap, ap₂, ◌∙◌}
use mathlib.Core.Bool.{Bool, true, false, ◌&&◌}
use mathlib.Core.List.{List, ◌++◌}
use Prim.Native.Nat.{ℕ, zero, suc, ◌+◌, ◌-◌, ◌*◌, ◌/◌, ◌^◌, ◌≤◌, ◌<◌}
use native.Mathlib.Omega.{arith}
use lib.ListN.{length, take, drop, length-append, take-append-drop}
use lib.Seq.{take_at, drop_at, drop-drop}
use lib.Dec.{leb, ltb, eqb}
use borrow.Author.Tests.{leb-true, eqb-true, lt-ltb, ltb-true, le-leb, eq-eqb, ne_eqb}
use Rattle.octets.specs.ByteLists.{same}
use Rattle.octets.specs.Choice.{pick}
use Rattle.octets.proofs.Choice.{by_test, both, and_yes, yes_and}
use Rattle.sha256.specs.Hash.{sha256}
use Rattle.sha256.proofs.DigestLaws.{length-sha256}
use Rattle.parity_table.specs.Shape.{depth_fits, k_of}
use Rattle.parity_table.specs.Members.{every}
use Rattle.parity_table.specs.Parse.{over}
use Rattle.parity_table.proofs.Shape.{depth_is, k_small}
use Rattle.heads.specs.Heads.{head, kind_at, value_at}
use Rattle.heads.proofs.HeadLaws.{length-head, after-head, head-kinds, head_values, head_apart}
use Rattle.octets.proofs.SameLaws.{same_yes, yes_same}
use Rattle.symbol_hash.specs.declared.Kind.{Kind}
use Rattle.symbol_hash.specs.declared.Kind.TheVariants.{Plain, Placed}
use Rattle.root_record.specs.Records.{kind_number, kind_of, record_of, kind_in, size_in, count_in, hash_in, root_in, head_right, names_table}

-- ---- what the tests find

module _ (d : ℕ) (r : List ℕ) where
  pub head-parts : head_right d r ≡ true → (kind_at r 0 ≤ 1) × (value_at r 0 ≡ d) × (kind_at r 1 ≡ 2) × (size_in r ≤ 256 * k_of (d - 1)) × (kind_at r 2 ≡ 3)
  unfolding head_right
  head-parts t =
      let (a, b) = and_yes (leb (kind_at r 0) 1 && eqb (value_at r 0) d) _ t in
      let (first, depth) = and_yes (leb (kind_at r 0) 1) (eqb (value_at r 0) d) a in
      let (c, third) = and_yes (eqb (kind_at r 1) 2 && leb (size_in r) (256 * k_of (d - 1))) (eqb (kind_at r 2) 3) b in
      let (second, size) = and_yes (eqb (kind_at r 1) 2) (leb (size_in r) (256 * k_of (d - 1))) c in
      (leb-true _ 1 first, eqb-true _ d depth, eqb-true _ 2 second, leb-true _ _ size, eqb-true _ 3 third)

  pub parts-head : kind_at r 0 ≤ 1 → value_at r 0 ≡ d → kind_at r 1 ≡ 2 → size_in r ≤ 256 * k_of (d - 1) → kind_at r 2 ≡ 3 → head_right d r ≡ true
  unfolding head_right
  parts-head first depth second size third =
      yes_and (yes_and (le-leb _ 1 first) (eq-eqb _ d depth)) (yes_and (yes_and (eq-eqb _ 2 second) (le-leb _ _ size)) (eq-eqb _ 3 third))

module _ (r table : List ℕ) where
  pub table-parts : names_table r table ≡ true → (count_in r ≡ length table / 4) × (hash_in r ≡ sha256 table)
  unfolding names_table
  table-parts t =
      let (count, hash) = and_yes (eqb (count_in r) (length table / 4)) (same (sha256 table) (hash_in r)) t in
      (eqb-true _ _ count, sym (same_yes _ _ hash))

  pub parts-table : count_in r ≡ length table / 4 → hash_in r ≡ sha256 table → names_table r table ≡ true
  unfolding names_table
  parts-table count hash = yes_and (eq-eqb _ _ count) (yes_same (sym hash))

-- ---- the kinds and their numbers

pub number_small : (kind : Kind) → kind_number kind ≤ 1
number_small Placed = omega arith
number_small Plain = omega arith

pub kind_zero : (k : ℕ) → k ≡ 0 → Placed ≡ kind_of k
unfolding kind_of pick
kind_zero k e = rw (eq-eqb k 0 e)

pub kind_other : (k : ℕ) → (k ≡ 0 → ⊥) → Plain ≡ kind_of k
unfolding kind_of pick
kind_other k n = rw (ne_eqb k 0 n)

pub kind_back : (kind : Kind) → kind_of (kind_number kind) ≡ kind
kind_back Placed = sym (kind_zero 0 refl)
kind_back Plain = sym (kind_other 1 (λ e. omega arith))

pub number-back : (k : ℕ) → k ≤ 1 → kind_number (kind_of k) ≡ k
number-back zero h = ap kind_number (sym (kind_zero 0 refl))
number-back (suc k) h = ap kind_number (sym (kind_other (suc k) (λ e. omega arith))) ∙ omega arith

-- ---- a record that is written and read

module _ (kind : Kind) (d n : ℕ) (table root : List ℕ) where
  abbrev count : ℕ
  count = length table / 4

  pub record_length : length root ≡ 512 → length (record_of kind d n table root) ≡ 556
  unfolding record_of
  record_length h =
      omega (arith, length-append (head (kind_number kind) d n count) (sha256 table ++ root), length-head (kind_number kind) d n count, length-append (sha256 table) root, length-sha256 table)

  pub record_hash : hash_in (record_of kind d n table root) ≡ sha256 table
  unfolding hash_in record_of
  record_hash = ap (take 32) (after-head (kind_number kind) d n count (sha256 table ++ root)) ∙ take_at (sha256 table) root 32 (length-sha256 table)

  pub record_root : root_in (record_of kind d n table root) ≡ root
  unfolding root_in record_of
  record_root =
      sym (drop-drop 32 12 (head (kind_number kind) d n count ++ (sha256 table ++ root)))
      ∙ ap (drop 32) (after-head (kind_number kind) d n count (sha256 table ++ root))
      ∙ drop_at (sha256 table) root 32 (length-sha256 table)

  module _ (fits : depth_fits d ≡ true) (n-fits : n ≤ 256 * k_of (d - 1)) (count_fits : length table / 4 < 2 ^ 30) where
    k-low : kind_number kind < 4
    k-low = omega (arith, number_small kind)

    d_small : d < 2 ^ 30
    d_small = omega (arith, depth_is d fits)

    n_small : n < 2 ^ 30
    n_small = omega (arith, k_small (d - 1) (omega (arith, depth_is d fits)))

    values : let r : List ℕ = record_of kind d n table root in (value_at r 0 ≡ d) × (size_in r ≡ n) × (count_in r ≡ length table / 4)
    unfolding size_in count_in record_of
    values = head_values (kind_number kind) d n count (sha256 table ++ root) k-low d_small n_small count_fits

    kinds : let r : List ℕ = record_of kind d n table root in (kind_at r 0 ≡ kind_number kind) × (kind_at r 1 ≡ 2) × (kind_at r 2 ≡ 3)
    unfolding record_of
    kinds = head-kinds (kind_number kind) d n count (sha256 table ++ root) k-low d_small n_small count_fits

    pub record_kind : kind_in (record_of kind d n table root) ≡ kind
    unfolding kind_in
    record_kind = ap kind_of kinds.0 ∙ kind_back kind

    pub record_size : size_in (record_of kind d n table root) ≡ n
    record_size = values.1

    pub record_count : count_in (record_of kind d n table root) ≡ length table / 4
    record_count = values.2

    pub record_right : head_right d (record_of kind d n table root) ≡ true
    record_right = parts-head d _ (omega (arith, kinds.0, number_small kind)) values.0 kinds.1 (omega (arith, record_size)) kinds.2

    pub record_names : names_table (record_of kind d n table root) table ≡ true
    record_names = parts-table _ table record_count record_hash

-- ---- a record that is read and written

module _ (d : ℕ) (r : List ℕ) (bytes : every (λ x. ltb x 256) r ≡ true) (sized : length r ≡ 556) (right : head_right d r ≡ true) where
  pub record_read : r ≡ head (kind_number (kind_in r)) d (size_in r) (count_in r) ++ (hash_in r ++ root_in r)
  unfolding kind_in size_in count_in hash_in root_in
  record_read =
      let (first, depth, second, _, third) = head-parts d r right in
      head_apart r bytes _ (omega arith) (sym (number-back _ first)) second third
      ∙ ap₂ (λ (v : ℕ) (l : List ℕ). head (kind_number (kind_of (kind_at r 0))) v (value_at r 1) (value_at r 2) ++ l) depth
      (sym (take-append-drop 32 (drop 12 r)) ∙ ap (λ (l : List ℕ). take 32 (drop 12 r) ++ l) (drop-drop 32 12 r))

  pub record_read_of : (table : List ℕ) → names_table r table ≡ true → r ≡ record_of (kind_in r) d (size_in r) table (root_in r)
  unfolding record_of
  record_read_of table t =
      let (count, hash) = table-parts r table t in
      record_read ∙ ap₂ (λ (c : ℕ) (h : List ℕ). head (kind_number (kind_in r)) d (size_in r) c ++ (h ++ root_in r)) count hash

-- ---- the tests as the reader makes them, one after the other

module _ (d : ℕ) (r : List ℕ) where
  turned_down : (head_right d r ≡ true → ⊥) → false ≡ head_right d r
  turned_down n = by_test (head_right d r) (λ t. absurd (n t)) (λ t. sym t)

  pub right_kind : (k : ℕ) → k ≡ kind_at r 0 → 1 < k → false ≡ head_right d r
  right_kind k e n = turned_down (λ t. absurd (omega (arith, (head-parts d r t).0)))

  pub right-depth : (v : ℕ) → v ≡ value_at r 0 → (v ≡ d → ⊥) → false ≡ head_right d r
  right-depth v e n = turned_down (λ t. n (e ∙ (head-parts d r t).1))

  module _ (k : ℕ) (ek : k ≡ k_of (d - 1)) (s : Bool) (es : s ≡ (eqb (kind_at r 1) 2 && ltb (value_at r 1) (256 * k + 1))) where
    pub right-size : s ≡ false → false ≡ head_right d r
    unfolding size_in
    right-size n =
        turned_down
        (λ t.
        let (_, _, second, size, _) = head-parts d r t in
        both (es ∙ yes_and (eq-eqb (kind_at r 1) 2 second) (lt-ltb (value_at r 1) (256 * k + 1) (omega arith))) n)

    pub right-last : (k₀ v k₂ : ℕ) → k₀ ≡ kind_at r 0 → k₀ ≤ 1 → v ≡ value_at r 0 → v ≡ d → s ≡ true → k₂ ≡ kind_at r 2 → eqb k₂ 3 ≡ head_right d r
    unfolding head_right size_in
    right-last k₀ v k₂ e₀ o ev q n e₂ =
        let (second, size) = and_yes (eqb (kind_at r 1) 2) (ltb (value_at r 1) (256 * k + 1)) (sym es ∙ n) in
        let below : value_at r 1 ≤ 256 * k_of (d - 1) = omega (arith, ltb-true (value_at r 1) (256 * k + 1) size) in
        rw (le-leb (kind_at r 0) 1 (omega arith), eq-eqb (value_at r 0) d (sym ev ∙ q), second, le-leb (value_at r 1) (256 * k_of (d - 1)) below, e₂)

module _ (r table : List ℕ) (c : ℕ) (ec : c ≡ value_at r 2) where
  pub names_count : (c ≡ length table / 4 → ⊥) → false ≡ names_table r table
  unfolding names_table count_in
  names_count n = rw (ne_eqb (value_at r 2) (length table / 4) (λ z. n (ec ∙ z)))

  pub names_hash : (h : List ℕ) → c ≡ length table / 4 → h ≡ sha256 table → same h (take (length h) (drop 12 r)) ≡ names_table r table
  unfolding names_table count_in hash_in
  names_hash h q eh = rw (eq-eqb (value_at r 2) (length table / 4) (sym ec ∙ q), eh, length-sha256 table)

-- ---- what the writer leaves: r₁ with the head, then h in place of the 32 bytes behind it

pub record_put : (kind : Kind) (k d n : ℕ) (table r r₁ h : List ℕ) → k ≡ kind_number kind → r₁ ≡ over (head k d n (length table / 4)) r
    → h ≡ sha256 table → take 12 r₁ ++ (h ++ drop 32 (drop 12 r₁)) ≡ record_of kind d n table (root_in r)
unfolding record_of root_in
record_put kind k d n table r r₁ h ek e₁ eh =
    let front : List ℕ = head (kind_number kind) d n (length table / 4) in
    let long : length front ≡ 12 = length-head (kind_number kind) d n (length table / 4) in
    let put : r₁ ≡ over front r = e₁ ∙ ap (λ (v : ℕ). over (head v d n (length table / 4)) r) ek in
    let behind : drop 12 r₁ ≡ drop 12 r = ap (drop 12) put ∙ drop_at front (drop (length front) r) 12 long ∙ ap (λ (k : ℕ). drop k r) long in
    ap₂ (λ (a b : List ℕ). a ++ (b ++ drop 32 (drop 12 r₁))) (ap (take 12) put ∙ take_at front (drop (length front) r) 12 long) eh
    ∙ ap (λ (l : List ℕ). front ++ (sha256 table ++ l)) (ap (drop 32) behind ∙ drop-drop 32 12 r)
