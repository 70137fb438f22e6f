-- A root record in 02's numbers is what the other crates define: its words, tests 11 and 12, and the bytes that are written.
use mathlib.Core.Path.{◌≡◌, refl, sym, ap, ap₂, ◌∙◌}
use mathlib.Core.Logic.{◌⊎◌, inl, inr}
use mathlib.Core.Bool.{true}
use mathlib.Core.List.{List, [], ◌∷◌, ◌++◌}
use Prim.Native.Nat.{ℕ, zero, suc, ◌-◌, ◌≤◌, ◌<◌, ◌*◌, ◌/◌, ◌%◌, ◌^◌}
use native.Mathlib.Omega.{arith}
use lib.ListN.{length}
use Rattle.octets.specs.BigEndian.{be}
use Rattle.sha256.specs.Hash.{sha256}
use Rattle.parity_table.specs.Shape.{depth_fits, k_of}
use Rattle.parity_table.specs.Table.{word}
use Rattle.table_bytes.specs.Bytes.{words_of}
use Rattle.table_bytes.proofs.ByteForm.{words_of-length}
use Rattle.heads.specs.Heads.{head, kind_at, value_at}
use Rattle.symbol_hash.specs.declared.Kind.{Kind}
use Rattle.symbol_hash.specs.declared.Kind.TheVariants.{Plain, Placed}
use Rattle.root_record.specs.Records.{kind_number, kind_in, record_of, size_in, count_in, hash_in, root_in, head_right, names_table}
use Rattle.root_record.proofs.RecordLaws.{number-back, record_kind, record_right, head-parts, parts-head, table-parts, parts-table}
use Rattle.guarantees.specs.Layouts.{bytes_from, kind_value, kind_no, value_no, word_bytes, record_bytes, block_size, root_part, block_room}
use Rattle.guarantees.specs.Trees.{kind_bits}
use Rattle.guarantees.specs.Refusals.{HeadRight, NamesTable}
use Rattle.guarantees.proofs.Layouts.{word_at_lem}

-- ---- what stands in a record

module _ (r : List ℕ) where
  pub kind_no_lem : (w : ℕ) → kind_no r w ≡ kind_at r w
  unfolding kind_at
  kind_no_lem w = ap (λ (n : ℕ). n / 2 ^ 30) (word_at_lem r w)

  pub value_no_lem : (w : ℕ) → value_no r w ≡ value_at r w
  unfolding value_at
  value_no_lem w = ap (λ (n : ℕ). n % 2 ^ 30) (word_at_lem r w)

  pub block_size_lem : block_size r ≡ size_in r
  unfolding size_in
  block_size_lem = value_no_lem 1

  pub word_count : value_no r 2 ≡ count_in r
  unfolding count_in
  word_count = value_no_lem 2

  pub table_hash : bytes_from r 12 32 ≡ hash_in r
  unfolding bytes_from hash_in
  table_hash = refl

  pub root_in_lem : root_part r ≡ root_in r
  unfolding root_in
  root_in_lem = refl

pub block_room_lem : (d : ℕ) → block_room d ≡ 256 * k_of (d - 1)
unfolding k_of
block_room_lem d = refl

-- ---- test 11

-- a kind that a record may have, and a number that a writer may be told
pub either : (k : ℕ) → k ≤ 1 → (k ≡ 0) ⊎ (k ≡ 1)
either zero h = inl refl
either (suc k) h = inr (omega arith)

pub at_most : (k : ℕ) → (k ≡ 0) ⊎ (k ≡ 1) → k ≤ 1
at_most k (inl e) = omega arith
at_most k (inr e) = omega arith

module _ (d : ℕ) (r : List ℕ) where
  pub head-right : head_right d r ≡ true → HeadRight d r
  head-right t =
      let (first, depth, second, size, third) = head-parts d r t in
      record {
        first_kind = either (kind_no r 0) (omega (arith, first, kind_no_lem r 0));
        kinds = (kind_no_lem r 1 ∙ second, kind_no_lem r 2 ∙ third);
        depth_is = value_no_lem r 0 ∙ depth;
        size_fits = omega (arith, block_size_lem r, block_room_lem d);
      }

  pub right-head : HeadRight d r → head_right d r ≡ true
  right-head h =
      let (second, third) = h.kinds in
      parts-head d r (omega (arith, kind_no_lem r 0, at_most (kind_no r 0) h.first_kind)) (sym (value_no_lem r 0) ∙ h.depth_is) (sym (kind_no_lem r 1) ∙ second)
      (omega (arith, block_size_lem r, block_room_lem d, h.size_fits)) (sym (kind_no_lem r 2) ∙ third)

-- ---- test 12

module _ (r table : List ℕ) where
  pub names_table_lem : names_table r table ≡ true → NamesTable r table
  names_table_lem t =
      let (count, hash) = table-parts r table t in
      record { count-is = word_count r ∙ count ∙ sym (words_of-length table); hash-is = table_hash r ∙ hash }

  pub table-named : NamesTable r table → names_table r table ≡ true
  table-named n =
      parts-table r table (sym (word_count r) ∙ n.count-is ∙ words_of-length table) (sym (table_hash r) ∙ n.hash-is)

-- ---- the bytes that are written

pub bits_are : (kind : Kind) → kind_bits kind ≡ kind_number kind
bits_are Placed = refl
bits_are Plain = refl

word-bytes : (x : ℕ) → word_bytes x ≡ be 4 x
unfolding be
word-bytes x =
    let one : x ≡ x / 1 = omega arith in ap (λ (n : ℕ). x / 2 ^ 24 % 256 ∷ x / 2 ^ 16 % 256 ∷ x / 2 ^ 8 % 256 ∷ n % 256 ∷ []) one

-- the first word of a record that is written
pub record_number : (kind : Kind) (d n : ℕ) (table root : List ℕ) → depth_fits d ≡ true → n ≤ 256 * k_of (d - 1) → length table / 4 < 2 ^ 30
    → kind_no (record_of kind d n table root) 0 ≡ kind_number kind
unfolding kind_in
record_number kind d n table root f h c =
    let r : List ℕ = record_of kind d n table root in
    kind_no_lem r 0 ∙ sym (number-back (kind_at r 0) (head-parts d r (record_right kind d n table root f h c)).0)
    ∙ ap kind_number (record_kind kind d n table root f h c)

pub head_bytes : (k d n c : ℕ) (hash root : List ℕ) → record_bytes k d n c hash root ≡ head k d n c ++ (hash ++ root)
unfolding head be
head_bytes k d n c hash root =
    ap₂ (λ (a b : List ℕ). a ++ b ++ word_bytes (kind_value 3 c) ++ hash ++ root) (word-bytes (word k d)) (word-bytes (word 2 n))
    ∙ ap (λ (x : List ℕ). be 4 (word k d) ++ be 4 (word 2 n) ++ x ++ hash ++ root) (word-bytes (word 3 c))

pub record_bytes_lem : (kind : Kind) (d n : ℕ) (table root : List ℕ)
    → record_bytes (kind_number kind) d n (length (words_of table)) (sha256 table) root ≡ record_of kind d n table root
unfolding record_of
record_bytes_lem kind d n table root =
    ap (λ (c : ℕ). record_bytes (kind_number kind) d n c (sha256 table) root) (words_of-length table) ∙ head_bytes (kind_number kind) d n (length table / 4) (sha256 table) root
