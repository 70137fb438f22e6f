-- Case 9 of 01, for volumes of either kind, at every depth from 2 on: a fault proof of the greatest length is accepted. No hash is computed: the symbols of
-- the base are zeros, and those of each layer above hold the hashes of the layer below, whatever these are. But the hashes that stand for the base's parity
-- symbols, of which one is withheld, are wrong.
use mathlib.Core.Path.{◌≡◌, refl, sym, ap, ap₂, ◌∙◌, subst}
use mathlib.Core.Logic.{◌≢◌}
use mathlib.Core.Bool.{true}
use mathlib.Core.List.{List, [], ◌∷◌, ◌++◌}
use Prim.Native.Nat.{ℕ, zero, suc, ◌+◌, ◌-◌, ◌*◌, ◌/◌, ◌%◌, ◌^◌, ◌≤◌, ◌<◌}
use native.Mathlib.Nat.{zero-add, add-zero, mod-lt, div-add-mod'}
use native.Mathlib.Omega.{arith}
use native.Mathlib.Decide.{ℕ_discrete}
use lib.ListN.{length, get_or, set, replicate, length-set}
use lib.Seq.{get_or-set_same, get_or-set_other}
use lib.Dec.{ltb}
use borrow.Author.Tests.{eq-eqb, le-leb, le-ltb, lt-ltb, ltb-true}
use Rattle.octets.specs.BigEndian.{be, bytes_of}
use Rattle.octets.specs.ByteLists.{xors}
use Rattle.octets.specs.Choice.{pick}
use Rattle.octets.proofs.Choice.{yes_and, pick_yes, pick_no, pick_ind}
use Rattle.sha256.specs.Hash.{sha256}
use Rattle.parity_table.specs.Shape.{depth_fits, k_of, n_of}
use Rattle.parity_table.specs.Members.{every, IsMember}
use Rattle.parity_table.specs.Table.{word, layer_of, equation_of, EquationOk, TableOk, table_words}
use Rattle.parity_table.specs.Coverage.{Mentions, Covered}
use Rattle.parity_table.proofs.Shape.{k_pos, k_double}
use Rattle.parity_table.proofs.Chain.{Chain, chain_within, chain_equation}
use Rattle.parity_table.proofs.Longest.{none_longer, longest_grows, longest_nine}
use Rattle.table_bytes.specs.Bytes.{max_bytes}
use Rattle.house_table.specs.House.{house_table}
use Rattle.house_table.proofs.HouseRules.{house-rules}
use Rattle.house_table.proofs.HouseCovered.{house_mentions}
use Rattle.table_bytes.proofs.RoundTrip.{every_append, table-bytes_say}
use Rattle.symbol_hash.specs.SymbolHash.{symbol_hash}
use Rattle.symbol_hash.specs.declared.Kind.{Kind}
use Rattle.symbol_hash.specs.declared.Kind.TheVariants.{Plain, Placed}
use Rattle.symbol_hash.proofs.Laws.{length-symbol_hash}
use Rattle.heads.specs.Heads.{head}
use Rattle.model.specs.Shape.{tree}
use Rattle.model.specs.Symbols.{joined, zeros, xor_of, others, slot, committed}
use Rattle.model.specs.Coded.{root_of}
use Rattle.model.specs.Fault.{reached, way_bytes, given_bytes, path_bytes, proof_bytes, proof_length, proof_members, verdict}
use Rattle.model.proofs.Bytes.{joined_length, joined_piece, length-zeros, sym_zeros}
use Rattle.model.proofs.Binding.{root_slot, root_length}
use Rattle.model.proofs.Shapes.{tree_ok, tree_root}
use Rattle.model.proofs.Hashes.{column_lt}
use Rattle.model.proofs.Tables.{table_laws}
use Rattle.model.proofs.FaultWriter.{GoodProof, proof_good}
use Rattle.model.proofs.Sound.{accepted-is}
use Rattle.calls.specs.Stops.{Done}
use Rattle.fault_calls.specs.Checking.{proof_sized, judged, proof_checked}
use Rattle.root_record.specs.Records.{record_of, kind_in, root_in, head_right, names_table}
use Rattle.root_record.proofs.RecordLaws.{record_length, record_kind, record_root, record_right, record_names}
use Rattle.calls.proofs.AdmissionLaws.{TableTaken}
use Rattle.calls.proofs.RecordLaws.{admits_by}
use Rattle.calls.proofs.Taken.{taken-table}
use Rattle.fault_calls.proofs.CheckingLaws.{judged_so}
use Rattle.guarantees.specs.Layouts.{kind_no}
use Rattle.guarantees.specs.Trees.{kind_bits}
use Rattle.guarantees.specs.Terms.{equations_of}
use Rattle.guarantees.specs.Cases.{AreBytes, AcceptedOf}
use Rattle.guarantees.proofs.Records.{bits_are, record_number}
use Rattle.guarantees.proofs.Refusals.{depth-fits, table_long}
use Rattle.guarantees.proofs.ProofHeads.{Fitting, fitting}

-- ---- a table with another equation e of layer j

abbrev changed : List (List (List ℕ)) → ℕ → ℕ → List ℕ → List (List (List ℕ))
changed tbl j e ms = set tbl j (set (layer_of tbl j) e ms)

-- it keeps the rules
module _ (d : ℕ) (tbl : List (List (List ℕ))) (ok : TableOk d tbl) (j e : ℕ) (ms : List ℕ) (hj : j < d) (he : e < 3 * k_of j) (one : EquationOk j e ms) where
  abbrev new : List (List (List ℕ))
  new = changed tbl j e ms

  layer-here : layer_of new j ≡ set (layer_of tbl j) e ms
  unfolding layer_of
  layer-here = get_or-set_same tbl j (set (get_or tbl j []) e ms) [] (omega (arith, ok.depth))

  layer_there : (l : ℕ) → l ≢ j → layer_of new l ≡ layer_of tbl l
  unfolding layer_of
  layer_there l n = get_or-set_other tbl j l (set (get_or tbl j []) e ms) [] n

  equation-here : equation_of new j e ≡ ms
  unfolding equation_of
  equation-here =
      ap (λ (es : List (List ℕ)). get_or es e []) layer-here ∙ get_or-set_same (layer_of tbl j) e ms [] (omega (arith, ok.equations j hj))

  -- any other equation is what it was
  equation_there : (l i : ℕ) → (l ≡ j → i ≢ e) → equation_of new l i ≡ equation_of tbl l i
  unfolding equation_of
  equation_there l i n =
      elim (ℕ_discrete l j) [
        | yes q ↦
            ap (λ (es : List (List ℕ)). get_or es i []) (ap (layer_of new) q ∙ layer-here)
            ∙ get_or-set_other (layer_of tbl j) e i ms [] (n q)
            ∙ ap (λ (x : ℕ). get_or (layer_of tbl x) i []) (sym q)
        | no q ↦ ap (λ (es : List (List ℕ)). get_or es i []) (layer_there l q)
      ]

  rules_there : (l i : ℕ) → l < d → i < 3 * k_of l → EquationOk l i (equation_of new l i)
  rules_there l i hl hi =
      let other : (l ≡ j → i ≢ e) → EquationOk l i (equation_of new l i) =
      λ n. subst (EquationOk l i) (sym (equation_there l i n)) (ok.members l i hl hi) in
      elim (ℕ_discrete l j) [
        | yes p ↦ elim (ℕ_discrete i e) [
          | yes q ↦ subst (λ (x : ℕ). EquationOk x i (equation_of new x i)) (sym p)
              (subst (λ (x : ℕ). EquationOk j x (equation_of new j x)) (sym q) (subst (EquationOk j e) (sym equation-here) one))
          | no q ↦ other (λ x. q)
        ]
        | no p ↦ other (λ x. absurd (p x))
      ]

  changed-rules : TableOk d new
  unfolding equation_of
  changed-rules =
      record {
        depth = length-set tbl j (set (layer_of tbl j) e ms) ∙ ok.depth;
        equations = λ l h. elim (ℕ_discrete l j) [
          | yes q ↦
              subst (λ (x : ℕ). length (layer_of new x) ≡ 3 * k_of x) (sym q)
              (ap length layer-here ∙ length-set (layer_of tbl j) e ms ∙ ok.equations j hj)
          | no q ↦ ap length (layer_there l q) ∙ ok.equations l h
        ];
        members = rules_there;
      }

-- ---- hashes and symbols

-- a number that isn't x
other : ℕ → ℕ
other zero = 1
other (suc x) = 0

-- a hash that isn't h
wrong : List ℕ → List ℕ
wrong h = replicate 32 (other (get_or h 0 0))

other_differs : (x : ℕ) → x ≢ other x
unfolding other
other_differs zero e = omega arith
other_differs (suc x) e = omega arith

wrong-differs : (h : List ℕ) → h ≢ wrong h
unfolding wrong
wrong-differs h e = other_differs (get_or h 0 0) (ap (λ (l : List ℕ). get_or l 0 0) e)

module _ (kind : Kind) where
  -- the hash that stands for symbol i of layer j, whose symbols are f and which has n layers below it: its own, but a wrong one for a parity symbol of the
  -- base
  standing : ℕ → ℕ → (ℕ → List ℕ) → ℕ → List ℕ
  standing zero j f i = pick (ltb i (k_of j)) (symbol_hash kind j i (f i)) (wrong (symbol_hash kind j i (f i)))
  standing (suc n) j f i = symbol_hash kind j i (f i)

  -- symbol m of layer l, which has n layers below it: zeros where that is the base, else the hashes of symbols m, k+m, .., 7k+m of the layer below
  symbol_of : ℕ → ℕ → ℕ → List ℕ
  symbol_of zero l m = zeros
  symbol_of (suc n) l m = joined (λ c. standing n (suc l) (symbol_of n (suc l)) (c * k_of l + m)) 0 8

  standing_length : (n j : ℕ) (f : ℕ → List ℕ) (i : ℕ) → length (standing n j f i) ≡ 32
  unfolding standing wrong
  standing_length zero j f i =
      pick_ind (λ (h : List ℕ). length h ≡ 32) (ltb i (k_of j)) (λ t. length-symbol_hash kind j i (f i)) (λ t. refl)
  standing_length (suc n) j f i = length-symbol_hash kind j i (f i)

  symbol-length : (n l m : ℕ) → length (symbol_of n l m) ≡ 256
  unfolding symbol_of
  symbol-length zero l m = length-zeros
  symbol-length (suc n) l m = joined_length _ 32 8 0 (λ q h. standing_length n (suc l) (symbol_of n (suc l)) _)

  slot_is : (n l m c : ℕ) → c < 8 → slot (symbol_of (suc n) l m) c ≡ standing n (suc l) (symbol_of n (suc l)) (c * k_of l + m)
  unfolding slot symbol_of
  slot_is n l m c h =
      joined_piece _ 32 8 0 c h (λ p k. standing_length n (suc l) (symbol_of n (suc l)) _)
      ∙ ap (λ (x : ℕ). standing n (suc l) (symbol_of n (suc l)) (x * k_of l + m)) (zero-add c)

-- ---- all of these are bytes

bytes-append : (xs ys : List ℕ) → AreBytes xs → AreBytes ys → AreBytes (xs ++ ys)
bytes-append = every_append (λ x. ltb x 256)

bytes-be : (n x : ℕ) → AreBytes (be n x)
unfolding every be
bytes-be zero x = refl
bytes-be (suc n) x = yes_and (lt-ltb (x / 2 ^ (n * 8) % 256) 256 (mod-lt (x / 2 ^ (n * 8)) (omega arith))) (bytes-be n x)

bytes-words : (ws : List ℕ) → AreBytes (bytes_of ws)
unfolding every bytes_of
bytes-words [] = refl
bytes-words (x ∷ ws) = bytes-append (be 4 x) (bytes_of ws) (bytes-be 4 x) (bytes-words ws)

bytes_digest : (m : List ℕ) → AreBytes (sha256 m)
unfolding sha256
bytes_digest m = bytes-words _

bytes_same : (n x : ℕ) → x < 256 → AreBytes (replicate n x)
unfolding every
bytes_same zero x h = refl
bytes_same (suc n) x h = yes_and (lt-ltb x 256 h) (bytes_same n x h)

bytes-joined : (g : ℕ → List ℕ) → ((x : ℕ) → AreBytes (g x)) → (m x : ℕ) → AreBytes (joined g x m)
unfolding every joined
bytes-joined g h zero x = refl
bytes-joined g h (suc m) x = bytes-append (g x) (joined g (suc x) m) (h x) (bytes-joined g h m (suc x))

other_small : (x : ℕ) → other x < 256
unfolding other
other_small zero = omega arith
other_small (suc x) = omega arith

bytes-hash : (kind : Kind) (j i : ℕ) (s : List ℕ) → AreBytes (symbol_hash kind j i s)
unfolding symbol_hash
bytes-hash Plain j i s = bytes_digest _
bytes-hash Placed j i s = bytes_digest _

module _ (kind : Kind) where
  bytes_standing : (n j : ℕ) (f : ℕ → List ℕ) (i : ℕ) → AreBytes (standing kind n j f i)
  unfolding standing wrong
  bytes_standing zero j f i =
      pick_ind AreBytes (ltb i (k_of j)) (λ t. bytes-hash kind j i (f i)) (λ t. bytes_same 32 _ (other_small _))
  bytes_standing (suc n) j f i = bytes-hash kind j i (f i)

  bytes-symbol : (n l m : ℕ) → AreBytes (symbol_of kind n l m)
  unfolding symbol_of zeros
  bytes-symbol zero l m = bytes_same 256 0 (omega arith)
  bytes-symbol (suc n) l m = bytes-joined _ (λ c. bytes_standing n (suc l) (symbol_of kind n (suc l)) _) 8 0

-- ---- a tree whose base is layer a + 1

module _ (kind : Kind) (a : ℕ) (few : a ≤ 7) where
  abbrev base : ℕ
  base = suc a

  abbrev depth : ℕ
  depth = suc base

  -- the k of the base
  abbrev last : ℕ
  last = k_of base

  eight_there : 8 ≤ last
  eight_there = omega (arith, k_double a, k_pos a)

  deep : depth_fits depth ≡ true
  deep = depth-fits depth (omega arith, omega arith)

  -- the table of the proof: the house table, but with eight members in equation 0 of the base: seven data symbols and the parity symbol k
  abbrev front : List ℕ
  front = 0 ∷ 1 ∷ 2 ∷ 3 ∷ 4 ∷ 5 ∷ 6 ∷ []

  abbrev eight : List ℕ
  eight = front ++ (last ∷ [])

  -- seven numbers, and a last one above them
  seven : (z : ℕ) → 7 ≤ z → Chain 0 z (front ++ (z ∷ []))
  seven z h = (omega arith, (omega arith, (omega arith, (omega arith, (omega arith, (omega arith, (omega arith, (h, refl))))))))

  eight_ok : EquationOk base 0 eight
  eight_ok =
      chain_equation base 0 eight (rw add-zero (seven last (omega (arith, eight_there)))) (omega arith) (omega arith)

  wide : List (List (List ℕ))
  wide = changed (house_table depth) base 0 eight

  has_first : 0 < 3 * k_of base
  has_first = omega (arith, k_pos base)

  wide_rules : TableOk depth wide
  unfolding wide
  wide_rules = changed-rules depth (house_table depth) (house-rules depth) base 0 eight (omega arith) has_first eight_ok

  wide_eight : equation_of wide base 0 ≡ eight
  unfolding wide
  wide_eight = equation-here depth (house_table depth) (house-rules depth) base 0 eight (omega arith) has_first eight_ok

  -- it isn't too long
  wide_short : length (table_words wide) * 4 ≤ max_bytes
  wide_short =
      omega
      (arith, none_longer depth (table_words wide) (record { table = wide; rules = wide_rules; written = refl }), longest_grows depth 9 (omega arith) (omega arith), longest_nine)

  table : List ℕ
  table = bytes_of (table_words wide)

  -- data symbol i is in the equations k+i and 2k+i, as in the house table
  wide_covered : Covered depth wide
  unfolding wide
  wide_covered j i hj hi =
      let k = k_pos j in
      let mentions : (c : ℕ) → 1 ≤ c * k_of j → c < 3 → Mentions (changed (house_table depth) base 0 eight) j (c * k_of j + i) i =
      λ c some few.
      subst (IsMember i)
      (sym (equation_there depth (house_table depth) (house-rules depth) base 0 eight (omega arith) has_first eight_ok j (c * k_of j + i) (λ q n. omega arith)))
      (house_mentions depth j i c hj hi few) in
      record {
        one = 1 * k_of j + i;
        other = 2 * k_of j + i;
        different = λ e. omega arith;
        one_there = omega arith;
        other_there = omega arith;
        in_one = mentions 1 (omega arith) (omega arith);
        in_other = mentions 2 (omega arith) (omega arith);
      }

  taken : TableTaken depth table
  unfolding table
  taken = taken-table depth wide deep wide_rules wide_covered wide_short

  says : equations_of table ≡ wide
  unfolding table
  says = table-bytes_say depth wide wide_rules deep wide_short

  -- the symbols of layer l, and the root
  symbol : ℕ → ℕ → List ℕ
  symbol l = symbol_of kind (base - l) l

  root : List ℕ
  root = root_of tree (symbol_hash kind) symbol

  -- no layer is below the base
  none : base - base ≡ 0
  none = omega arith

  at_base : (m : ℕ) → symbol base m ≡ zeros
  unfolding symbol symbol_of
  at_base m = ap (λ (n : ℕ). symbol_of kind n base m) none

  -- the committed hash is the one that stands there
  stands : (l i : ℕ) → l < base → i < tree.n (suc l) → committed tree root symbol (suc l) i ≡ standing kind (base - suc l) (suc l) (symbol (suc l)) i
  unfolding committed symbol
  stands l i h k =
      let up : base - l ≡ suc (base - suc l) = omega arith in
      ap (λ (n : ℕ). slot (symbol_of kind n l (i % k_of l)) (i / k_of l)) up
      ∙ slot_is kind (base - suc l) l (i % k_of l) (i / k_of l) (column_lt tree tree_ok l i k)
      ∙ ap (standing kind (base - suc l) (suc l) (symbol_of kind (base - suc l) (suc l))) (div-add-mod' i (k_of l))

  stands-base : (i : ℕ) → i < tree.n base → committed tree root symbol base i ≡ standing kind 0 base (λ m. zeros) i
  unfolding symbol symbol_of
  stands-base i h = stands a i (omega arith) h ∙ ap (λ (n : ℕ). standing kind n base (symbol_of kind n base) i) none

  -- above the base every symbol has the committed hash
  right : (l i : ℕ) → l < base → i < tree.n l → symbol_hash kind l i (symbol l i) ≡ committed tree root symbol l i
  unfolding committed root standing
  right zero i h k = sym (root_slot tree (symbol_hash kind) (length-symbol_hash kind) symbol i k)
  right (suc l) i h k =
      let some : base - suc l ≡ suc (a - suc l) = omega arith in
      sym (stands l i (omega arith) k ∙ ap (λ (n : ℕ). standing kind n (suc l) (symbol (suc l)) i) some)

  -- and so has every data symbol of the base
  right-base : (y : ℕ) → ltb y last ≡ true → symbol_hash kind base y (symbol base y) ≡ committed tree root symbol base y
  unfolding standing n_of
  right-base y t =
      ap (symbol_hash kind base y) (at_base y) ∙ sym (stands-base y (omega (arith, ltb-true y last t)) ∙ pick_yes _ _ _ t)

  -- the given members' exclusive-or is zeros, whose hash isn't the withheld member's
  xor_zeros : (ys : List ℕ) → xor_of (symbol base) ys ≡ zeros
  unfolding xor_of
  xor_zeros [] = refl
  xor_zeros (y ∷ ys) = ap₂ xors (at_base y) (xor_zeros ys) ∙ sym_zeros zeros length-zeros

  unfit : (ys : List ℕ) → symbol_hash kind base last (xor_of (symbol base) ys) ≢ committed tree root symbol base last
  unfolding standing n_of
  unfit ys e =
      wrong-differs (symbol_hash kind base last zeros)
      (sym (ap (symbol_hash kind base last) (xor_zeros ys)) ∙ e ∙ stands-base last (omega (arith, k_pos base)) ∙ pick_no _ _ _ (le-ltb last last (omega arith)))

  -- ---- the proof

  proof : List ℕ
  proof = proof_bytes tree symbol base 0 last (equation_of wide base 0)

  fits : Fitting wide base 0 last front []
  unfolding k_of
  fits = fitting wide base 0 last front [] depth (omega arith) wide_rules (omega arith) has_first wide_eight

  given-low : every (λ y. ltb y last) front ≡ true
  given-low =
      chain_within 0 6 last front (omega (arith, eight_there))
      (omega arith, (omega arith, (omega arith, (omega arith, (omega arith, (omega arith, (omega arith, refl)))))))

  good : GoodProof tree (symbol_hash kind) root wide base 0 last proof
  unfolding proof symbol n_of
  good =
      proof_good tree tree_ok.shape symbol base (λ l i h k. symbol-length kind (base - l) l i) (symbol_hash kind) root right
      wide (table_laws depth wide (omega arith) (omega arith) wide_rules) fits.in_table 0 last fits.in_layer_lem fits.member
      (λ y. ltb y last) (rw fits.given-are given-low)
      (λ y t. omega (arith, ltb-true y last t)) right-base
      (unfit (others last (equation_of wide base 0)))

  proof-length : length proof ≡ proof_length base 8
  unfolding proof_members
  proof-length =
      let g = good in
      let ms : proof_members wide proof ≡ eight = ap₂ (equation_of wide) g.layer-is g.equation-is ∙ wide_eight in
      (accepted-is tree (symbol_hash kind) root wide proof g.accepts).exact ∙ ap₂ (λ (j : ℕ) (l : List ℕ). proof_length j (length l)) g.layer-is ms

  -- the record of this kind, root and table; the length of the block doesn't matter
  root_record : List ℕ
  root_record = record_of kind depth 0 table root

  record_full : length root_record ≡ 556
  unfolding root_record root
  record_full = record_length kind depth 0 table root (root_length tree (symbol_hash kind) (length-symbol_hash kind) symbol ∙ tree_root)

  root_is : root_in root_record ≡ root
  unfolding root_record
  root_is = record_root kind depth 0 table root

  count_small : length table / 4 < 2 ^ 30
  count_small = omega (arith, (table_long table taken.length-fits).not_over)

  kind_is : kind_in root_record ≡ kind
  unfolding root_record
  kind_is = record_kind kind depth 0 table root deep (omega arith) count_small

  bits_is : kind_no root_record 0 ≡ kind_bits kind
  unfolding root_record
  bits_is = record_number kind depth 0 table root deep (omega arith) count_small ∙ sym (bits_are kind)

  head_so : head_right depth root_record ≡ true
  unfolding root_record
  head_so = record_right kind depth 0 table root deep (omega arith) count_small

  named_so : names_table root_record table ≡ true
  unfolding root_record
  named_so = record_names kind depth 0 table root deep (omega arith) count_small

  checked : proof_checked depth root_record table proof ≡ Done
  unfolding proof_length
  checked =
      sym (judged_so depth root_record table proof
      (admits_by depth (proof_sized (length root_record) (length proof)) root_record table
      (record {
        lengths = yes_and (eq-eqb (length root_record) 556 record_full) (le-leb 12 (length proof) (omega (arith, proof-length)));
        head = head_so;
        taken = taken;
        named = named_so;
      })))
      ∙ ap (λ (k : Kind). judged (verdict tree (symbol_hash k) (root_in root_record) (equations_of table) proof)) kind_is
      ∙ ap₂ (λ (x : List ℕ) (tbl : List (List (List ℕ))). judged (verdict tree (symbol_hash kind) x tbl proof)) root_is says
      ∙ ap judged good.accepts

  bytes_way : (j i : ℕ) → AreBytes (way_bytes tree symbol j i)
  unfolding way_bytes symbol
  bytes_way j i = bytes-joined (λ x. symbol (j - x) (reached tree j i x)) (λ x. bytes-symbol kind (base - (j - x)) (j - x) (reached tree j i x)) (suc j) 0

  bytes-given : (ys : List ℕ) → AreBytes (given_bytes tree symbol base ys)
  unfolding every given_bytes
  bytes-given [] = refl
  bytes-given (y ∷ ys) = bytes-append (way_bytes tree symbol base y) (given_bytes tree symbol base ys) (bytes_way base y) (bytes-given ys)

  bytes-proof : AreBytes proof
  unfolding proof proof_bytes head path_bytes
  bytes-proof =
      bytes-append _ _ (bytes-append _ _ (bytes-be 4 (word 1 base)) (bytes-append _ _ (bytes-be 4 (word 2 0)) (bytes-be 4 (word 3 last))))
      (bytes-append _ _ (bytes-given (others last (equation_of wide base 0))) (bytes_way a (last % k_of a)))

  -- ---- the case

  bytes_record : AreBytes root_record
  unfolding root_record record_of head root root_of
  bytes_record =
      bytes-append _ _ (bytes-append _ _ (bytes-be 4 _) (bytes-append _ _ (bytes-be 4 (word 2 0)) (bytes-be 4 (word 3 (length table / 4)))))
      (bytes-append _ _ (bytes_digest table) (bytes-joined _ (λ i. bytes-hash kind 0 i (symbol 0 i)) (tree.n 0) 0))

  pub longest-accepted : AcceptedOf kind depth (proof_length base 8)
  unfolding table
  longest-accepted =
      record {
        root_record = root_record;
        table = table;
        proof = proof;
        kind_is = bits_is;
        are-bytes = (bytes_record, bytes-words (table_words wide), bytes-proof);
        accepts = checked;
        sized = proof-length;
      }
