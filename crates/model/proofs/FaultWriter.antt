-- A fault proof that is written of symbols with the committed hashes is accepted, and fits the output buffer.
use mathlib.Core.Path.{◌≡◌, refl, sym, ap, ap₂, ◌∙◌, subst}
use mathlib.Core.Logic.{◌≢◌}
use mathlib.Core.Bool.{Bool, true, false, not}
use mathlib.Core.List.{List, [], ◌∷◌, ◌++◌, append_assoc, append-nil}
use Prim.Native.Nat.{ℕ, zero, suc, ◌+◌, ◌-◌, ◌*◌, ◌/◌, ◌%◌, ◌^◌, ◌≤◌, ◌<◌}
use native.Mathlib.Nat.{zero-add}
use native.Mathlib.Omega.{arith}
use lib.ListN.{length, take, drop, length-append, length-drop}
use lib.Seq.{drop_at, take-append-le, drop-append-le}
use lib.Dec.{leb, ltb}
use borrow.Author.Tests.{ltb-true, lt-ltb, le-leb, eq-eqb}
use Rattle.parity_table.specs.Members.{every}
use Rattle.parity_table.specs.Table.{layer_of, equation_of}
use Rattle.octets.proofs.Choice.{pick_no, and_yes, yes_and}
use Rattle.heads.specs.Heads.{head, kind_at}
use Rattle.heads.proofs.HeadLaws.{head-kinds, head_values, length-head, after-head}
use Rattle.model.specs.Shape.{Shape, ShapeOk}
use Rattle.octets.specs.ByteLists.{same, xors}
use Rattle.model.specs.Symbols.{symbol_in, xor_of, others, count, slot, committed}
use Rattle.model.specs.Climb.{leads, all_lead, first_break}
use Rattle.model.specs.Fault.{reached, way_bytes, given_bytes, path_bytes, proof_bytes, proof_layer, proof_equation, proof_withheld, proof_length, body, next, given_xor, after_given, proof_members, proof_given, layer_ok, equation_ok, member_ok, head_ok, accepted, ruling, way_check, path_check, ways_check, path_hash, proof_check, withheld_fits, verdict}
use Rattle.octets.proofs.SameLaws.{no_same}
use Rattle.model.proofs.Bytes.{joined_length, joined_piece}
use Rattle.model.proofs.Counts.{is_it, ascending_once, every-member, length-others}
use Rattle.model.proofs.Shapes.{up_lt, committed-same}
use Rattle.model.proofs.Tables.{TableLaws}
use Rattle.model.proofs.Ways.{reached_up, reached_lt, fits_way}

-- p is a proof at equation e of layer j, withholding x, that the checker accepts
pub record GoodProof (S : Shape) (H : ℕ → ℕ → List ℕ → List ℕ) (root : List ℕ) (tbl : List (List (List ℕ))) (j e x : ℕ) (p : List ℕ) : Type 0 where
  pub accepts : verdict S H root tbl p ≡ accepted
  pub sized : length p ≡ proof_length j (length (equation_of tbl j e))
  pub layer-is : proof_layer p ≡ j
  pub equation-is : proof_equation p ≡ e
  pub withheld-is : proof_withheld p ≡ x

-- what is read from the head of a proof that is written, whose numbers fit
module _ (S : Shape) (f : ℕ → ℕ → List ℕ) (j e x : ℕ) (ms : List ℕ) (j_small : j < 2 ^ 30) (e_small : e < 2 ^ 30) (x_small : x < 2 ^ 30) where
  proof-kinds : let b : List ℕ = proof_bytes S f j e x ms in (kind_at b 0 ≡ 1) × (kind_at b 1 ≡ 2) × (kind_at b 2 ≡ 3)
  unfolding proof_bytes
  proof-kinds = head-kinds 1 j e x _ (omega arith) j_small e_small x_small

  pub proof_values : let b : List ℕ = proof_bytes S f j e x ms in (proof_layer b ≡ j) × (proof_equation b ≡ e) × (proof_withheld b ≡ x)
  unfolding proof_bytes proof_layer proof_equation proof_withheld
  proof_values = head_values 1 j e x _ (omega arith) j_small e_small x_small

-- ---- what is written

module _ (S : Shape) (sh : ShapeOk S) (f : ℕ → ℕ → List ℕ) (j : ℕ) (sized : (l i : ℕ) → l ≤ j → i < S.n l → length (f l i) ≡ 256) where
  -- a way

  module _ (l i : ℕ) (hl : l ≤ j) (hi : i < S.n l) where
    piece : (x : ℕ) → x < suc l → length (f (l - (0 + x)) (reached S l i (0 + x))) ≡ 256
    piece x h = rw zero-add (sized (l - x) (reached S l i x) (omega arith) (reached_lt S l i sh hi x (omega arith)))

    pub way_length : length (way_bytes S f l i) ≡ 256 * suc l
    unfolding way_bytes
    way_length = joined_length (λ x. f (l - x) (reached S l i x)) 256 (suc l) 0 piece

    way_piece : (x : ℕ) → x ≤ l → symbol_in (way_bytes S f l i) x ≡ f (l - x) (reached S l i x)
    unfolding way_bytes symbol_in
    way_piece x h =
        joined_piece (λ x. f (l - x) (reached S l i x)) 256 (suc l) 0 x (omega arith) piece
        ∙ ap (λ (n : ℕ). f (l - n) (reached S l i n)) (zero-add x)

    pub way_symbol : (r : List ℕ) (x : ℕ) → x ≤ l → symbol_in (way_bytes S f l i ++ r) x ≡ f (l - x) (reached S l i x)
    unfolding symbol_in
    way_symbol r x h =
        let a : List ℕ = way_bytes S f l i in
        let n : length a ≡ 256 * suc l = way_length in
        ap (take 256) (drop-append-le (256 * x) a r (omega arith))
        ∙ take-append-le 256 (drop (256 * x) a) r (omega (arith, length-drop (256 * x) a))
        ∙ way_piece x h

    way_first : (r : List ℕ) → symbol_in (way_bytes S f l i ++ r) 0 ≡ f l i
    unfolding reached
    way_first r = let z : l - 0 ≡ l = omega arith in way_symbol r 0 (omega arith) ∙ ap (λ (n : ℕ). f n i) z

  -- a path

  pub path-length : (l i : ℕ) → l ≤ j → length (path_bytes S f l i) ≡ 256 * l
  unfolding path_bytes
  path-length zero i h = refl
  path-length (suc l) i h = way_length l (i % S.k l) (omega arith) (up_lt S sh l i)

  -- the given members, which pass the test p

  module _ (p : ℕ → Bool) (below : (y : ℕ) → p y ≡ true → y < S.n j) where
    pub given_split : (y : ℕ) (ys r : List ℕ) → given_bytes S f j (y ∷ ys) ++ r ≡ way_bytes S f j y ++ (given_bytes S f j ys ++ r)
    unfolding given_bytes
    given_split y ys r = append_assoc (way_bytes S f j y) (given_bytes S f j ys) r

    pub given-next : (y : ℕ) (ys r : List ℕ) → p y ≡ true → next j (given_bytes S f j (y ∷ ys) ++ r) ≡ given_bytes S f j ys ++ r
    unfolding next
    given-next y ys r t =
        ap (drop (256 * suc j)) (given_split y ys r)
        ∙ drop_at (way_bytes S f j y) (given_bytes S f j ys ++ r) (256 * suc j) (way_length j y (omega arith) (below y t))

    pub given-length : (ys : List ℕ) → every p ys ≡ true → length (given_bytes S f j ys) ≡ 256 * (length ys * suc j)
    unfolding given_bytes every
    given-length [] a = omega arith
    given-length (y ∷ ys) a =
        let (u, v) = and_yes (p y) (every p ys) a in
        omega (arith, length-append (way_bytes S f j y) (given_bytes S f j ys), way_length j y (omega arith) (below y u), given-length ys v)

    given_xor_lem : (ys r : List ℕ) → every p ys ≡ true → given_xor j ys (given_bytes S f j ys ++ r) ≡ xor_of (f j) ys
    unfolding given_xor xor_of every
    given_xor_lem [] r a = refl
    given_xor_lem (y ∷ ys) r a =
        let (u, v) = and_yes (p y) (every p ys) a in
        ap₂ xors
        (ap (λ (c : List ℕ). symbol_in c 0) (given_split y ys r) ∙ way_first j y (omega arith) (below y u) (given_bytes S f j ys ++ r))
        (ap (given_xor j ys) (given-next y ys r u) ∙ given_xor_lem ys r v)

    pub given-after : (ys r : List ℕ) → every p ys ≡ true → after_given j ys (given_bytes S f j ys ++ r) ≡ r
    unfolding after_given every given_bytes
    given-after [] r a = refl
    given-after (y ∷ ys) r a =
        let (u, v) = and_yes (p y) (every p ys) a in
        ap (after_given j ys) (given-next y ys r u) ∙ given-after ys r v

  -- ---- it leads to the root where the symbols have the committed hashes

  module _ (H : ℕ → ℕ → List ℕ → List ℕ) (root : List ℕ) (above : (l i : ℕ) → l < j → i < S.n l → H l i (f l i) ≡ committed S root f l i) where
    -- a way, the symbol's own hash being the committed one
    module _ (l i : ℕ) (hl : l ≤ j) (hi : i < S.n l) (mine : H l i (f l i) ≡ committed S root f l i) where
      way_hash : (x : ℕ) → x ≤ l → H (l - x) (reached S l i x) (f (l - x) (reached S l i x)) ≡ committed S root f (l - x) (reached S l i x)
      unfolding reached
      way_hash zero h = let z : l ≡ l - 0 = omega arith in subst (λ (n : ℕ). H n i (f n i) ≡ committed S root f n i) z mine
      way_hash (suc x) h = above (l - suc x) (reached S l i x % S.k (l - suc x)) (omega arith) (up_lt S sh (l - suc x) (reached S l i x))

      way_leads : (r : List ℕ) → way_check S H root l i (way_bytes S f l i ++ r) ≡ leads
      way_leads r =
          let c : List ℕ = way_bytes S f l i ++ r in
          fits_way S H root l i c
          (λ x h.
          let m : ℕ = reached S l i x in
          ap (H (l - x) m) (way_symbol l i hl hi r x h) ∙ way_hash x h
          ∙ sym (committed-same S root (λ u i. symbol_in c (l - u)) f (l - x) m
          (λ u z.
          let q : u ≡ l - (l - u) = omega arith in
          let y : x ≡ l - suc u = omega arith in
          way_symbol l i hl hi r (l - u) (omega arith)
          ∙ ap (λ (n : ℕ). f n (reached S l i (l - u))) (sym q)
          ∙ ap (f u) (sym (reached_up S l i u (omega arith)) ∙ ap (λ (n : ℕ). reached S l i n % S.k u) (sym y)))))

    path-leads : (l i : ℕ) (r : List ℕ) → l ≤ j → path_check S H root l i (path_bytes S f l i ++ r) ≡ leads
    unfolding path_bytes path_check
    path-leads zero i r h = refl
    path-leads (suc l) i r h =
        way_leads l (i % S.k l) (omega arith) (up_lt S sh l i) (above l (i % S.k l) h (up_lt S sh l i)) r

    path-hash : (l i : ℕ) (r : List ℕ) → l ≤ j → path_hash S root l i (path_bytes S f l i ++ r) ≡ committed S root f l i
    unfolding path_bytes path_hash committed
    path-hash zero i r h = refl
    path-hash (suc l) i r h = ap (λ (s : List ℕ). slot s (i / S.k l)) (way_first l (i % S.k l) (omega arith) (up_lt S sh l i) r)

    module _ (p : ℕ → Bool) (below : (y : ℕ) → p y ≡ true → y < S.n j) (mine : (y : ℕ) → p y ≡ true → H j y (f j y) ≡ committed S root f j y) where
      ways_lead : (x n : ℕ) (ys : List ℕ) → every p ys ≡ true → ways_check S H root j x n ys (given_bytes S f j ys ++ path_bytes S f j x) ≡ all_lead
      unfolding ways_check every first_break given_bytes
      ways_lead x n [] a =
          ap (λ c. first_break n c all_lead) (ap (path_check S H root j x) (sym (append-nil (path_bytes S f j x))) ∙ path-leads j x [] (omega arith))
      ways_lead x n (y ∷ ys) a =
          let r : List ℕ = path_bytes S f j x in
          let (u, v) = and_yes (p y) (every p ys) a in
          ap₂ (first_break n)
          (ap (way_check S H root j y) (given_split p below y ys r) ∙ way_leads j y (omega arith) (below y u) (mine y u) (given_bytes S f j ys ++ r))
          (ap (ways_check S H root j x (suc n) ys) (given-next p below y ys r u) ∙ ways_lead x (suc n) ys v)

    -- ---- the whole proof

    module _ (tbl : List (List (List ℕ))) (ok : TableLaws S tbl) (hj : j < length tbl) (e x : ℕ) (he : e < length (layer_of tbl j))
        (member : 1 ≤ count (is_it x) (equation_of tbl j e))
        (p : ℕ → Bool) (good : every p (others x (equation_of tbl j e)) ≡ true)
        (below : (y : ℕ) → p y ≡ true → y < S.n j) (mine : (y : ℕ) → p y ≡ true → H j y (f j y) ≡ committed S root f j y)
        (unfit : H j x (xor_of (f j) (others x (equation_of tbl j e))) ≢ committed S root f j x) where
      abbrev ms : List ℕ
      ms = equation_of tbl j e

      abbrev bytes : List ℕ
      bytes = proof_bytes S f j e x ms

      abbrev rest : List ℕ
      rest = given_bytes S f j (others x ms) ++ path_bytes S f j x

      x_below : x < S.n j
      x_below = ltb-true x (S.n j) (every-member (λ y. ltb y (S.n j)) x ms (ok.within j e hj he) member)

      j_small : j < 2 ^ 30
      j_small = omega (arith, ok.shallow)

      e_small : e < 2 ^ 30
      e_small = omega (arith, ok.sizes j hj, ok.narrow j hj)

      x_small : x < 2 ^ 30
      x_small = omega (arith, x_below, ok.narrow j hj)

      -- what the checker reads from the head
      kinds : (kind_at bytes 0 ≡ 1) × (kind_at bytes 1 ≡ 2) × (kind_at bytes 2 ≡ 3)
      kinds = proof-kinds S f j e x ms j_small e_small x_small

      is-layer : proof_layer bytes ≡ j
      is-layer = (proof_values S f j e x ms j_small e_small x_small).0

      is-equation : proof_equation bytes ≡ e
      is-equation = (proof_values S f j e x ms j_small e_small x_small).1

      is-withheld : proof_withheld bytes ≡ x
      is-withheld = (proof_values S f j e x ms j_small e_small x_small).2

      is-members : proof_members tbl bytes ≡ ms
      unfolding proof_members
      is-members = ap₂ (equation_of tbl) is-layer is-equation

      is-given : proof_given tbl bytes ≡ others x ms
      unfolding proof_given
      is-given = ap₂ others is-withheld is-members

      is_body : body bytes ≡ rest
      unfolding body proof_bytes
      is_body = after-head 1 j e x rest

      head_ok_lem : head_ok tbl bytes ≡ true
      unfolding head_ok layer_ok equation_ok member_ok
      head_ok_lem =
          yes_and (yes_and (eq-eqb _ 1 kinds.0) (lt-ltb _ (length tbl) (omega (arith, is-layer))))
          (yes_and
          (yes_and (eq-eqb _ 2 kinds.1) (ap₂ (λ (a b : ℕ). ltb a (length (layer_of tbl b))) is-equation is-layer ∙ lt-ltb e _ he))
          (yes_and (eq-eqb _ 3 kinds.2) (ap₂ (λ (a : ℕ) (b : List ℕ). leb 1 (count (is_it a) b)) is-withheld is-members ∙ le-leb 1 _ member)))

      bytes-length : length bytes ≡ proof_length j (length ms)
      unfolding proof_bytes proof_length
      bytes-length =
          let once : count (is_it x) ms ≡ 1 = omega (arith, ascending_once x ms (ok.ascend j e hj he)) in
          let d : length ms - 1 ≡ length (others x ms) = omega (arith, length-others x ms) in
          omega (
            arith,
            ap (λ (k : ℕ). k * suc j) d,
            length-append (head 1 j e x) rest,
            length-head 1 j e x,
            length-append (given_bytes S f j (others x ms)) (path_bytes S f j x),
            given-length p below (others x ms) good,
            path-length j x (omega arith),
          )

      -- a function of the parts that are read, at what they are
      at_parts : {X : Type 0} (F : ℕ → ℕ → List ℕ → List ℕ → X) → F (proof_layer bytes) (proof_withheld bytes) (proof_given tbl bytes) (body bytes) ≡ F j x (others x ms) rest
      at_parts F =
          ap₂ (λ (a b : ℕ). F a b (proof_given tbl bytes) (body bytes)) is-layer is-withheld ∙ ap₂ (λ (a b : List ℕ). F j x a b) is-given is_body

      after : after_given j (others x ms) rest ≡ path_bytes S f j x ++ []
      after = given-after p below (others x ms) (path_bytes S f j x) good ∙ sym (append-nil (path_bytes S f j x))

      lead : proof_check S H root tbl bytes ≡ all_lead
      unfolding proof_check
      lead = at_parts (λ l y ys c. ways_check S H root l y 0 ys c) ∙ ways_lead p below mine x 0 (others x ms) good

      unfits : withheld_fits S H root tbl bytes ≡ false
      unfolding withheld_fits
      unfits =
          at_parts (λ l y ys c. same (H l y (given_xor l ys c)) (path_hash S root l y (after_given l ys c)))
          ∙ no_same (λ q. unfit (ap (H j x) (sym (given_xor_lem p below (others x ms) (path_bytes S f j x) good)) ∙ q ∙ ap (path_hash S root j x) after ∙ path-hash j x [] (omega arith)))

      bytes-accepted : verdict S H root tbl bytes ≡ accepted
      unfolding verdict ruling
      bytes-accepted =
          let sized' : length bytes ≡ proof_length (proof_layer bytes) (length (proof_members tbl bytes)) =
          bytes-length ∙ sym (ap₂ (λ (a : ℕ) (b : List ℕ). proof_length a (length b)) is-layer is-members) in
          pick_no _ _ _ (ap not head_ok_lem)
          ∙ pick_no _ _ _ (ap not (eq-eqb _ _ sized'))
          ∙ ap₂ ruling lead unfits
          ∙ pick_no false _ _ refl

      pub proof_good : GoodProof S H root tbl j e x bytes
      proof_good = record { accepts = bytes-accepted; sized = bytes-length; layer-is = is-layer; equation-is = is-equation; withheld-is = is-withheld }
