-- What the head of a fault proof names: the layer, the equation, the withheld member and the given ones are those that the checker reads.
use mathlib.Core.Path.{◌≡◌, sym, ap, ap₂, ◌∙◌, subst}
use mathlib.Core.Bool.{true, ◌&&◌}
use mathlib.Core.List.{List, ◌∷◌, ◌++◌}
use Prim.Native.Nat.{ℕ, suc, ◌+◌, ◌-◌, ◌*◌, ◌^◌, ◌≤◌, ◌<◌}
use native.Mathlib.Omega.{arith}
use lib.ListN.{length, length-append}
use lib.Dec.{leb, ltb, eqb}
use borrow.Author.Tests.{ltb-true, eqb-true, lt-ltb, le-leb, eq-eqb}
use Rattle.octets.proofs.Choice.{and_yes, yes_and}
use Rattle.parity_table.specs.Shape.{n_of}
use Rattle.parity_table.specs.Members.{every}
use Rattle.parity_table.specs.Table.{layer_of, equation_of, TableOk}
use Rattle.heads.specs.Heads.{kind_at, value_at}
use Rattle.heads.proofs.HeadLaws.{read_kind, read_value, word_read}
use Rattle.model.specs.Shape.{tree}
use Rattle.model.specs.Symbols.{others, count}
use Rattle.model.specs.Fault.{proof_layer, proof_equation, proof_withheld, proof_length, proof_members, proof_given, layer_ok, equation_ok, member_ok, head_ok}
use Rattle.model.proofs.Counts.{is_it, ascending_once, every-member, every-others, counted-member}
use Rattle.model.proofs.Tables.{TableLaws, table_laws}
use Rattle.model.proofs.Sound.{head_names}
use Rattle.guarantees.specs.Layouts.{data_symbols, word_no, kind_value}
use Rattle.guarantees.specs.Trees.{members}
use Rattle.guarantees.specs.FaultProofs.{Named, given}
use Rattle.guarantees.proofs.Layouts.{word_at_lem, data_symbols_lem}
use Rattle.guarantees.proofs.Membership.{member_apart, count-apart, others_apart}

-- ---- words of the head

module _ (b : List ℕ) (i kind v : ℕ) (e : word_no b i ≡ kind_value kind v) (small : v < 2 ^ 30) where
  kind_is : kind_at b i ≡ kind
  kind_is = read_kind b i kind v (sym (word_at_lem b i) ∙ e) small

  value_is : value_at b i ≡ v
  value_is = read_value b i kind v (sym (word_at_lem b i) ∙ e) small

word-is : (b : List ℕ) (i kind : ℕ) → kind_at b i ≡ kind → word_no b i ≡ kind_value kind (value_at b i)
word-is b i kind e = word_at_lem b i ∙ word_read b i kind e

-- ---- an equation and a member of it, which a table has

module _ (tbl : List (List (List ℕ))) (j e x : ℕ) (front back : List ℕ) where
  pub record Fitting : Type 0 where
    pub in_table : j < length tbl
    pub in_layer_lem : e < length (layer_of tbl j)
    pub member : 1 ≤ count (is_it x) (equation_of tbl j e)
    pub small_layer : j < 2 ^ 30
    pub small_equation : e < 2 ^ 30
    pub small_member : x < 2 ^ 30
    pub given_below : every (λ y. ltb y (n_of j)) (others x (equation_of tbl j e)) ≡ true
    pub given-are : others x (equation_of tbl j e) ≡ front ++ back
    pub given-count : length (equation_of tbl j e) - 1 ≡ length (front ++ back)

  pub fitting : (depth : ℕ) → depth ≤ 9 → TableOk depth tbl → j < depth → e < 3 * data_symbols j → equation_of tbl j e ≡ front ++ (x ∷ back) → Fitting
  fitting depth shallow o hj he em =
      let ms : List ℕ = equation_of tbl j e in
      let laws : TableLaws tree tbl = table_laws depth tbl (omega arith) shallow o in
      let k : j < length tbl = omega (arith, o.depth) in
      let n : e < length (layer_of tbl j) = omega (arith, o.equations j hj, data_symbols_lem j) in
      let within : every (λ y. ltb y (n_of j)) ms ≡ true = laws.within j e k n in
      let counted : count (is_it x) ms ≡ count (is_it x) (front ++ (x ∷ back)) = ap (count (is_it x)) em in
      let m : 1 ≤ count (is_it x) ms = omega (arith, count-apart x front back) in
      let below : x < n_of j = ltb-true x (n_of j) (every-member (λ y. ltb y (n_of j)) x ms within m) in
      record {
        in_table = k;
        in_layer_lem = n;
        member = m;
        small_layer = omega (arith, laws.shallow);
        small_equation = omega (arith, laws.sizes j k, laws.narrow j k);
        small_member = omega (arith, laws.narrow j k);
        given_below = every-others (λ y. ltb y (n_of j)) x ms within;
        given-are = ap (others x) em ∙ others_apart x front back (omega (arith, ascending_once x ms (laws.ascend j e k n)));
        given-count = omega (arith, ap length em, length-append front (x ∷ back), length-append front back);
      }

module _ (depth : ℕ) (tbl : List (List (List ℕ))) (b : List ℕ) (shallow : depth ≤ 9) (o : TableOk depth tbl) where
  -- ---- a head that names them

  module _ (h : Named depth tbl b) where
    abbrev ms : List ℕ
    ms = members tbl h.layer h.equation

    pub named_fitting : Fitting tbl h.layer h.equation h.withheld h.front h.back
    unfolding layer_of equation_of
    named_fitting =
        fitting tbl h.layer h.equation h.withheld h.front h.back depth shallow o h.has_layer h.has_equation h.has_member

    -- what the checker reads

    pub is-layer : proof_layer b ≡ h.layer
    unfolding proof_layer
    is-layer = value_is b 0 1 h.layer h.head.layer-word named_fitting.small_layer

    pub is-equation : proof_equation b ≡ h.equation
    unfolding proof_equation
    is-equation = value_is b 1 2 h.equation h.head.equation-word named_fitting.small_equation

    pub is-withheld : proof_withheld b ≡ h.withheld
    unfolding proof_withheld
    is-withheld = value_is b 2 3 h.withheld h.head.withheld-word named_fitting.small_member

    pub is-members : proof_members tbl b ≡ ms
    unfolding proof_members layer_of equation_of
    is-members = ap₂ (equation_of tbl) is-layer is-equation

    pub is-given : proof_given tbl b ≡ given h
    unfolding proof_given layer_of equation_of
    is-given = ap₂ others is-withheld is-members ∙ named_fitting.given-are

    -- what is so of the parts that are read is so of those that are named, and the other way round
    pub as_named : (P : ℕ → ℕ → List ℕ → Type 0) → P (proof_layer b) (proof_withheld b) (proof_given tbl b) → P h.layer h.withheld (given h)
    as_named P x =
        subst (P h.layer h.withheld) is-given
        (subst (λ (w : ℕ). P h.layer w (proof_given tbl b)) is-withheld (subst (λ (j : ℕ). P j (proof_withheld b) (proof_given tbl b)) is-layer x))

    pub as_read : (P : ℕ → ℕ → List ℕ → Type 0) → P h.layer h.withheld (given h) → P (proof_layer b) (proof_withheld b) (proof_given tbl b)
    as_read P x =
        subst (λ (j : ℕ). P j (proof_withheld b) (proof_given tbl b)) (sym is-layer)
        (subst (λ (w : ℕ). P h.layer w (proof_given tbl b)) (sym is-withheld) (subst (P h.layer h.withheld) (sym is-given) x))

    -- the length that the head demands
    pub length-named : proof_length (proof_layer b) (length (proof_members tbl b)) ≡ 12 + 256 * ((length ms - 1) * (h.layer + 1) + h.layer)
    unfolding proof_length
    length-named =
        ap₂ (λ (j : ℕ) (l : List ℕ). 12 + 256 * ((length l - 1) * suc j + j)) is-layer is-members ∙ omega arith

    -- the head passes
    pub named_ok : head_ok tbl b ≡ true
    unfolding head_ok layer_ok equation_ok member_ok layer_of equation_of
    named_ok =
        yes_and
        (yes_and (eq-eqb _ 1 (kind_is b 0 1 h.layer h.head.layer-word named_fitting.small_layer)) (lt-ltb _ (length tbl) (omega (arith, is-layer, named_fitting.in_table))))
        (yes_and
        (yes_and (eq-eqb _ 2 (kind_is b 1 2 h.equation h.head.equation-word named_fitting.small_equation))
        (ap₂ (λ (e j : ℕ). ltb e (length (layer_of tbl j))) is-equation is-layer ∙ lt-ltb h.equation _ named_fitting.in_layer_lem))
        (yes_and (eq-eqb _ 3 (kind_is b 2 3 h.withheld h.head.withheld-word named_fitting.small_member))
        (ap₂ (λ (x : ℕ) (l : List ℕ). leb 1 (count (is_it x) l)) is-withheld is-members ∙ le-leb 1 _ named_fitting.member)))

  -- ---- a head that passes names them

  pub ok_named : head_ok tbl b ≡ true → Named depth tbl b
  unfolding head_ok layer_ok equation_ok member_ok proof_layer proof_equation proof_withheld proof_members layer_of equation_of
  ok_named t =
      let (t₁, t') = and_yes (layer_ok tbl b) (equation_ok tbl b && member_ok tbl b) t in
      let (t₂, t₃) = and_yes (equation_ok tbl b) (member_ok tbl b) t' in
      let n = head_names tbl b t in
      let (front, back, apart) =
      member_apart (proof_withheld b) (proof_members tbl b) (counted-member (proof_withheld b) (proof_members tbl b) n.member_ok_lem) in
      let in_depth : proof_layer b < depth = omega (arith, n.layer_ok_lem, o.depth) in
      record {
        layer = proof_layer b;
        equation = proof_equation b;
        withheld = proof_withheld b;
        front = front;
        back = back;
        head = record {
          layer-word = word-is b 0 1 (eqb-true (kind_at b 0) 1 (and_yes (eqb (kind_at b 0) 1) _ t₁).0);
          equation-word = word-is b 1 2 (eqb-true (kind_at b 1) 2 (and_yes (eqb (kind_at b 1) 2) _ t₂).0);
          withheld-word = word-is b 2 3 (eqb-true (kind_at b 2) 3 (and_yes (eqb (kind_at b 2) 3) _ t₃).0);
        };
        has_layer = in_depth;
        has_equation = omega (arith, n.equation_ok_lem, o.equations (proof_layer b) in_depth, data_symbols_lem (proof_layer b));
        has_member = apart;
      }
