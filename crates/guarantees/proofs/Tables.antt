-- 01's rules of a table, and the definitions of crate `parity_table`: the same.
use mathlib.Core.Path.{◌≡◌, refl, sym, ◌∙◌}
use mathlib.Core.Bool.{true}
use mathlib.Core.List.{List, [], ◌∷◌, ◌++◌}
use Prim.Native.Nat.{ℕ, zero, suc, ◌<◌}
use native.Mathlib.Omega.{arith}
use lib.ListN.{length, get_or, take}
use lib.Dec.{ltb}
use borrow.Author.Tests.{lt-ltb, ltb-true}
use Rattle.octets.proofs.Choice.{and_yes, yes_and}
use Rattle.parity_table.specs.Shape.{k_of}
use Rattle.parity_table.specs.Members.{every, ascending}
use Rattle.parity_table.specs.Table.{layer_of, equation_of, EquationOk, TableOk, equations_words, layers_words, table_words, WellFormed, FirstWrong}
use Rattle.parity_table.specs.Coverage.{InTwo, Covered, FirstUncovered}
use Rattle.model.proofs.Members.{last_get}
use Rattle.guarantees.specs.Tables.{EquationRules, TableRules, equations_listed, layers_listed, listed, TableRight, FirstWrongWord, InTwoEquations, AllInTwo, FirstNotInTwo}

-- ---- members

-- each is below the next
abbrev Rising : List ℕ → Type 0
Rising xs = (q : ℕ) → suc q < length xs → get_or xs q 0 < get_or xs (suc q) 0

lower : (x y : ℕ) → x < y → (zs : List ℕ) → every (ltb y) zs ≡ true → every (ltb x) zs ≡ true
unfolding every
lower x y h [] e = refl
lower x y h (z ∷ zs) e =
    let (p, q) = and_yes (ltb y z) (every (ltb y) zs) e in
    yes_and (lt-ltb x z (omega (arith, ltb-true y z p))) (lower x y h zs q)

rising_every : (x : ℕ) (xs : List ℕ) → Rising (x ∷ xs) → every (ltb x) xs ≡ true
unfolding every
rising_every x [] r = refl
rising_every x (y ∷ ys) r =
    let h : x < y = r 0 (omega arith) in
    yes_and (lt-ltb x y h) (lower x y h ys (rising_every y ys (λ q l. r (suc q) (omega arith))))

rising_ascending : (xs : List ℕ) → Rising xs → ascending xs ≡ true
unfolding ascending
rising_ascending [] r = refl
rising_ascending (x ∷ xs) r = yes_and (rising_every x xs r) (rising_ascending xs (λ q l. r (suc q) (omega arith)))

ascending_rising : (xs : List ℕ) → ascending xs ≡ true → Rising xs
unfolding ascending every
ascending_rising [] a q l = absurd (omega arith)
ascending_rising (x ∷ []) a q l = absurd (omega arith)
ascending_rising (x ∷ y ∷ ys) a zero l = ltb-true x y (and_yes (ltb x y) (every (ltb x) ys) (and_yes (every (ltb x) (y ∷ ys)) (ascending (y ∷ ys)) a).0).0
ascending_rising (x ∷ y ∷ ys) a (suc q) l = ascending_rising (y ∷ ys) (and_yes (every (ltb x) (y ∷ ys)) (ascending (y ∷ ys)) a).1 q (omega arith)

-- ---- rules

equation_ok_lem : (j e : ℕ) (ms : List ℕ) → EquationRules j e ms → EquationOk j e ms
unfolding k_of
equation_ok_lem j e ms r =
    record {
      some = r.two;
      few = r.eight;
      ascend = rising_ascending ms r.ascending;
      final = last_get ms 0 (omega (arith, r.two)) ∙ r.last;
    }

equation-rules : (j e : ℕ) (ms : List ℕ) → EquationOk j e ms → EquationRules j e ms
unfolding k_of
equation-rules j e ms k =
    record {
      two = k.some;
      eight = k.few;
      ascending = ascending_rising ms k.ascend;
      last = sym (last_get ms 0 (omega (arith, k.some))) ∙ k.final;
    }

pub rules_ok : (d : ℕ) (tbl : List (List (List ℕ))) → TableRules d tbl → TableOk d tbl
unfolding k_of layer_of equation_of
rules_ok d tbl r =
    record { depth = r.layers; equations = r.equations; members = λ j e hj he. equation_ok_lem j e (equation_of tbl j e) (r.rules j e hj he) }

pub ok_rules : (d : ℕ) (tbl : List (List (List ℕ))) → TableOk d tbl → TableRules d tbl
unfolding k_of layer_of equation_of
ok_rules d tbl k =
    record { layers = k.depth; equations = k.equations; rules = λ j e hj he. equation-rules j e (equation_of tbl j e) (k.members j e hj he) }

-- ---- words

equations-same : (e : ℕ) (es : List (List ℕ)) → equations_listed e es ≡ equations_words e es
unfolding equations_listed equations_words
equations-same e [] = refl
equations-same e (ms ∷ es) = rw (equations-same (suc e) es) refl

layers-same : (j : ℕ) (ls : List (List (List ℕ))) → layers_listed j ls ≡ layers_words j ls
unfolding layers_listed layers_words
layers-same j [] = refl
layers-same j (es ∷ ls) = rw (equations-same 0 es, layers-same (suc j) ls) refl

pub listed-words : (tbl : List (List (List ℕ))) → listed tbl ≡ table_words tbl
unfolding listed table_words
listed-words tbl = rw (layers-same 0 tbl) refl

-- ---- well-formed lists, and the first wrong word

pub right-formed : (d : ℕ) (ws : List ℕ) → TableRight d ws → WellFormed d ws
right-formed d ws r = record { table = r.table; rules = rules_ok d r.table r.by_rules; written = r.is-listed ∙ listed-words r.table }

pub formed-right : (d : ℕ) (ws : List ℕ) → WellFormed d ws → TableRight d ws
formed-right d ws f = record { table = f.table; by_rules = ok_rules d f.table f.rules; is-listed = f.written ∙ sym (listed-words f.table) }

pub first-wrong : (d : ℕ) (ws : List ℕ) (i : ℕ) → FirstWrong d ws i → FirstWrongWord d ws i
first-wrong d ws i f =
    record {
      not_right = λ r. f.refused (right-formed d ws r);
      inside = f.within;
      right-before = λ n h. let g = f.before n h in (g.more, formed-right d (take n ws ++ g.more) g.formed);
      wrong_there = λ h b. f.wrong h (record { more = b.0; formed = right-formed d (take (suc i) ws ++ b.0) b.1 });
    }

pub wrong_first : (d : ℕ) (ws : List ℕ) (i : ℕ) → FirstWrongWord d ws i → FirstWrong d ws i
wrong_first d ws i f =
    record {
      within = f.inside;
      before = λ n h. let g = f.right-before n h in record { more = g.0; formed = right-formed d (take n ws ++ g.0) g.1 };
      wrong = λ h b. f.wrong_there h (b.more, formed-right d (take (suc i) ws ++ b.more) b.formed);
      refused = λ r. f.not_right (formed-right d ws r);
    }

-- ---- data symbols in equations

module _ (tbl : List (List (List ℕ))) (j i : ℕ) where
  in_two : InTwoEquations tbl j i → InTwo tbl j i
  unfolding k_of layer_of equation_of
  in_two (e, f, n, (p, a), (q, b)) =
      record { one = e; other = f; different = n; one_there = p; other_there = q; in_one = a; in_other = b }

  two_in : InTwo tbl j i → InTwoEquations tbl j i
  unfolding k_of layer_of equation_of
  two_in t = (t.one, t.other, t.different, (t.one_there, t.in_one), (t.other_there, t.in_other))

pub covered_all : (d : ℕ) (tbl : List (List (List ℕ))) → Covered d tbl → AllInTwo d tbl
unfolding k_of
covered_all d tbl c j i hj hi = two_in tbl j i (c j i hj hi)

pub all_covered : (d : ℕ) (tbl : List (List (List ℕ))) → AllInTwo d tbl → Covered d tbl
unfolding k_of
all_covered d tbl c j i hj hi = in_two tbl j i (c j i hj hi)

pub first_not : (d : ℕ) (tbl : List (List (List ℕ))) (j i : ℕ) → FirstUncovered d tbl j i → FirstNotInTwo d tbl j i
unfolding k_of layer_of equation_of
first_not d tbl j i f =
    record {
      layer = f.layer;
      data_symbol = f.symbol;
      one_or_none = λ e g (p, a) (q, b). f.at_most_one e g p q a b;
      earlier = covered_all j tbl f.before;
      lower = λ x h. two_in tbl j x (f.lower x h);
    }

pub not_first : (d : ℕ) (tbl : List (List (List ℕ))) (j i : ℕ) → FirstNotInTwo d tbl j i → FirstUncovered d tbl j i
unfolding k_of layer_of equation_of
not_first d tbl j i f =
    record {
      layer = f.layer;
      symbol = f.data_symbol;
      before = all_covered j tbl f.earlier;
      lower = λ x h. in_two tbl j x (f.lower x h);
      at_most_one = λ e g p q a b. f.one_or_none e g (p, a) (q, b);
    }
