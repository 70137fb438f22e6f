-- The kinds of the words give a well-formed table back, and the places of its equations.
use mathlib.Core.Path.{◌≡◌, refl, sym, ap, ◌∙◌, subst}
use mathlib.Core.Bool.{Bool, true, false, ◌&&◌}
use mathlib.Core.List.{List, [], ◌∷◌, ◌++◌, append_assoc}
use Prim.Native.Nat.{ℕ, zero, suc, ◌+◌, ◌-◌, ◌*◌, ◌^◌, ◌≤◌, ◌<◌}
use native.Mathlib.Nat.{add-zero, zero-add}
use native.Mathlib.Omega.{arith}
use lib.ListN.{length, get_or, take, drop}
use lib.Dec.{leb, ltb}
use borrow.Author.Tests.{ltb-true, lt-ltb, le-ltb, le-leb, lt-leb}
use Rattle.parity_table.specs.Shape.{max_depth, k_of}
use Rattle.parity_table.specs.Members.{every}
use Rattle.parity_table.specs.Table.{layer_of, equation_of, word, EquationOk, TableOk, equations_words, layers_words, table_words, WellFormed}
use Rattle.octets.proofs.Choice.{pick_yes, pick_no, pick_ind, and_yes, yes_and}
use Rattle.parity_table.specs.Parse.{Parts, parts, add_word, parts_of, table_of, members_of, opens_equation, starts_from, index_of, equations_above, number_in}
use Rattle.parity_table.proofs.Shape.{k_zero, k_small, k_grows, k_double}
use Rattle.parity_table.proofs.Chain.{equation_chain, chain_within}
use Rattle.parity_table.proofs.Rules.{EquationsOk, LayersOk, table-layers}

-- ---- a word of each kind

add_member : (w : ℕ) (p : Parts) → w < word 1 0 → add_word w p ≡ parts (w ∷ p.members) p.equations p.layers
unfolding add_word
add_member w p h = pick_yes (ltb w (word 1 0)) _ _ (lt-ltb w (word 1 0) h)

add_layer : (j : ℕ) (p : Parts) → j < 2 ^ 30 → add_word (word 1 j) p ≡ parts [] [] (p.equations ∷ p.layers)
unfolding add_word
add_layer j p h =
    pick_no (ltb (word 1 j) (word 1 0)) _ _ (le-ltb (word 1 j) (word 1 0) (omega arith))
    ∙ pick_yes (ltb (word 1 j) (word 2 0)) _ _ (lt-ltb (word 1 j) (word 2 0) (omega arith))

add_equation : (e : ℕ) (p : Parts) → e < 2 ^ 30 → add_word (word 2 e) p ≡ parts [] (p.members ∷ p.equations) p.layers
unfolding add_word
add_equation e p h =
    pick_no (ltb (word 2 e) (word 1 0)) _ _ (le-ltb (word 2 e) (word 1 0) (omega arith))
    ∙ pick_no (ltb (word 2 e) (word 2 0)) _ _ (le-ltb (word 2 e) (word 2 0) (omega arith))
    ∙ pick_yes (ltb (word 2 e) (word 3 0)) _ _ (lt-ltb (word 2 e) (word 3 0) (omega arith))

add-end : (n : ℕ) (p : Parts) → add_word (word 3 n) p ≡ parts [] [] []
unfolding add_word
add-end n p =
    pick_no (ltb (word 3 n) (word 1 0)) _ _ (le-ltb (word 3 n) (word 1 0) (omega arith))
    ∙ pick_no (ltb (word 3 n) (word 2 0)) _ _ (le-ltb (word 3 n) (word 2 0) (omega arith))
    ∙ pick_no (ltb (word 3 n) (word 3 0)) _ _ (le-ltb (word 3 n) (word 3 0) (omega arith))

-- ---- the parts of written parts

abbrev Small : List ℕ → Type 0
Small ms = every (λ x. ltb x (word 1 0)) ms ≡ true

small_equation : (j e : ℕ) (ms : List ℕ) → j < max_depth → e < 3 * k_of j → EquationOk j e ms → Small ms
small_equation j e ms hj he o = chain_within 0 (k_of j + e) (word 1 0) ms (omega (arith, k_small j hj)) (equation_chain j e ms o)

parts-members : (ms rest : List ℕ) (es : List (List ℕ)) (ls : List (List (List ℕ))) → Small ms → parts_of rest ≡ parts [] es ls
    → parts_of (ms ++ rest) ≡ parts ms es ls
unfolding parts_of every
parts-members [] rest es ls s q = q
parts-members (x ∷ ms) rest es ls s q =
    let (a, b) = and_yes (ltb x (word 1 0)) (every (λ x. ltb x (word 1 0)) ms) s in
    ap (add_word x) (parts-members ms rest es ls b q) ∙ add_member x (parts ms es ls) (ltb-true x (word 1 0) a)

parts-equations : (j e : ℕ) (es : List (List ℕ)) (rest : List ℕ) (ls : List (List (List ℕ))) → j < max_depth → EquationsOk j e es
    → e + length es ≤ 3 * k_of j
    → parts_of rest ≡ parts [] [] ls → parts_of (equations_words e es ++ rest) ≡ parts [] es ls
unfolding parts_of equations_words
parts-equations j e [] rest ls hj o h q = q
parts-equations j e (ms ∷ es) rest ls hj o h q =
    ap (λ (l : List ℕ). add_word (word 2 e) (parts_of l)) (append_assoc ms (equations_words (suc e) es) rest)
    ∙ ap (add_word (word 2 e)) (parts-members ms (equations_words (suc e) es ++ rest) es ls (small_equation j e ms hj (omega arith) o.0)
    (parts-equations j (suc e) es rest ls hj o.1 (omega arith) q))
    ∙ add_equation e (parts ms es ls) (omega (arith, k_small j hj))

parts-layers : (j : ℕ) (ls : List (List (List ℕ))) (rest : List ℕ) → LayersOk j ls → j + length ls ≤ max_depth → parts_of rest ≡ parts [] [] []
    → parts_of (layers_words j ls ++ rest) ≡ parts [] [] ls
unfolding parts_of layers_words
parts-layers j [] rest o h q = q
parts-layers j (es ∷ ls) rest o h q =
    ap (λ (l : List ℕ). add_word (word 1 j) (parts_of l)) (append_assoc (equations_words 0 es) (layers_words (suc j) ls) rest)
    ∙ ap (add_word (word 1 j)) (parts-equations j 0 es (layers_words (suc j) ls ++ rest) ls (omega arith) o.1 (omega (arith, o.0))
    (parts-layers (suc j) ls rest o.2 (omega arith) q))
    ∙ add_layer j (parts [] es ls) (omega arith)

-- a well-formed list gives its table back
pub table_of-words : (d : ℕ) (tbl : List (List (List ℕ))) → TableOk d tbl → d ≤ max_depth → table_of (table_words tbl) ≡ tbl
unfolding table_of table_words parts_of
table_of-words d tbl o h =
    ap (λ (p : Parts). p.layers)
    (parts-layers 0 tbl (word 3 (length (layers_words 0 tbl)) ∷ []) (table-layers d tbl o) (omega (arith, o.depth)) (add-end (length (layers_words 0 tbl)) (parts [] [] [])))

module _ (d : ℕ) (ws : List ℕ) (f : WellFormed d ws) (h : d ≤ max_depth) where
  pub table_of-is : table_of ws ≡ f.table
  table_of-is = ap table_of f.written ∙ table_of-words d f.table f.rules h

  pub formed-rules : TableOk d (table_of ws)
  formed-rules = subst (TableOk d) (sym table_of-is) f.rules

  pub formed-words : ws ≡ table_words (table_of ws)
  formed-words = f.written ∙ ap table_words (sym table_of-is)

-- ---- the places of the equations

-- in the words X, number i first, the members of the q-th equation are ms, and start where starts_from says
pub record Spot (X : List ℕ) (q : ℕ) (ms : List ℕ) (i : ℕ) : Type 0 where
  pub at : ℕ
  pub inside : at ≤ length X
  pub known : q < length (starts_from i X)
  pub is : get_or (starts_from i X) q 0 ≡ at + i
  pub members : members_of (drop at X) ≡ ms

abbrev Spots : List ℕ → ℕ → List ℕ → Type 0
Spots X q ms = (i : ℕ) → Spot X q ms i

spot_skip : (w : ℕ) (X : List ℕ) (q : ℕ) (ms : List ℕ) → opens_equation w ≡ false → Spots X q ms → Spots (w ∷ X) q ms
unfolding starts_from
spot_skip w X q ms t s i =
    let r = s (suc i) in
    let p = pick_no (opens_equation w) (suc i ∷ starts_from (suc i) X) (starts_from (suc i) X) t in
    record {
      at = suc r.at;
      inside = omega (arith, r.inside);
      known = omega (arith, ap length p, r.known);
      is = ap (λ (l : List ℕ). get_or l q 0) p ∙ r.is ∙ omega arith;
      members = r.members;
    }

spot_pass : (w : ℕ) (X : List ℕ) (q : ℕ) (ms : List ℕ) → opens_equation w ≡ true → Spots X q ms → Spots (w ∷ X) (suc q) ms
unfolding starts_from
spot_pass w X q ms t s i =
    let r = s (suc i) in
    let p = pick_yes (opens_equation w) (suc i ∷ starts_from (suc i) X) (starts_from (suc i) X) t in
    record {
      at = suc r.at;
      inside = omega (arith, r.inside);
      known = omega (arith, ap length p, r.known);
      is = ap (λ (l : List ℕ). get_or l (suc q) 0) p ∙ r.is ∙ omega arith;
      members = r.members;
    }

spot_here : (w : ℕ) (X : List ℕ) (ms : List ℕ) → opens_equation w ≡ true → members_of X ≡ ms → Spots (w ∷ X) 0 ms
unfolding starts_from
spot_here w X ms t m i =
    let p = pick_yes (opens_equation w) (suc i ∷ starts_from (suc i) X) (starts_from (suc i) X) t in
    record {
      at = 1;
      inside = omega arith;
      known = omega (arith, ap length p);
      is = ap (λ (l : List ℕ). get_or l 0 0) p ∙ omega arith;
      members = m;
    }

member_opens : (w : ℕ) → w < word 2 0 → opens_equation w ≡ false
unfolding opens_equation
member_opens w h = ap (λ (b : Bool). b && ltb w (word 3 0)) (lt-leb (word 2 0) w h)

equation_opens : (e : ℕ) → e < 2 ^ 30 → opens_equation (word 2 e) ≡ true
unfolding opens_equation
equation_opens e h = yes_and (le-leb (word 2 0) (word 2 e) (omega arith)) (lt-ltb (word 2 e) (word 3 0) (omega arith))

spot_members : (ms X : List ℕ) (q : ℕ) (us : List ℕ) → Small ms → Spots X q us → Spots (ms ++ X) q us
unfolding every
spot_members [] X q us a s = s
spot_members (x ∷ ms) X q us a s =
    let (b, c) = and_yes (ltb x (word 1 0)) (every (λ x. ltb x (word 1 0)) ms) a in
    spot_skip x (ms ++ X) q us (member_opens x (omega (arith, ltb-true x (word 1 0) b))) (spot_members ms X q us c s)

-- the words start with no member
members-none : (w : ℕ) (X : List ℕ) → word 1 0 ≤ w → members_of (w ∷ X) ≡ []
unfolding members_of
members-none w X h = pick_no (ltb w (word 1 0)) (w ∷ members_of X) [] (le-ltb w (word 1 0) h)

members-all : (ms X : List ℕ) → Small ms → members_of X ≡ [] → members_of (ms ++ X) ≡ ms
unfolding every members_of
members-all [] X a h = h
members-all (x ∷ ms) X a h =
    let (b, c) = and_yes (ltb x (word 1 0)) (every (λ x. ltb x (word 1 0)) ms) a in
    pick_yes (ltb x (word 1 0)) (x ∷ members_of (ms ++ X)) [] b ∙ ap {B = List ℕ} (λ l. x ∷ l) (members-all ms X c h)

equations-none : (e : ℕ) (es : List (List ℕ)) (X : List ℕ) → members_of X ≡ [] → members_of (equations_words e es ++ X) ≡ []
unfolding equations_words
equations-none e [] X h = h
equations-none e (ms ∷ es) X h = members-none (word 2 e) ((ms ++ equations_words (suc e) es) ++ X) (omega arith)

layers-none : (j : ℕ) (ls : List (List (List ℕ))) (X : List ℕ) → members_of X ≡ [] → members_of (layers_words j ls ++ X) ≡ []
unfolding layers_words
layers-none j [] X h = h
layers-none j (es ∷ ls) X h = members-none (word 1 j) ((equations_words 0 es ++ layers_words (suc j) ls) ++ X) (omega arith)

-- an equation of these
spot_equations : (j e : ℕ) (es : List (List ℕ)) (X : List ℕ) → j < max_depth → EquationsOk j e es → e + length es ≤ 3 * k_of j → members_of X ≡ []
    → (q : ℕ) → q < length es → Spots (equations_words e es ++ X) q (get_or es q [])
unfolding equations_words
spot_equations j e [] X hj o h n q g = absurd (omega arith)
spot_equations j e (ms ∷ es) X hj o h n zero g =
    let s = small_equation j e ms hj (omega arith) o.0 in
    subst (λ (l : List ℕ). Spots (word 2 e ∷ l) 0 ms) (sym (append_assoc ms (equations_words (suc e) es) X))
    (spot_here (word 2 e) (ms ++ (equations_words (suc e) es ++ X)) ms (equation_opens e (omega (arith, k_small j hj)))
    (members-all ms (equations_words (suc e) es ++ X) s (equations-none (suc e) es X n)))
spot_equations j e (ms ∷ es) X hj o h n (suc q) g =
    let s = small_equation j e ms hj (omega arith) o.0 in
    subst (λ (l : List ℕ). Spots (word 2 e ∷ l) (suc q) (get_or es q [])) (sym (append_assoc ms (equations_words (suc e) es) X))
    (spot_pass (word 2 e) (ms ++ (equations_words (suc e) es ++ X)) q (get_or es q []) (equation_opens e (omega (arith, k_small j hj)))
    (spot_members ms (equations_words (suc e) es ++ X) q (get_or es q []) s (spot_equations j (suc e) es X hj o.1 (omega arith) n q (omega arith))))

-- an equation after these
spot_past : (j e : ℕ) (es : List (List ℕ)) (X : List ℕ) → j < max_depth → EquationsOk j e es → e + length es ≤ 3 * k_of j
    → (q : ℕ) (us : List ℕ) → Spots X q us → Spots (equations_words e es ++ X) (length es + q) us
unfolding equations_words
spot_past j e [] X hj o h q us r = rw zero-add r
spot_past j e (ms ∷ es) X hj o h q us r =
    let s = small_equation j e ms hj (omega arith) o.0 in
    subst (λ (n : ℕ). Spots (word 2 e ∷ ((ms ++ equations_words (suc e) es) ++ X)) n us) (omega arith)
    (subst (λ (l : List ℕ). Spots (word 2 e ∷ l) (suc (length es + q)) us) (sym (append_assoc ms (equations_words (suc e) es) X))
    (spot_pass (word 2 e) (ms ++ (equations_words (suc e) es ++ X)) (length es + q) us (equation_opens e (omega (arith, k_small j hj)))
    (spot_members ms (equations_words (suc e) es ++ X) (length es + q) us s (spot_past j (suc e) es X hj o.1 (omega arith) q us r))))

spot_layers : (j : ℕ) (ls : List (List (List ℕ))) (X : List ℕ) → LayersOk j ls → j + length ls ≤ max_depth → members_of X ≡ []
    → (t q n : ℕ) → t < length ls → q < length (get_or ls t []) → n + 3 * k_of j ≡ 3 * k_of (j + t) + q → Spots (layers_words j ls ++ X) n (get_or (get_or ls t []) q [])
unfolding layers_words
spot_layers j [] X o h m t q n ht hq e = absurd (omega arith)
spot_layers j (es ∷ ls) X o h m zero q n ht hq e =
    let nq : q ≡ n = omega (arith, ap (λ (x : ℕ). k_of x) (add-zero j)) in
    subst (λ (l : List ℕ). Spots (word 1 j ∷ l) n (get_or es q [])) (sym (append_assoc (equations_words 0 es) (layers_words (suc j) ls) X))
    (spot_skip (word 1 j) (equations_words 0 es ++ (layers_words (suc j) ls ++ X)) n (get_or es q []) (member_opens (word 1 j) (omega arith))
    (subst (λ (x : ℕ). Spots (equations_words 0 es ++ (layers_words (suc j) ls ++ X)) x (get_or es q [])) nq
    (spot_equations j 0 es (layers_words (suc j) ls ++ X) (omega arith) o.1 (omega (arith, o.0)) (layers-none (suc j) ls X m) q hq)))
spot_layers j (es ∷ ls) X o h m (suc t) q n ht hq e =
    let same : k_of (j + suc t) ≡ k_of (suc j + t) = ap k_of (omega arith) in
    let big : 3 * k_of j ≤ n = omega (arith, k_grows (suc j) t, k_double j) in
    let rest : n - 3 * k_of j + 3 * k_of (suc j) ≡ 3 * k_of (suc j + t) + q = omega (arith, k_double j) in
    let nq : length es + (n - 3 * k_of j) ≡ n = omega (arith, o.0) in
    subst (λ (l : List ℕ). Spots (word 1 j ∷ l) n (get_or (get_or ls t []) q [])) (sym (append_assoc (equations_words 0 es) (layers_words (suc j) ls) X))
    (spot_skip (word 1 j) (equations_words 0 es ++ (layers_words (suc j) ls ++ X)) n (get_or (get_or ls t []) q []) (member_opens (word 1 j) (omega arith))
    (subst (λ (x : ℕ). Spots (equations_words 0 es ++ (layers_words (suc j) ls ++ X)) x (get_or (get_or ls t []) q [])) nq
    (spot_past j 0 es (layers_words (suc j) ls ++ X) (omega arith) o.1 (omega (arith, o.0)) (n - 3 * k_of j) (get_or (get_or ls t []) q [])
    (spot_layers (suc j) ls X o.2 (omega arith) m t q (n - 3 * k_of j) (omega arith) hq rest))))

-- ---- how many equations there are

abbrev Counts : List ℕ → ℕ → Type 0
Counts X n = (i : ℕ) → length (starts_from i X) ≡ n

counts_skip : (w : ℕ) (X : List ℕ) (n : ℕ) → opens_equation w ≡ false → Counts X n → Counts (w ∷ X) n
unfolding starts_from
counts_skip w X n t c i = ap length (pick_no (opens_equation w) (suc i ∷ starts_from (suc i) X) (starts_from (suc i) X) t) ∙ c (suc i)

counts_pass : (w : ℕ) (X : List ℕ) (n : ℕ) → opens_equation w ≡ true → Counts X n → Counts (w ∷ X) (suc n)
unfolding starts_from
counts_pass w X n t c i = ap length (pick_yes (opens_equation w) (suc i ∷ starts_from (suc i) X) (starts_from (suc i) X) t) ∙ ap suc (c (suc i))

counts-members : (ms X : List ℕ) (n : ℕ) → Small ms → Counts X n → Counts (ms ++ X) n
unfolding every
counts-members [] X n a c = c
counts-members (x ∷ ms) X n a c =
    let (p, q) = and_yes (ltb x (word 1 0)) (every (λ x. ltb x (word 1 0)) ms) a in
    counts_skip x (ms ++ X) n (member_opens x (omega (arith, ltb-true x (word 1 0) p))) (counts-members ms X n q c)

counts-equations : (j e : ℕ) (es : List (List ℕ)) (X : List ℕ) (n : ℕ) → j < max_depth → EquationsOk j e es → e + length es ≤ 3 * k_of j → Counts X n
    → Counts (equations_words e es ++ X) (length es + n)
unfolding equations_words
counts-equations j e [] X n hj o h c = rw zero-add c
counts-equations j e (ms ∷ es) X n hj o h c =
    subst (λ (k : ℕ). Counts (word 2 e ∷ ((ms ++ equations_words (suc e) es) ++ X)) k) (omega arith)
    (subst (λ (l : List ℕ). Counts (word 2 e ∷ l) (suc (length es + n))) (sym (append_assoc ms (equations_words (suc e) es) X))
    (counts_pass (word 2 e) (ms ++ (equations_words (suc e) es ++ X)) (length es + n) (equation_opens e (omega (arith, k_small j hj)))
    (counts-members ms (equations_words (suc e) es ++ X) (length es + n) (small_equation j e ms hj (omega arith) o.0)
    (counts-equations j (suc e) es X n hj o.1 (omega arith) c))))

counts-layers : (j : ℕ) (ls : List (List (List ℕ))) (X : List ℕ) (n : ℕ) → LayersOk j ls → j + length ls ≤ max_depth → Counts X 0
    → n + 3 * k_of j ≡ 3 * k_of (j + length ls) → Counts (layers_words j ls ++ X) n
unfolding layers_words
counts-layers j [] X n o h c e = subst (λ (k : ℕ). Counts X k) (omega (arith, ap (λ (x : ℕ). k_of x) (add-zero j))) c
counts-layers j (es ∷ ls) X n o h c e =
    let same : k_of (j + suc (length ls)) ≡ k_of (suc j + length ls) = ap k_of (omega arith) in
    let big : 3 * k_of j ≤ n = omega (arith, k_grows (suc j) (length ls), k_double j) in
    let rest : n - 3 * k_of j + 3 * k_of (suc j) ≡ 3 * k_of (suc j + length ls) = omega (arith, k_double j) in
    let nq : length es + (n - 3 * k_of j) ≡ n = omega (arith, o.0) in
    subst (λ (l : List ℕ). Counts (word 1 j ∷ l) n) (sym (append_assoc (equations_words 0 es) (layers_words (suc j) ls) X))
    (counts_skip (word 1 j) (equations_words 0 es ++ (layers_words (suc j) ls ++ X)) n (member_opens (word 1 j) (omega arith))
    (subst (λ (k : ℕ). Counts (equations_words 0 es ++ (layers_words (suc j) ls ++ X)) k) nq
    (counts-equations j 0 es (layers_words (suc j) ls ++ X) (n - 3 * k_of j) (omega arith) o.1 (omega (arith, o.0))
    (counts-layers (suc j) ls X (n - 3 * k_of j) o.2 (omega arith) c rest))))

end_opens : (n : ℕ) → opens_equation (word 3 n) ≡ false
unfolding opens_equation
end_opens n = ap (λ (b : Bool). leb (word 2 0) (word 3 n) && b) (le-ltb (word 3 n) (word 3 0) (omega arith)) ∙ and_false (leb (word 2 0) (word 3 n))
  where
    and_false : (b : Bool) → (b && false) ≡ false
    and_false true = refl
    and_false false = refl

-- the members in front are the first words
pub members-take : (X : List ℕ) → members_of X ≡ take (length (members_of X)) X
unfolding members_of
members-take [] = refl
members-take (w ∷ X) =
    pick_ind (λ (l : List ℕ). l ≡ take (length l) (w ∷ X)) (ltb w (word 1 0)) (λ t. ap {B = List ℕ} (λ l. w ∷ l) (members-take X)) (λ t. refl)

members-length : (X : List ℕ) → length (members_of X) ≤ length X
unfolding members_of
members-length [] = omega arith
members-length (w ∷ X) =
    pick_ind (λ (l : List ℕ). length l ≤ suc (length X)) (ltb w (word 1 0)) (λ t. omega (arith, members-length X)) (λ t. omega arith)

module _ (d : ℕ) (ws : List ℕ) (f : WellFormed d ws) (h : d ≤ max_depth) where
  spot_at : (j e : ℕ) → j < d → e < 3 * k_of j → Spot ws (number_in j e) (equation_of (table_of ws) j e) 0
  unfolding table_words number_in equations_above equation_of layer_of
  spot_at j e hj he =
      let tbl = table_of ws in
      let o = formed-rules d ws f h in
      let full = o.equations j hj in
      subst (λ (l : List ℕ). Spot l (number_in j e) (equation_of tbl j e) 0) (sym (formed-words d ws f h))
      (spot_layers 0 tbl (word 3 (length (layers_words 0 tbl)) ∷ []) (table-layers d tbl o) (omega (arith, o.depth))
      (members-none (word 3 (length (layers_words 0 tbl))) [] (omega arith)) j e (number_in j e) (omega (arith, o.depth)) (omega (arith, full))
      (omega (arith, k_zero, k_grows 0 j, ap (λ (x : ℕ). k_of x) (zero-add j))) 0)

  -- the members of equation e of layer j stand in the words where startOf says
  pub members_at_lem : (j e : ℕ) → j < d → e < 3 * k_of j → members_of (drop (get_or (index_of ws) (number_in j e) 0) ws) ≡ equation_of (table_of ws) j e
  members_at_lem j e hj he =
      let s = spot_at j e hj he in
      ap (λ (n : ℕ). members_of (drop n ws)) (s.is ∙ add-zero s.at) ∙ s.members

  -- one start for each equation
  pub starts-count : length (index_of ws) ≡ equations_above d
  unfolding table_words starts_from equations_above
  starts-count =
      let tbl = table_of ws in
      let o = formed-rules d ws f h in
      let b = layers_words 0 tbl in
      ap (λ (l : List ℕ). length (starts_from 0 l)) (formed-words d ws f h)
      ∙ counts-layers 0 tbl (word 3 (length b) ∷ []) (equations_above d) (table-layers d tbl o) (omega (arith, o.depth))
      (counts_skip (word 3 (length b)) [] 0 (end_opens (length b)) (λ i. refl))
      (omega (arith, k_zero, k_grows 0 d, ap (λ (x : ℕ). k_of x) (zero-add d), ap (λ (x : ℕ). k_of (0 + x)) o.depth)) 0

  pub number_lt : (j e : ℕ) → j < d → e < 3 * k_of j → number_in j e < length (starts_from 0 ws)
  number_lt j e hj he = (spot_at j e hj he).known

  pub start_fits : (j e : ℕ) → j < d → e < 3 * k_of j → get_or (index_of ws) (number_in j e) 0 + length (equation_of (table_of ws) j e) ≤ length ws
  start_fits j e hj he =
      let s = spot_at j e hj he in
      omega
      (arith, s.is, s.inside, ap length (members_at_lem j e hj he), members-length (drop (get_or (index_of ws) (number_in j e) 0) ws), lib.ListN.length-drop (get_or (index_of ws) (number_in j e) 0) ws)
