-- The reader takes exactly the well-formed lists, and refuses at the first wrong word.
use mathlib.Core.Path.{◌≡◌, refl, sym, ap, ◌∙◌, subst}
use mathlib.Core.Logic.{◌⊎◌, inl, inr, ⊎_elim}
use mathlib.Core.Bool.{true, ◌&&◌}
use mathlib.Core.List.{List, [], ◌∷◌, ◌++◌, append_assoc}
use Prim.Native.Nat.{ℕ, zero, suc, ◌+◌, ◌-◌, ◌*◌, ◌≤◌, ◌<◌}
use native.Mathlib.Omega.{arith}
use lib.ListN.{length, take, drop, length-append, take-append-drop}
use lib.Seq.{take-take}
use lib.Dec.{leb, ltb, eqb}
use borrow.Author.Tests.{ltb-true, ltb-false, leb-true, eqb-true, lt-ltb, le-ltb, le-leb, eq-eqb}
use Rattle.octets.specs.Choice.{pick}
use Rattle.parity_table.specs.Shape.{k_of}
use Rattle.octets.proofs.Choice.{by_test, pick_yes, pick_no, pick_ind, and_yes, yes_and, both}
use Rattle.parity_table.specs.Reader.{Answer, Whole, Wrong, Next, Layer, Equation, Member, End, Nothing, layered, opened, member_fits, fits, after, at_end, run}
use Rattle.parity_table.specs.Table.{word, TableOk, equations_words, layers_words, table_words, WellFormed, Begins, FirstWrong}
use Rattle.parity_table.proofs.Shape.{k_pos}
use Rattle.parity_table.proofs.Rules.{EquationsOk, LayersOk, layers-table, table-layers}
use Rattle.parity_table.proofs.Chain.{Chain, chain_le, chain_cons, equation_chain, chain_equation}

-- ---- a turn

run-turn : (d i : ℕ) (s t : Next) (w : ℕ) (ws : List ℕ) → fits i s w ≡ true → after d s w ≡ t → run d i s (w ∷ ws) ≡ run d (suc i) t ws
unfolding run
run-turn d i s t w ws f a = pick_yes (fits i s w) _ _ f ∙ ap (λ (n : Next). run d (suc i) n ws) a

member-goes : (z m lo w : ℕ) → lo ≤ w → w < z → m < 7 → member_fits z m lo w ≡ true
unfolding member_fits
member-goes z m lo w a b c = yes_and (le-leb lo w a) (pick_yes (ltb w z) _ _ (lt-ltb w z b) ∙ lt-ltb m 7 c)

member-ends : (z m lo w : ℕ) → lo ≤ w → w ≡ z → 0 < m → member_fits z m lo w ≡ true
unfolding member_fits
member-ends z m lo w a b c = yes_and (le-leb lo w a) (pick_no (ltb w z) _ _ (le-ltb w z (omega arith)) ∙ yes_and (eq-eqb w z b) (lt-ltb 0 m c))

pub member-fits : (z m lo w : ℕ) → member_fits z m lo w ≡ true → (lo ≤ w) × (((w < z) × (m < 7)) ⊎ ((w ≡ z) × (0 < m)))
unfolding member_fits
member-fits z m lo w t =
    let (a, b) = and_yes (leb lo w) (pick (ltb w z) (ltb m 7) (eqb w z && ltb 0 m)) t in (
      leb-true lo w a,
      by_test (ltb w z) (λ u. inl (ltb-true w z u, ltb-true m 7 (sym (pick_yes (ltb w z) _ _ u) ∙ b)))
          (λ u.
          let (p, q) = and_yes (eqb w z) (ltb 0 m) (sym (pick_no (ltb w z) _ _ u) ∙ b) in
          inr (eqb-true w z p, ltb-true 0 m q)),
    )

pub after-goes : (d j e m lo w : ℕ) → w < k_of j + e → after d (Member j e m lo) w ≡ Member j e (suc m) (suc w)
unfolding after
after-goes d j e m lo w h = pick_yes (ltb w (k_of j + e)) _ _ (lt-ltb w (k_of j + e) h)

pub after-ends : (d j e m lo w : ℕ) → w ≡ k_of j + e → after d (Member j e m lo) w ≡ opened d j (suc e)
unfolding after
after-ends d j e m lo w h = pick_no (ltb w (k_of j + e)) _ _ (le-ltb w (k_of j + e) (omega arith))

-- ---- a table by the rules is taken

run-members : (d i j e m lo : ℕ) (ms rest : List ℕ) → Chain lo (k_of j + e) ms → 2 ≤ m + length ms → m + length ms ≤ 8
    → run d i (Member j e m lo) (ms ++ rest) ≡ run d (length ms + i) (opened d j (suc e)) rest
unfolding fits
run-members d i j e m lo [] rest c g h = absurd c
run-members d i j e m lo (x ∷ []) rest c g h =
    run-turn d i (Member j e m lo) (opened d j (suc e)) x rest (member-ends (k_of j + e) m lo x c.0 c.1 (omega arith))
    (after-ends d j e m lo x c.1)
    ∙ ap (λ (n : ℕ). run d n (opened d j (suc e)) rest) (omega arith)
run-members d i j e m lo (x ∷ y ∷ ys) rest c g h =
    let below : x < k_of j + e = chain_le (suc x) (k_of j + e) (y ∷ ys) c.1 in
    run-turn d i (Member j e m lo) (Member j e (suc m) (suc x)) x (y ∷ (ys ++ rest))
    (member-goes (k_of j + e) m lo x c.0 below (omega arith)) (after-goes d j e m lo x below)
    ∙ run-members d (suc i) j e (suc m) (suc x) (y ∷ ys) rest c.1 (omega arith) (omega arith)
    ∙ ap (λ (n : ℕ). run d n (opened d j (suc e)) rest) (omega arith)

run-equations : (d i j e : ℕ) (es : List (List ℕ)) (rest : List ℕ) → EquationsOk j e es → e + length es ≡ 3 * k_of j
    → run d i (opened d j e) (equations_words e es ++ rest) ≡ run d (length (equations_words e es) + i) (layered d (suc j)) rest
unfolding equations_words fits after opened
run-equations d i j e [] rest o h =
    ap (λ (s : Next). run d i s rest) (pick_no (ltb e (3 * k_of j)) _ _ (le-ltb e (3 * k_of j) (omega arith)))
    ∙ ap (λ (n : ℕ). run d n (layered d (suc j)) rest) (omega arith)
run-equations d i j e (ms ∷ es) rest o h =
    ap (λ (s : Next). run d i s (word 2 e ∷ ((ms ++ equations_words (suc e) es) ++ rest)))
    (pick_yes (ltb e (3 * k_of j)) _ _ (lt-ltb e (3 * k_of j) (omega arith)))
    ∙ run-turn d i (Equation j e) (Member j e 0 0) (word 2 e) ((ms ++ equations_words (suc e) es) ++ rest) (eq-eqb (word 2 e) (word 2 e) refl) refl
    ∙ ap (run d (suc i) (Member j e 0 0)) (append_assoc ms (equations_words (suc e) es) rest)
    ∙ run-members d (suc i) j e 0 0 ms (equations_words (suc e) es ++ rest) (equation_chain j e ms o.0) (omega (arith, o.0.some))
    (omega (arith, o.0.few))
    ∙ run-equations d (length ms + suc i) j (suc e) es rest o.1 (omega arith)
    ∙ ap (λ (n : ℕ). run d n (layered d (suc j)) rest) (omega (arith, length-append ms (equations_words (suc e) es)))

run-layers : (d i j : ℕ) (ls : List (List (List ℕ))) (rest : List ℕ) → LayersOk j ls → j + length ls ≡ d
    → run d i (layered d j) (layers_words j ls ++ rest) ≡ run d (length (layers_words j ls) + i) End rest
unfolding layers_words fits after layered
run-layers d i j [] rest o h =
    ap (λ (s : Next). run d i s rest) (pick_no (ltb j d) _ _ (le-ltb j d (omega arith))) ∙ ap (λ (n : ℕ). run d n End rest) (omega arith)
run-layers d i j (es ∷ ls) rest o h =
    ap (λ (s : Next). run d i s (word 1 j ∷ ((equations_words 0 es ++ layers_words (suc j) ls) ++ rest)))
    (pick_yes (ltb j d) _ _ (lt-ltb j d (omega arith)))
    ∙ run-turn d i (Layer j) (opened d j 0) (word 1 j) ((equations_words 0 es ++ layers_words (suc j) ls) ++ rest) (eq-eqb (word 1 j) (word 1 j) refl)
    refl
    ∙ ap (run d (suc i) (opened d j 0)) (append_assoc (equations_words 0 es) (layers_words (suc j) ls) rest)
    ∙ run-equations d (suc i) j 0 es (layers_words (suc j) ls ++ rest) o.1 (omega (arith, o.0))
    ∙ run-layers d (length (equations_words 0 es) + suc i) (suc j) ls rest o.2 (omega arith)
    ∙ ap (λ (n : ℕ). run d n End rest) (omega (arith, length-append (equations_words 0 es) (layers_words (suc j) ls)))

pub taken : (d : ℕ) (tbl : List (List (List ℕ))) → TableOk d tbl → run d 0 (layered d 0) (table_words tbl) ≡ Whole
unfolding table_words fits after run at_end
taken d tbl o =
    run-layers d 0 0 tbl (word 3 (length (layers_words 0 tbl)) ∷ []) (table-layers d tbl o) (omega (arith, o.depth))
    ∙ pick_yes (eqb (word 3 (length (layers_words 0 tbl))) (word 3 (length (layers_words 0 tbl) + 0))) _ _
    (eq-eqb (word 3 (length (layers_words 0 tbl))) (word 3 (length (layers_words 0 tbl) + 0)) (omega arith))

-- ---- a list that is taken is a table by the rules

-- the words that are left from a place on, but for the end word
pub record MemberTail (d j e m lo : ℕ) (body : List ℕ) : Type 0 where
  pub members : List ℕ
  pub equations : List (List ℕ)
  pub layers : List (List (List ℕ))
  pub chain : Chain lo (k_of j + e) members
  pub some : 2 ≤ m + length members
  pub few : m + length members ≤ 8
  pub all : suc e + length equations ≡ 3 * k_of j
  pub equations_ok : EquationsOk j (suc e) equations
  pub deep : suc j + length layers ≡ d
  pub layers_ok : LayersOk (suc j) layers
  pub written : body ≡ members ++ (equations_words (suc e) equations ++ layers_words (suc j) layers)

pub record EquationTail (d j e : ℕ) (body : List ℕ) : Type 0 where
  pub equations : List (List ℕ)
  pub layers : List (List (List ℕ))
  pub all : e + length equations ≡ 3 * k_of j
  pub equations_ok : EquationsOk j e equations
  pub deep : suc j + length layers ≡ d
  pub layers_ok : LayersOk (suc j) layers
  pub written : body ≡ equations_words e equations ++ layers_words (suc j) layers

pub record LayerTail (d j : ℕ) (body : List ℕ) : Type 0 where
  pub layers : List (List (List ℕ))
  pub deep : j + length layers ≡ d
  pub layers_ok : LayersOk j layers
  pub written : body ≡ layers_words j layers

abbrev Tail : ℕ → Next → List ℕ → Type 0
Tail d (Layer j) body = LayerTail d j body
Tail d (Equation j e) body = EquationTail d j e body
Tail d (Member j e m lo) body = MemberTail d j e m lo body
Tail d End body = body ≡ []
Tail d Nothing body = ⊥

-- what is known of a place that the reader reaches
abbrev Good : ℕ → Next → Type 0
Good d (Layer j) = j < d
Good d (Equation j e) = (j < d) × (e < 3 * k_of j)
Good d (Member j e m lo) = (j < d) × (e < 3 * k_of j) × (m ≤ 7) × (lo ≤ k_of j + e) × (m ≡ 0 → lo ≡ 0)
Good d End = Unit {0}
Good d Nothing = Unit {0}

good_layered : (d j : ℕ) → Good d (layered d j)
unfolding layered
good_layered d j = pick_ind (Good d) (ltb j d) (λ t. ltb-true j d t) (λ t. tt)

good_opened : (d j e : ℕ) → j < d → Good d (opened d j e)
unfolding opened
good_opened d j e h = pick_ind (Good d) (ltb e (3 * k_of j)) (λ t. (h, ltb-true e (3 * k_of j) t)) (λ t. good_layered d (suc j))

good_after : (d i : ℕ) (s : Next) (w : ℕ) → Good d s → fits i s w ≡ true → Good d (after d s w)
unfolding after fits
good_after d i (Layer j) w g f = good_opened d j 0 g
good_after d i (Equation j e) w g f = (g.0, g.1, omega arith, omega arith, λ q. refl)
good_after d i (Member j e m lo) w g f =
    ⊎_elim
    (λ h. subst (Good d) (sym (after-goes d j e m lo w h.0)) (g.0, g.1, omega (arith, h.1), omega (arith, h.0), λ q. absurd (omega arith)))
    (λ h. subst (Good d) (sym (after-ends d j e m lo w h.0)) (good_opened d j (suc e) g.0))
    (member-fits (k_of j + e) m lo w f).1
good_after d i End w g f = tt
good_after d i Nothing w g f = tt

-- past a layer: nothing is left of it
layered_tail : (d j : ℕ) (body : List ℕ) → j ≤ d → Tail d (layered d j) body → LayerTail d j body
unfolding layered layers_words
layered_tail d j body h =
    pick_ind (λ (s : Next). Tail d s body → LayerTail d j body) (ltb j d) (λ t l. l)
    (λ t l. record { layers = []; deep = omega (arith, ltb-false j d t); layers_ok = tt; written = l })

opened_tail : (d j e : ℕ) (body : List ℕ) → j < d → e ≤ 3 * k_of j → Tail d (opened d j e) body → EquationTail d j e body
unfolding opened equations_words
opened_tail d j e body h g =
    pick_ind (λ (s : Next). Tail d s body → EquationTail d j e body) (ltb e (3 * k_of j)) (λ t l. l)
    (λ t l.
    let r = layered_tail d (suc j) body h l in
    record { equations = []; layers = r.layers; all = omega (arith, ltb-false e (3 * k_of j) t); equations_ok = tt; deep = r.deep; layers_ok = r.layers_ok; written = r.written })

-- one word more in front
tail_cons : (d i : ℕ) (s : Next) (w : ℕ) (body : List ℕ) → Good d s → fits i s w ≡ true → Tail d (after d s w) body → (s ≡ End → ⊥)
    → Tail d s (w ∷ body)
unfolding after fits layers_words equations_words
tail_cons d i (Layer j) w body g f l ne =
    let r = opened_tail d j 0 body g (omega arith) l in
    record {
      layers = r.equations ∷ r.layers;
      deep = omega (arith, r.deep);
      layers_ok = (omega (arith, r.all), r.equations_ok, r.layers_ok);
      written = ap (λ (x : ℕ). x ∷ body) (eqb-true w (word 1 j) f) ∙ ap {B = List ℕ} (λ b. word 1 j ∷ b) r.written;
    }
tail_cons d i (Equation j e) w body g f l ne =
    record {
      equations = l.members ∷ l.equations;
      layers = l.layers;
      all = omega (arith, l.all);
      equations_ok = (chain_equation j e l.members l.chain (omega (arith, l.some)) (omega (arith, l.few)), l.equations_ok);
      deep = l.deep;
      layers_ok = l.layers_ok;
      written =
          ap (λ (x : ℕ). x ∷ body) (eqb-true w (word 2 e) f)
          ∙ ap {B = List ℕ} (λ b. word 2 e ∷ b)
          (l.written ∙ sym (append_assoc l.members (equations_words (suc e) l.equations) (layers_words (suc j) l.layers)));
    }
tail_cons d i (Member j e m lo) w body g f l ne =
    let (low, way) = member-fits (k_of j + e) m lo w f in
    ⊎_elim
    (λ h.
    let r = subst (λ (s : Next). Tail d s body) (after-goes d j e m lo w h.0) l in
    member_cons d j e m lo w body low r)
    (λ h.
    let r = opened_tail d j (suc e) body g.0 g.1 (subst (λ (s : Next). Tail d s body) (after-ends d j e m lo w h.0) l) in
    record {
      members = w ∷ [];
      equations = r.equations;
      layers = r.layers;
      chain = (low, h.0);
      some = omega (arith, h.1);
      few = omega (arith, g.2);
      all = r.all;
      equations_ok = r.equations_ok;
      deep = r.deep;
      layers_ok = r.layers_ok;
      written = ap {B = List ℕ} (λ b. w ∷ b) r.written;
    })
    way
  where
    member_cons : (d j e m lo w : ℕ) (body : List ℕ) → lo ≤ w → MemberTail d j e (suc m) (suc w) body → MemberTail d j e m lo (w ∷ body)
    member_cons d j e m lo w body low r =
        record {
          members = w ∷ r.members;
          equations = r.equations;
          layers = r.layers;
          chain = chain_cons lo w (k_of j + e) r.members low r.chain;
          some = omega (arith, r.some);
          few = omega (arith, r.few);
          all = r.all;
          equations_ok = r.equations_ok;
          deep = r.deep;
          layers_ok = r.layers_ok;
          written = ap {B = List ℕ} (λ b. w ∷ b) r.written;
        }
tail_cons d i End w body g f l ne = absurd (ne refl)
tail_cons d i Nothing w body g f l ne = absurd l

-- the words that are left, with the end word
pub record Rest (d i : ℕ) (s : Next) (ws : List ℕ) : Type 0 where
  pub body : List ℕ
  pub parts : Tail d s body
  pub written : ws ≡ body ++ (word 3 (length body + i) ∷ [])

abbrev Left : ℕ → ℕ → Next → List ℕ → Type 0
Left d i (Layer j) ws = Rest d i (Layer j) ws
Left d i (Equation j e) ws = Rest d i (Equation j e) ws
Left d i (Member j e m lo) ws = Rest d i (Member j e m lo) ws
Left d i End ws = Rest d i End ws
Left d i Nothing ws = ws ≡ []

layered-left : (d i j : ℕ) (ws : List ℕ) → Left d i (layered d j) ws → Rest d i (layered d j) ws
unfolding layered
layered-left d i j ws = pick_ind (λ (s : Next). Left d i s ws → Rest d i s ws) (ltb j d) (λ t l. l) (λ t l. l)

opened-left : (d i j e : ℕ) (ws : List ℕ) → Left d i (opened d j e) ws → Rest d i (opened d j e) ws
unfolding opened
opened-left d i j e ws =
    pick_ind (λ (s : Next). Left d i s ws → Rest d i s ws) (ltb e (3 * k_of j)) (λ t l. l) (λ t. layered-left d i (suc j) ws)

rest_cons : (d i : ℕ) (s : Next) (w : ℕ) (ws : List ℕ) → Good d s → fits i s w ≡ true → (s ≡ End → ⊥) → Rest d (suc i) (after d s w) ws
    → Rest d i s (w ∷ ws)
rest_cons d i s w ws g f ne r =
    record {
      body = w ∷ r.body;
      parts = tail_cons d i s w r.body g f r.parts ne;
      written = ap {B = List ℕ} (λ b. w ∷ b) (r.written ∙ ap (λ (n : ℕ). r.body ++ (word 3 n ∷ [])) (omega arith));
    }

never {ℓ} : {X : Type ℓ} (i : ℕ) → Wrong i ≡ Whole → X
never i q = let z : ◌≡◌ {A = ℕ} 0 1 = cc in absurd (omega arith)

left_cons : (d i : ℕ) (s : Next) (w : ℕ) (ws : List ℕ) → Good d s → fits i s w ≡ true → Left d (suc i) (after d s w) ws → Left d i s (w ∷ ws)
unfolding after fits
left_cons d i (Layer j) w ws g f l =
    rest_cons d i (Layer j) w ws g f (λ q. let z : ◌≡◌ {A = ℕ} 0 1 = cc in omega arith) (opened-left d (suc i) j 0 ws l)
left_cons d i (Equation j e) w ws g f l = rest_cons d i (Equation j e) w ws g f (λ q. let z : ◌≡◌ {A = ℕ} 0 1 = cc in omega arith) l
left_cons d i (Member j e m lo) w ws g f l =
    rest_cons d i (Member j e m lo) w ws g f (λ q. let z : ◌≡◌ {A = ℕ} 0 1 = cc in omega arith)
    (pick_ind (λ (s : Next). Left d (suc i) s ws → Rest d (suc i) s ws) (ltb w (k_of j + e)) (λ t r. r) (λ t. opened-left d (suc i) j (suc e) ws) l)
left_cons d i End w ws g f l =
    record {
      body = [];
      parts = refl;
      written = ap (λ (x : ℕ). x ∷ ws) (eqb-true w (word 3 i) f ∙ ap (word 3) (omega arith)) ∙ ap {B = List ℕ} (λ b. word 3 (0 + i) ∷ b) l;
    }
left_cons d i Nothing w ws g f l = both f refl

sound : (d i : ℕ) (s : Next) (ws : List ℕ) → Good d s → run d i s ws ≡ Whole → Left d i s ws
unfolding run at_end
sound d i (Layer j) [] g r = never i r
sound d i (Equation j e) [] g r = never i r
sound d i (Member j e m lo) [] g r = never i r
sound d i End [] g r = never i r
sound d i Nothing [] g r = refl
sound d i s (w ∷ ws) g r =
    by_test (fits i s w)
    (λ t. left_cons d i s w ws g t (sound d (suc i) (after d s w) ws (good_after d i s w g t) (sym (pick_yes (fits i s w) _ _ t) ∙ r)))
    (λ t. never i (sym (pick_no (fits i s w) _ _ t) ∙ r))

-- the reader takes well-formed lists only
pub taken-formed : (d : ℕ) (ws : List ℕ) → run d 0 (layered d 0) ws ≡ Whole → WellFormed d ws
unfolding table_words
taken-formed d ws r =
    let l = layered-left d 0 0 ws (sound d 0 (layered d 0) ws (good_layered d 0) r) in
    let p = layered_tail d 0 l.body (omega arith) l.parts in
    record {
      table = p.layers;
      rules = layers-table d p.layers (omega (arith, p.deep)) p.layers_ok;
      written =
          l.written
          ∙ ap (λ (n : ℕ). l.body ++ (word 3 n ∷ [])) (omega arith)
          ∙ ap (λ (b : List ℕ). b ++ (word 3 (length b) ∷ [])) p.written;
    }

-- .. and all of them
pub formed-taken : (d : ℕ) (ws : List ℕ) → WellFormed d ws → run d 0 (layered d 0) ws ≡ Whole
formed-taken d ws f = ap (run d 0 (layered d 0)) f.written ∙ taken d f.table f.rules

-- ---- from every place that the reader reaches a table can be finished

abbrev Finishes : ℕ → Next → Type 0
Finishes d s = (i : ℕ) → (more : List ℕ) × (run d i s more ≡ Whole)

fin_turn : (d : ℕ) (s t : Next) (w : ℕ) → ((i : ℕ) → fits i s w ≡ true) → after d s w ≡ t → Finishes d t → Finishes d s
fin_turn d s t w f a h i = (w ∷ (h (suc i)).0, run-turn d i s t w (h (suc i)).0 (f i) a ∙ (h (suc i)).1)

fin_end : (d : ℕ) → Finishes d End
unfolding run fits after at_end
fin_end d i = (word 3 i ∷ [], pick_yes (eqb (word 3 i) (word 3 i)) _ _ (eq-eqb (word 3 i) (word 3 i) refl))

fin_member : (d j e m lo : ℕ) → 0 < m → lo ≤ k_of j + e → Finishes d (opened d j (suc e)) → Finishes d (Member j e m lo)
unfolding fits
fin_member d j e m lo h g r =
    fin_turn d (Member j e m lo) (opened d j (suc e)) (k_of j + e) (λ i. member-ends (k_of j + e) m lo (k_of j + e) g refl h)
    (after-ends d j e m lo (k_of j + e) refl) r

fin_first : (d j e : ℕ) → Finishes d (opened d j (suc e)) → Finishes d (Member j e 0 0)
unfolding fits
fin_first d j e r =
    fin_turn d (Member j e 0 0) (Member j e 1 1) 0 (λ i. member-goes (k_of j + e) 0 0 0 (omega arith) (omega (arith, k_pos j)) (omega arith))
    (after-goes d j e 0 0 0 (omega (arith, k_pos j))) (fin_member d j e 1 1 (omega arith) (omega (arith, k_pos j)) r)

fin_opened : (d j n e : ℕ) → e + n ≡ 3 * k_of j → Finishes d (layered d (suc j)) → Finishes d (opened d j e)
unfolding opened fits after
fin_opened d j zero e h r = subst (Finishes d) (sym (pick_no (ltb e (3 * k_of j)) _ _ (le-ltb e (3 * k_of j) (omega arith)))) r
fin_opened d j (suc n) e h r =
    subst (Finishes d) (sym (pick_yes (ltb e (3 * k_of j)) _ _ (lt-ltb e (3 * k_of j) (omega arith))))
    (fin_turn d (Equation j e) (Member j e 0 0) (word 2 e) (λ i. eq-eqb (word 2 e) (word 2 e) refl) refl
    (fin_first d j e (fin_opened d j n (suc e) (omega arith) r)))

fin_layered : (d n j : ℕ) → j + n ≡ d → Finishes d (layered d j)
unfolding layered fits after
fin_layered d zero j h = subst (Finishes d) (sym (pick_no (ltb j d) _ _ (le-ltb j d (omega arith)))) (fin_end d)
fin_layered d (suc n) j h =
    subst (Finishes d) (sym (pick_yes (ltb j d) _ _ (lt-ltb j d (omega arith))))
    (fin_turn d (Layer j) (opened d j 0) (word 1 j) (λ i. eq-eqb (word 1 j) (word 1 j) refl) refl
    (fin_opened d j (3 * k_of j) 0 (omega arith) (fin_layered d n (suc j) (omega arith))))

fin_next : (d j : ℕ) → j < d → Finishes d (layered d (suc j))
fin_next d j h = fin_layered d (d - suc j) (suc j) (omega arith)

fin_past : (d j e : ℕ) → j < d → e < 3 * k_of j → Finishes d (opened d j (suc e))
fin_past d j e h g = fin_opened d j (3 * k_of j - suc e) (suc e) (omega arith) (fin_next d j h)

finishes : (d : ℕ) (s : Next) → Good d s → Finishes d s
unfolding layered opened run at_end
finishes d (Layer j) g = subst (Finishes d) (pick_yes (ltb j d) _ _ (lt-ltb j d g)) (fin_layered d (d - j) j (omega arith))
finishes d (Equation j e) g =
    subst (Finishes d) (pick_yes (ltb e (3 * k_of j)) _ _ (lt-ltb e (3 * k_of j) g.1))
    (fin_opened d j (3 * k_of j - e) e (omega (arith, g.1)) (fin_next d j g.0))
finishes d (Member j e zero lo) g =
    subst (λ (l : ℕ). Finishes d (Member j e 0 l)) (sym (g.4 refl)) (fin_first d j e (fin_past d j e g.0 g.1))
finishes d (Member j e (suc m) lo) g = fin_member d j e (suc m) lo (omega arith) g.3 (fin_past d j e g.0 g.1)
finishes d End g = fin_end d
finishes d Nothing g = λ i. ([], refl)

-- ---- a refusal

pub record Refused (d i : ℕ) (s : Next) (ws : List ℕ) (r : ℕ) : Type 0 where
  pub steps : ℕ
  pub place : r ≡ steps + i
  pub inside : steps ≤ length ws
  pub more : List ℕ
  pub goes_on : run d i s (take steps ws ++ more) ≡ Whole
  pub stops : steps < length ws → (rest : List ℕ) → run d i s (take (suc steps) ws ++ rest) ≡ Wrong r

at_end_lem : (i r : ℕ) (s : Next) → at_end i s ≡ Wrong r → r ≡ i
unfolding at_end
at_end_lem i r (Layer j) q = cc
at_end_lem i r (Equation j e) q = cc
at_end_lem i r (Member j e m lo) q = cc
at_end_lem i r End q = cc
at_end_lem i r Nothing q = never r (sym q)

refused : (d i : ℕ) (s : Next) (ws : List ℕ) (r : ℕ) → Good d s → run d i s ws ≡ Wrong r → Refused d i s ws r
unfolding run
refused d i s [] r g q =
    record {
      steps = 0;
      place = at_end_lem i r s q ∙ omega arith;
      inside = omega arith;
      more = (finishes d s g i).0;
      goes_on = (finishes d s g i).1;
      stops = λ h. absurd (omega arith);
    }
refused d i s (w ∷ ws) r g q =
    by_test (fits i s w)
    (λ t.
    let p = refused d (suc i) (after d s w) ws r (good_after d i s w g t) (sym (pick_yes (fits i s w) _ _ t) ∙ q) in
    record {
      steps = suc p.steps;
      place = omega (arith, p.place);
      inside = omega (arith, p.inside);
      more = p.more;
      goes_on = pick_yes (fits i s w) _ _ t ∙ p.goes_on;
      stops = λ h rest. pick_yes (fits i s w) _ _ t ∙ p.stops (omega arith) rest;
    })
    (λ t.
    let e : Wrong i ≡ Wrong r = sym (pick_no (fits i s w) _ _ t) ∙ q in
    let n : r ≡ i = cc in
    record {
      steps = 0;
      place = omega arith;
      inside = omega arith;
      more = (finishes d s g i).0;
      goes_on = (finishes d s g i).1;
      stops = λ h rest. pick_no (fits i s w) _ _ t ∙ e;
    })

-- a table that begins with a list begins with each shorter part of it
begins_less : (d : ℕ) (ws : List ℕ) (n m : ℕ) → n ≤ m → Begins d (take m ws) → Begins d (take n ws)
begins_less d ws n m h b =
    record {
      more = drop n (take m ws) ++ b.more;
      formed =
          subst (WellFormed d)
          (ap (λ (l : List ℕ). l ++ b.more) (sym (take-append-drop n (take m ws)))
          ∙ append_assoc (take n (take m ws)) (drop n (take m ws)) b.more
          ∙ ap (λ (l : List ℕ). l ++ (drop n (take m ws) ++ b.more)) (take-take n m ws h))
          b.formed;
    }

-- the reader refuses at the first wrong word
pub refused-first : (d : ℕ) (ws : List ℕ) (r : ℕ) → run d 0 (layered d 0) ws ≡ Wrong r → FirstWrong d ws r
refused-first d ws r q =
    let p = refused d 0 (layered d 0) ws r (good_layered d 0) q in
    let n : r ≡ p.steps = omega (arith, p.place) in
    let b : Begins d (take r ws) =
    record { more = p.more; formed = taken-formed d (take r ws ++ p.more) (ap (λ (k : ℕ). run d 0 (layered d 0) (take k ws ++ p.more)) n ∙ p.goes_on) } in
    record {
      within = omega (arith, p.inside);
      before = λ m h. begins_less d ws m r h b;
      wrong = λ h b.
          never r
          (sym (ap (λ (k : ℕ). run d 0 (layered d 0) (take (suc k) ws ++ b.more)) n ∙ p.stops (omega arith) b.more)
          ∙ formed-taken d (take (suc r) ws ++ b.more) b.formed);
      refused = λ f. never r (sym q ∙ formed-taken d ws f);
    }

-- a run ends in one of two ways
pub run_ends {ℓ} : (d i : ℕ) (s : Next) (ws : List ℕ) (P : Answer → Type ℓ) → (run d i s ws ≡ Whole → P Whole)
    → ((r : ℕ) → run d i s ws ≡ Wrong r → P (Wrong r)) → P (run d i s ws)
unfolding run at_end
run_ends d i (Layer j) [] P f g = g i refl
run_ends d i (Equation j e) [] P f g = g i refl
run_ends d i (Member j e m lo) [] P f g = g i refl
run_ends d i End [] P f g = g i refl
run_ends d i Nothing [] P f g = f refl
run_ends d i s (w ∷ ws) P f g =
    by_test (fits i s w)
    (λ t.
    let p = pick_yes (fits i s w) (run d (suc i) (after d s w) ws) (Wrong i) t in
    subst P (sym p) (run_ends d (suc i) (after d s w) ws P (λ q. f (p ∙ q)) (λ r q. g r (p ∙ q))))
    (λ t.
    let p = pick_no (fits i s w) (run d (suc i) (after d s w) ws) (Wrong i) t in
    subst P (sym p) (g i p))
