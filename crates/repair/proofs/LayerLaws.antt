-- One layer of a repair on the lent buffers: sweep, peeling and (c) are the definition's layer.
use mathlib.Core.Bool.{false}
use mathlib.Core.List.{List}
use mathlib.Core.Path.{◌∙◌, ◌≡◌, ap, ap₂, refl, subst, sym}
use Prim.Native.Nat.{◌*◌, ◌+◌, ◌-◌, ◌<◌, ◌≤◌, suc, ℕ}
use native.Mathlib.Omega.{arith}
use lib.Dec.{ltb}
use lib.ListN.{drop, get_or, length, length-replicate, replicate}
use Rattle.std.proofs.Common.{Err, IsSomeAnd, MatchOption, None, Ok, Option, Some}
use Rattle.octets.proofs.Choice.{by_test, pick_no, pick_yes}
use Rattle.octets.specs.Choice.{pick}
use Rattle.parity_table.proofs.Accepts.{accepted-depth, accepted-table, located, start_inside, start_known}
use Rattle.parity_table.proofs.Parse.{members-take}
use Rattle.parity_table.proofs.Rules.{members-below}
use Rattle.parity_table.proofs.Shape.{k_grows, k-low, k_pos}
use Rattle.parity_table.specs.Members.{every}
use Rattle.parity_table.specs.Parse.{HasEquation, Indexed, number_in, table_of}
use Rattle.parity_table.specs.Shape.{k_of, max_depth, n_of}
use Rattle.parity_table.specs.Table.{EquationOk, equation_of, layer_of}
use Rattle.model.proofs.Shapes.{n_small}
use Rattle.model.specs.Fault.{proof_length}
use Rattle.model.specs.Repair.{End, St, absent_at, end_as, enter, fresh, gaps_left, going, layer, peel, settle, sweep, unavailable, working}
use Rattle.model.specs.Shape.{tree}
use Rattle.model.proofs.Counts.{found-none, found-some}
use Rattle.model.specs.Symbols.{found, lowest}
use Rattle.symbol_hash.specs.SymbolHash.{symbol_hash}
use Rattle.symbol_hash.specs.declared.Kind.{Kind}
use Rattle.equation.proofs.CommittedLaws.{level_of}
use Rattle.equation.specs.Rooms.{Level, Stands, members_at}
use Rattle.equation.specs.States.{state}
use Rattle.incidence.specs.Incidence.{Listed, Narrow, Threadable, Threaded}
use Rattle.peeling.specs.Search.{Countable, Counted, Ordered}
use Rattle.peeling.specs.Levels.{Lent, Peelable, Reads}
use Rattle.peeling.specs.States.{Came, Moved}
use Rattle.peeling.specs.States.{end_of as end_after}
use Rattle.peeling.specs.States.{Outcome}
use Rattle.peeling.specs.declared.Refutation.TheVariants as refutation
use Rattle.repair.specs.declared.SearchLists.{SearchLists}
use Rattle.repair.specs.Buffers.{Given, Own, OwnLists, SameLists}
use Rattle.repair.specs.Reports.{Layered, end_of, passes, settled}
use Rattle.repair.specs.declared.End.{End as Ended}
use Rattle.repair.specs.declared.End.TheVariants.{Unavailable}

-- ---- what its calls ask

pub given_keep : {d : ℕ} {root t m o t' m' o' : List ℕ} → length t' ≡ length t → length m' ≡ length m → length o' ≡ length o
    → Given d root t m o → Given d root t' m' o'
given_keep lt lm lo k =
    record { root_full = k.root_full; tree-full = lt ∙ k.tree-full; marks-full = lm ∙ k.marks-full; out-full = lo ∙ k.out-full }

module _ {d : ℕ} {ws starts root t m o : List ℕ} (x : Indexed d ws starts) (k : Given d root t m o) (j : ℕ) (hj : j < d) where
  pub layer_below : j < max_depth
  layer_below = omega (arith, (accepted-depth d ws x.accepted).1)

  pub level : Level root t m j (n_of j)
  level = level_of d j (accepted-depth d ws x.accepted).1 hj k.root_full k.tree-full k.marks-full

  pub equations : length (layer_of (table_of ws) j) ≡ 3 * k_of j
  equations = (accepted-table d ws x.accepted).equations j hj

  -- its equations in the words, the first being number `from`
  module _ (from : ℕ) (ef : from ≡ number_in j 0) where
    module _ (e : ℕ) (he : e < 3 * k_of j) where
      has : HasEquation ws starts j e
      has = record { depth = d; indexed = x; layer = hj; equation = he }

      number : number_in j e ≡ from + e
      unfolding number_in
      number = omega arith

      stands : Stands ws starts (from + e)
      stands =
          subst (Stands ws starts) number (record { listed = start_known ws starts j e has; inside = start_inside ws starts j e has })

      there : members_at ws starts (from + e) ≡ equation_of (table_of ws) j e
      there = ap (members_at ws starts) (sym number) ∙ members-take (drop (get_or starts (number_in j e) 0) ws) ∙ (located ws starts j e has).members

      rules : EquationOk j e (equation_of (table_of ws) j e)
      rules = (accepted-table d ws x.accepted).members j e hj he

    listed : (n symbols : ℕ) → n ≡ 3 * k_of j → symbols ≡ n_of j → Listed ws starts from n symbols
    listed n symbols en es =
        record {
          stands = λ e l. stands e (omega arith);
          within = λ e l.
              ap (λ (q : ℕ). every (λ y. ltb y q) (members_at ws starts (from + e))) es
              ∙ ap (every (λ y. ltb y (n_of j))) (there e (omega arith)) ∙ members-below d (table_of ws) (accepted-table d ws x.accepted) j e hj (omega arith);
        }

    narrow : (n : ℕ) → n ≡ 3 * k_of j → (e : ℕ) → e < n → Narrow ws starts from e
    narrow n en e l = let he : e < 3 * k_of j = omega arith in omega (arith, ap length (there e he), (rules e he).few)

    pub reads : (n : ℕ) → n ≡ 3 * k_of j → Reads (table_of ws) ws starts from j n
    reads n en = record { count = equations ∙ sym en; members = λ e l. sym (there e (omega arith)) }

    lent : (u : List ℕ) → length u ≡ 3 * k_of j → Lent root ws starts t m o u from j
    unfolding proof_length
    lent u l =
        record {
          symbols = n_of j;
          numbered = omega (arith, n_small j layer_below);
          level = level;
          listed = listed (length u) (n_of j) l refl;
          low = omega (arith, k-low j layer_below);
          most = 8;
          sized = λ e h.
              let he : e < 3 * k_of j = omega arith in
              (omega (arith, ap length (there e he), (rules e he).some), omega (arith, ap length (there e he), (rules e he).few));
          out-room = omega (arith, k.out-full);
          twins-room = omega (arith, k.out-full);
        }

    -- the lists of the search
    module _ {used absent order last next : List ℕ} (own : Own j used absent order last next) where
      pub threadable : Threadable ws starts from (length used) (length last) (length next)
      unfolding n_of
      threadable =
          record {
            listed = listed (length used) (length last) own.used-full own.last-full;
            narrow = narrow (length used) own.used-full;
            room = omega (arith, own.used-full, own.next-room);
            low = omega (arith, own.used-full, k-low j layer_below);
          }

      pub countable : Countable ws starts from j (length used) m
      countable =
          record {
            layer = layer_below;
            symbols = n_of j;
            room = level.marks-room;
            listed = listed (length used) (n_of j) own.used-full refl;
            narrow = narrow (length used) own.used-full;
            low = omega (arith, own.used-full, k-low j layer_below);
          }

      pub peelable : Threaded ws starts from (length used) last next → Counted ws starts from j (length used) m absent → Ordered used absent 0 order
          → Peelable root ws starts last next t m o used absent order from j
      unfolding lent n_of
      peelable th co ro =
          record {
            lent = lent used own.used-full;
            some = omega (arith, own.used-full, k_pos j);
            eight = omega arith;
            threaded = th;
            last-room = omega (arith, own.last-full);
            next-room = omega (arith, own.used-full, own.next-room);
            counted = co;
            ordered = ro;
          }

-- the lists keep their lengths
pub own_keep : {j : ℕ} {l l' : SearchLists} → SameLists l l' → OwnLists j l → OwnLists j l'
own_keep s k =
    record {
      used-full = s.used-length ∙ k.used-full;
      absent-full = s.absent-length ∙ k.absent-full;
      order_full = s.order_length ∙ k.order_full;
      last-full = s.last-length ∙ k.last-full;
      next-room = omega (arith, k.next-room, s.next-length);
    }

-- lists for the lowest layer serve each one
pub k_below : (j d : ℕ) → j < d → k_of j ≤ k_of (d - 1)
k_below j d h =
    let same : k_of (j + (d - 1 - j)) ≡ k_of (d - 1) = ap k_of (omega arith) in
    omega (arith, k_grows j (d - 1 - j))

-- ---- (c)

-- .. by the lowest symbol that is absent, if there is one
pub settled_by : (m : List ℕ) (j : ℕ) {P : ℕ → Ended → Type 0} (r : Option ℕ) (z : Option Ended) → r ≡ found (absent_at tree m j) (tree.n j)
    → MatchOption r (z ≡ None) (λ (x : ℕ). IsSomeAnd z (P x)) → ((x : ℕ) (e : Ended) → P x e → e ≡ Unavailable j) → passes z ≡ settled (Ok tt) m j
settled_by m j None z f c h =
    ap passes c ∙ sym (pick_no (ltb (lowest (absent_at tree m j) 0 (tree.n j)) (tree.n j)) (unavailable j) working (found-none (absent_at tree m j) (tree.n j) (sym f)))
settled_by m j (Some x) (Some e) f c h =
    ap end_of (h x e c)
    ∙ sym (pick_yes (ltb (lowest (absent_at tree m j) 0 (tree.n j)) (tree.n j)) (unavailable j) working (found-some (absent_at tree m j) (tree.n j) x (sym f)))
settled_by m j (Some x) None f c h = absurd c

settle_is : (t m o u : List ℕ) (s d j : ℕ) (z : Outcome) → settle tree j (state t m o u s d (end_after j z)) ≡ state t m o u s d (settled z m j)
unfolding settle gaps_left end_as going
settle_is t m o u s d j (Ok _) =
    by_test (ltb (lowest (absent_at tree m j) 0 (tree.n j)) (tree.n j))
    (λ g.
    pick_yes (ltb (lowest (absent_at tree m j) 0 (tree.n j)) (tree.n j)) _ _ g
    ∙ ap (λ (e : End). state t m o u s d e) (sym (pick_yes (ltb (lowest (absent_at tree m j) 0 (tree.n j)) (tree.n j)) (unavailable j) working g)))
    (λ g.
    pick_no (ltb (lowest (absent_at tree m j) 0 (tree.n j)) (tree.n j)) _ _ g
    ∙ ap (λ (e : End). state t m o u s d e) (sym (pick_no (ltb (lowest (absent_at tree m j) 0 (tree.n j)) (tree.n j)) (unavailable j) working g)))
settle_is t m o u s d j (Err (refutation.Fault e x n)) = pick_no false _ _ refl
settle_is t m o u s d j (Err (refutation.Twins x)) = pick_no false _ _ refl

-- ---- the layer

module _ (kind : Kind) (root : List ℕ) (tbl : List (List (List ℕ))) (j n : ℕ) (en : n ≡ tree.n j) {t m o t₁ m₁ t' m' o' u₁ u' : List ℕ} {s s' : ℕ} {z : Outcome}
    (swept : Moved (sweep tree (symbol_hash kind) root j 0 n) t m t₁ m₁) (eu : u₁ ≡ replicate (length (layer_of tbl j)) 0)
    (peeled : Came (peel tree (symbol_hash kind) root tbl j (length u₁)) j t₁ m₁ o u₁ t' m' o' u' s s' z) where
  worked : (u : List ℕ) (d : ℕ) → layer tree (symbol_hash kind) root tbl j (state t m o u s d working) ≡ state t' m' o' u' s' (suc j) (settled z m' j)
  unfolding layer enter fresh going pick
  worked u d =
      let l : List ℕ = replicate (length (layer_of tbl j)) 0 in
      let lu : length (layer_of tbl j) ≡ length u₁ = sym (ap length eu ∙ length-replicate (length (layer_of tbl j)) 0) in
      ap (λ (q : ℕ). settle tree j (peel tree (symbol_hash kind) root tbl j (length (layer_of tbl j)) (sweep tree (symbol_hash kind) root j 0 q (state t m o l s (suc j) working)))) (sym en)
      ∙ ap₂ (λ (st : St) (q : ℕ). settle tree j (peel tree (symbol_hash kind) root tbl j q st)) (swept.goes o l s (suc j)) lu
      ∙ ap (λ (v : List ℕ). settle tree j (peel tree (symbol_hash kind) root tbl j (length u₁) (state t₁ m₁ o v s (suc j) working))) (sym eu)
      ∙ ap (settle tree j) (peeled.goes (suc j))
      ∙ settle_is t' m' o' u' s' (suc j) j z

  pub layered : (r : Option Ended) → passes r ≡ settled z m' j → Layered kind root tbl j t m o t' m' o' s s' r
  layered r e = record { used = u'; goes = λ u d. worked u d ∙ ap (λ (q : End). state t' m' o' u' s' (suc j) q) (sym e) }
