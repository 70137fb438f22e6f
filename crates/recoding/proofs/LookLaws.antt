-- The look at a tree, as loops over a layer's equations, over its symbols and over the layers come to it.
use mathlib.Core.Path.{◌∙◌, ◌≡◌, refl, sym, ap, subst}
use mathlib.Core.Bool.{Bool, true, not, ◌&&◌, false≢true}
use mathlib.Core.List.{List}
use Prim.Native.Nat.{ℕ, ◌+◌, ◌-◌, ◌*◌, ◌<◌}
use native.Mathlib.Omega.{arith}
use lib.ListN.{length, get_or}
use Rattle.std.specs.List.{list_all, range_with_len}
use Rattle.std.proofs.lemmas.List.FromFn.{get_or-range_with_len, length-range_with_len}
use Rattle.std.proofs.lemmas.List.Sums.{AllPass-from_list_all, list_all-from_AllPass}
use Rattle.octets.proofs.Choice.{by_test}
use Rattle.octets.specs.ByteLists.{same}
use Rattle.parity_table.specs.Shape.{k_of, n_of}
use Rattle.parity_table.specs.Table.{equation_of, TableOk}
use Rattle.parity_table.specs.Reader.{read_of, Whole}
use Rattle.parity_table.specs.Parse.{table_of}
use Rattle.parity_table.specs.Accepted.{Accepted, Kept}
use Rattle.parity_table.proofs.Accepts.{accepted-depth, accepted-table}
use Rattle.model.specs.Shape.{places, tree}
use Rattle.model.specs.Symbols.{xor_of, zeros, sym_at}
use Rattle.model.specs.Repair.{repair}
use Rattle.model.specs.Ends.{Sized, Roomy, gap_at}
use Rattle.model.specs.Look.{whole_as_lent, all, all_hold, no_gaps, is_complete, intact}
use Rattle.model.proofs.Look.{all_at, all_by, look, look_kept}
use Rattle.model.proofs.Shapes.{n_small, tree_ok}
use Rattle.model.proofs.Tables.{TableLaws, table_laws, table_roomy}
use Rattle.symbol_hash.specs.SymbolHash.{symbol_hash}
use Rattle.symbol_hash.specs.declared.Kind.{Kind}
use Rattle.coded_tree.proofs.ParityLaws.{members-inside}
use Rattle.fault_writer.specs.Room.{Layers, Members}
use Rattle.equation.proofs.CommittedLaws.{level_of}
use Rattle.equation.specs.Rooms.{Level}
use Rattle.recoding.specs.Look.{Lent}

-- every number of a range passes a test, as the model has it
range_all : (p : ℕ → Bool) (n : ℕ) → list_all p (range_with_len 0 n) ≡ all p n
range_all p n =
    let xs : List ℕ = range_with_len 0 n in
    let long : length xs ≡ n = length-range_with_len 0 n in
    by_test (list_all p xs)
    (λ t.
    t
    ∙ sym (all_by p n (λ i h.
    let e : get_or xs i 0 ≡ i = omega (arith, get_or-range_with_len 0 n i 0 h) in
    subst (λ y. p y ≡ true) e (AllPass-from_list_all p xs t i 0 (omega (arith, long))))))
    (λ f.
    f
    ∙ sym (by_test (all p n)
    (λ t. absurd (false≢true (sym f ∙ list_all-from_AllPass p xs (λ i d h.
    let e : get_or xs i d ≡ i = omega (arith, get_or-range_with_len 0 n i d (omega (arith, long))) in
    subst (λ y. p y ≡ true) (sym e) (all_at p n t i (omega (arith, long)))))))
    (λ g. g)))

-- ---- the equations of layer j

-- equation e holds
abbrev pub holds_at : List (List (List ℕ)) → List ℕ → ℕ → ℕ → Bool
holds_at tbl t j e = same (xor_of (sym_at tree t j) (equation_of tbl j e)) zeros

module _ {a : Accepted} (kept : Kept a) (t : List ℕ) (j : ℕ) (hj : j < a.depth) where
  -- its members can be gathered
  pub members_of_lem : (e : ℕ) (ms : List ℕ) → e < 3 * k_of j → Layers j (n_of j) t → ms ≡ equation_of a.layers j e → Members j t ms
  members_of_lem e ms he l em =
      record {
        symbols = n_of j;
        numbered = omega (arith, n_small j l.layer);
        layers = l;
        within = members-inside a.depth a.layers kept.rules j hj e (k_of j) refl he ms em;
      }

  pub each_holds : list_all (holds_at a.layers t j) (range_with_len 0 (3 * k_of j)) ≡ all_hold tree a.layers t j
  unfolding all_hold
  each_holds = range_all (holds_at a.layers t j) (3 * k_of j) ∙ ap (all (holds_at a.layers t j)) (sym (kept.rules.equations j hj))

-- ---- its symbols

module _ (kind : Kind) (root t m : List ℕ) (j : ℕ) where
  -- symbol i is no gap
  abbrev pub no_gap_at : ℕ → Bool
  no_gap_at i = not (gap_at tree (symbol_hash kind) root t m t j i)

  pub none_gap : list_all no_gap_at (range_with_len 0 (n_of j)) ≡ no_gaps tree (symbol_hash kind) root t m j
  unfolding no_gaps
  none_gap = range_all no_gap_at (n_of j)

-- ---- layer by layer

-- by its symbols, then by its equations
pub complete_by : (kind : Kind) (root : List ℕ) (tbl : List (List (List ℕ))) (t m : List ℕ) (j : ℕ) (b : Bool) → no_gaps tree (symbol_hash kind) root t m j ≡ b
    → (b && all_hold tree tbl t j) ≡ is_complete tree (symbol_hash kind) root tbl t m j
unfolding is_complete
complete_by kind root tbl t m j b g = sym (ap (λ (x : Bool). x && all_hold tree tbl t j) g)

module _ {a : Accepted} (kept : Kept a) where
  pub level : {root t m : List ℕ} → Lent a.depth root t m → (j : ℕ) → j < a.depth → Level root t m j (n_of j)
  level k j hj = level_of a.depth j kept.shallow hj k.root_full k.tree-full k.marks-full

  module _ (kind : Kind) (root t m : List ℕ) where
    abbrev pub complete_at : ℕ → Bool
    complete_at = is_complete tree (symbol_hash kind) root a.layers t m

    pub each_complete : list_all complete_at (range_with_len 0 a.depth) ≡ intact tree (symbol_hash kind) root a.layers t m
    unfolding intact
    each_complete = range_all complete_at a.depth ∙ ap (all complete_at) (sym kept.rules.depth)

-- ---- a repair of the tree

-- what the look says of a repair of a tree of depth d, with an output buffer o
pub record Seen (kind : Kind) (root ws t m o : List ℕ) : Type 0 where
  pub outcome : intact tree (symbol_hash kind) root (table_of ws) t m ≡ whole_as_lent (repair tree (symbol_hash kind) root (table_of ws) t m o)
  pub kept : intact tree (symbol_hash kind) root (table_of ws) t m ≡ true → (repair tree (symbol_hash kind) root (table_of ws) t m o).tree ≡ t

pub as_repaired : (d : ℕ) (kind : Kind) (root ws t m o : List ℕ) → read_of d ws ≡ Whole → length t ≡ 256 * places tree d → length m ≡ places tree d
    → length o ≡ 12 + 256 * (8 * d - 1) → Seen kind root ws t m o
as_repaired d kind root ws t m o r lt lm lo =
    let (some, few) = accepted-depth d ws r in
    let rules : TableOk d (table_of ws) = accepted-table d ws r in
    let back : d ≡ length (table_of ws) = sym rules.depth in
    let ok : TableLaws tree (table_of ws) = table_laws d (table_of ws) some few rules in
    let sized : Sized tree (table_of ws) t m =
    record { tree-length = lt ∙ ap (λ (q : ℕ). 256 * places tree q) back; marks-length = lm ∙ ap (places tree) back } in
    let room : Roomy (table_of ws) o = table_roomy tree (table_of ws) ok o (lo ∙ ap (λ (q : ℕ). 12 + 256 * (8 * q - 1)) back) in
    record {
      outcome = look tree tree_ok.shape (symbol_hash kind) root (table_of ws) ok t m sized o room;
      kept = λ a. (look_kept tree tree_ok.shape (symbol_hash kind) root (table_of ws) ok t m sized o room a).tree-kept;
    }
