-- An accepted table, layer after layer: where a loop over its layers stands, and what a layer comes to.
use mathlib.Core.Path.{◌≡◌, refl, sym, ap, ◌∙◌, subst}
use mathlib.Core.Bool.{Bool, true, cond}
use Rattle.std.proofs.Common.{Some, None, position}
use Rattle.std.specs.List.{position_or_len}
use Rattle.std.proofs.lemmas.List.Quantifiers.{position-Some}
use Rattle.std.proofs.lemmas.List.Sums.{position_or_len_is}
use Rattle.std.proofs.lemmas.Option.{none-some}
use mathlib.Core.List.{List, [], ◌∷◌, ◌++◌, append_assoc}
use Prim.Native.Nat.{ℕ, suc, ◌+◌, ◌-◌, ◌≤◌, ◌<◌, ◌^◌}
use native.Mathlib.Numerals.{add-one}
use native.Mathlib.Omega.{arith}
use lib.ListN.{length, get_or, drop, replicate, length-drop, length-replicate, get_or-replicate}
use lib.Seq.{drop-cons, drop-drop}
use lib.Dec.{ltb}
use borrow.Author.Tests.{ltb-false, lt-ltb, le-ltb, le-leb}
use Rattle.octets.proofs.Choice.{by_test, pick_yes, pick_no}
use Rattle.parity_table.specs.Shape.{max_depth, k_of}
use Rattle.parity_table.specs.Reader.{Whole, read_of}
use Rattle.parity_table.specs.Table.{layer_of, layer_word, end_word, equations_words, layers_words, table_words, TableOk}
use Rattle.parity_table.specs.Parse.{table_of}
use Rattle.parity_table.proofs.Accepts.{accepted-depth, accepted-formed, accepted-table}
use Rattle.parity_table.proofs.Front.{accepted-short}
use Rattle.parity_table.proofs.Longest.{longest_grows, longest_nine}
use Rattle.parity_table.proofs.Parse.{formed-words}
use Rattle.parity_table.proofs.Rules.{LayersOk, table-layers}
use Rattle.parity_table.proofs.Shape.{k-low}
use Rattle.model.specs.Symbols.{lowest}
use Rattle.model.proofs.Counts.{lowest-is, lowest-same, lowest_hit, lowest_pass, lowest-none}
use Rattle.coverage.specs.Counting.{ends_layer, has_end, Below, Tally, tallied, tally, is_thin, LayerCounted}
use Rattle.coverage.specs.Coverage.{Covered, UncoveredAt, times, lowest_thin, has_thin, first_thin, coverage_of}
use Rattle.coverage.proofs.Tallies.{ends-layer, ends-equation, end_after, end-here, Comes, Pass, pass_end, pass_equations}

-- ---- a pass that begins with no symbol seen

pub none_below : (s : List ℕ) (k n : ℕ) → s ≡ replicate k 0 → Below s n
none_below s k n e i h =
    omega (arith, ap (λ (l : List ℕ). get_or l i 0) e ∙ get_or-replicate {A = ℕ} k i 0 0 (omega (arith, ap length e, length-replicate {A = ℕ} k 0)))

-- so few words that each count has room in 16 bits
pub few_words : (d : ℕ) (ws : List ℕ) → read_of d ws ≡ Whole → length ws < 2 ^ 16
few_words d ws r =
    let (some, most) = accepted-depth d ws r in
    omega (arith, accepted-short d ws r, longest_grows d 9 some (omega arith), longest_nine)

-- the lowest symbol that was seen fewer than two times, as the search finds it
module _ (seen : List ℕ) where
  thin_first : position_or_len (λ x. ltb x 2) seen ≡ lowest (is_thin seen) 0 (length seen)
  unfolding is_thin
  thin_first =
      let l = lowest-is (is_thin seen) 0 (length seen) in
      position_or_len_is (λ x. ltb x 2) seen (lowest (is_thin seen) 0 (length seen)) 0 (omega (arith, l.upto)) (λ k h. l.before k (omega arith) h) (λ h. l.found (omega arith))

  pub thin_some : (i : ℕ) → position (λ x. ltb x 2) seen ≡ Some i → (i < length seen) × (i ≡ lowest (is_thin seen) 0 (length seen))
  thin_some i e =
      let (h, passes, before) = position-Some (λ x. ltb x 2) seen i 0 e in
      (h, sym (position_or_len_is (λ x. ltb x 2) seen i 0 (omega arith) before (λ _. passes)) ∙ thin_first)

  pub thin_none : position (λ x. ltb x 2) seen ≡ None → length seen ≡ lowest (is_thin seen) 0 (length seen)
  thin_none e =
      by_test (ltb (position_or_len (λ x. ltb x 2) seen) (length seen))
      (λ t.
      let some = ap (λ (b : Bool). cond b (Some (position_or_len (λ x. ltb x 2) seen)) None) t in
      absurd (none-some _ (sym e ∙ some)))
      (λ t. omega (arith, ltb-false _ _ t, thin_first, (lowest-is (is_thin seen) 0 (length seen)).upto))

-- the pass, then the search
pub counted : (ws seen : List ℕ) (at k end low : ℕ) → end ≤ length ws → tallied seen (drop end ws) ≡ tally (replicate k 0) (drop at ws)
    → low ≡ lowest (is_thin seen) 0 (length seen) → LayerCounted ws at k end low
counted ws seen at k end low h p l = (
  h,
  ap (λ (y : Tally). y.rest) p,
  l ∙ ap (λ (y : Tally). lowest (is_thin y.seen) 0 (length y.seen)) p,
)

-- after a layer's equations stands the word that opens the next one, or the end word
record Begins (X : List ℕ) : Type 0 where
  opener : ℕ
  more : List ℕ
  are : X ≡ opener ∷ more
  ends : ends_layer opener ≡ true

after-layer : (n j : ℕ) (ls : List (List (List ℕ))) → j + length ls ≤ max_depth → Begins (layers_words j ls ++ (end_word n ∷ []))
unfolding layers_words
after-layer n j [] h =
    record {
      opener = end_word n;
      more = [];
      are = refl;
      ends = sym (ends-equation (end_word n) (omega arith)) ∙ le-leb (end_word 0) (end_word n) (omega arith);
    }
after-layer n j (es ∷ ls) h =
    record {
      opener = layer_word j;
      more = (equations_words 0 es ++ layers_words (suc j) ls) ++ (end_word n ∷ []);
      are = refl;
      ends = sym (ends-layer (layer_word j) (omega arith) (omega arith));
    }

module _ (X : List ℕ) (b : Begins X) where
  pass_none : Pass X X (λ i. 0)
  pass_none = subst (λ (l : List ℕ). Pass l l (λ i. 0)) (sym b.are) (pass_end b.opener b.more b.ends)

  end_there : has_end X ≡ true
  end_there = ap has_end b.are ∙ end-here b.opener b.more b.ends

module _ (d : ℕ) (ws : List ℕ) (r : read_of d ws ≡ Whole) where
  abbrev tbl : List (List (List ℕ))
  tbl = table_of ws

  abbrev last : ℕ
  last = end_word (length (layers_words 0 tbl))

  ok : TableOk d tbl
  ok = accepted-table d ws r

  -- layer j, or the end, begins at word `at`
  pub record Stands (at j : ℕ) : Type 0 where
    pub inside : at ≤ length ws
    pub words : drop at ws ≡ layers_words j (drop j tbl) ++ (last ∷ [])
    pub rules : LayersOk j (drop j tbl)

  pub stands-first : Stands 0 0
  unfolding table_words
  stands-first =
      record {
        inside = omega arith;
        words = formed-words d ws (accepted-formed d ws r).1 (accepted-depth d ws r).1;
        rules = table-layers d tbl ok;
      }

  module _ (at j : ℕ) (s : Stands at j) (hj : j < d) where
    abbrev es : List (List ℕ)
    es = layer_of tbl j

    abbrev rest : List ℕ
    rest = layers_words (suc j) (drop (suc j) tbl) ++ (last ∷ [])

    layer_there : drop j tbl ≡ es ∷ drop (suc j) tbl
    unfolding layer_of
    layer_there = drop-cons tbl j [] (omega (arith, ok.depth))

    opened : drop at ws ≡ layer_word j ∷ (equations_words 0 es ++ rest)
    unfolding layers_words
    opened =
        s.words
        ∙ ap (λ (l : List (List (List ℕ))). layers_words j l ++ (last ∷ [])) layer_there
        ∙ ap {B = List ℕ} (λ l. layer_word j ∷ l) (append_assoc (equations_words 0 es) (layers_words (suc j) (drop (suc j) tbl)) (last ∷ []))

    pub known : j < max_depth
    known = omega (arith, (accepted-depth d ws r).1)

    -- so a word stands there
    pub past_opener : at + 1 ≤ length ws
    past_opener = omega (arith, s.inside, length-drop at ws, ap length opened)

    equations_there : drop (at + 1) ws ≡ equations_words 0 es ++ rest
    equations_there = sym (drop-drop 1 at ws) ∙ ap (drop 1) opened

    rest_begins : Begins rest
    rest_begins =
        after-layer (length (layers_words 0 tbl)) (suc j) (drop (suc j) tbl)
        (omega (arith, length-drop (suc j) tbl, ok.depth, (accepted-depth d ws r).1))

    -- and a word that ends it
    pub layer-ends : has_end (drop (at + 1) ws) ≡ true
    layer-ends = ap has_end equations_there ∙ end_after (equations_words 0 es) rest (end_there rest rest_begins)

    rules_there : LayersOk j (es ∷ drop (suc j) tbl)
    rules_there = subst (LayersOk j) layer_there s.rules

    -- no symbol is seen at first
    abbrev none : List ℕ
    none = replicate (k_of j) 0

    none-length : length none ≡ k_of j
    none-length = length-replicate {A = ℕ} (k_of j) 0

    none_seen : (i : ℕ) → i < k_of j → get_or none i 0 ≡ 0
    none_seen i h = get_or-replicate (k_of j) i 0 0 h

    comes : Comes none (equations_words 0 es ++ rest) rest (λ i. times i es + 0)
    comes =
        let o = rules_there in
        pass_equations j 0 es rest rest (λ i. 0) known o.1 (omega (arith, o.0))
        (pass_none rest rest_begins)
        none (omega (arith, none-length, k-low j known))

    abbrev seen : List ℕ
    seen = (tally none (equations_words 0 es ++ rest)).seen

    all_seen : length seen ≡ k_of j
    all_seen = comes.as_long ∙ none-length

    thin_there : (i : ℕ) → i < k_of j → is_thin seen i ≡ ltb (times i es) 2
    unfolding is_thin
    thin_there i h =
        let e : get_or seen i 0 ≡ times i es = omega (arith, comes.counts i (omega (arith, none-length)), none_seen i h) in
        ap (λ (n : ℕ). ltb n 2) e

    module _ (end low : ℕ) (c : LayerCounted ws (at + 1) (k_of j) end low) where
      pub stands-next : Stands end (j + 1)
      stands-next =
          subst (Stands end) (sym (add-one j))
          record {
            inside = c.0;
            words = c.1 ∙ ap (λ (l : List ℕ). (tally none l).rest) equations_there ∙ comes.rest-is;
            rules = rules_there.2;
          }

      pub lowest_there : low ≡ lowest_thin tbl j
      unfolding lowest_thin
      lowest_there =
          c.2
          ∙ ap (λ (l : List ℕ). lowest (is_thin (tally none l).seen) 0 (length (tally none l).seen)) equations_there
          ∙ ap (lowest (is_thin seen) 0) all_seen
          ∙ lowest-same (is_thin seen) (λ i. ltb (times i es) 2) 0 (k_of j) (λ i a h. thin_there i (omega arith))

-- ---- the answer, by the first layer with such a symbol

module _ (d : ℕ) (tbl : List (List (List ℕ))) where
  -- the search from layer j on comes to what all of it comes to
  abbrev pub From : ℕ → Type 0
  From j = lowest (has_thin tbl) j (d - j) ≡ first_thin d tbl

  pub from_first : From 0
  unfolding first_thin
  from_first = ap (lowest (has_thin tbl) 0) (omega arith)

  module _ (j : ℕ) (f : From j) where
    pub thin_found : j < d → lowest_thin tbl j < k_of j → UncoveredAt j (lowest_thin tbl j) ≡ coverage_of d tbl
    unfolding coverage_of has_thin
    thin_found h l =
        let e : j ≡ first_thin d tbl = lowest_hit (has_thin tbl) d j (first_thin d tbl) f h (lt-ltb (lowest_thin tbl j) (k_of j) l) in
        ap (λ (x : ℕ). UncoveredAt x (lowest_thin tbl x)) e
        ∙ sym (pick_yes (ltb (first_thin d tbl) d) (UncoveredAt (first_thin d tbl) (lowest_thin tbl (first_thin d tbl))) Covered (lt-ltb (first_thin d tbl) d (omega arith)))

    pub none_thin : j < d → k_of j ≤ lowest_thin tbl j → From (j + 1)
    unfolding has_thin
    none_thin h l = lowest_pass (has_thin tbl) d j (first_thin d tbl) f h (le-ltb (lowest_thin tbl j) (k_of j) l)

    pub all_covered : j ≡ d → Covered ≡ coverage_of d tbl
    unfolding coverage_of
    all_covered h =
        let e : d ≡ first_thin d tbl = lowest-none (has_thin tbl) d j (first_thin d tbl) f h in
        sym (pick_no (ltb (first_thin d tbl) d) (UncoveredAt (first_thin d tbl) (lowest_thin tbl (first_thin d tbl))) Covered (le-ltb (first_thin d tbl) d (omega arith)))
