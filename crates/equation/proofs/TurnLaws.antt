-- One turn of (b) on the lent buffers: what each outcome comes to.
use mathlib.Core.Bool.{false, true}
use mathlib.Core.List.{List, ◌++◌}
use mathlib.Core.Path.{◌∙◌, ◌≡◌, ap, ap₂, refl, subst, sym}
use Prim.Native.Nat.{◌*◌, ◌+◌, ◌-◌, ◌<◌, ◌^◌, ◌≤◌, suc, ℕ}
use native.Mathlib.Nat.{mul-le-mul_right}
use native.Mathlib.Omega.{arith}
use lib.Dec.{eqb, ltb}
use lib.ListN.{drop, drop_of_length-le, get_or, length, length-drop, length-take, replicate, set, take}
use lib.Seq.{paste}
use borrow.Author.Tests.{eq-eqb, ltb-true, ne_eqb}
use Rattle.std.proofs.Common.{Some}
use Rattle.std.specs.List.{find}
use Rattle.octets.proofs.Choice.{pick_no, pick_yes}
use Rattle.octets.proofs.ListLaws.{length-xors, part_ends}
use Rattle.octets.specs.ByteLists.{same, xors}
use Rattle.parity_table.proofs.Parse.{members-take}
use Rattle.parity_table.specs.Members.{last_of}
use Rattle.parity_table.specs.Parse.{members_of, over}
use Rattle.model.proofs.Counts.{every-member, every-others, first_member, first_of-passes, is_it, last-member, length-others}
use Rattle.model.proofs.Bytes.{length-zeros, sym_zeros, xors_assoc, xors_comm}
use Rattle.model.proofs.Members.{every-below, from-here, last_get, length-xor_of}
use Rattle.model.specs.Fault.{proof_bytes, proof_length}
use Rattle.model.specs.Repair.{St, absent_at, act, fault, fits_at, form, refute, rest_of, store_sym, twins, use_eq, working, write_fault, write_twins}
use Rattle.model.specs.Shape.{place, places, tree}
use Rattle.model.specs.Symbols.{count, others, put_at, sym_at, symbol_in, xor_of, zeros}
use Rattle.symbol_hash.specs.SymbolHash.{symbol_hash}
use Rattle.symbol_hash.specs.declared.Kind.{Kind}
use Rattle.coded_tree.proofs.ParityLaws.{sym_at_there, symbols-from}
use Rattle.fault_writer.proofs.Splices.{splice-more, splice-over}
use Rattle.fault_writer.proofs.WayLaws.{layers_fewer, symbol-length}
use Rattle.fault_writer.specs.Room.{Layers, Members, splice}
use Rattle.equation.proofs.AbsentLaws.{found-first}
use Rattle.equation.specs.Rooms.{Level, Marked, Rooted, Stands, Workable, members_at}
use Rattle.equation.specs.States.{fits_in, state}
use Rattle.equation.specs.Turns.{Refuted, Took}
use Rattle.equation.specs.declared.Turn.{Turn}
use Rattle.equation.specs.declared.Turn.TheVariants.{Fault, Stored, Twins, Used}

-- ---- what the calls of a turn ask

pub rooted_fewer : (root : List ℕ) (j n m : ℕ) → m ≤ n → Rooted root j n → Rooted root j m
rooted_fewer root j n m h k = record { top = λ z. omega (arith, k.top z); hung = λ z. omega (arith, k.hung z) }

pub level_fewer : {root t m : List ℕ} {j n : ℕ} (q : ℕ) → q ≤ n → Level root t m j n → Level root t m j q
level_fewer {root} {t} {m} {j} {n} q h l =
    record { layers = layers_fewer j n q t h l.layers; rooted = rooted_fewer root j n q h l.rooted; marks-room = omega (arith, l.marks-room) }

module _ (root ms t out : List ℕ) (j e : ℕ) (k : Workable root ms t out j e) where
  -- symbols of layer j have 256 bytes, and so has the exclusive-or of members
  pub full : (y : ℕ) → y < k.members.symbols → length (sym_at tree t j y) ≡ 256
  full y h = symbol-length j k.members.symbols t k.members.layers y h

  pub rest-length : (x : ℕ) → length (xor_of (sym_at tree t j) (others x ms)) ≡ 256
  rest-length x =
      length-xor_of (sym_at tree t j) k.members.symbols full (others x ms) (every-others (λ y. ltb y k.members.symbols) x ms k.members.within)

  pub above : Layers j 0 t
  above = layers_fewer j k.members.symbols 0 t (omega arith) k.members.layers

  -- a member is a symbol of the layer, and its fault proof has room
  module _ (x : ℕ) (c : 1 ≤ count (is_it x) ms) where
    pub member_below : x < k.members.symbols
    member_below = ltb-true x k.members.symbols (every-member (λ y. ltb y k.members.symbols) x ms k.members.within c)

    pub member-low : x < 2 ^ 30
    member-low = omega (arith, member_below, k.members.numbered)

    pub member_there : Layers j (suc x) t
    member_there = layers_fewer j k.members.symbols (suc x) t member_below k.members.layers

    pub member-rooted : Rooted root j (suc x)
    member-rooted = rooted_fewer root j k.members.symbols (suc x) member_below k.rooted

    pub proof-room : 12 + 256 * (length (others x ms) * suc j + j) ≤ length out
    unfolding proof_length
    proof-room =
        let l : length (others x ms) ≤ length ms - 1 = omega (arith, length-others x ms) in
        omega (arith, k.out-room, mul-le-mul_right {m = length (others x ms)} {n = length ms - 1} (suc j) l)

-- the exclusive-or of the others, by the places of the layer's symbols
pub xor_there : (t ms v : List ℕ) (j base x : ℕ) → base ≡ places tree j → v ≡ xor_of (λ y. symbol_in t (base + y)) (others x ms) → v ≡ xor_of (sym_at tree t j) (others x ms)
xor_there t ms v j base x eb e = e ∙ ap (λ (g : ℕ → List ℕ). xor_of g (others x ms)) (symbols-from tree t j base eb)

-- a member's mark is one of the marks
pub mark-inside : (m ms : List ℕ) (j base x : ℕ) → Marked m ms j → base ≡ places tree j → 1 ≤ count (is_it x) ms → base + x < length m
mark-inside m ms j base x k eb c = omega (arith, k.room, ltb-true x k.symbols (every-member (λ y. ltb y k.symbols) x ms k.within c))

-- the last member is one
pub last_in : (xs : List ℕ) → 1 ≤ length xs → 1 ≤ count (is_it (get_or xs (length xs - 1) 0)) xs
last_in xs h = subst (λ (z : ℕ). 1 ≤ count (is_it z) xs) (last_get xs 0 h) (last-member xs 0 h)

-- the first absent member is a member
pub absent_in : (ms m : List ℕ) (j x : ℕ) → find (absent_at tree m j) ms ≡ Some x → 1 ≤ count (is_it x) ms
absent_in ms m j x e =
    let (some, first) = found-first (absent_at tree m j) ms x e in
    subst (λ (z : ℕ). 1 ≤ count (is_it z) ms) (sym first) (first_member (absent_at tree m j) ms some)

-- .. and absent
pub first-is-absent : (ms m : List ℕ) (j x : ℕ) → find (absent_at tree m j) ms ≡ Some x → absent_at tree m j x ≡ true
first-is-absent ms m j x e =
    let (some, first) = found-first (absent_at tree m j) ms x e in
    ap (absent_at tree m j) first ∙ first_of-passes (absent_at tree m j) ms some

-- ---- the exclusive-or of all members, as a loop meets them

module _ (t ms : List ℕ) (j : ℕ) where
  -- what is left from member i on
  abbrev left : ℕ → List ℕ
  left i = xor_of (sym_at tree t j) (drop i ms)

  -- sum, with what is left from member i on, is the whole
  pub record Summed (sum : List ℕ) (i : ℕ) : Type 0 where
    pub sized : length sum ≡ 256
    pub rest : xors sum (left i) ≡ xor_of (sym_at tree t j) ms

  module _ (k : Members j t ms) where
    every_full : (y : ℕ) → y < k.symbols → length (sym_at tree t j y) ≡ 256
    every_full y h = symbol-length j k.symbols t k.layers y h

    length-sum : length (xor_of (sym_at tree t j) ms) ≡ 256
    length-sum = length-xor_of (sym_at tree t j) k.symbols every_full ms k.within

    pub summed_start : (sum : List ℕ) → sum ≡ zeros → Summed sum 0
    summed_start sum e =
        record {
          sized = ap length e ∙ length-zeros;
          rest = ap (λ (s : List ℕ). xors s (left 0)) e ∙ xors_comm zeros (left 0) ∙ sym_zeros (left 0) length-sum;
        }

    pub member-room : (i base : ℕ) → i < length ms → base ≡ places tree j → 256 * (base + get_or ms i 0) + 256 ≤ length t
    member-room i base h eb = omega (arith, every-below k.symbols ms k.within i h, k.layers.room)

    pub summed_on : (i base : ℕ) (sum more : List ℕ) → i < length ms → base ≡ places tree j
        → more ≡ xors sum (take (length sum) (drop (256 * (base + get_or ms i 0)) t)) → Summed sum i → Summed more (i + 1)
    unfolding xor_of
    summed_on i base sum more h eb em s =
        let y : ℕ = get_or ms i 0 in
        let e : more ≡ xors sum (sym_at tree t j y) =
        em ∙ ap (λ (n : ℕ). xors sum (take n (drop (256 * (base + y)) t))) s.sized ∙ ap (xors sum) (sym (sym_at_there t j base eb y)) in
        record {
          sized = omega (arith, ap length e, length-xors sum (sym_at tree t j y), s.sized, every_full y (every-below k.symbols ms k.within i h));
          rest =
              ap (λ (v : List ℕ). xors v (left (i + 1))) e ∙ xors_assoc sum (sym_at tree t j y) (left (i + 1))
              ∙ ap (λ (l : List ℕ). xors sum (xor_of (sym_at tree t j) l)) (sym (from-here ms i h))
              ∙ s.rest;
        }

    -- whether the equation holds
    pub holds-is : (i : ℕ) (sum : List ℕ) → length ms ≤ i → Summed sum i → same sum (replicate (length sum) 0) ≡ same (xor_of (sym_at tree t j) ms) zeros
    unfolding zeros xor_of
    holds-is i sum h s =
        let none : xors sum (left i) ≡ sum = ap (λ (l : List ℕ). xors sum (xor_of (sym_at tree t j) l)) (drop_of_length-le ms h) ∙ sym_zeros sum s.sized in
        ap₂ (λ (v : List ℕ) (n : ℕ). same v (replicate n 0)) (sym none ∙ s.rest) s.sized

-- ---- the outcomes

module _ (kind : Kind) (root ms : List ℕ) (j e : ℕ) (t m o u : List ℕ) where
  abbrev now : ℕ → ℕ → St
  now s d = state t m o u s d working

  -- one member is absent, x, and v is the exclusive-or of the others
  module _ (x : ℕ) (v : List ℕ) (ex : find (absent_at tree m j) ms ≡ Some x) (ev : v ≡ xor_of (sym_at tree t j) (others x ms)) where
    act_forms : (s d : ℕ) → act tree (symbol_hash kind) root j e ms (now s d) ≡ form tree (symbol_hash kind) root j e ms x v (now s d)
    unfolding act rest_of
    act_forms s d =
        let (some, first) = found-first (absent_at tree m j) ms x ex in
        pick_no (eqb (count (absent_at tree m j) ms) 0) _ _ (ne_eqb (count (absent_at tree m j) ms) 0 (λ q. omega arith))
        ∙ ap (λ (z : ℕ). form tree (symbol_hash kind) root j e ms z (xor_of (sym_at tree t j) (others z ms)) (now s d)) (sym first)
        ∙ ap (λ (z : List ℕ). form tree (symbol_hash kind) root j e ms x z (now s d)) (sym ev)

    pub form-stores : (base : ℕ) (t' m' u' : List ℕ) → fits_in kind root t j x v ≡ true → base ≡ places tree j → length v ≡ 256
        → t' ≡ splice t (256 * (base + x)) v → m' ≡ set m (base + x) 1 → u' ≡ set u e 1 → Took kind root ms j e t m o u t' m' o u' (Stored x)
    unfolding form fits_at store_sym put_at place
    form-stores base t' m' u' f eb lv et em eu =
        let mt : m' ≡ set m (place tree j x) 1 = em ∙ ap (λ (b : ℕ). set m (b + x) 1) eb in
        record {
          goes = λ s d.
              act_forms s d ∙ pick_yes (fits_in kind root t j x v) _ _ f
              ∙ sym (ap₂ (λ (a b : List ℕ). state a b o u' (suc s) d working) (et ∙ ap₂ (λ (b n : ℕ). paste t (256 * (b + x)) v n) eb lv) mt
              ∙ ap (λ (a : List ℕ). state (put_at tree t j x v) (set m (place tree j x) 1) o a (suc s) d working) eu);
          changed = (absent_in ms m j x ex, first-is-absent ms m j x ex, mt, eu);
        }

    pub form_faults : (n : ℕ) (o' : List ℕ) → fits_in kind root t j x v ≡ false → n ≡ length (proof_bytes tree (sym_at tree t) j e x ms)
        → o' ≡ over (proof_bytes tree (sym_at tree t) j e x ms) o → Took kind root ms j e t m o u t m o' u (Fault x n)
    unfolding form fits_at write_fault
    form_faults n o' f en eo =
        record {
          goes = λ s d.
              act_forms s d ∙ pick_no (fits_in kind root t j x v) _ _ f
              ∙ sym (ap₂ (λ (a : List ℕ) (z : ℕ). state t m a u s d (fault j e x z)) eo en);
          changed = refl;
        }

  -- none is absent
  module _ (none : count (absent_at tree m j) ms ≡ 0) where
    pub act_uses : (u' : List ℕ) → same (xor_of (sym_at tree t j) ms) zeros ≡ true → u' ≡ set u e 1 → Took kind root ms j e t m o u t m o u' Used
    unfolding act use_eq
    act_uses u' f eu =
        record {
          goes = λ s d.
              pick_yes (eqb (count (absent_at tree m j) ms) 0) _ _ (eq-eqb _ 0 none)
              ∙ pick_yes (same (xor_of (sym_at tree t j) ms) zeros) _ _ f
              ∙ sym (ap (λ (a : List ℕ). state t m o a s d working) eu);
          changed = (refl, eu);
        }

    pub act_refutes : (o' : List ℕ) (r : Turn) → same (xor_of (sym_at tree t j) ms) zeros ≡ false → Refuted kind root ms j e t o o' r → Took kind root ms j e t m o u t m o' u r
    unfolding act rest_of
    act_refutes o' r f k =
        record {
          goes = λ s d.
              pick_yes (eqb (count (absent_at tree m j) ms) 0) _ _ (eq-eqb _ 0 none)
              ∙ pick_no (same (xor_of (sym_at tree t j) ms) zeros) _ _ f
              ∙ k.goes m u s d;
          changed = k.changed m u;
        }

-- a failing equation whose last member is x, v being the exclusive-or of the others
module _ (kind : Kind) (root ms : List ℕ) (j e : ℕ) (t o o' : List ℕ) (x : ℕ) (v : List ℕ) (ex : x ≡ last_of ms 0) (ev : v ≡ xor_of (sym_at tree t j) (others x ms)) where
  refutes : (st : St) → refute tree (symbol_hash kind) root j e ms (last_of ms 0) (xor_of (sym_at tree t j) (others (last_of ms 0) ms)) st ≡ refute tree (symbol_hash kind) root j e ms x v st
  refutes st =
      ap (λ (z : ℕ). refute tree (symbol_hash kind) root j e ms z (xor_of (sym_at tree t j) (others z ms)) st) (sym ex)
      ∙ ap (λ (z : List ℕ). refute tree (symbol_hash kind) root j e ms x z st) (sym ev)

  pub refute-twins : fits_in kind root t j x v ≡ true → o' ≡ over (sym_at tree t j x ++ v) o → Refuted kind root ms j e t o o' (Twins x)
  unfolding refute fits_at write_twins
  refute-twins f eo =
      record {
        goes = λ m u s d.
            refutes (state t m o u s d working) ∙ pick_yes (fits_in kind root t j x v) _ _ f ∙ sym (ap (λ (a : List ℕ). state t m a u s d (twins j x)) eo);
        changed = λ m u. refl;
      }

  pub refute_faults : (n : ℕ) → fits_in kind root t j x v ≡ false → n ≡ length (proof_bytes tree (sym_at tree t) j e x ms)
      → o' ≡ over (proof_bytes tree (sym_at tree t) j e x ms) o → Refuted kind root ms j e t o o' (Fault x n)
  unfolding refute fits_at write_fault
  refute_faults n f en eo =
      record {
        goes = λ m u s d.
            refutes (state t m o u s d working) ∙ pick_no (fits_in kind root t j x v) _ _ f
            ∙ sym (ap₂ (λ (a : List ℕ) (z : ℕ). state t m a u s d (fault j e x z)) eo en);
        changed = λ m u. refl;
      }

-- the two symbols of twins, one after the other
pub twins_put : (o a b s v : List ℕ) → length s ≡ 256 → 512 ≤ length o → a ≡ splice o 0 s → b ≡ splice a 256 v → b ≡ over (s ++ v) o
twins_put o a b s v ls r ea eb =
    let z : 256 ≡ 0 + length s = omega arith in
    eb ∙ ap₂ (λ (q : List ℕ) (n : ℕ). splice q n v) ea z ∙ splice-more o 0 s (omega arith) v ∙ splice-over (s ++ v) o

-- ---- an equation in the words

module _ (ws starts : List ℕ) (i : ℕ) (k : Stands ws starts i) where
  pub members_fit : get_or starts i 0 + length (members_at ws starts i) ≤ length ws
  members_fit =
      let X : List ℕ = drop (get_or starts i 0) ws in
      omega (arith, k.inside, length-drop (get_or starts i 0) ws, ap length (members-take X), length-take (length (members_of X)) X)

  pub members-are : (n : ℕ) → n ≡ length (members_at ws starts i) → take (get_or starts i 0 + n - get_or starts i 0) (drop (get_or starts i 0) ws) ≡ members_at ws starts i
  members-are n e =
      part_ends ws (get_or starts i 0) n ∙ ap (λ (q : ℕ). take q (drop (get_or starts i 0) ws)) e ∙ sym (members-take (drop (get_or starts i 0) ws))

-- an equation that was taken by the part of the words that has its members
module _ (kind : Kind) (root ms : List ℕ) (j e : ℕ) (t m o u : List ℕ) where
  pub took_there : (there t' m' o' u' : List ℕ) (r : Turn) → there ≡ ms → Took kind root there j e t m o u t' m' o' u' r → Took kind root ms j e t m o u t' m' o' u' r
  took_there there t' m' o' u' r em k = subst (λ (l : List ℕ). Took kind root l j e t m o u t' m' o' u' r) em k
