-- The given members, as they stand in a proof, member by member: the check of their ways and then of the withheld one's, and their exclusive-or.
use mathlib.Core.Path.{◌≡◌, refl, sym, ap, ap₂, ◌∙◌}
use mathlib.Core.List.{List, [], ◌∷◌}
use Prim.Native.Nat.{ℕ, suc, ◌+◌, ◌*◌, ◌≤◌, ◌<◌}
use native.Mathlib.Omega.{arith}
use native.Mathlib.Numerals.{add-one}
use lib.ListN.{length, get_or, take, drop}
use Rattle.octets.specs.ByteLists.{xors}
use Rattle.octets.proofs.ListLaws.{length_part, length-xors}
use Rattle.model.specs.Shape.{tree}
use Rattle.model.specs.Symbols.{symbol_in, zeros, others}
use Rattle.model.specs.Climb.{Climb, Ways, all_lead, break_at, breaks, first_break, leads}
use Rattle.model.specs.Fault.{next, given_xor, way_check, path_check, ways_check}
use Rattle.model.proofs.Bytes.{xors_comm, xors_assoc, sym_zeros, length-zeros}
use Rattle.model.proofs.Members.{others_skip, others-take, others-end}
use Rattle.model.proofs.Ways.{next_at}

-- ---- where they stand in b, from byte `from` on

module _ (b : List ℕ) (j : ℕ) where
  -- their exclusive-or has 256 bytes
  length_xor : (ys : List ℕ) (from : ℕ) → from + 256 * (length ys * suc j) ≤ length b → length (given_xor j ys (drop from b)) ≡ 256
  unfolding given_xor symbol_in
  length_xor [] from h = length-zeros
  length_xor (y ∷ ys) from h =
      let l : length (take 256 (drop from b)) ≡ 256 = length_part b from 256 (omega arith) in
      let m : length (given_xor j ys (next j (drop from b))) ≡ 256 =
      ap (λ c. length (given_xor j ys c)) (next_at b j from) ∙ length_xor ys (from + 256 * (j + 1)) (omega arith) in
      omega (arith, length-xors (take 256 (drop from b)) (given_xor j ys (next j (drop from b))), l, m)

-- ---- the way at position p, before others

leads_on : (p : ℕ) (w : Climb) (later : Ways) → all_lead ≡ first_break p w all_lead → first_break p w later ≡ later
unfolding first_break
leads_on p leads later e = refl
leads_on p (breaks l) later e = cc

breaks_off : (p : ℕ) (w : Climb) (later : Ways) (l q : ℕ) → break_at l q ≡ first_break p w all_lead → break_at l q ≡ first_break p w later
unfolding first_break
breaks_off p leads later l q e = cc
breaks_off p (breaks m) later l q e = e

-- ---- the members other than x, from member i on, which stand in b from byte `from` on

module _ (b ms : List ℕ) (j x : ℕ) where
  -- b has room for them, and for so many bytes after them
  abbrev Room : ℕ → ℕ → ℕ → Type 0
  Room i from more = from + 256 * (length (others x (drop i ms)) * suc j) + more ≤ length b

  -- what the check of their ways and of x's path finds, the first of them being at position p, and their exclusive-or
  abbrev found : (ℕ → ℕ → List ℕ → List ℕ) → List ℕ → ℕ → ℕ → ℕ → Ways
  found H root i from p = ways_check tree H root j x p (others x (drop i ms)) (drop from b)

  abbrev left : ℕ → ℕ → List ℕ
  left i from = given_xor j (others x (drop i ms)) (drop from b)

  -- the members before i, of which p are given, lead to the root: what is left decides
  pub record Led (H : ℕ → ℕ → List ℕ → List ℕ) (root : List ℕ) (at i from p : ℕ) : Type 0 where
    pub few : p ≤ i
    pub room : Room i from (256 * j)
    pub rest : found H root i from p ≡ found H root 0 at 0

  -- acc, with what is left, is the whole
  pub record Gathered (at : ℕ) (acc : List ℕ) (i from : ℕ) : Type 0 where
    pub sized : length acc ≡ 256
    pub room : Room i from 0
    pub rest : xors acc (left i from) ≡ left 0 at

  pub led_start : (H : ℕ → ℕ → List ℕ → List ℕ) (root : List ℕ) (at : ℕ) → Room 0 at (256 * j) → Led H root at 0 at 0
  led_start H root at h = record { few = omega arith; room = h; rest = refl }

  pub gathered_start : (at : ℕ) (acc : List ℕ) → acc ≡ zeros → Room 0 at 0 → Gathered at acc 0 at
  gathered_start at acc e h =
      record {
        sized = ap length e ∙ length-zeros;
        room = h;
        rest = ap (λ q. xors q (left 0 at)) e ∙ xors_comm zeros (left 0 at) ∙ sym_zeros (left 0 at) (length_xor b j (others x ms) at (omega arith));
      }

  module _ (i : ℕ) (h : i < length ms) where
    -- ---- member i is x: passed over

    module _ (e : get_or ms i 0 ≡ x) where
      none : others x (drop (i + 1) ms) ≡ others x (drop i ms)
      none = sym (others_skip x ms i h e)

      pub led_skip : (H : ℕ → ℕ → List ℕ → List ℕ) (root : List ℕ) (at from p : ℕ) → Led H root at i from p → Led H root at (i + 1) from p
      led_skip H root at from p s =
          record {
            few = omega (arith, s.few);
            room = rw none s.room;
            rest = ap (λ q. ways_check tree H root j x p q (drop from b)) none ∙ s.rest;
          }

      pub gathered_skip : (at : ℕ) (acc : List ℕ) (from : ℕ) → Gathered at acc i from → Gathered at acc (i + 1) from
      gathered_skip at acc from s =
          record { sized = s.sized; room = rw none s.room; rest = ap (λ q. xors acc (given_xor j q (drop from b))) none ∙ s.rest }

    -- ---- it is another: it stands at `from`, and those after it at `to`

    module _ (e : get_or ms i 0 ≡ x → ⊥) (from : ℕ) where
      one : others x (drop i ms) ≡ get_or ms i 0 ∷ others x (drop (i + 1) ms)
      one = others-take x ms i h e

      pub way_room : (more : ℕ) → Room i from more → from + 256 * suc j ≤ length b
      way_room more r = omega (arith, ap (λ q. length q * suc j) one, r)

      module _ (to : ℕ) (et : to ≡ from + 256 * (j + 1)) where
        rest-room : (more : ℕ) → Room i from more → Room (i + 1) to more
        rest-room more r = omega (arith, ap (λ q. length q * suc j) one, r, et)

        next_to : next j (drop from b) ≡ drop to b
        next_to = next_at b j from ∙ ap (λ o. drop o b) (sym et)

      abbrev way : (ℕ → ℕ → List ℕ → List ℕ) → List ℕ → Climb
      way H root = way_check tree H root j (get_or ms i 0) (drop from b)

      -- w, what the check of its way finds
      module _ (H : ℕ → ℕ → List ℕ → List ℕ) (root : List ℕ) (at p : ℕ) (w : Climb) (ew : w ≡ way H root) (s : Led H root at i from p) where
        found-one : (to : ℕ) → to ≡ from + 256 * (j + 1) → first_break p w (found H root (i + 1) to (suc p)) ≡ found H root 0 at 0
        unfolding ways_check
        found-one to et =
            ap₂ (λ v c. first_break p v (ways_check tree H root j x (suc p) (others x (drop (i + 1) ms)) c)) ew (sym (next_to to et))
            ∙ ap (λ q. ways_check tree H root j x p q (drop from b)) (sym one)
            ∙ s.rest

        pub led_on : (to q : ℕ) → to ≡ from + 256 * (j + 1) → q ≡ p + 1 → all_lead ≡ first_break p w all_lead → Led H root at (i + 1) to q
        led_on to q et eq e =
            record {
              few = omega (arith, s.few);
              room = rest-room to et (256 * j) s.room;
              rest = ap (found H root (i + 1) to) (eq ∙ add-one p) ∙ sym (leads_on p w (found H root (i + 1) to (suc p)) e) ∙ found-one to et;
            }

        pub led_off : (l q : ℕ) → break_at l q ≡ first_break p w all_lead → break_at l q ≡ found H root 0 at 0
        led_off l q e = let to : ℕ = from + 256 * (j + 1) in breaks_off p w (found H root (i + 1) to (suc p)) l q e ∙ found-one to refl

      pub gathered_on : (at to : ℕ) (acc sum : List ℕ) → to ≡ from + 256 * (j + 1) → sum ≡ xors acc (take (length acc) (drop from b)) → Gathered at acc i from
          → Gathered at sum (i + 1) to
      unfolding given_xor symbol_in
      gathered_on at to acc sum et es s =
          let here : List ℕ = take 256 (drop from b) in
          let q : sum ≡ xors acc here = es ∙ ap (λ n. xors acc (take n (drop from b))) s.sized in
          record {
            sized = omega (arith, ap length q, length-xors acc here, s.sized, length_part b from 256 (omega (arith, way_room 0 s.room)));
            room = rest-room to et 0 s.room;
            rest =
                ap (λ v. xors v (left (i + 1) to)) q ∙ xors_assoc acc here (left (i + 1) to)
                ∙ ap (xors acc)
                (sym (ap (λ ys. given_xor j ys (drop from b)) one ∙ ap (λ c. xors here (given_xor j (others x (drop (i + 1) ms)) c)) (next_to to et)))
                ∙ s.rest;
          }

  -- ---- none is left

  module _ (H : ℕ → ℕ → List ℕ → List ℕ) (root : List ℕ) (at i from p : ℕ) (h : length ms ≤ i) (s : Led H root at i from p) where
    pub path_room : from + 256 * j ≤ length b
    path_room = omega (arith, ap (λ q. length q * suc j) (others-end x ms i h), s.room)

    -- w, what the check of x's path finds
    pub led-end : (w : Climb) → w ≡ path_check tree H root j x (drop from b) → first_break p w all_lead ≡ found H root 0 at 0
    unfolding ways_check
    led-end w ew = ap (λ v. first_break p v all_lead) ew ∙ sym (ap (λ q. ways_check tree H root j x p q (drop from b)) (others-end x ms i h)) ∙ s.rest

  pub gathered_end : (at : ℕ) (acc : List ℕ) (i from : ℕ) → length ms ≤ i → Gathered at acc i from → acc ≡ left 0 at
  unfolding given_xor
  gathered_end at acc i from h s =
      sym (ap (λ q. xors acc (given_xor j q (drop from b))) (others-end x ms i h) ∙ sym_zeros acc s.sized) ∙ s.rest
