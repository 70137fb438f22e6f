-- The reader's answer is right, and no other is: it accepts exactly the well-formed lists, and refuses at the first wrong word.
-- What those above cite of an accepted list.
use mathlib.Core.Path.{◌≡◌, refl, sym, ap, ◌∙◌, subst}
use mathlib.Core.Bool.{true, false}
use mathlib.Core.List.{List}
use Prim.Native.Nat.{ℕ, suc, ◌+◌, ◌-◌, ◌*◌, ◌^◌, ◌≤◌, ◌<◌}
use native.Mathlib.Nat.{zero-add}
use native.Mathlib.Omega.{arith}
use lib.ListN.{length, get_or, take, drop, length-take}
use lib.Seq.{get_or-take}
use lib.Dec.{ltb}
use borrow.Author.Tests.{ltb-true, ltb-false}
use Rattle.std.specs.Prelude.{Ok, Err}
use Rattle.parity_table.specs.declared.TableError.TheVariants as error
use Rattle.parity_table.specs.Shape.{max_depth, depth_fits, k_of}
use Rattle.parity_table.specs.Table.{equation_of, TableOk, WellFormed, FirstWrong}
use Rattle.parity_table.specs.Reader.{Answer, Depth, Wrong, Whole, layered, run, read_of}
use Rattle.parity_table.specs.Right.{Right}
use Rattle.parity_table.specs.Parse.{table_of, members_of, index_of, equations_above, number_in, Indexed, HasEquation, Located}
use Rattle.parity_table.specs.Accepted.{Kept, accepted}
use Rattle.octets.proofs.ListLaws.{part_ends}
use Rattle.octets.proofs.Choice.{by_test, pick_ind, pick_yes, pick_no, both}
use Rattle.parity_table.proofs.Run.{taken-formed, refused-first, run_ends}
use Rattle.parity_table.proofs.Shape.{depth_is, k_grows, k_small}
use Rattle.parity_table.proofs.Parse.{formed-rules, members_at_lem, members-take, start_fits, number_lt, starts-count}

-- ---- the reader is right

pub read_right : (d : ℕ) (ws : List ℕ) → Right d ws (read_of d ws)
unfolding read_of
read_right d ws =
    pick_ind (Right d ws) (depth_fits d)
    (λ t. run_ends d 0 (layered d 0) ws (Right d ws) (λ q. (t, taken-formed d ws q)) (λ r q. (t, refused-first d ws r q)))
    (λ t. t)

-- what it computes, by the depth
pub read-depth : (d : ℕ) (ws : List ℕ) → depth_fits d ≡ false → Depth ≡ read_of d ws
unfolding read_of
read-depth d ws t = sym (pick_no (depth_fits d) _ _ t)

pub read-run : (d : ℕ) (ws : List ℕ) → depth_fits d ≡ true → run d 0 (layered d 0) ws ≡ read_of d ws
unfolding read_of
read-run d ws t = sym (pick_yes (depth_fits d) _ _ t)

-- there is one first wrong word
pub first_unique : (d : ℕ) (ws : List ℕ) (i j : ℕ) → FirstWrong d ws i → FirstWrong d ws j → i ≡ j
first_unique d ws i j f g =
    by_test (ltb i j) (λ t. absurd (less d ws i j f g (ltb-true i j t)))
    (λ t. by_test (ltb j i) (λ u. absurd (less d ws j i g f (ltb-true j i u))) (λ u. omega (arith, ltb-false i j t, ltb-false j i u)))
  where
    less : (d : ℕ) (ws : List ℕ) (i j : ℕ) → FirstWrong d ws i → FirstWrong d ws j → i < j → ⊥
    less d ws i j f g h = f.wrong (omega (arith, g.within)) (g.before (suc i) h)

-- the right answer is one
pub right_unique : (d : ℕ) (ws : List ℕ) (a b : Answer) → Right d ws a → Right d ws b → a ≡ b
right_unique d ws (Err error.Depth) (Err error.Depth) p q = refl
right_unique d ws (Err error.Depth) (Err (error.Wrong j)) p q = both q.0 p
right_unique d ws (Err error.Depth) (Ok _) p q = both q.0 p
right_unique d ws (Err (error.Wrong i)) (Err error.Depth) p q = both p.0 q
right_unique d ws (Err (error.Wrong i)) (Err (error.Wrong j)) p q = ap Wrong (first_unique d ws i j p.1 q.1)
right_unique d ws (Err (error.Wrong i)) (Ok _) p q = absurd (p.1.refused q.1)
right_unique d ws (Ok _) (Err error.Depth) p q = both p.0 q
right_unique d ws (Ok _) (Err (error.Wrong j)) p q = absurd (q.1.refused p.1)
right_unique d ws (Ok _) (Ok _) p q = refl
right_unique d ws (Err error.Length) b p q = absurd p
right_unique d ws (Err error.Depth) (Err error.Length) p q = absurd q
right_unique d ws (Err (error.Wrong i)) (Err error.Length) p q = absurd q
right_unique d ws (Ok _) (Err error.Length) p q = absurd q

-- the reader accepts exactly the well-formed lists, for a depth that there is
pub accepted-formed : (d : ℕ) (ws : List ℕ) → read_of d ws ≡ Whole → (depth_fits d ≡ true) × WellFormed d ws
accepted-formed d ws e = subst (Right d ws) e (read_right d ws)

pub formed-accepted : (d : ℕ) (ws : List ℕ) → depth_fits d ≡ true → WellFormed d ws → read_of d ws ≡ Whole
formed-accepted d ws t f = right_unique d ws (read_of d ws) Whole (read_right d ws) (t, f)

-- .. and refuses any other at its first wrong word
pub refused-wrong : (d : ℕ) (ws : List ℕ) (i : ℕ) → read_of d ws ≡ Wrong i → (depth_fits d ≡ true) × FirstWrong d ws i
refused-wrong d ws i e = subst (Right d ws) e (read_right d ws)

-- ---- an accepted list

module _ (d : ℕ) (ws : List ℕ) (r : read_of d ws ≡ Whole) where
  pub accepted-depth : (1 ≤ d) × (d ≤ max_depth)
  accepted-depth = depth_is d (accepted-formed d ws r).0

  formed : WellFormed d ws
  formed = (accepted-formed d ws r).1

  shallow : d ≤ max_depth
  shallow = accepted-depth.1

  -- its table keeps the rules
  pub accepted-table : TableOk d (table_of ws)
  accepted-table = formed-rules d ws formed shallow

  -- its index has an entry for each equation
  pub index-length : length (index_of ws) ≡ equations_above d
  index-length = starts-count d ws formed shallow

-- with its index
pub kept : (d : ℕ) (ws starts : List ℕ) → Indexed d ws starts → Kept (accepted d (table_of ws))
kept d ws starts x =
    let (some, shallow) = accepted-depth d ws x.accepted in
    record { some = some; shallow = shallow; rules = accepted-table d ws x.accepted }

-- ---- where equation e of layer j stands, by an index

module _ (ws starts : List ℕ) (j e : ℕ) (x : HasEquation ws starts j e) where
  formed_there : WellFormed x.depth ws
  formed_there = (accepted-formed x.depth ws x.indexed.accepted).1

  shallow_there : x.depth ≤ max_depth
  shallow_there = (accepted-depth x.depth ws x.indexed.accepted).1

  pub layer-known : j < max_depth
  layer-known = omega (arith, shallow_there, x.layer)

  number_there : number_in j e < length (index_of ws)
  number_there = number_lt x.depth ws formed_there shallow_there j e x.layer x.equation

  pub start_known : number_in j e < length starts
  start_known = omega (arith, number_there, ap length x.indexed.index, length-take (length (index_of ws)) starts)

  start_is : get_or starts (number_in j e) 0 ≡ get_or (index_of ws) (number_in j e) 0
  start_is =
      sym (get_or-take (length (index_of ws)) starts (number_in j e) 0 number_there)
      ∙ ap (λ (l : List ℕ). get_or l (number_in j e) 0) x.indexed.index

  fits_there : get_or (index_of ws) (number_in j e) 0 + length (equation_of (table_of ws) j e) ≤ length ws
  fits_there = start_fits x.depth ws formed_there shallow_there j e x.layer x.equation

  pub start_inside : get_or starts (number_in j e) 0 ≤ length ws
  start_inside = omega (arith, start_is, fits_there)

  pub located : Located ws j e (get_or starts (number_in j e) 0) (length (members_of (drop (get_or starts (number_in j e) 0) ws)))
  located =
      let at : ℕ = get_or starts (number_in j e) 0 in
      let m : members_of (drop at ws) ≡ equation_of (table_of ws) j e =
      ap (λ (n : ℕ). members_of (drop n ws)) start_is
      ∙ members_at_lem x.depth ws formed_there shallow_there j e x.layer x.equation in
      record {
        inside = omega (arith, start_is, fits_there, ap length m);
        members = sym (members-take (drop at ws)) ∙ m;
      }

-- its members, as a part of the words
pub members_there : (ws : List ℕ) (j e at size : ℕ) → Located ws j e at size → take (at + size - at) (drop at ws) ≡ equation_of (table_of ws) j e
members_there ws j e at size x = part_ends ws at size ∙ x.members

-- the number of an equation is computed with no loss
pub number_small : (j e : ℕ) → j < max_depth → e < 3 * k_of j → (k_of 0 ≤ k_of j) × (k_of j ≤ 4 * 2 ^ max_depth)
number_small j e h g = (omega (arith, k_grows 0 j, ap k_of (zero-add j)), k_small j h)
