-- What an accepted fault proof holds has 256 bytes. The head of a proof that a repair ends with names what was taken, and it shows a collision with every
-- tree that agrees. A repair that ends whole gives back the block that was written, or shows a collision.
use mathlib.Core.Path.{◌≡◌, ap, ◌∙◌, subst}
use mathlib.Core.Logic.{◌⊎◌, ⊎_elim}
use mathlib.Core.List.{List, [], ◌∷◌}
use Prim.Native.Nat.{ℕ, zero, suc, ◌+◌, ◌-◌, ◌*◌, ◌%◌, ◌≤◌, ◌<◌}
use native.Mathlib.Omega.{arith}
use lib.ListN.{length, take, drop, length-drop}
use lib.Seq.{length-take-le}
use lib.Dec.{ltb}
use borrow.Author.Tests.{ltb-true}
use Rattle.parity_table.specs.Table.{layer_of, equation_of}
use Rattle.model.specs.Shape.{Shape, ShapeOk}
use Rattle.model.specs.Symbols.{symbol_in, others, count, sym_at}
use Rattle.model.specs.Coded.{Digests, Collision}
use Rattle.model.specs.Writer.{block_of, written_root, Written}
use Rattle.model.specs.Fault.{proof_layer, proof_equation, proof_withheld, proof_length, body, next, after_given, proof_members, proof_given, accepted, verdict, InWay, InGiven, InPath, ProofHolds}
use Rattle.model.specs.Repair.{St, whole}
use Rattle.model.specs.Ends.{WholeEnd, FaultEnd, EndOk, Ended}
use Rattle.model.proofs.Counts.{is_it, every-member, ascending_once, length-others}
use Rattle.model.proofs.Tables.{TableLaws}
use Rattle.model.proofs.Binding.{original_block}
use Rattle.model.proofs.Sound.{accepted-is}
use Rattle.model.proofs.FaultWriter.{proof_values}
use Rattle.model.proofs.Peeling.{taken-member}

module _ (S : Shape) where
  way_sized : (j i : ℕ) (c : List ℕ) (l m : ℕ) (s : List ℕ) → 256 * suc j ≤ length c → InWay S j i c l m s → length s ≡ 256
  unfolding InWay symbol_in
  way_sized j i c l m s h (x, k, el, em, es) = ap length es ∙ length-take-le 256 (drop (256 * x) c) (omega (arith, length-drop (256 * x) c))

  path-sized : (j i : ℕ) (c : List ℕ) (l m : ℕ) (s : List ℕ) → 256 * j ≤ length c → InPath S j i c l m s → length s ≡ 256
  unfolding InPath
  path-sized zero i c l m s h p = absurd p
  path-sized (suc j) i c l m s h p = way_sized j (i % S.k j) c l m s h p

  given-sized : (j : ℕ) (ys c : List ℕ) (l m : ℕ) (s : List ℕ) → 256 * (length ys * suc j) ≤ length c → InGiven S j ys c l m s → length s ≡ 256
  unfolding InGiven next
  given-sized j [] c l m s h p = absurd p
  given-sized j (y ∷ ys) c l m s h p =
      ⊎_elim (way_sized j y c l m s (omega arith)) (given-sized j ys (drop (256 * suc j) c) l m s (omega (arith, length-drop (256 * suc j) c))) p

after-length : (j : ℕ) (ys c : List ℕ) → length (after_given j ys c) ≡ length c - 256 * (length ys * suc j)
unfolding after_given next
after-length j [] c = omega arith
after-length j (y ∷ ys) c = omega (arith, after-length j ys (drop (256 * suc j) c), length-drop (256 * suc j) c)

module _ (S : Shape) (H : ℕ → ℕ → List ℕ → List ℕ) (root : List ℕ) (tbl : List (List (List ℕ))) (ok : TableLaws S tbl) where
  pub held-sized : (b : List ℕ) → verdict S H root tbl b ≡ accepted → (l m : ℕ) (s : List ℕ) → ProofHolds S tbl b l m s → length s ≡ 256
  unfolding ProofHolds proof_given proof_length body proof_members
  held-sized b e l m s p =
      let a = accepted-is S H root tbl b e in
      let j : ℕ = proof_layer b in
      let ms : List ℕ = proof_members tbl b in
      let x : ℕ = proof_withheld b in
      let once : count (is_it x) ms ≡ 1 = omega (arith, a.named.member_ok_lem, ascending_once x ms (ok.ascend j (proof_equation b) a.named.layer_ok_lem a.named.equation_ok_lem)) in
      let d : length ms - 1 ≡ length (others x ms) = omega (arith, once, length-others x ms) in
      let product : (length ms - 1) * suc j ≡ length (others x ms) * suc j = ap (λ (k : ℕ). k * suc j) d in
      let room : length (body b) ≡ 256 * (length (others x ms) * suc j) + 256 * j = omega (arith, length-drop 12 b, a.exact, product) in
      ⊎_elim (given-sized S j (others x ms) (body b) l m s (omega (arith, room)))
      (path-sized S j x (after_given j (others x ms) (body b)) l m s (omega (arith, room, after-length j (others x ms) (body b)))) p

-- the head of a fault's proof names its layer, its equation and the member that is withheld
pub fault-head : (S : Shape) (H : ℕ → ℕ → List ℕ → List ℕ) (root : List ℕ) (tbl : List (List (List ℕ))) → TableLaws S tbl → (o₀ : List ℕ) (j e x n : ℕ) (st : St) → j < length tbl
    → FaultEnd S H root tbl o₀ j e x n st → (proof_layer (take n st.out) ≡ j) × (proof_equation (take n st.out) ≡ e) × (proof_withheld (take n st.out) ≡ x)
fault-head S H root tbl ok o₀ j e x n st hj end =
    let ms : List ℕ = equation_of tbl j e in
    let he : e < length (layer_of tbl j) = end.taken.in_table in
    let below : x < S.n j =
    ltb-true x (S.n j) (every-member (λ y. ltb y (S.n j)) x ms (ok.within j e hj he) (taken-member S H root tbl ok st.tree st.marks j e x hj end.taken)) in
    let (l, q, w) =
    proof_values S (sym_at S st.tree) j e x ms (omega (arith, ok.shallow)) (omega (arith, ok.sizes j hj, ok.narrow j hj)) (omega (arith, ok.narrow j hj)) in
    (ap proof_layer end.proof ∙ l, ap proof_equation end.proof ∙ q, ap proof_withheld end.proof ∙ w)

-- a whole end, with the root that was written for a block
pub whole-block : (S : Shape) → ShapeOk S → (H : ℕ → ℕ → List ℕ → List ℕ) → Digests H → (tbl : List (List (List ℕ))) (block t : List ℕ) → Written S H tbl block t
    → (t₀ m₀ o₀ : List ℕ) (st : St) → Ended S H (written_root S H t) tbl t₀ m₀ o₀ st → st.end ≡ whole
    → (block_of S (length tbl) st.tree ≡ block) ⊎ Collision S H tbl (sym_at S st.tree) (sym_at S t)
whole-block S sh H digests tbl block t w t₀ m₀ o₀ st ended e =
    let end : WholeEnd S H (written_root S H t) tbl t₀ m₀ o₀ st = subst (EndOk S H (written_root S H t) tbl t₀ m₀ o₀ st) e ended.ends in
    original_block S sh H digests tbl block t w st.tree ended.always.sized.tree-length end.agrees
