-- The block in the base of a tree, as the code meets it: put there and filled up, read back, and its filling tested.
use mathlib.Core.Path.{◌≡◌, refl, sym, ap, ap₂, ◌∙◌}
use mathlib.Core.Bool.{Bool, ◌&&◌}
use mathlib.Core.List.{List, [], ◌∷◌, ◌++◌, append-nil, append_assoc}
use Prim.Native.Nat.{ℕ, ◌+◌, ◌-◌, ◌*◌, ◌≤◌}
use native.Mathlib.Nat.{add-zero}
use native.Mathlib.Omega.{arith}
use lib.Dec.{eqb}
use lib.ListN.{length, take, drop, replicate, drop_of_length-le, length-append, length-drop, length-replicate}
use lib.Seq.{paste, length-paste, take-paste, take_all, take-length, take-take, drop-drop}
use borrow.Rule.Slice.PartMut.{mid_of, put_mid}
use Rattle.octets.specs.ByteLists.{same}
use Rattle.octets.proofs.ListLaws.{length_part}
use Rattle.parity_table.specs.Members.{every}
use Rattle.parity_table.specs.Shape.{k_of}
use Rattle.model.specs.Shape.{tree, places, place}
use Rattle.model.specs.Writer.{block_of, filled, zero_filled}
use Rattle.model.proofs.Shapes.{tree_ok}
use Rattle.model.proofs.Flat.{paste-right}
use Rattle.coded_tree.proofs.WriterLaws.{layer-room}

-- a copy that fills its buffer
pub paste_all : (d s : List ℕ) → length s ≡ length d → paste d 0 s (length s) ≡ s
paste_all d s l =
    let z : 0 + length s ≡ length d = omega arith in
    ap₂ ◌++◌ (take-length s) (ap (λ n. drop n d) z ∙ drop_of_length-le d {i = length d} (omega arith)) ∙ append-nil s

-- u is t after a copy of s to it; the bytes behind s, up to m of them, become zeros
module _ (t s u z : List ℕ) (at m k : ℕ) (fits : length s ≤ m) (room : at + m ≤ length t) (ek : k ≡ m - length s) (eu : u ≡ paste t at s (length s)) where
  copied_front : take (at + length s) u ≡ take at t ++ s
  copied_front =
      ap (take (at + length s)) eu ∙ take-paste t at s (length s) (omega arith) (omega arith) ∙ ap (λ (l : List ℕ). take at t ++ l) (take-length s)

  copied_back : drop k (drop (at + length s) u) ≡ drop (at + m) t
  copied_back =
      let end : at + length s + k ≡ at + m = omega arith in
      drop-drop k (at + length s) u ∙ ap₂ drop end eu ∙ paste-right t s at (length s) (omega arith) (omega arith) (at + m) (omega arith)

  module _ (ez : z ≡ replicate (length (mid_of (at + length s) k u)) 0) where
    put_zeros : z ≡ replicate (m - length s) 0
    put_zeros =
        let lu : length u ≡ length t = ap length eu ∙ length-paste t at s (length s) (omega arith) (omega arith) in
        ez ∙ ap (λ (e : ℕ). replicate e 0) (length_part u (at + length s) k (omega arith) ∙ ek)

    paste-zeros : put_mid (at + length s) k u z ≡ paste t at (s ++ replicate (m - length s) 0) m
    paste-zeros =
        let long : length (s ++ replicate (m - length s) 0) ≤ m =
        omega (arith, length-append s (replicate (m - length s) 0), length-replicate {A = ℕ} (m - length s) 0) in
        ap₂ (λ (x y : List ℕ). x ++ (z ++ y)) copied_front copied_back
        ∙ ap (λ (l : List ℕ). take at t ++ s ++ (l ++ drop (at + m) t)) put_zeros
        ∙ sym (append_assoc (take at t ++ s) (replicate (m - length s) 0) (drop (at + m) t))
        ∙ ap (λ (l : List ℕ). l ++ drop (at + m) t) (append_assoc (take at t) s (replicate (m - length s) 0))
        ∙ ap (λ (l : List ℕ). take at t ++ l ++ drop (at + m) t) (sym (take_all m (s ++ replicate (m - length s) 0) long))

-- a list whose elements are tested one after the other for being zero
zeros-same : (l : List ℕ) → every (λ x. eqb x 0) l ≡ same l (replicate (length l) 0)
unfolding every same
zeros-same [] = refl
zeros-same (x ∷ xs) = ap (λ (b : Bool). eqb x 0 && b) (zeros-same xs)

module _ (d base : ℕ) (t : List ℕ) (deep : 1 ≤ d) (eb : base ≡ places tree (d - 1)) (lt : length t ≡ 256 * places tree d) where
  -- the base's data symbols are inside the tree
  pub base-room : 256 * base + 256 * k_of (d - 1) ≤ length t
  base-room = omega (arith, layer-room d (d - 1) t (omega arith) lt, tree_ok.shape.within (d - 1))

  -- where they are
  block_there : block_of tree d t ≡ take (256 * k_of (d - 1)) (drop (256 * base) t)
  unfolding block_of place
  block_there = rw (add-zero, sym eb)

  pub block_put : (n : ℕ) (block u z : List ℕ) → n ≡ k_of (d - 1) → length block ≤ 256 * k_of (d - 1) → u ≡ paste t (256 * base) block (length block)
      → z ≡ replicate (length (mid_of (256 * base + length block) (256 * base + 256 * n - (256 * base + length block)) u)) 0
      → put_mid (256 * base + length block) (256 * base + 256 * n - (256 * base + length block)) u z
      ≡ paste t (256 * place tree (d - 1) 0) (filled tree d block) (256 * k_of (d - 1))
  unfolding filled place
  block_put n block u z en lb eu ez =
      paste-zeros t block u z (256 * base) (256 * k_of (d - 1)) (256 * base + 256 * n - (256 * base + length block)) lb base-room (omega arith) eu ez
      ∙ ap (λ (o : ℕ). paste t (256 * o) (filled tree d block) (256 * k_of (d - 1))) (eb ∙ sym (add-zero (places tree (d - 1))))

  -- its first n bytes
  pub block_part : (n : ℕ) → n ≤ 256 * k_of (d - 1) → take (256 * base + n - 256 * base) (drop (256 * base) t) ≡ take n (block_of tree d t)
  block_part n h =
      let w = 256 * base + n - 256 * base in
      let e : w ≡ n = omega arith in
      sym (take-take w (256 * k_of (d - 1)) (drop (256 * base) t) (omega arith)) ∙ ap₂ take e (sym block_there)

  -- the whole of it, as the code finds it
  pub block_there_at : (m : ℕ) → m ≡ k_of (d - 1) → take (256 * base + 256 * m - 256 * base) (drop (256 * base) t) ≡ block_of tree d t
  block_there_at m em = let w : 256 * base + 256 * m - 256 * base ≡ 256 * k_of (d - 1) = omega arith in ap (λ (n : ℕ). take n (drop (256 * base) t)) w ∙ sym block_there

-- what is behind its first n bytes, tested
pub zero-rest : (d n : ℕ) (t s : List ℕ) → s ≡ block_of tree d t
    → same (take (length s - n) (drop n s)) (replicate (length (take (length s - n) (drop n s))) 0) ≡ zero_filled tree d n t
unfolding zero_filled
zero-rest d n t s e =
    let whole : take (length s - n) (drop n s) ≡ drop n s = take_all (length s - n) (drop n s) (omega (arith, length-drop n s)) in
    ap (λ (l : List ℕ). same l (replicate (length l) 0)) (whole ∙ ap (drop n) e) ∙ sym (zeros-same (drop n (block_of tree d t)))
