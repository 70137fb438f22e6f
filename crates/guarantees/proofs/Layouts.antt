-- 01's layouts by bytes and places are those that the other crates define.
use mathlib.Core.Path.{◌≡◌, refl, sym, ap, ap₂, ◌∙◌}
use mathlib.Core.List.{List, [], ◌∷◌}
use Prim.Native.Nat.{ℕ, zero, suc, ◌+◌, ◌-◌, ◌*◌, ◌/◌, ◌%◌, ◌≤◌, ◌<◌}
use native.Mathlib.Omega.{arith}
use lib.ListN.{length, get_or, take, drop, get_or-replicate}
use lib.Seq.{ext_get_or}
use lib.Bits.{bit_xor}
use Rattle.octets.specs.BigEndian.{word_at}
use Rattle.octets.specs.ByteLists.{xors}
use Rattle.octets.proofs.ListLaws.{length-xors, get_d_xors}
use Rattle.parity_table.specs.Shape.{k_of, n_of}
use Rattle.model.specs.Shape.{tree, places, place}
use Rattle.model.specs.Symbols.{symbol_in, zeros, xor_of, slot, committed, sym_at}
use Rattle.model.specs.Fault.{reached}
use Rattle.model.proofs.Shapes.{tree_places}
use Rattle.model.proofs.Bytes.{length-zeros}
use Rattle.guarantees.specs.Layouts.{bytes_from, symbol_no, data_symbols, all_symbols, tree_symbols, place_of, symbol_at, mark_at, spread, hash_for, xor_run, XorOf, up_from, word_no}

-- ---- bytes

pub symbol_in_lem : (s : List ℕ) (x : ℕ) → symbol_no s x ≡ symbol_in s x
unfolding bytes_from symbol_in
symbol_in_lem s x = refl

pub word_at_lem : (b : List ℕ) (w : ℕ) → word_no b w ≡ word_at b (4 * w)
unfolding word_no word_at
word_at_lem b w = omega arith

-- ---- layers and places

pub data_symbols_lem : (j : ℕ) → data_symbols j ≡ k_of j
unfolding k_of
data_symbols_lem j = refl

pub all-symbols : (j : ℕ) → all_symbols j ≡ n_of j
unfolding k_of n_of
all-symbols j = refl

-- "s = n/8, which is the k of the layer above"
pub spread-is : (j : ℕ) → spread (suc j) ≡ k_of j
unfolding k_of
spread-is j = omega arith

pub tree-symbols : (d : ℕ) → tree_symbols d ≡ places tree d
tree-symbols d = sym (tree_places d)

pub place_of_lem : (j i : ℕ) → place_of j i ≡ place tree j i
unfolding place
place_of_lem j i = ap (λ (n : ℕ). n + i) (tree-symbols j)

pub symbol_at_lem : (t : List ℕ) (j i : ℕ) → symbol_at t j i ≡ sym_at tree t j i
unfolding sym_at
symbol_at_lem t j i = ap (symbol_no t) (place_of_lem j i) ∙ symbol_in_lem t (place tree j i)

pub mark_at_lem : (m : List ℕ) (j i : ℕ) → mark_at m j i ≡ get_or m (place tree j i) 0
mark_at_lem m j i = ap (λ (p : ℕ). get_or m p 0) (place_of_lem j i)

-- ---- hashes and ways up

pub hash_for_lem : (root : List ℕ) (f : ℕ → ℕ → List ℕ) (j i : ℕ) → hash_for root f j i ≡ committed tree root f j i
unfolding hash_for committed bytes_from slot
hash_for_lem root f zero i = refl
hash_for_lem root f (suc j) i = ap (λ (s : ℕ). take 32 (drop (32 * (i / s)) (f j (i % s)))) (spread-is j)

pub up_from_lem : (j i x : ℕ) → x ≤ j → up_from j i x ≡ reached tree j i x
unfolding up_from reached
up_from_lem j i zero h = refl
up_from_lem j i (suc x) h =
    let e : j - x ≡ suc (j - suc x) = omega arith in
    ap₂ (λ (a s : ℕ). a % s) (up_from_lem j i x (omega arith)) (ap spread e ∙ spread-is (j - suc x))

-- ---- exclusive-or

-- there is one
pub xor_one : (g : ℕ → List ℕ) (n : ℕ) (s u : List ℕ) → XorOf g n s → XorOf g n u → s ≡ u
xor_one g n s u p q =
    ext_get_or 0 s u (p.sized ∙ sym q.sized) (λ i h. p.bytes i (omega (arith, p.sized)) ∙ sym (q.bytes i (omega (arith, p.sized))))

-- one symbol more in front
pub xor_more : (g : ℕ → List ℕ) (n : ℕ) (s u : List ℕ) → length s ≡ 256 → s ≡ g 0 → XorOf (λ q. g (suc q)) n u → XorOf g (suc n) (xors s u)
unfolding xor_run
xor_more g n s u h e x =
    record {
      sized = omega (arith, length-xors s u, x.sized);
      bytes = λ p l.
          get_d_xors s u p (omega arith) (omega (arith, x.sized))
          ∙ ap₂ bit_xor (ap (λ (v : List ℕ). get_or v p 0) e) (x.bytes p l ∙ shift (λ q. get_or (g q) p 0) n 0);
    }
  where
    shift : (f : ℕ → ℕ) (n x : ℕ) → xor_run (λ q. f (suc q)) x n ≡ xor_run f (suc x) n
    shift f zero x = refl
    shift f (suc n) x = ap (bit_xor (f (suc x))) (shift f n (suc x))

pub xor_none : (g : ℕ → List ℕ) → XorOf g 0 zeros
unfolding zeros xor_run
xor_none g = record { sized = length-zeros; bytes = λ p l. get_or-replicate 256 p 0 0 l }

-- that of the symbols with these numbers
pub xor_of_lem : (f : ℕ → List ℕ) (xs : List ℕ) → ((q : ℕ) → q < length xs → length (f (get_or xs q 0)) ≡ 256) → XorOf (λ q. f (get_or xs q 0)) (length xs) (xor_of f xs)
unfolding xor_of
xor_of_lem f [] h = xor_none (λ q. f 0)
xor_of_lem f (x ∷ xs) h =
    xor_more (λ q. f (get_or (x ∷ xs) q 0)) (length xs) (f x) (xor_of f xs) (h 0 (omega arith)) refl (xor_of_lem f xs (λ q l. h (suc q) (omega arith)))
