-- Hashes in the layer above and in the root, as loops meet them.
use mathlib.Core.Path.{◌≡◌, refl, sym, ap, ap₂, ◌∙◌}
use mathlib.Core.List.{List, ◌++◌, append_assoc, append-nil}
use Prim.Native.Nat.{ℕ, zero, suc, ◌+◌, ◌-◌, ◌*◌, ◌/◌, ◌%◌, ◌≤◌, ◌<◌}
use native.Mathlib.Nat.{add-zero, suc-add, add-suc, mod-lt}
use native.Mathlib.Omega.{arith}
use native.Mathlib.Numerals.{add-one}
use lib.ListN.{length, take, drop}
use lib.Seq.{paste, take-paste, take_all, take-length, length-paste}
use Rattle.symbol_hash.specs.SymbolHash.{symbol_hash}
use Rattle.symbol_hash.specs.declared.Kind.{Kind}
use Rattle.symbol_hash.proofs.Laws.{length-symbol_hash}
use Rattle.parity_table.specs.Shape.{k_of, n_of, max_depth}
use Rattle.model.specs.Shape.{tree, places, place}
use Rattle.model.specs.Symbols.{joined, sym_at}
use Rattle.model.specs.Coded.{root_of}
use Rattle.model.specs.Writer.{hash_place, put_hash, put_hashes}
use Rattle.model.proofs.Shapes.{tree_ok}
use Rattle.model.proofs.Hashes.{column_lt}
use Rattle.coded_tree.proofs.ParityLaws.{sym_at_there}

-- layer j, from place above on, and the layer below it, from place base on, are in the tree t, and symbol i is one of the latter's
abbrev pub Hashed : List ℕ → ℕ → ℕ → ℕ → ℕ → ℕ → Type 0
Hashed t above base k j i =
    (above ≡ places tree j) × (base ≡ places tree (suc j)) × (k ≡ k_of j) × (j < max_depth) × (i < n_of (suc j)) × (256 * (base + n_of (suc j)) ≤ length t)

-- its hash into layer j
pub hash_put : (kind : Kind) (t s u h : List ℕ) (above base k j i : ℕ) → above ≡ places tree j → base ≡ places tree (suc j) → k ≡ k_of j
    → s ≡ take 256 (drop (256 * (base + i)) t) → h ≡ symbol_hash kind (j + 1) i s
    → u ≡ paste t (256 * (above + i % k) + 32 * (i / k)) h (length h) → u ≡ put_hash tree (symbol_hash kind) j i t
unfolding put_hash hash_place place
hash_put kind t s u h above base k j i ea eb ek es eh eu =
    let is : h ≡ symbol_hash kind (suc j) i (sym_at tree t (suc j) i) =
    eh ∙ ap₂ (λ l v. symbol_hash kind l i v) (add-one j) (es ∙ sym (sym_at_there t (suc j) base eb i)) in
    let l : length h ≡ 32 = ap length is ∙ length-symbol_hash kind (suc j) i _ in
    eu ∙ ap (λ m. paste t (256 * (above + i % k) + 32 * (i / k)) h m) l
    ∙ ap₂ (λ a c. paste t (256 * (a + i % c) + 32 * (i / c)) h 32) ea ek
    ∙ ap (λ v. paste t (256 * (places tree j + i % k_of j) + 32 * (i / k_of j)) v 32) is

-- the hash stays in layer j, and 32 bytes are there for it
pub hash-room : (t : List ℕ) (above base k j i : ℕ) → above ≡ places tree j → base ≡ places tree (suc j) → k ≡ k_of j → i < n_of (suc j)
    → 256 * (base + n_of (suc j)) ≤ length t → (0 < k) × (256 * (above + i % k) + 32 * (i / k) + 32 ≤ length t) × (i % k < k) × (i / k < 8)
unfolding places
hash-room t above base k j i ea eb ek hi room =
    let p : 0 < k = omega (arith, tree_ok.shape.some j) in
    let c : i / k_of j < 8 = column_lt tree tree_ok j i hi in
    let q : i / k < 8 = omega (arith, ap (λ v. i / v) ek) in
    let m : i % k < k = mod-lt i p in
    let n : n_of j ≡ 4 * k_of j = tree_ok.rate j in
    (p, omega arith, m, q)

pub hashed-room : (t : List ℕ) (above base k j i : ℕ) → Hashed t above base k j i → (0 < k) × (256 * (above + i % k) + 32 * (i / k) + 32 ≤ length t) × (i % k < k) × (i / k < 8)
hashed-room t above base k j i (ea, eb, ek, _, hi, room) = hash-room t above base k j i ea eb ek hi room

pub hashes-next : (kind : Kind) (j i m : ℕ) (t u : List ℕ) → u ≡ put_hash tree (symbol_hash kind) j i t
    → put_hashes tree (symbol_hash kind) j i (suc m) t ≡ put_hashes tree (symbol_hash kind) j (i + 1) m u
unfolding put_hashes
hashes-next kind j i m t u e = ap₂ (λ n v. put_hashes tree (symbol_hash kind) j n m v) (sym (add-one i)) (sym e)

-- from symbol i on, of m in all
pub hashes-step : (kind : Kind) (j i m : ℕ) (t u v : List ℕ) → i < m → u ≡ put_hash tree (symbol_hash kind) j i t → put_hashes tree (symbol_hash kind) j i (m - i) t ≡ v
    → put_hashes tree (symbol_hash kind) j (i + 1) (m - (i + 1)) u ≡ v
hashes-step kind j i m t u v h eu e =
    let k : m - i ≡ suc (m - (i + 1)) = omega arith in
    sym (ap (λ n. put_hashes tree (symbol_hash kind) j i n t) k ∙ hashes-next kind j i (m - (i + 1)) t u eu) ∙ e

pub hashes-end : (kind : Kind) (j i m : ℕ) (t v : List ℕ) → m ≤ i → put_hashes tree (symbol_hash kind) j i (m - i) t ≡ v → t ≡ v
unfolding put_hashes
hashes-end kind j i m t v h e = let k : m - i ≡ 0 = omega arith in sym (ap (λ n. put_hashes tree (symbol_hash kind) j i n t) k) ∙ e

-- ---- the root

joined_snoc : (g : ℕ → List ℕ) (x m : ℕ) → joined g x (suc m) ≡ joined g x m ++ g (x + m)
unfolding joined
joined_snoc g x zero = append-nil (g x) ∙ ap g (sym (add-zero x))
joined_snoc g x (suc m) =
    ap (λ l. g x ++ l) (joined_snoc g (suc x) m) ∙ sym (append_assoc (g x) (joined g (suc x) m) (g (suc x + m)))
    ∙ ap (λ n. g x ++ joined g (suc x) m ++ g n) (suc-add x m ∙ sym (add-suc x m))

-- the hash of symbol i of layer 0
abbrev pub top_hash : Kind → List ℕ → ℕ → List ℕ
top_hash kind t i = symbol_hash kind 0 i (sym_at tree t 0 i)

pub root_more : (kind : Kind) (t root s u h : List ℕ) (i : ℕ) → i < 16 → length root ≡ 512 → take (32 * i) root ≡ joined (top_hash kind t) 0 i
    → s ≡ take 256 (drop (256 * i) t) → h ≡ symbol_hash kind 0 i s → u ≡ paste root (32 * i) h (length h)
    → (length u ≡ 512) × (take (32 * (i + 1)) u ≡ joined (top_hash kind t) 0 (i + 1))
unfolding places
root_more kind t root s u h i hi l e es eh eu =
    let z : 0 + i ≡ i = omega arith in
    let is : h ≡ top_hash kind t i =
    eh ∙ ap (symbol_hash kind 0 i) (es ∙ ap (λ o. take 256 (drop (256 * o) t)) (sym z) ∙ sym (sym_at_there t 0 0 refl i)) in
    let lh : length h ≡ 32 = ap length is ∙ length-symbol_hash kind 0 i _ in
    let k : 32 * (i + 1) ≡ 32 * i + length h = omega arith in (
      ap length eu ∙ length-paste root (32 * i) h (length h) (omega arith) (omega arith) ∙ l,
      ap₂ take k eu ∙ take-paste root (32 * i) h (length h) (omega arith) (omega arith)
          ∙ ap₂ ◌++◌ e (take-length h ∙ is ∙ ap (top_hash kind t) (sym z))
          ∙ sym (ap (joined (top_hash kind t) 0) (add-one i) ∙ joined_snoc (top_hash kind t) 0 i),
    )

pub root_all : (kind : Kind) (t root : List ℕ) (i : ℕ) → i ≡ 16 → length root ≡ 512 → take (32 * i) root ≡ joined (top_hash kind t) 0 i
    → root ≡ root_of tree (symbol_hash kind) (sym_at tree t)
unfolding root_of n_of k_of
root_all kind t root i ei l e = sym (take_all (32 * i) root (omega arith)) ∙ e ∙ ap (joined (top_hash kind t) 0) ei
