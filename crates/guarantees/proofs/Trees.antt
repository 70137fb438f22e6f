-- Trees by their bytes, and the definitions of crate `model`: the same.
use mathlib.Core.Path.{◌≡◌, refl, sym, ap, ◌∙◌, subst, fun_ext}
use mathlib.Core.List.{List, [], ◌++◌}
use Prim.Native.Nat.{ℕ, zero, suc, ◌+◌, ◌*◌, ◌/◌, ◌%◌, ◌^◌, ◌<◌}
use native.Mathlib.Omega.{arith}
use lib.ListN.{length, get_or}
use lib.Dec.{eqb}
use borrow.Author.Tests.{ne_eqb}
use Rattle.octets.specs.BigEndian.{be}
use Rattle.octets.specs.Choice.{pick}
use Rattle.octets.proofs.Choice.{pick_no}
use Rattle.sha256.specs.Hash.{sha256}
use Rattle.heads.proofs.HeadLaws.{be_of}
use Rattle.parity_table.specs.Shape.{k_of, n_of}
use Rattle.parity_table.specs.Table.{layer_of, equation_of, TableOk}
use Rattle.parity_table.proofs.Rules.{members-below}
use Rattle.symbol_hash.specs.SymbolHash.{place_word, symbol_hash}
use Rattle.symbol_hash.specs.declared.Kind.{Kind}
use Rattle.symbol_hash.specs.declared.Kind.TheVariants.{Plain, Placed}
use Rattle.symbol_hash.proofs.Laws.{length-symbol_hash}
use Rattle.model.specs.Shape.{tree}
use Rattle.model.specs.Symbols.{symbol_in, xor_of, zeros, slot, committed, sym_at}
use Rattle.model.specs.Coded.{Collide, root_of, Coded, Agrees}
use Rattle.model.specs.Writer.{BaseOf}
use Rattle.model.proofs.Members.{every-below}
use Rattle.model.proofs.Binding.{root_slot, root_length, root_is}
use Rattle.model.proofs.Shapes.{tree_root}
use Rattle.root_record.specs.Records.{kind_of, kind_in}
use Rattle.root_record.proofs.RecordLaws.{kind_zero, kind_other}
use Rattle.guarantees.specs.Layouts.{bytes_from, symbol_at, XorOf, kind_no}
use Rattle.guarantees.specs.Trees.{kind_bits, place_bytes, hash_by, members, CorrectlyCoded, RootOf, AgreesWith, HasBlock, Twins}
use Rattle.guarantees.proofs.Records.{kind_no_lem}
use Rattle.guarantees.proofs.Layouts.{symbol_at_lem, hash_for_lem, xor_one, xor_of_lem}

-- ---- the hash of a symbol

-- the word of a place, byte by byte
place-bytes : (j i : ℕ) → place_bytes j i ≡ be 4 (place_word j i)
unfolding place_word
place-bytes j i =
    sym (be_of (64 + j % 64) (i / 2 ^ 16 % 256) (i / 2 ^ 8 % 256) (i % 256) (omega arith) (omega arith) (omega arith) (omega arith)) ∙ ap (be 4) (omega arith)

placed-is : (j i : ℕ) (s : List ℕ) → hash_by 0 j i s ≡ symbol_hash Placed j i s
unfolding hash_by symbol_hash pick
placed-is j i s = ap (λ (w : List ℕ). sha256 (w ++ s)) (place-bytes j i)

plain-is : (k j i : ℕ) (s : List ℕ) → (k ≡ 0 → ⊥) → hash_by k j i s ≡ symbol_hash Plain j i s
unfolding hash_by symbol_hash
plain-is k j i s n = pick_no (eqb k 0) _ _ (ne_eqb k 0 n)

-- by the kind that a writer is told, and by the first word's kind
pub hash_of : (kind : Kind) → hash_by (kind_bits kind) ≡ symbol_hash kind
hash_of Placed = fun_ext (λ j. fun_ext (λ i. fun_ext (λ s. placed-is j i s)))
hash_of Plain = fun_ext (λ j. fun_ext (λ i. fun_ext (λ s. plain-is 1 j i s (λ e. omega arith))))

pub kind_is : (k : ℕ) → hash_by k ≡ symbol_hash (kind_of k)
kind_is zero = hash_of Placed ∙ ap symbol_hash (kind_zero 0 refl)
kind_is (suc k) =
    fun_ext (λ j. fun_ext (λ i. fun_ext (λ s. plain-is (suc k) j i s (λ e. omega arith)))) ∙ ap symbol_hash (kind_other (suc k) (λ e. omega arith))

pub hash_in_lem : (r : List ℕ) → hash_by (kind_no r 0) ≡ symbol_hash (kind_in r)
unfolding kind_in
hash_in_lem r = kind_is (kind_no r 0) ∙ ap (λ (k : ℕ). symbol_hash (kind_of k)) (kind_no_lem r 0)

-- the tree buffer's symbols
pub symbols-are : (t : List ℕ) → symbol_at t ≡ sym_at tree t
symbols-are t = fun_ext (λ j. fun_ext (λ i. symbol_at_lem t j i))

module _ (kind : Kind) (d : ℕ) (tbl : List (List (List ℕ))) (ok : TableOk d tbl) (f : ℕ → ℕ → List ℕ) where
  -- the members of an equation are symbols of its layer
  below : (j e : ℕ) → j < d → e < 3 * k_of j → (q : ℕ) → q < length (equation_of tbl j e) → get_or (equation_of tbl j e) q 0 < n_of j
  below j e hj he = every-below (n_of j) (equation_of tbl j e) (members-below d tbl ok j e hj he)

  pub coded-right : Coded tree (symbol_hash kind) tbl f → CorrectlyCoded (symbol_hash kind) d tbl f
  unfolding k_of n_of layer_of equation_of zeros committed
  coded-right c =
      record {
        sized = λ j i hj hi. c.sized j i (omega (arith, ok.depth), hi);
        equations_hold = λ j e hj he.
            subst (XorOf (λ q. f j (get_or (members tbl j e) q 0)) (length (members tbl j e)))
            (c.holds j e (omega (arith, ok.depth)) (omega (arith, ok.equations j hj)))
            (xor_of_lem (f j) (members tbl j e) (λ q h. c.sized j (get_or (members tbl j e) q 0) (omega (arith, ok.depth), below j e hj he q h)));
        hashes_stand = λ j i hj hi. hash_for_lem [] f (suc j) i ∙ c.stands j i (omega (arith, ok.depth), hi);
      }

  pub right-coded : CorrectlyCoded (symbol_hash kind) d tbl f → Coded tree (symbol_hash kind) tbl f
  unfolding k_of n_of layer_of equation_of zeros committed
  right-coded c =
      record {
        sized = λ j i h. c.sized j i (omega (arith, ok.depth, h.0)) h.1;
        holds = λ j e hj he.
            let lj : j < d = omega (arith, ok.depth) in
            let le : e < 3 * k_of j = omega (arith, ok.equations j lj) in
            xor_one (λ q. f j (get_or (members tbl j e) q 0)) (length (members tbl j e)) (xor_of (f j) (members tbl j e)) zeros
            (xor_of_lem (f j) (members tbl j e) (λ q h. c.sized j (get_or (members tbl j e) q 0) lj (below j e lj le q h))) (c.equations_hold j e lj le);
        stands = λ j i h. sym (hash_for_lem [] f (suc j) i) ∙ c.hashes_stand j i (omega (arith, ok.depth, h.0)) h.1;
      }

-- the root of the symbols f
pub root_right : (kind : Kind) (f : ℕ → ℕ → List ℕ) (root : List ℕ) → root ≡ root_of tree (symbol_hash kind) f → RootOf (symbol_hash kind) f root
unfolding slot bytes_from k_of n_of
root_right kind f root e =
    record {
      full = ap length e ∙ root_length tree (symbol_hash kind) (length-symbol_hash kind) f ∙ tree_root;
      hashes = λ i h. ap (λ (r : List ℕ). bytes_from r (32 * i) 32) e ∙ root_slot tree (symbol_hash kind) (length-symbol_hash kind) f i h;
    }

pub right_root : (kind : Kind) (f : ℕ → ℕ → List ℕ) (root : List ℕ) → RootOf (symbol_hash kind) f root → root ≡ root_of tree (symbol_hash kind) f
unfolding slot bytes_from k_of n_of
right_root kind f root r = root_is tree (symbol_hash kind) (length-symbol_hash kind) root r.full f (λ i h. r.hashes i h)

module _ (kind : Kind) (d : ℕ) (tbl : List (List (List ℕ))) (ok : TableOk d tbl) (root : List ℕ) (f : ℕ → ℕ → List ℕ) where
  pub agrees_with : Agrees tree (symbol_hash kind) tbl root f → AgreesWith (symbol_hash kind) d tbl root f
  agrees_with a = record { correctly_coded = coded-right kind d tbl ok f a.coded; root_of_lem = root_right kind f root a.rooted }

  pub with_agrees : AgreesWith (symbol_hash kind) d tbl root f → Agrees tree (symbol_hash kind) tbl root f
  with_agrees a = record { coded = right-coded kind d tbl ok f a.correctly_coded; rooted = right_root kind f root a.root_of_lem }

-- a block's data symbols
pub block-base : (d : ℕ) (f : ℕ → ℕ → List ℕ) (block : List ℕ) → HasBlock d f block → BaseOf tree d f block
unfolding k_of symbol_in bytes_from
block-base d f block h = h

pub base-block : (d : ℕ) (f : ℕ → ℕ → List ℕ) (block : List ℕ) → BaseOf tree d f block → HasBlock d f block
unfolding k_of symbol_in bytes_from
base-block d f block h = h

-- a collision of two symbols
pub twins_of : (kind : Kind) (j i : ℕ) (s u : List ℕ) → length s ≡ 256 → length u ≡ 256 → Collide (symbol_hash kind) j i s u → Twins (symbol_hash kind) j i s u
twins_of kind j i s u p q c = record { symbols = (p, q); differ = c.differ; equal = c.equal }
