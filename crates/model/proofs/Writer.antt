-- The written tree is correctly coded, agrees with its root, gives the block back, and is the only one.
use mathlib.Core.Path.{◌≡◌, refl, sym, ap, ◌∙◌, subst}
use mathlib.Core.List.{List}
use Prim.Native.Nat.{ℕ, suc, ◌+◌, ◌-◌, ◌*◌, ◌≤◌, ◌<◌}
use native.Mathlib.Nat.{add-zero}
use native.Mathlib.Omega.{arith}
use lib.ListN.{length, get_or, take, drop, length-replicate, get_or-replicate}
use lib.Seq.{paste, length-paste, take_all, drop-drop}
use Rattle.model.specs.Shape.{Shape, TreeOk, places, place}
use Rattle.model.specs.Symbols.{symbol_in, sym_at}
use Rattle.model.specs.Coded.{Digests, Coded}
use Rattle.model.specs.Writer.{block_of, written_marks, BaseOf, code, write_tree, written_root, Written}
use Rattle.model.proofs.Shapes.{place_lt}
use Rattle.model.proofs.Tables.{TableFits}
use Rattle.model.proofs.Flat.{paste_there, take-drop-take, symbols-same, sym_at-length, tree-same}
use Rattle.model.proofs.Coding.{CodedUp, coded_up}
use Rattle.model.proofs.Unique.{coded-same}

-- ---- the marks

-- every mark is 1
pub marks-one : (S : Shape) (d p : ℕ) → p < places S d → get_or (written_marks S d) p 0 ≡ 1
unfolding written_marks
marks-one S d p h = get_or-replicate (places S d) p 1 0 h

pub marks-length : (S : Shape) (d : ℕ) → length (written_marks S d) ≡ places S d
unfolding written_marks
marks-length S d = length-replicate (places S d) 1

-- ---- the tree

-- the block that is read back has the base's data symbols
pub block-symbol : (S : Shape) (d : ℕ) (t : List ℕ) (i : ℕ) → i < S.k (d - 1) → symbol_in (block_of S d t) i ≡ sym_at S t (d - 1) i
unfolding sym_at symbol_in place block_of
block-symbol S d t i h =
    let o : ℕ = 256 * (places S (d - 1) + 0) in
    let at : o + 256 * i ≡ 256 * (places S (d - 1) + i) = omega arith in
    let inside : 256 * i + 256 ≤ 256 * S.k (d - 1) = omega arith in
    take-drop-take 256 (256 * i) (256 * S.k (d - 1)) (drop o t) inside ∙ ap (take 256) (drop-drop (256 * i) o t ∙ ap (λ (n : ℕ). drop n t) at)

-- trees whose bases have the same data symbols give back the same block
block_same : (S : Shape) (d : ℕ) (t u : List ℕ) → ((i : ℕ) → i < S.k (d - 1) → sym_at S t (d - 1) i ≡ sym_at S u (d - 1) i) → block_of S d t ≡ block_of S d u
unfolding block_of place
block_same S d t u h = rw add-zero (symbols-same S t u (d - 1) (S.k (d - 1)) h)

module _ (S : Shape) (sh : TreeOk S) (H : ℕ → ℕ → List ℕ → List ℕ) (digests : Digests H) (tbl : List (List (List ℕ))) (ok : TableFits S tbl) where
  abbrev D : ℕ
  D = length tbl

  module _ (block : List ℕ) (hb : length block ≡ 256 * S.k (D - 1)) (t : List ℕ) (ht : length t ≡ 256 * places S D) where
    abbrev start : List ℕ
    start = paste t (256 * place S (D - 1) 0) block (256 * S.k (D - 1))

    room : 256 * place S (D - 1) 0 + 256 * S.k (D - 1) ≤ length t
    unfolding place
    room = omega (arith, place_lt S D (D - 1) (S.k (D - 1) - 1) (omega (arith, ok.deep)) (omega (arith, sh.shape.within (D - 1), sh.shape.some (D - 1))), sh.shape.some (D - 1))

    done : CodedUp S sh H digests tbl ok (D - 1) start (write_tree S H tbl block t)
    unfolding write_tree
    done =
        let e : suc (D - 1) ≡ D = omega (arith, ok.deep) in
        subst (λ (n : ℕ). CodedUp S sh H digests tbl ok (D - 1) start (code S H tbl n start)) e
        (coded_up S sh H digests tbl ok (D - 1) start (omega (arith, ok.deep)) (length-paste t (256 * place S (D - 1) 0) block (256 * S.k (D - 1)) room (omega arith) ∙ ht))

    written-coded : Coded S H tbl (sym_at S (write_tree S H tbl block t))
    written-coded =
        record {
          sized = λ j i h. sym_at-length S (write_tree S H tbl block t) j i (omega (arith, done.sized, place_lt S D j i h.0 h.1));
          holds = λ j e h k. done.holds j e (omega arith) k;
          stands = λ j i h. done.stands j i (omega (arith, h.0)) h.1;
        }

    start_block : block_of S D start ≡ block
    unfolding block_of
    start_block =
        paste_there t block (256 * place S (D - 1) 0) (256 * S.k (D - 1)) room (omega arith) ∙ take_all (256 * S.k (D - 1)) block (omega arith)

    block_back : block_of S D (write_tree S H tbl block t) ≡ block
    block_back = block_same S D (write_tree S H tbl block t) start done.keep_data ∙ start_block

    -- the base's data symbols are the block's
    written-base : BaseOf S D (sym_at S (write_tree S H tbl block t)) block
    written-base i h = sym (block-symbol S D (write_tree S H tbl block t) i h) ∙ ap (λ (b : List ℕ). symbol_in b i) block_back

    pub written : Written S H tbl block (write_tree S H tbl block t)
    unfolding written_root
    written =
        record {
          sized = done.sized;
          agrees = record { coded = written-coded; rooted = refl };
          only = λ f c b. coded-same S sh H tbl ok (sym_at S (write_tree S H tbl block t)) f written-coded c (λ y h. written-base y h ∙ sym (b y h));
          block_back = block_back;
        }

  -- what the lent buffer held makes no difference
  pub written_same : (block t u : List ℕ) → length block ≡ 256 * S.k (D - 1) → length t ≡ 256 * places S D → length u ≡ 256 * places S D
      → write_tree S H tbl block t ≡ write_tree S H tbl block u
  written_same block t u hb ht hu =
      tree-same S D (write_tree S H tbl block t) (write_tree S H tbl block u) (written block hb t ht).sized (written block hb u hu).sized
      (λ j i h k. (written block hb t ht).only (sym_at S (write_tree S H tbl block u)) (written block hb u hu).agrees.coded (written-base block hb u hu) j i (h, k))
