-- A block coded with the house table of depth 1, and what is printed of it.
use mathlib.Core.Path.{◌≡◌, refl, sym, ap, ◌∙◌}
use mathlib.Core.Bool.{true}
use mathlib.Core.List.{List, []}
use Prim.Native.Nat.{ℕ, ◌*◌}
use native.Mathlib.Omega.{arith}
use lib.ListN.{length, replicate}
use lib.Dec.{eqb}
use borrow.Author.Tests.{eq-eqb, ne_eqb, le-leb}
use Rattle.octets.specs.BigEndian.{bytes_of}
use Rattle.octets.proofs.Choice.{pick_yes, pick_no, yes_and}
use Rattle.parity_table.specs.Shape.{depth_fits, k_of, n_of}
use Rattle.house_table.specs.House.{house_table, house_words, house_answer, house_out}
use Rattle.parity_table.specs.Parse.{table_of}
use Rattle.table_bytes.specs.Bytes.{words_of}
use Rattle.parity_table.specs.Reader.{Whole, Answer as Read}
use Rattle.house_table.proofs.HouseRules.{house-count, house_parsed}
use Rattle.house_table.proofs.HouseParts.{answer-whole}
use Rattle.house_table.proofs.HouseBytes.{house-bytes-words}
use Rattle.model.specs.Shape.{tree, places}
use Rattle.model.specs.Writer.{write_tree}
use Rattle.model.proofs.Filling.{filled-whole}
use Rattle.symbol_hash.specs.SymbolHash.{symbol_hash}
use Rattle.symbol_hash.specs.declared.Kind.TheVariants.{Plain}
use Rattle.calls.specs.Stops.{Answer, Done}
use Rattle.calls.proofs.AdmissionLaws.{admits}
use Rattle.calls.proofs.Taken.{house-taken}
use Rattle.volume_calls.specs.Writing.{TreeLeft, leaves, write_sized, tree_written}
use Rattle.volume_calls.proofs.WritingLaws.{answer-is, when_done}
use Rattle.listing.specs.Listing.{listing, coded, printed}

fits : depth_fits 1 ≡ true
unfolding depth_fits
fits = refl

abbrev house : List ℕ
house = bytes_of (house_words 1)

-- the writer of the house table writes it
pub house-done : (a : Read) (lent : List ℕ) → length lent ≡ 244 → a ≡ house_answer 1 (length lent) (length (house_words 1) * 4) → a ≡ Whole
house-done a lent l ea = ea ∙ sym (answer-whole 1 (length lent) (length (house_words 1) * 4) fits (omega (arith, house-count 1)))

pub house-written : (a : Read) (lent table : List ℕ) → length lent ≡ 244 → a ≡ house_answer 1 (length lent) (length (house_words 1) * 4)
    → table ≡ house_out a house lent → table ≡ house
house-written a lent table l ea et = et ∙ ap (λ (r : Read). house_out r house lent) (house-done a lent l ea)

-- its bytes say the house table
said : table_of (words_of house) ≡ house_table 1
said = ap table_of (house-bytes-words 1 (omega arith)) ∙ house_parsed 1 (omega arith)

-- the buffers of a tree, as they are lent
abbrev lent : ℕ → List ℕ
lent n = replicate n 0

-- an input of another length than 1,024
pub printed_nothing : (b : List ℕ) → (length b ≡ 1024 → ⊥) → [] ≡ printed b
unfolding printed
printed_nothing b n = sym (pick_no (eqb (length b) 1024) (listing (coded b)) [] (ne_eqb (length b) 1024 n))

module _ (table b : List ℕ) (et : table ≡ house) (sized : length b ≡ 1024) where
  abbrev written : TreeLeft Answer
  written = tree_written 1 Plain table b (lent 4096) (lent 16) (lent 556)

  full : length b ≡ 256 * k_of 0
  unfolding k_of
  full = sized

  -- a block of this length is coded
  answered : written.answer ≡ Done
  unfolding k_of n_of places
  answered =
      ap (λ (x : List ℕ). (tree_written 1 Plain x b (lent 4096) (lent 16) (lent 556)).answer) et
      ∙ answer-is 1 Plain house b (lent 4096) (lent 16) (lent 556)
      ∙ sym (admits 1 (write_sized 1 (length b) (length (lent 4096)) (length (lent 16)) (length (lent 556))) house (house-taken 1 fits)
      (yes_and (le-leb (length b) 1024 (omega arith)) refl))

  -- what the call answers, and the tree that it leaves
  module _ (a : Answer) (t m r : List ℕ) (e : leaves a t m r ≡ written) where
    pub printed-block : listing t ≡ printed b
    unfolding printed coded
    printed-block =
        ap listing
        (ap (λ (w : TreeLeft Answer). w.tree) (e ∙ when_done 1 Plain table b (lent 4096) (lent 16) (lent 556) answered)
        ∙ ap (λ (x : List ℕ). write_tree tree (symbol_hash Plain) (table_of (words_of table)) x (lent 4096)) (filled-whole tree 1 b full)
        ∙ ap (λ (x : List ℕ). write_tree tree (symbol_hash Plain) (table_of (words_of x)) b (lent 4096)) et
        ∙ ap (λ (tbl : List (List (List ℕ))). write_tree tree (symbol_hash Plain) tbl b (lent 4096)) said)
        ∙ sym (pick_yes (eqb (length b) 1024) (listing (coded b)) [] (eq-eqb (length b) 1024 sized))

    pub block-done : a ≡ Done
    block-done = ap (λ (w : TreeLeft Answer). w.answer) e ∙ answered
