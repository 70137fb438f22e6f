-- 02, CR 7: "Same bytes at another place, and recoding of old volumes."
use mathlib.Core.Path.{◌≡◌, refl, sym, ap, ap₂, ◌∙◌}
use mathlib.Core.Logic.{◌≢◌, inr, ⊎_elim}
use mathlib.Core.Bool.{◌&&◌}
use mathlib.Core.List.{List, [], ◌∷◌, ◌++◌}
use Prim.Native.Nat.{ℕ, suc, ◌+◌, ◌-◌, ◌*◌, ◌/◌, ◌%◌, ◌^◌, ◌≤◌, ◌<◌}
use native.Mathlib.Omega.{arith}
use lib.ListN.{length, take, drop, get_or, length-drop}
use lib.Seq.{length-take-le}
use lib.Dec.{leb, eqb}
use lib.Pow.{pow_mono}
use borrow.Author.Tests.{leb-true, ne_eqb}
use Rattle.octets.specs.Choice.{pick}
use Rattle.octets.proofs.Choice.{by_test, pick_no}
use Rattle.sha256.specs.Hash.{sha256}
use Rattle.table_bytes.specs.Bytes.{words_of, length_fits}
use Rattle.symbol_hash.specs.declared.Kind.{Kind}
use Rattle.symbol_hash.specs.declared.Kind.TheVariants.{Placed}
use Rattle.root_record.specs.Records.{kind_number, kind_in}
use Rattle.root_record.proofs.RecordLaws.{number_small, kind_back}
use Rattle.calls.specs.declared.Stop.TheVariants.{Record}
use Rattle.calls.specs.Stops.{Done, Stopped}
use Rattle.calls.specs.Tests.{◌then◌, opened, words_tested}
use Rattle.calls.proofs.TestLaws.{stopped_not, then_done}
use Rattle.sample_calls.specs.Checking.{sample_checked}
use Rattle.volume_calls.specs.Writing.{write_sized, tree_written, test_kind, tree_written_by}
use Rattle.volume_calls.proofs.WritingLaws.{as_kind}
use Rattle.guarantees.specs.Layouts.{bytes_from, symbol_no, all_symbols, hash_for, word_bytes, kind_value, kind_no}
use Rattle.guarantees.specs.Trees.{place_bytes, hash_by, AgreesWith}
use Rattle.guarantees.specs.Refusals.{DepthRight}
use Rattle.guarantees.specs.Demand2.{SampleRight}
use Rattle.guarantees.specs.Terms.{equations_of}
use Rattle.guarantees.specs.Change7.{Hashes, MessagesCollide, TwoPlaces, base_hash, Places, KindsCollide, OneKind, Told, Change7}
use Rattle.guarantees.proofs.Records.{bits_are}
use Rattle.guarantees.proofs.Trees.{hash_of}
use Rattle.guarantees.proofs.Pages.{tree-hash}
use Rattle.guarantees.proofs.Demand2.{after-bits, demand_2}
use Rattle.guarantees.proofs.Change5.{first_kind}
use Rattle.guarantees.proofs.Recoding.{recoder}

-- ---- the hash of a symbol

place-word : (j i : ℕ) → j < 64 → i < 2 ^ 24 → place_bytes j i ≡ word_bytes (kind_value 1 (j * 2 ^ 24 + i))
place-word j i hj hi =
    let x : ℕ = kind_value 1 (j * 2 ^ 24 + i) in
    let a : 64 + j % 64 ≡ x / 2 ^ 24 % 256 = omega arith in
    let b : i / 2 ^ 16 % 256 ≡ x / 2 ^ 16 % 256 = omega arith in
    let c : i / 2 ^ 8 % 256 ≡ x / 2 ^ 8 % 256 = omega arith in
    let e : i % 256 ≡ x % 256 = omega arith in
    ap (λ (n : ℕ). n ∷ i / 2 ^ 16 % 256 ∷ i / 2 ^ 8 % 256 ∷ i % 256 ∷ []) a
    ∙ ap (λ (n : ℕ). x / 2 ^ 24 % 256 ∷ n ∷ i / 2 ^ 8 % 256 ∷ i % 256 ∷ []) b
    ∙ ap (λ (n : ℕ). x / 2 ^ 24 % 256 ∷ x / 2 ^ 16 % 256 ∷ n ∷ i % 256 ∷ []) c
    ∙ ap (λ (n : ℕ). x / 2 ^ 24 % 256 ∷ x / 2 ^ 16 % 256 ∷ x / 2 ^ 8 % 256 ∷ n ∷ []) e

placed : (j i : ℕ) (s : List ℕ) → hash_by 0 j i s ≡ sha256 (place_bytes j i ++ s)
unfolding hash_by pick
placed j i s = refl

plain : (k j i : ℕ) (s : List ℕ) → k ≡ 1 → hash_by k j i s ≡ sha256 s
unfolding hash_by
plain k j i s e = pick_no (eqb k 0) _ _ (ne_eqb k 0 (λ z. omega arith))

in_tree : (d j i : ℕ) → DepthRight d → j < d → i < all_symbols j → (j < 64) × (i < 2 ^ 24)
in_tree d j i deep hj hi =
    let p : 2 ^ j ≤ 2 ^ 9 = pow_mono {i = j} {j = 9} (omega (arith, deep)) in (omega (arith, deep), omega arith)

hashes : Hashes
hashes =
    record {
      placed = λ j i s hj hi. placed j i s ∙ ap (λ (w : List ℕ). sha256 (w ++ s)) (place-word j i hj hi);
      in_tree = in_tree;
      plain = λ r e j i s. plain _ j i s e;
      by_kind = λ kind j i s. sym (ap (λ (h : ℕ → ℕ → List ℕ → List ℕ). h j i s) (hash_of kind));
    }

-- ---- places

-- three bytes of a number
three_bytes : (i : ℕ) → i < 2 ^ 24 → i ≡ i / 2 ^ 16 % 256 * 2 ^ 16 + i / 2 ^ 8 % 256 * 2 ^ 8 + i % 256
three_bytes i h = omega arith

-- the bytes of a place, in front of a symbol, tell the place
same_place : (j i l n : ℕ) (s u : List ℕ) → j < 64 → l < 64 → i < 2 ^ 24 → n < 2 ^ 24 → take 4 (place_bytes j i ++ s) ≡ take 4 (place_bytes l n ++ u)
    → (j ≡ l) × (i ≡ n)
same_place j i l n s u hj hl hi hn e =
    let byte : (p : ℕ) → get_or (take 4 (place_bytes j i ++ s)) p 0 ≡ get_or (take 4 (place_bytes l n ++ u)) p 0 = λ p. ap (λ (b : List ℕ). get_or b p 0) e in
    let a : 64 + j % 64 ≡ 64 + l % 64 = byte 0 in
    let b : i / 2 ^ 16 % 256 ≡ n / 2 ^ 16 % 256 = byte 1 in
    let c : i / 2 ^ 8 % 256 ≡ n / 2 ^ 8 % 256 = byte 2 in
    let f : i % 256 ≡ n % 256 = byte 3 in (
      sixes j l hj hl a,
      three_bytes i hi ∙ ap₂ (λ (x y : ℕ). x * 2 ^ 16 + y * 2 ^ 8 + i % 256) b c ∙ ap (λ (x : ℕ). n / 2 ^ 16 % 256 * 2 ^ 16 + n / 2 ^ 8 % 256 * 2 ^ 8 + x) f
          ∙ sym (three_bytes n hn),
    )
  where
    sixes : (j l : ℕ) → j < 64 → l < 64 → 64 + j % 64 ≡ 64 + l % 64 → j ≡ l
    sixes j l hj hl e = omega arith

hashes-differ : (d j i l n : ℕ) (s u : List ℕ) → TwoPlaces d j i l n → hash_by 0 j i s ≡ hash_by 0 l n u
    → MessagesCollide (place_bytes j i ++ s) (place_bytes l n ++ u)
hashes-differ d j i l n s u k e =
    let (hj, hi) = in_tree d j i k.depth-right k.first.0 k.first.1 in
    let (hl, hn) = in_tree d l n k.depth-right k.second.0 k.second.1 in
    record {
      differ = λ q. let (a, b) = same_place j i l n s u hj hl hi hn q in ⊎_elim (λ x. x a) (λ x. x b) k.apart;
      equal = sym (placed j i s) ∙ e ∙ placed l n u;
    }

committed-differ : (d : ℕ) (tbl : List (List (List ℕ))) (root : List ℕ) (f : ℕ → ℕ → List ℕ) → AgreesWith (hash_by 0) d tbl root f
    → (j i l n : ℕ) → TwoPlaces d j i l n → hash_for root f j i ≡ hash_for root f l n → MessagesCollide (place_bytes j i ++ f j i) (place_bytes l n ++ f l n)
committed-differ d tbl root f agr j i l n k e =
    hashes-differ d j i l n (f j i) (f l n) k
    (tree-hash (hash_by 0) d tbl root f agr j i k.first.0 k.first.1 ∙ e ∙ sym (tree-hash (hash_by 0) d tbl root f agr l n k.second.0 k.second.1))

-- a sample that is accepted has the base symbol's hash
base-fits : (d i k : ℕ) (r s : List ℕ) → kind_no r 0 ≡ k → SampleRight d i r s → hash_by k (d - 1) i (symbol_no s 0) ≡ base_hash d i r s
base-fits d i k r s e a = ap (λ (q : ℕ). hash_by q (d - 1) i (symbol_no s 0)) (sym e) ∙ a.all_lead_lem.base

right : (d i : ℕ) (r s : List ℕ) → sample_checked d i r s ≡ Done → SampleRight d i r s
right d i r s e = (demand_2.accepts_just_when d i r s).0 e

samples_differ : (d i n : ℕ) (r s u : List ℕ) → kind_no r 0 ≡ 0 → sample_checked d i r s ≡ Done → sample_checked d n r u ≡ Done → i ≢ n
    → base_hash d i r s ≡ base_hash d n r u → MessagesCollide (place_bytes (d - 1) i ++ symbol_no s 0) (place_bytes (d - 1) n ++ symbol_no u 0)
samples_differ d i n r s u kind first second apart e =
    let a = right d i r s first in
    let b = right d n r u second in
    let base : d - 1 < d = omega (arith, a.ready.depth-right) in
    hashes-differ d (d - 1) i (d - 1) n (symbol_no s 0) (symbol_no u 0)
    (record { depth-right = a.ready.depth-right; first = (base, a.ready.in_base); second = (base, b.ready.in_base); apart = inr apart })
    (base-fits d i 0 r s kind a ∙ e ∙ sym (base-fits d n 0 r u kind b))

places : Places
places =
    record {
      hashes-differ = hashes-differ;
      committed-differ = committed-differ;
      written-differ = λ d table block t m r e. committed-differ d (equations_of table) _ _ (demand_2.writes_exactly d Placed table block t m r e).agrees;
      samples_differ = samples_differ;
      plain-same = λ j i l n s. plain 1 j i s refl ∙ sym (plain 1 l n s refl);
    }

-- ---- one kind

kinds-collide : (j i : ℕ) (s u : List ℕ) → length s ≡ 256 → length u ≡ 256 → hash_by 0 j i s ≡ hash_by 1 j i u → KindsCollide (place_bytes j i ++ s) u
kinds-collide j i s u hs hu e =
    record { lengths = (ap (λ (n : ℕ). suc (suc (suc (suc n)))) hs, hu); equal = sym (placed j i s) ∙ e ∙ plain 1 j i u refl }

-- the base symbol of a sample of the right length
base-full : (d : ℕ) (s : List ℕ) → 1 ≤ d → length s ≡ 256 * (2 * d - 1) → length (symbol_no s 0) ≡ 256
unfolding bytes_from
base-full d s h e = length-take-le 256 (drop (256 * 0) s) (omega (arith, length-drop (256 * 0) s))

one_kind : OneKind
one_kind =
    record {
      of_trees = λ d e tbl tbl' root f g deep deep' a b i h.
          kinds-collide 0 i (f 0 i) (g 0 i) (a.correctly_coded.sized 0 i (omega (arith, deep)) h) (b.correctly_coded.sized 0 i (omega (arith, deep')) h)
          (sym (a.root_of_lem.hashes i h) ∙ b.root_of_lem.hashes i h);
      of_samples = λ d i r r' s k k' e first second.
          let a = right d i r s first in
          let b = right d i r' s second in
          let full = base-full d s a.ready.depth-right.0 a.ready.sample-length in
          kinds-collide (d - 1) i (symbol_no s 0) (symbol_no s 0) full full
          (base-fits d i 0 r s k a ∙ ap (λ (root : List ℕ). hash_for root (λ j m. symbol_no s (2 * (d - 1 - j) - 1)) (d - 1) i) e ∙ sym (base-fits d i 1 r' s k' b));
    }

-- ---- the writer's kind

kind_low : (number : ℕ) → test_kind number ≡ Done → number ≤ 1
unfolding test_kind
kind_low number e = by_test (leb number 1) (λ t. leb-true number 1 t) (λ t. absurd (stopped_not Record (sym (pick_no (leb number 1) Done (Stopped Record) t) ∙ e)))

told : Told
unfolding tree_written_by
told =
    record {
      makes = λ d kind table block t m r e. after-bits d kind table block t m r e;
      by_number = λ d kind table block t m r.
          ap (λ (n : ℕ). tree_written_by d n table block t m r) (bits_are kind)
          ∙ sym (as_kind d (kind_number kind) table block t m r (number_small kind))
          ∙ ap (λ (k : Kind). tree_written d k table block t m r) (kind_back kind);
      no_other = λ d number table block t m r e.
          kind_low number
          (then_done (test_kind number) (words_tested d (words_of table))
          (then_done (opened d (write_sized d (length block) (length t) (length m) (length r) && length_fits (length table))) (test_kind number then words_tested d (words_of table)) e).1
          ).0;
      read = λ d r h. bits_are (kind_in r) ∙ first_kind d r h;
    }

pub change_7 : Change7
change_7 = record { hashes = hashes; places = places; one_kind = one_kind; told = told; recoder = recoder }
