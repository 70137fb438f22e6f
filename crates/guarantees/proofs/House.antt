-- The words of a table's bytes, and the house table by its formula.
use mathlib.Core.Path.{◌≡◌, sym, ap, ◌∙◌, subst}
use mathlib.Core.Logic.{◌⊎◌, inl, inr, ⊎_elim}
use mathlib.Core.List.{List, [], ◌∷◌, ◌++◌}
use Prim.Native.Nat.{ℕ, zero, suc, ◌+◌, ◌*◌, ◌/◌, ◌%◌, ◌<◌, min, max}
use native.Mathlib.Omega.{arith}
use native.Mathlib.Decide.{dec_lt}
use lib.ListN.{length, get_or, get_or-append}
use lib.Seq.{get_or-append-add}
use Rattle.octets.specs.BigEndian.{word_at, words}
use Rattle.octets.proofs.Bytes.{length-words}
use Rattle.parity_table.specs.Shape.{k_of}
use Rattle.parity_table.specs.Table.{layer_of, equation_of}
use Rattle.table_bytes.specs.Bytes.{words_of}
use Rattle.house_table.specs.House.{house_equation, house_table, house_words}
use Rattle.table_bytes.proofs.ByteForm.{words_of-length}
use Rattle.house_table.proofs.HouseRules.{house-rules, house-members}
use Rattle.parity_table.proofs.Parse.{formed-rules, formed-words}
use Rattle.house_table.proofs.HouseBytes.{house-bytes-words}
use Rattle.guarantees.specs.Tables.{IsMember}
use Rattle.parity_table.specs.Parse.{table_of}
use Rattle.guarantees.specs.House.{WordsOf, HouseMember, HouseTable}
use Rattle.guarantees.proofs.Layouts.{word_at_lem}
use Rattle.guarantees.proofs.Tables.{ok_rules, listed-words, right-formed}

-- ---- words

word_in : (b : List ℕ) (n w : ℕ) → w < n → get_or (words b n) w 0 ≡ word_at b (w * 4)
unfolding words
word_in b zero w h = absurd (omega arith)
word_in b (suc n) w h =
    elim (dec_lt w n) [
      | yes l ↦ get_or-append (words b n) (word_at b (n * 4) ∷ []) 0 w (omega (arith, length-words b n)) ∙ word_in b n w l
      | no l ↦
          let e : w ≡ length (words b n) + 0 = omega (arith, length-words b n) in
          ap (λ (i : ℕ). get_or (words b n ++ (word_at b (n * 4) ∷ [])) i 0) e
          ∙ get_or-append-add (words b n) (word_at b (n * 4) ∷ []) 0 0
          ∙ ap (λ (i : ℕ). word_at b (i * 4)) (omega arith)
    ]

words_of_lem : (b : List ℕ) → WordsOf b
unfolding words_of
words_of_lem b = record {
  count = words_of-length b;
  word = λ w h. word_in b (length b / 4) w h ∙ ap (word_at b) (omega arith) ∙ sym (word_at_lem b w);
}

-- ---- the house table

-- the lower and the higher of two numbers are the two
low_high : (a b : ℕ) → ((min a b ≡ a) × (max a b ≡ b)) ⊎ ((min a b ≡ b) × (max a b ≡ a))
low_high a b = elim (dec_lt a b) [ yes h ↦ inl (omega arith, omega arith) | no h ↦ inr (omega arith, omega arith) ]

module _ (k : ℕ) where
  abbrev a : ℕ → ℕ
  a e = e % k

  abbrev b : ℕ → ℕ
  b e = (e + 1 + e / k) % k

  -- the first two members
  data_said : (e x : ℕ) → (x ≡ min (a e) (b e)) ⊎ (x ≡ max (a e) (b e)) → HouseMember k e x
  data_said e x h =
      ⊎_elim (λ p. ⊎_elim (λ q. inl (q ∙ p.0)) (λ q. inr (inl (q ∙ p.1))) h) (λ p. ⊎_elim (λ q. inr (inl (q ∙ p.0))) (λ q. inl (q ∙ p.1)) h)
      (low_high (a e) (b e))

  member_said : (e x : ℕ) → IsMember x (house_equation k e) → HouseMember k e x
  unfolding house_equation
  member_said zero x (zero, h, q) = data_said 0 x (inl (sym q))
  member_said zero x (suc zero, h, q) = data_said 0 x (inr (sym q))
  member_said zero x (suc (suc zero), h, q) = inr (inr (inr (sym q)))
  member_said zero x (suc (suc (suc n)), h, q) = absurd (omega arith)
  member_said (suc e) x (zero, h, q) = data_said (suc e) x (inl (sym q))
  member_said (suc e) x (suc zero, h, q) = data_said (suc e) x (inr (sym q))
  member_said (suc e) x (suc (suc zero), h, q) = inr (inr (inl (omega arith, omega arith)))
  member_said (suc e) x (suc (suc (suc zero)), h, q) = inr (inr (inr (sym q)))
  member_said (suc e) x (suc (suc (suc (suc n))), h, q) = absurd (omega arith)

  said_member : (e x : ℕ) → HouseMember k e x → IsMember x (house_equation k e)
  unfolding house_equation
  said_member e x (inl p) = ⊎_elim (λ q. (0, omega arith, q.0 ∙ sym p)) (λ q. (1, omega arith, q.1 ∙ sym p)) (low_high (a e) (b e))
  said_member e x (inr (inl p)) = ⊎_elim (λ q. (1, omega arith, q.1 ∙ sym p)) (λ q. (0, omega arith, q.0 ∙ sym p)) (low_high (a e) (b e))
  said_member zero x (inr (inr (inl (h, p)))) = absurd (omega arith)
  said_member (suc e) x (inr (inr (inl (h, p)))) = (2, omega arith, omega arith)
  said_member zero x (inr (inr (inr p))) = (2, omega arith, sym p)
  said_member (suc e) x (inr (inr (inr p))) = (3, omega arith, sym p)

pub house-table : HouseTable
unfolding house_words layer_of equation_of k_of
house-table =
    record {
      words_of_lem = words_of_lem;
      equations_of_lem = λ d ws (some, few) r.
          let f = right-formed d ws r in (
            ok_rules d (table_of ws) (formed-rules d ws f few),
            formed-words d ws f few ∙ sym (listed-words (table_of ws)),
          );
      by_rules = λ d. ok_rules d (house_table d) (house-rules d);
      members-are = λ d j e x hj he.
          let same = house-members d j e hj he in
          (λ m. member_said (k_of j) e x (subst (IsMember x) same m), λ h. subst (IsMember x) (sym same) (said_member (k_of j) e x h));
      words_are = λ d. sym (listed-words (house_table d));
      bytes-are = λ d few. house-bytes-words d few ∙ sym (listed-words (house_table d));
    }
