-- What a change of one symbol leaves as it was: other symbols and marks, complete layers, counts of filled gaps.
use mathlib.Core.Path.{◌≡◌, refl, sym, ap, ap₂, ◌∙◌, subst}
use mathlib.Core.Logic.{◌⊎◌, ◌≢◌}
use mathlib.Core.Bool.{Bool, true, false, not, ◌&&◌, ◌||◌, false≢true}
use mathlib.Core.List.{List}
use Prim.Native.Nat.{ℕ, zero, suc, ◌+◌, ◌-◌, ◌*◌, ◌%◌, ◌≤◌, ◌<◌}
use native.Mathlib.Nat.{add-sub_of_le}
use native.Mathlib.Omega.{arith}
use lib.ListN.{length, get_or, take, drop, set}
use lib.Seq.{drop-drop, get_or-drop, get_or-set_same, get_or-set_other, drop-set-lt}
use lib.Dec.{ltb, eqb}
use borrow.Author.Tests.{eqb-true, eqb-false}
use Rattle.parity_table.specs.Table.{equation_of}
use Rattle.octets.proofs.Choice.{by_test}
use Rattle.model.specs.Shape.{Shape, ShapeOk, place, places}
use Rattle.octets.specs.ByteLists.{same}
use Rattle.model.specs.Symbols.{symbol_in, bit, committed, sym_at, put_at}
use Rattle.model.specs.Repair.{absent_at}
use Rattle.model.specs.Ends.{Within, Stopping, Sized, tally, Complete, gap_at, filled_in, filled, Drained}
use Rattle.model.proofs.Members.{xor_of-same}
use Rattle.model.proofs.Shapes.{places_mono, place_lt, place-differs, up_lt, committed-same}
use Rattle.model.proofs.Tables.{TableLaws}
use Rattle.model.proofs.Counts.{every-none}
use Rattle.model.proofs.Flat.{paste-right, sym_at-length, put_other}

-- ---- what two lists have alike from a place on

pub drop_more : (a b : ℕ) (t u : List ℕ) → a ≤ b → drop a t ≡ drop a u → drop b t ≡ drop b u
drop_more a b t u h e =
    let s : a + (b - a) ≡ b = add-sub_of_le h in
    let cut : (l : List ℕ) → drop b l ≡ drop (b - a) (drop a l) = λ l. ap (λ (n : ℕ). drop n l) (sym s) ∙ sym (drop-drop (b - a) a l) in
    cut t ∙ ap (drop (b - a)) e ∙ sym (cut u)

module _ (S : Shape) (d l i : ℕ) (h : d ≤ l) where
  pub sym_below : (t u : List ℕ) → drop (256 * places S d) t ≡ drop (256 * places S d) u → sym_at S t l i ≡ sym_at S u l i
  unfolding sym_at symbol_in place
  sym_below t u e = ap (take 256) (drop_more (256 * places S d) (256 * (places S l + i)) t u (omega (arith, places_mono S d l h)) e)

  pub byte-below : (m n : List ℕ) → drop (places S d) m ≡ drop (places S d) n → get_or m (place S l i) 0 ≡ get_or n (place S l i) 0
  unfolding place
  byte-below m n e =
      let at : places S d + (places S l + i - places S d) ≡ places S l + i = add-sub_of_le (omega (arith, places_mono S d l h)) in
      let read : (x : List ℕ) → get_or x (places S l + i) 0 ≡ get_or (drop (places S d) x) (places S l + i - places S d) 0 =
      λ x. ap (λ (k : ℕ). get_or x k 0) (sym at) ∙ sym (get_or-drop (places S d) x (places S l + i - places S d) 0) in
      read m ∙ ap (λ (x : List ℕ). get_or x (places S l + i - places S d) 0) e ∙ sym (read n)

  pub mark-below : (m n : List ℕ) → drop (places S d) m ≡ drop (places S d) n → absent_at S m l i ≡ absent_at S n l i
  unfolding absent_at
  mark-below m n e = ap (λ (v : ℕ). not (eqb v 1)) (byte-below m n e)

-- ---- one symbol changed

module _ (S : Shape) (d : ℕ) (t m : List ℕ) (ht : length t ≡ 256 * places S d) (hm : length m ≡ places S d) (j x : ℕ) (hj : j < d) (hx : x < S.n j) where
  pub room : 256 * place S j x + 256 ≤ length t
  room = omega (arith, place_lt S d j x hj hx)

  pub mark-room : place S j x < length m
  mark-room = omega (arith, place_lt S d j x hj hx)

  pub put_keep : (v : List ℕ) → length v ≡ 256 → (l y : ℕ) → y < S.n l → (l ≢ j) ⊎ (y ≢ x) → sym_at S (put_at S t j x v) l y ≡ sym_at S t l y
  put_keep v hv l y hy n = put_other S t j x v room hv l y (place-differs S l y j x hy hx n)

  -- what follows layer j
  pub put_after : (v : List ℕ) → length v ≡ 256 → drop (256 * places S (suc j)) (put_at S t j x v) ≡ drop (256 * places S (suc j)) t
  unfolding put_at place places
  put_after v hv = paste-right t v (256 * place S j x) 256 room (omega arith) (256 * (places S j + S.n j)) (omega arith)

  pub mark-after : (b : ℕ) → drop (places S (suc j)) (set m (place S j x) b) ≡ drop (places S (suc j)) m
  mark-after b = drop-set-lt (places S (suc j)) m (place S j x) b (place_lt S (suc j) j x (omega arith) hx)

  pub byte_keep : (b l y : ℕ) → y < S.n l → (l ≢ j) ⊎ (y ≢ x) → get_or (set m (place S j x) b) (place S l y) 0 ≡ get_or m (place S l y) 0
  byte_keep b l y hy n = get_or-set_other m (place S j x) (place S l y) b 0 (place-differs S l y j x hy hx n)

  pub mark_keep : (b l y : ℕ) → y < S.n l → (l ≢ j) ⊎ (y ≢ x) → absent_at S (set m (place S j x) b) l y ≡ absent_at S m l y
  unfolding absent_at
  mark_keep b l y hy n = ap (λ (v : ℕ). not (eqb v 1)) (get_or-set_other m (place S j x) (place S l y) b 0 (place-differs S l y j x hy hx n))

  pub mark_there : (b : ℕ) → absent_at S (set m (place S j x) b) j x ≡ not (eqb b 1)
  unfolding absent_at
  mark_there b = ap (λ (v : ℕ). not (eqb v 1)) (get_or-set_same m (place S j x) b 0 mark-room)

-- every symbol of a tree of the right length has 256 bytes
pub symbol-sized : (S : Shape) (tbl : List (List (List ℕ))) (t m : List ℕ) → Sized S tbl t m → (l i : ℕ) → l < length tbl → i < S.n l → length (sym_at S t l i) ≡ 256
symbol-sized S tbl t m sz l i hl hi = sym_at-length S t l i (room S (length tbl) t m sz.tree-length sz.marks-length l i hl hi)

-- ---- tallies

tally_cong : (p q : ℕ → Bool) (n : ℕ) → ((i : ℕ) → i < n → p i ≡ q i) → tally p n ≡ tally q n
unfolding tally
tally_cong p q zero h = refl
tally_cong p q (suc n) h = ap₂ (λ (a : Bool) (b : ℕ). bit a + b) (h n (omega arith)) (tally_cong p q n (λ i k. h i (omega arith)))

-- a tally is at most the numbers that it goes through
tally_le : (p : ℕ → Bool) (n : ℕ) → tally p n ≤ n
unfolding tally
tally_le p zero = omega arith
tally_le p (suc n) = by_test (p n) (λ t. omega (arith, ap bit t, tally_le p n)) (λ t. omega (arith, ap bit t, tally_le p n))

pub filled_le : (S : Shape) (H : ℕ → ℕ → List ℕ → List ℕ) (root t₀ m₀ t m : List ℕ) (d : ℕ) → filled S H root t₀ m₀ t m d ≤ places S d
unfolding filled filled_in places
filled_le S H root t₀ m₀ t m zero = omega arith
filled_le S H root t₀ m₀ t m (suc d) = omega (arith, filled_le S H root t₀ m₀ t m d, tally_le (λ i. gap_at S H root t₀ m₀ t d i && not (absent_at S m d i)) (S.n d))

pub tally-none : (p : ℕ → Bool) (n : ℕ) → ((i : ℕ) → i < n → p i ≡ false) → tally p n ≡ 0
unfolding tally
tally-none p zero h = refl
tally-none p (suc n) h = omega (arith, ap bit (h n (omega arith)), tally-none p n (λ i k. h i (omega arith)))

none-tally : (p : ℕ → Bool) (n : ℕ) → tally p n ≡ 0 → (i : ℕ) → i < n → p i ≡ false
unfolding tally
none-tally p zero e i h = absurd (omega arith)
none-tally p (suc n) e i h =
    by_test (p i)
    (λ t. by_test (eqb i n) (λ u. absurd (omega (arith, ap bit (ap p (sym (eqb-true i n u)) ∙ t)))) (λ u. none-tally p n (omega arith) i (omega (arith, eqb-false i n u))))
    (λ t. t)

pub tally-one-more : (p q : ℕ → Bool) (n x : ℕ) → x < n → p x ≡ false → q x ≡ true → ((i : ℕ) → i < n → i ≢ x → q i ≡ p i) → tally q n ≡ suc (tally p n)
unfolding tally
tally-one-more p q zero x h px qx k = absurd (omega arith)
tally-one-more p q (suc n) x h px qx k =
    by_test (eqb n x)
    (λ t. let e : n ≡ x = eqb-true n x t in
    omega (arith, ap bit (ap p e ∙ px), ap bit (ap q e ∙ qx), tally_cong q p n (λ i l. k i (omega arith) (omega arith))))
    (λ t. let ne = eqb-false n x t in
    omega (arith, ap bit (k n (omega arith) ne), tally-one-more p q n x (omega (arith, ne)) px qx (λ i l w. k i (omega arith) w)))

-- counts of filled gaps are the same where each symbol's is
pub filled_cong : (S : Shape) (H : ℕ → ℕ → List ℕ → List ℕ) (root t₀ m₀ t m t₀' m₀' t' m' : List ℕ) (d : ℕ)
    → ((l i : ℕ) → l < d → i < S.n l → (gap_at S H root t₀' m₀' t' l i && not (absent_at S m' l i)) ≡ (gap_at S H root t₀ m₀ t l i && not (absent_at S m l i)))
    → filled S H root t₀' m₀' t' m' d ≡ filled S H root t₀ m₀ t m d
unfolding filled filled_in
filled_cong S H root t₀ m₀ t m t₀' m₀' t' m' zero h = refl
filled_cong S H root t₀ m₀ t m t₀' m₀' t' m' (suc d) h =
    ap₂ (λ (a b : ℕ). a + b)
    (tally_cong _ _ (S.n d) (λ i k. h d i (omega arith) k))
    (filled_cong S H root t₀ m₀ t m t₀' m₀' t' m' d (λ l i k. h l i (omega arith)))

-- no gap is filled where no symbol is a filled gap, and only there
module _ (S : Shape) (H : ℕ → ℕ → List ℕ → List ℕ) (root t₀ m₀ t m : List ℕ) where
  abbrev is_filled : ℕ → ℕ → Bool
  is_filled l i = gap_at S H root t₀ m₀ t l i && not (absent_at S m l i)

  pub filled_none : (d : ℕ) → ((l i : ℕ) → l < d → i < S.n l → is_filled l i ≡ false) → filled S H root t₀ m₀ t m d ≡ 0
  unfolding filled filled_in
  filled_none zero h = refl
  filled_none (suc d) h = omega (arith, tally-none (is_filled d) (S.n d) (λ i k. h d i (omega arith) k), filled_none d (λ l i k. h l i (omega arith)))

  pub none_filled : (d : ℕ) → filled S H root t₀ m₀ t m d ≡ 0 → (l i : ℕ) → l < d → i < S.n l → is_filled l i ≡ false
  unfolding filled filled_in
  none_filled zero e l i hl hi = absurd (omega arith)
  none_filled (suc d) e l i hl hi =
      by_test (eqb l d)
      (λ u. subst (λ (z : ℕ). i < S.n z → is_filled z i ≡ false) (sym (eqb-true l d u)) (none-tally (is_filled d) (S.n d) (omega arith) i) hi)
      (λ u. none_filled d (omega arith) l i (omega (arith, eqb-false l d u)) hi)

module _ (S : Shape) (sh : ShapeOk S) (H : ℕ → ℕ → List ℕ → List ℕ) (root : List ℕ) (tbl : List (List (List ℕ))) (ok : TableLaws S tbl) where
  -- the symbols of layer l and above are the same
  abbrev pub Keeps : List ℕ → List ℕ → ℕ → Type 0
  Keeps t t' l = (k y : ℕ) → k ≤ l → y < S.n k → sym_at S t' k y ≡ sym_at S t k y

  abbrev pub KeepsMarks : List ℕ → List ℕ → ℕ → Type 0
  KeepsMarks m m' l = (y : ℕ) → y < S.n l → absent_at S m' l y ≡ absent_at S m l y

  pub committed_keep : (t t' : List ℕ) (l i : ℕ) → ((k y : ℕ) → suc k ≡ l → y < S.n k → sym_at S t' k y ≡ sym_at S t k y) → committed S root (sym_at S t') l i ≡ committed S root (sym_at S t) l i
  committed_keep t t' l i h = committed-same S root (sym_at S t') (sym_at S t) l i (λ k e. h k (i % S.k k) e (up_lt S sh k i))

  pub hash_keep : (t t' : List ℕ) (l i : ℕ) → Keeps t t' l → i < S.n l → H l i (sym_at S t l i) ≡ committed S root (sym_at S t) l i → H l i (sym_at S t' l i) ≡ committed S root (sym_at S t') l i
  hash_keep t t' l i kp hi e =
      ap (H l i) (kp l i (omega arith) hi) ∙ e ∙ sym (committed_keep t t' l i (λ k y q b. kp k y (omega arith) b))

  pub complete_keep : (t t' m m' : List ℕ) (l : ℕ) → l < length tbl → Keeps t t' l → KeepsMarks m m' l → Complete S H root tbl t m l → Complete S H root tbl t' m' l
  complete_keep t t' m m' l hl kp km c =
      record {
        full = λ i h. km i h ∙ c.full i h;
        hashed = λ i h. hash_keep t t' l i kp h (c.hashed i h);
        holds = λ e h. xor_of-same (sym_at S t' l) (sym_at S t l) (S.n l) (λ x b. kp l x (omega arith) b) (equation_of tbl l e) (ok.within l e hl h) ∙ c.holds e h;
      }

  pub gap_keep : (t₀ m₀ t t' : List ℕ) (l i : ℕ) → ((k y : ℕ) → suc k ≡ l → y < S.n k → sym_at S t' k y ≡ sym_at S t k y) → gap_at S H root t₀ m₀ t' l i ≡ gap_at S H root t₀ m₀ t l i
  unfolding gap_at
  gap_keep t₀ m₀ t t' l i h =
      ap (λ (c : List ℕ). absent_at S m₀ l i || not (same (H l i (sym_at S t₀ l i)) c)) (committed_keep t t' l i h)

  filled_in_keep : (t₀ m₀ t t' m m' : List ℕ) (l : ℕ) → ((k y : ℕ) → suc k ≡ l → y < S.n k → sym_at S t' k y ≡ sym_at S t k y) → KeepsMarks m m' l
      → filled_in S H root t₀ m₀ t' m' l ≡ filled_in S H root t₀ m₀ t m l
  unfolding filled_in
  filled_in_keep t₀ m₀ t t' m m' l kp km =
      tally_cong _ _ (S.n l) (λ i h. ap₂ (λ (a b : Bool). a && not b) (gap_keep t₀ m₀ t t' l i kp) (km i h))

  pub filled_keep : (t₀ m₀ t t' m m' : List ℕ) (d : ℕ) → ((l : ℕ) → l < d → Keeps t t' l) → ((l : ℕ) → l < d → KeepsMarks m m' l)
      → filled S H root t₀ m₀ t' m' d ≡ filled S H root t₀ m₀ t m d
  unfolding filled
  filled_keep t₀ m₀ t t' m m' zero kp km = refl
  filled_keep t₀ m₀ t t' m m' (suc l) kp km =
      ap₂ (λ (a b : ℕ). a + b)
      (filled_in_keep t₀ m₀ t t' m m' l (λ k y e b. kp l (omega arith) k y (omega arith) b) (km l (omega arith)))
      (filled_keep t₀ m₀ t t' m m' l (λ k h. kp k (omega arith)) (λ k h. km k (omega arith)))

  -- a layer is drained where every stopping set within its gaps is empty
  pub drained_if : (t₀ m₀ t : List ℕ) (l : ℕ) → l < length tbl
      → ((s : ℕ → Bool) → Within (S.n l) s (gap_at S H root t₀ m₀ t l) → Stopping S tbl l s → Within (S.n l) s (λ i. false)) → Drained S H root tbl t₀ m₀ t l
  unfolding Stopping
  drained_if t₀ m₀ t l hl empty =
      record {
        inside = λ x h e. absurd (false≢true e);
        stopping = λ e h c. omega (arith, every-none (λ x. ltb x (S.n l)) (λ x. false) (λ x w. refl) (equation_of tbl l e) (ok.within l e hl h));
        contains = empty;
      }

  pub drained_keep : (t₀ m₀ t t' : List ℕ) (l : ℕ) → ((k y : ℕ) → suc k ≡ l → y < S.n k → sym_at S t' k y ≡ sym_at S t k y) → Drained S H root tbl t₀ m₀ t l → Drained S H root tbl t₀ m₀ t' l
  drained_keep t₀ m₀ t t' l h d =
      record {
        inside = λ x k q. gap_keep t₀ m₀ t t' l x h ∙ d.inside x k q;
        stopping = d.stopping;
        contains = λ s w n. d.contains s (λ y k q. sym (gap_keep t₀ m₀ t t' l y h) ∙ w y k q) n;
      }

pub as_absent : (S : Shape) (m m₀ : List ℕ) (l i : ℕ) → get_or m (place S l i) 0 ≡ get_or m₀ (place S l i) 0 → absent_at S m l i ≡ absent_at S m₀ l i
unfolding absent_at
as_absent S m m₀ l i e = ap (λ (v : ℕ). not (eqb v 1)) e
