-- What holds at each end of a repair: 01, "Repair", and demand 3. Statements only.
use Rattle.std.specs.Prelude.{◌≡◌, ◌⊎◌, ◌≢◌, Bool, true, false, not, ◌&&◌, ◌||◌, List, ℕ, zero, suc, ◌+◌, ◌*◌, ◌≤◌, ◌<◌, length, get_or, take, drop, eqb}
use Rattle.parity_table.specs.Members.{last_of}
use Rattle.parity_table.specs.Table.{layer_of, equation_of}
use Rattle.model.specs.Shape.{Shape, place, places}
use Rattle.octets.specs.ByteLists.{same}
use Rattle.model.specs.Symbols.{bit, count, first_of, others, xor_of, zeros, symbol_in, committed, sym_at}
use Rattle.model.specs.Coded.{Agrees}
use Rattle.model.specs.Fault.{proof_bytes, proof_length, accepted, verdict}
use Rattle.model.specs.Repair.{End, working, whole, fault, unavailable, twins, St, absent_at, repair}

-- ---- sets of symbols of a layer with n symbols, as tests of the numbers below n

abbrev pub Within : ℕ → (ℕ → Bool) → (ℕ → Bool) → Type 0
Within n s g = (x : ℕ) → x < n → s x ≡ true → g x ≡ true

module _ (S : Shape) (tbl : List (List (List ℕ))) where
  -- a stopping set of layer j: "no equation meets [it] exactly once"
  unfoldable pub Stopping : ℕ → (ℕ → Bool) → Type 0
  Stopping j s = (e : ℕ) → e < length (layer_of tbl j) → count s (equation_of tbl j e) ≢ 1

  -- s is the largest stopping set within g
  pub record Largest (j : ℕ) (g s : ℕ → Bool) : Type 0 where
    pub inside : Within (S.n j) s g
    pub stopping : Stopping j s
    pub contains : (u : ℕ → Bool) → Within (S.n j) u g → Stopping j u → Within (S.n j) u s

  -- the lengths of the lent tree and marks
  pub record Sized (t m : List ℕ) : Type 0 where
    pub tree-length : length t ≡ 256 * places S (length tbl)
    pub marks-length : length m ≡ places S (length tbl)

-- how many numbers below n pass the test
unfoldable pub tally : (ℕ → Bool) → ℕ → ℕ
tally p zero = 0
tally p (suc n) = bit (p n) + tally p n

module _ (S : Shape) (H : ℕ → ℕ → List ℕ → List ℕ) (root : List ℕ) where
  -- The gaps of layer l: "the places lent with mark 0 or with a symbol of another hash than the committed one". t₀ and m₀ were lent; the committed hash is
  -- the one that the root, or the layer above as the call leaves it in t, has.
  unfoldable pub gap_at : List ℕ → List ℕ → List ℕ → ℕ → ℕ → Bool
  gap_at t₀ m₀ t l i = absent_at S m₀ l i || not (same (H l i (sym_at S t₀ l i)) (committed S root (sym_at S t) l i))

  -- the gaps of layer l that are now held, and those of the d topmost layers
  unfoldable pub filled_in : List ℕ → List ℕ → List ℕ → List ℕ → ℕ → ℕ
  filled_in t₀ m₀ t m l = tally (λ i. gap_at t₀ m₀ t l i && not (absent_at S m l i)) (S.n l)

  unfoldable pub filled : List ℕ → List ℕ → List ℕ → List ℕ → ℕ → ℕ
  filled t₀ m₀ t m zero = 0
  filled t₀ m₀ t m (suc l) = filled_in t₀ m₀ t m l + filled t₀ m₀ t m l

module _ (S : Shape) (tbl : List (List (List ℕ))) (t : List ℕ) (j : ℕ) where
  -- equation e is used, or can't be taken, where the symbols a are absent: it is complete and holds, or has more than one absent member
  abbrev pub Passed : (ℕ → Bool) → ℕ → Type 0
  Passed a e = ((count a (equation_of tbl j e) ≡ 0) × (xor_of (sym_at S t j) (equation_of tbl j e) ≡ zeros)) ⊎ (2 ≤ count a (equation_of tbl j e))

  -- layer j is closed: none of its equations can be taken any more
  abbrev pub Closed : (ℕ → Bool) → Type 0
  Closed a = (e : ℕ) → e < length (layer_of tbl j) → Passed a e

-- (b) as it went: from the gaps g to the symbols that are absent now, one stored after the other, each given by "the lowest unused equation with at most
-- one absent member". A symbol that is held doesn't change any more, so t is the tree as it is now.
pub data Peels (S : Shape) (tbl : List (List (List ℕ))) (t : List ℕ) (j : ℕ) (g : ℕ → Bool) : (ℕ → Bool) → Type 0 where
  none-stored : {a : ℕ → Bool} → ((x : ℕ) → x < S.n j → a x ≡ g x) → Peels S tbl t j g a
  stores : {a b : ℕ → Bool} → Peels S tbl t j g a → (e x : ℕ) → e < length (layer_of tbl j) → count a (equation_of tbl j e) ≡ 1
      → x ≡ first_of a (equation_of tbl j e) → xor_of (sym_at S t j) (equation_of tbl j e) ≡ zeros → ((q : ℕ) → q < e → Passed S tbl t j a q)
      → ((y : ℕ) → y < S.n j → b y ≡ (a y && not (eqb y x))) → Peels S tbl t j g b

-- the output buffer o has room for every fault proof that an equation of the table can demand, and for twins
pub record Roomy (tbl : List (List (List ℕ))) (o : List ℕ) : Type 0 where
  pub proofs : (j e : ℕ) → j < length tbl → e < length (layer_of tbl j) → proof_length j (length (equation_of tbl j e)) ≤ length o
  pub twins : 512 ≤ length o

-- a repair of the tree t with the marks m ended whole, stored nothing, and left both as they were
pub record Unchanged (t m : List ℕ) (st : St) : Type 0 where
  pub ends-whole : st.end ≡ whole
  pub none-stored : st.stored ≡ 0
  pub tree-kept : st.tree ≡ t
  pub marks-kept : st.marks ≡ m

module _ (S : Shape) (H : ℕ → ℕ → List ℕ → List ℕ) (root : List ℕ) (tbl : List (List (List ℕ))) where
  -- layer l is complete, "all its equations holding"
  pub record Complete (t m : List ℕ) (l : ℕ) : Type 0 where
    pub full : (i : ℕ) → i < S.n l → absent_at S m l i ≡ false
    pub hashed : (i : ℕ) → i < S.n l → H l i (sym_at S t l i) ≡ committed S root (sym_at S t) l i
    pub holds : (e : ℕ) → e < length (layer_of tbl l) → xor_of (sym_at S t l) (equation_of tbl l e) ≡ zeros

  -- every layer is complete
  abbrev pub Intact : List ℕ → List ℕ → Type 0
  Intact t m = (l : ℕ) → l < length tbl → Complete t m l

  -- only the empty set is a stopping set within the gaps of layer l
  abbrev pub Drained : List ℕ → List ℕ → List ℕ → ℕ → Type 0
  Drained t₀ m₀ t l = Largest S tbl l (gap_at S H root t₀ m₀ t l) (λ i. false)

  -- how each layer that was entered was peeled
  abbrev pub PeeledAll : List ℕ → List ℕ → St → Type 0
  PeeledAll t₀ m₀ st = (l : ℕ) → l < st.entered → Peels S tbl st.tree l (gap_at S H root t₀ m₀ st.tree l) (absent_at S st.marks l)

  -- what holds at every end, with d layers entered and n symbols stored
  pub record Always (t₀ m₀ t m : List ℕ) (n d : ℕ) : Type 0 where
    pub in_depth : d ≤ length tbl
    pub sized : Sized S tbl t m
    -- "Layers below the last one entered are not touched."
    pub untouched : drop (256 * places S d) t ≡ drop (256 * places S d) t₀
    pub unmarked : drop (places S d) m ≡ drop (places S d) m₀
    -- the number stored "equals the gaps of entered layers now marked 1"
    pub counted : n ≡ filled S H root t₀ m₀ t m d
    -- "every layer above the last one entered is complete"
    pub above : (l : ℕ) → suc l < d → Complete t m l
    pub drained : (l : ℕ) → suc l < d → Drained t₀ m₀ t l
    -- "each symbol then marked held in an entered layer has the committed hash"
    pub held : (l i : ℕ) → l < d → i < S.n l → absent_at S m l i ≡ false → H l i (sym_at S t l i) ≡ committed S root (sym_at S t) l i
    -- what is no gap stays, and what is absent is zero
    pub kept : (l i : ℕ) → l < d → i < S.n l → gap_at S H root t₀ m₀ t l i ≡ false → (absent_at S m l i ≡ false) × (sym_at S t l i ≡ sym_at S t₀ l i)
    pub cleared : (l i : ℕ) → l < d → i < S.n l → absent_at S m l i ≡ true → (get_or m (place S l i) 0 ≡ 0) × (sym_at S t l i ≡ zeros)

  -- "every symbol marked held in a correctly coded tree that agrees"
  pub record WholeEnd (t₀ m₀ o₀ : List ℕ) (st : St) : Type 0 where
    pub last : st.entered ≡ length tbl
    pub all_held : (l i : ℕ) → l < length tbl → i < S.n l → absent_at S st.marks l i ≡ false
    pub agrees : Agrees S H tbl root (sym_at S st.tree)
    pub drained : (l : ℕ) → l < length tbl → Drained t₀ m₀ st.tree l
    pub out-kept : st.out ≡ o₀

  -- "the lowest unused equation with at most one absent member", and the member that is withheld: "One absent: form it from the others"; "None absent
  -- and the equation fails: withhold the last member"
  pub record Taken (t m : List ℕ) (j e x : ℕ) : Type 0 where
    pub in_table : e < length (layer_of tbl j)
    pub lower : (q : ℕ) → q < e → Passed S tbl t j (absent_at S m j) q
    pub withheld : ((count (absent_at S m j) (equation_of tbl j e) ≡ 1) × (x ≡ first_of (absent_at S m j) (equation_of tbl j e)))
        ⊎ ((count (absent_at S m j) (equation_of tbl j e) ≡ 0) × (x ≡ last_of (equation_of tbl j e) 0) × (xor_of (sym_at S t j) (equation_of tbl j e) ≢ zeros))

  -- "a fault proof that the checker accepts": n bytes from the start of the output buffer, of layer j, equation e, withholding x
  pub record FaultEnd (o₀ : List ℕ) (j e x n : ℕ) (st : St) : Type 0 where
    pub last : st.entered ≡ suc j
    pub taken : Taken st.tree st.marks j e x
    pub proof : take n st.out ≡ proof_bytes S (sym_at S st.tree) j e x (equation_of tbl j e)
    pub room : n ≤ length o₀
    pub sized : length (take n st.out) ≡ n
    pub accepts : verdict S H root tbl (take n st.out) ≡ accepted
    pub out-rest : drop n st.out ≡ drop n o₀

  -- "the missing symbols of the first incomplete layer, which are the largest set within its gaps that no equation meets exactly once"
  pub record UnavailableEnd (t₀ m₀ o₀ : List ℕ) (j : ℕ) (st : St) : Type 0 where
    pub last : st.entered ≡ suc j
    pub missing : (i : ℕ) × (i < S.n j) × (absent_at S st.marks j i ≡ true)
    pub largest : Largest S tbl j (gap_at S H root t₀ m₀ st.tree j) (absent_at S st.marks j)
    pub passed : Closed S tbl st.tree j (absent_at S st.marks j)
    pub out-kept : st.out ≡ o₀

  -- "The two symbols of twins differ, and both have the committed hash": of symbol x of layer j, in the first 512 bytes of the output buffer
  pub record TwinsEnd (o₀ : List ℕ) (j x : ℕ) (st : St) : Type 0 where
    pub last : st.entered ≡ suc j
    pub equation : ℕ
    pub taken : Taken st.tree st.marks j equation x
    pub complete : count (absent_at S st.marks j) (equation_of tbl j equation) ≡ 0
    pub in_layer_lem : x < S.n j
    pub marked : absent_at S st.marks j x ≡ false
    pub room : 512 ≤ length o₀
    pub sized : (length (symbol_in st.out 0) ≡ 256) × (length (symbol_in st.out 1) ≡ 256)
    pub first-is : symbol_in st.out 0 ≡ sym_at S st.tree j x
    pub second_is : symbol_in st.out 1 ≡ xor_of (sym_at S st.tree j) (others x (equation_of tbl j equation))
    pub differ : symbol_in st.out 0 ≢ symbol_in st.out 1
    pub hash-first : H j x (symbol_in st.out 0) ≡ committed S root (sym_at S st.tree) j x
    pub hash-second : H j x (symbol_in st.out 1) ≡ committed S root (sym_at S st.tree) j x
    pub out-rest : drop 512 st.out ≡ drop 512 o₀

  abbrev pub EndOk : List ℕ → List ℕ → List ℕ → St → End → Type 0
  EndOk t₀ m₀ o₀ st working = ⊥
  EndOk t₀ m₀ o₀ st whole = WholeEnd t₀ m₀ o₀ st
  EndOk t₀ m₀ o₀ st (fault j e x n) = FaultEnd o₀ j e x n st
  EndOk t₀ m₀ o₀ st (unavailable j) = UnavailableEnd t₀ m₀ o₀ j st
  EndOk t₀ m₀ o₀ st (twins j x) = TwinsEnd o₀ j x st

  pub record Ended (t₀ m₀ o₀ : List ℕ) (st : St) : Type 0 where
    pub always : Always t₀ m₀ st.tree st.marks st.stored st.entered
    pub peels : PeeledAll t₀ m₀ st
    pub ends : EndOk t₀ m₀ o₀ st st.end

  -- the four ends, for every lent tree and marks and every output buffer that is roomy; the root has 32 bytes for each symbol of layer 0
  abbrev pub FourEnds : Type 0
  FourEnds =
      (t₀ m₀ o₀ : List ℕ) → Sized S tbl t₀ m₀ → Roomy tbl o₀ → length root ≡ 32 * S.n 0
      → Ended t₀ m₀ o₀ (repair S H root tbl t₀ m₀ o₀)
