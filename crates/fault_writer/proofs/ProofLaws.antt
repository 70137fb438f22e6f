-- A fault proof written part by part: head, given members, path.
use mathlib.Core.Bool.{true}
use mathlib.Core.List.{List, [], ◌++◌, ◌∷◌}
use mathlib.Core.Path.{◌∙◌, ◌≡◌, ap, ap₂, refl, sym}
use Prim.Native.Nat.{◌*◌, ◌+◌, ◌<◌, ◌≤◌, suc, ℕ}
use native.Mathlib.Nat.{suc-mul}
use native.Mathlib.Omega.{arith}
use lib.Dec.{ltb}
use lib.ListN.{drop, get_or, length, length-append}
use borrow.Author.Tests.{ltb-true}
use Rattle.fault_writer.proofs.Splices.{splice-more, splice-none, splice-over}
use Rattle.fault_writer.proofs.WayLaws.{layers_fewer, path_long, way_length}
use Rattle.fault_writer.specs.Room.{Layers, Members, splice}
use Rattle.heads.proofs.HeadLaws.{length-head}
use Rattle.heads.specs.Heads.{head}
use Rattle.model.proofs.Counts.{every-others}
use Rattle.model.proofs.Members.{every-below, others-end, others_skip, others-take}
use Rattle.model.specs.Fault.{given_bytes, path_bytes, proof_bytes, way_bytes}
use Rattle.model.specs.Shape.{tree}
use Rattle.model.specs.Symbols.{others, sym_at}
use Rattle.octets.proofs.Choice.{and_yes}
use Rattle.octets.specs.BigEndian.{be}
use Rattle.parity_table.specs.Members.{every}
use Rattle.parity_table.specs.Parse.{over}

-- ---- the given members

-- member i is in the tree
pub member-layers : (t ms : List ℕ) (j : ℕ) (k : Members j t ms) → (i : ℕ) → i < length ms → Layers j (suc (get_or ms i 0)) t
member-layers t ms j k i h = layers_fewer j k.symbols (suc (get_or ms i 0)) t (every-below k.symbols ms k.within i h) k.layers

module _ (t : List ℕ) (ms : List ℕ) (x j : ℕ) where
  -- what is left to write from member i on
  abbrev left : ℕ → List ℕ
  left i = given_bytes tree (sym_at tree t) j (others x (drop i ms))

  -- member i is next, at byte p
  pub record GivenAt (at : ℕ) (out₀ : List ℕ) (i p : ℕ) (out : List ℕ) : Type 0 where
    pub sized : length out ≡ length out₀
    pub spot : p + length (given_bytes tree (sym_at tree t) j (others x (drop i ms))) ≡ at + length (given_bytes tree (sym_at tree t) j (others x ms))
    pub rest : splice out p (given_bytes tree (sym_at tree t) j (others x (drop i ms))) ≡ splice out₀ at (given_bytes tree (sym_at tree t) j (others x ms))

  module _ (at : ℕ) (out₀ : List ℕ) where
    pub given_start : GivenAt at out₀ 0 at out₀
    given_start = record { sized = refl; spot = refl; rest = refl }

    module _ (room : at + length (left 0) ≤ length out₀) (i p : ℕ) (out : List ℕ) (g : GivenAt at out₀ i p out) (h : i < length ms) where
      pub given_skip : get_or ms i 0 ≡ x → GivenAt at out₀ (i + 1) p out
      given_skip e =
          let q : left i ≡ left (i + 1) = ap (given_bytes tree (sym_at tree t) j) (others_skip x ms i h e) in
          record { sized = g.sized; spot = ap (λ (l : List ℕ). p + length l) (sym q) ∙ g.spot; rest = ap (splice out p) (sym q) ∙ g.rest }

      module _ (ne : get_or ms i 0 ≡ x → ⊥) (k : Layers j (suc (get_or ms i 0)) t) where
        way : List ℕ
        way = way_bytes tree (sym_at tree t) j (get_or ms i 0)

        left-take : left i ≡ way ++ left (i + 1)
        unfolding given_bytes way
        left-take = ap (given_bytes tree (sym_at tree t) j) (others-take x ms i h ne)

        long : length way ≡ 256 * suc j
        unfolding way
        long = way_length t j (get_or ms i 0) k

        sum : length (left i) ≡ 256 * suc j + length (left (i + 1))
        sum = ap length left-take ∙ length-append way (left (i + 1)) ∙ ap (λ (n : ℕ). n + length (left (i + 1))) long

        pub given-room : p + 256 * suc j ≤ length out
        given-room = omega (arith, sum, g.spot, g.sized, room)

        pub given-turn : (out' : List ℕ) (p' : ℕ) → length out' ≡ length out → out' ≡ splice out p (way_bytes tree (sym_at tree t) j (get_or ms i 0)) → p' ≡ p + 256 * suc j → GivenAt at out₀ (i + 1) p' out'
        unfolding way
        given-turn out' p' lo e ep =
            let q : p' ≡ p + length way = ep ∙ ap (λ (n : ℕ). p + n) (sym long) in
            record {
              sized = lo ∙ g.sized;
              spot = omega (arith, sum, g.spot);
              rest =
                  ap₂ (λ (o : List ℕ) (n : ℕ). splice o n (left (i + 1))) e q
                  ∙ splice-more out p way (omega (arith, long, given-room)) (left (i + 1))
                  ∙ ap (splice out p) (sym left-take)
                  ∙ g.rest;
            }

    module _ (i p : ℕ) (out : List ℕ) (g : GivenAt at out₀ i p out) (h : length ms ≤ i) where
      none_left : left i ≡ []
      unfolding given_bytes
      none_left = ap (given_bytes tree (sym_at tree t) j) (others-end x ms i h)

      pub given-ends : p ≡ at + length (left 0)
      given-ends = omega (arith, ap length none_left, g.spot)

      pub given-written : out ≡ splice out₀ at (left 0)
      given-written = sym (splice-none out p) ∙ ap (splice out p) (sym none_left) ∙ g.rest

-- ---- the whole

module _ (t ms : List ℕ) (j e x : ℕ) (k : Members j t ms) where
  -- its given members, and the withheld member's path
  abbrev given : List ℕ
  given = given_bytes tree (sym_at tree t) j (others x ms)

  abbrev path : List ℕ
  path = path_bytes tree (sym_at tree t) j x

  proof-is : proof_bytes tree (sym_at tree t) j e x ms ≡ head 1 j e x ++ (given ++ path)
  unfolding proof_bytes
  proof-is = refl

  given_long : (ys : List ℕ) → every (λ y. ltb y k.symbols) ys ≡ true → length (given_bytes tree (sym_at tree t) j ys) ≡ 256 * (length ys * suc j)
  unfolding every given_bytes
  given_long [] a = omega arith
  given_long (y ∷ ys) a =
      let (p, q) = and_yes (ltb y k.symbols) (every (λ z. ltb z k.symbols) ys) a in
      omega (
        arith,
        suc-mul (length ys) (suc j),
        given_long ys q,
        way_length t j y (layers_fewer j k.symbols (suc y) t (omega (arith, ltb-true y k.symbols p)) k.layers),
        length-append (way_bytes tree (sym_at tree t) j y) (given_bytes tree (sym_at tree t) j ys),
      )

  pub given-length : length given ≡ 256 * (length (others x ms) * suc j)
  given-length = given_long (others x ms) (every-others (λ y. ltb y k.symbols) x ms k.within)

  pub proof-length : length (proof_bytes tree (sym_at tree t) j e x ms) ≡ 12 + 256 * (length (others x ms) * suc j + j)
  proof-length = ap length proof-is ∙ omega (arith, length-append (head 1 j e x) (given ++ path), length-head 1 j e x, length-append given path, given-length, path_long t j k.symbols k.layers j x (omega arith))

  pub proof_put : (out a b w : List ℕ) (p : ℕ) → 12 + 256 * (length (others x ms) * suc j + j) ≤ length out → length a ≡ length out → a ≡ over (head 1 j e x) out
      → b ≡ splice a 12 given → p ≡ 12 + length given → w ≡ splice b p path → w ≡ over (proof_bytes tree (sym_at tree t) j e x ms) out
  unfolding head be
  proof_put out a b w p room la ea eb ep ew =
      ew ∙ ap₂ (λ (o : List ℕ) (n : ℕ). splice o n path) eb ep ∙ splice-more a 12 given (omega (arith, given-length)) path
      ∙ ap (λ (o : List ℕ). splice o 12 (given ++ path)) (ea ∙ sym (splice-over (head 1 j e x) out))
      ∙ splice-more out 0 (head 1 j e x) (omega arith) (given ++ path)
      ∙ splice-over (head 1 j e x ++ (given ++ path)) out
      ∙ ap (λ (q : List ℕ). over q out) (sym proof-is)
