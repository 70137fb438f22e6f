-- What is known of a call that checks a sample, once tests 1, 2, 11 and 5 have passed.
use mathlib.Core.Path.{◌≡◌, refl, ap, ◌∙◌}
use mathlib.Core.Bool.{Bool, true, ◌&&◌}
use mathlib.Core.List.{List}
use Prim.Native.Nat.{ℕ, ◌-◌, ◌*◌, ◌<◌}
use native.Mathlib.Omega.{arith}
use lib.ListN.{length}
use borrow.Author.Tests.{eqb-true}
use Rattle.std.specs.Prelude.{Result, Ok, Err, MatchResult}
use Rattle.std.specs.Result.{IsErrAnd}
use Rattle.std.proofs.lemmas.Result.{err_from_is_err_and}
use Rattle.octets.proofs.Choice.{and_yes}
use Rattle.parity_table.specs.Shape.{depth_fits, n_of}
use Rattle.symbol_hash.specs.SymbolHash.{symbol_hash}
use Rattle.symbol_hash.specs.declared.Kind.{Kind}
use Rattle.symbol_hash.specs.declared.Broken.{Broken}
use Rattle.symbol_hash.specs.Ways.{climb_of}
use Rattle.model.specs.Shape.{tree}
use Rattle.model.specs.Climb.{Climb, leads, breaks}
use Rattle.model.specs.Sampling.{sample_size, sample_layer}
use Rattle.model.specs.SampleCheck.{sample_check}
use Rattle.model.proofs.Samples.{sample-breaks}
use Rattle.sampling.specs.Lent.{BaseSymbol}
use Rattle.calls.specs.declared.Stop.{Stop}
use Rattle.calls.specs.declared.Stop.TheVariants.{Hash}
use Rattle.calls.specs.Stops.{Answer, Done, Stopped, Small}
use Rattle.root_record.specs.Records.{kind_in, root_in, head_right}
use Rattle.calls.specs.Lengths.{record_sized, sample_sized}
use Rattle.calls.specs.Tests.{◌then◌, headed, test_number}
use Rattle.calls.proofs.RecordLaws.{Headed, headed_by, headed-sized, by_head, small_headed}
use Rattle.calls.proofs.TestLaws.{number-below, then_done, number_passed, small_plain, small_then, small_number}
use Rattle.sample_calls.specs.Checking.{check_sized, check_tested, led, sample_checked}

pub sizes : (d r s : ℕ) → check_sized d r s ≡ true → (r ≡ 556) × (s ≡ 256 * sample_size d)
sizes d r s e = let (v, w) = and_yes (record_sized r) (sample_sized d s) e in (eqb-true r 556 v, eqb-true s (256 * sample_size d) w)

pub passed : (d i : ℕ) (r : List ℕ) (s : ℕ) → check_tested d i r s ≡ Done → Headed d (check_sized d (length r) s) r × BaseSymbol d i
passed d i r s e =
    let sized = check_sized d (length r) s in
    let (o, n) = then_done (headed d sized r) (test_number d i) e in
    let k = headed_by d sized r o in
    (k, (k.opened-is.some, k.opened-is.shallow, number_passed d i n))

-- what tests 1, 2 and 11 come to, where the test of lengths looks at the depth too
pub by_headed : (d i : ℕ) (r : List ℕ) (n : ℕ) (s : Bool) → s ≡ (depth_fits d && check_sized d (length r) n) → (a : Answer) → a ≡ headed d s r
    → (a then test_number d i) ≡ check_tested d i r n
by_headed d i r n s e a h =
    ap (λ (x : Answer). x then test_number d i) (h ∙ ap (λ (x : Bool). headed d x r) e ∙ headed-sized d (check_sized d (length r) n) r)

-- test 7, P being what is known of a stop that is made of a way that breaks
pub by_way : {P : Broken → Stop → Type 0} (w : Result Unit Broken) (a : Answer) → MatchResult w (λ x. a ≡ Ok x) (λ b. IsErrAnd a (P b))
    → ((b : Broken) (s : Stop) → P b s → s ≡ Hash b.layer 0) → a ≡ led (climb_of w)
by_way (Ok _) a h f = h
by_way (Err b) a h f = let p = err_from_is_err_and a h in p.1 ∙ ap (λ (s : Stop). Stopped s) (f b p.0 p.2)

-- what the check of the hashes finds decides, once these have passed
pub by_hashes : (d i : ℕ) (r s : List ℕ) (a : Answer) → a ≡ check_tested d i r (length s)
    → (a then led (sample_check tree (symbol_hash (kind_in r)) (root_in r) d i s)) ≡ sample_checked d i r s
unfolding sample_checked
by_hashes d i r s a e = ap (λ (x : Answer). x then led (sample_check tree (symbol_hash (kind_in r)) (root_in r) d i s)) e

-- the hashes decide, where tests 1, 2, 11 and 5 pass
pub at_end_lem : (d i : ℕ) (r s : List ℕ) → depth_fits d ≡ true → check_sized d (length r) (length s) ≡ true → head_right d r ≡ true → i < n_of (d - 1)
    → led (sample_check tree (symbol_hash (kind_in r)) (root_in r) d i s) ≡ sample_checked d i r s
unfolding sample_checked
at_end_lem d i r s f l x h =
    let found : Answer = led (sample_check tree (symbol_hash (kind_in r)) (root_in r) d i s) in
    ap (λ (a : Answer). a then found) (number-below d i h)
    ∙ ap (λ (a : Answer). (a then test_number d i) then found) (by_head d (check_sized d (length r) (length s)) r f l x)

-- ---- its value is small

small_led : (kind : Kind) (d i : ℕ) (root s : List ℕ) → BaseSymbol d i → (c : Climb) → sample_check tree (symbol_hash kind) root d i s ≡ c → Small (led c)
unfolding sample_layer
small_led kind d i root s b leads e = small_plain refl
small_led kind d i root s b (breaks l) e =
    record { first = omega (arith, b.0, b.1, (sample-breaks tree (symbol_hash kind) root d i b.0 s l e).at_layer); second = omega arith }

pub small : (d i : ℕ) (r s : List ℕ) → Small (sample_checked d i r s)
unfolding sample_checked
small d i r s =
    small_then (check_tested d i r (length s)) (led (sample_check tree (symbol_hash (kind_in r)) (root_in r) d i s))
    (small_then (headed d (check_sized d (length r) (length s)) r) (test_number d i) (small_headed d _ r) (λ e. small_number d i))
    (λ e. small_led (kind_in r) d i (root_in r) s (passed d i r (length s) e).1 (sample_check tree (symbol_hash (kind_in r)) (root_in r) d i s) refl)
