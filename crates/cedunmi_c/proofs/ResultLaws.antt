-- What a call returns to C, from what it answers and leaves.
use mathlib.Core.Path.{◌≡◌, refl, ap, ap₂, ◌∙◌}
use mathlib.Core.List.{List}
use Prim.Native.Nat.{ℕ, ◌+◌, ◌*◌, ◌^◌}
use Rattle.std.specs.Prelude.{Ok, Err}
use Rattle.std.specs.Prelude.{Result as Answered}
use Rattle.sha256.specs.declared.WrongLength.{WrongLength}
use Rattle.symbol_hash.specs.declared.Kind.{Kind}
use Rattle.calls.specs.Stops.{Answer}
use Rattle.calls.specs.Stops.{Small}
use Rattle.calls.proofs.TestLaws.{small_plain}
use Rattle.volume_calls.specs.Writing.{TreeLeft}
use Rattle.volume_calls.specs.Writing as writing
use Rattle.volume_calls.specs.Reading.{BlockLeft}
use Rattle.volume_calls.specs.Reading as reading
use Rattle.sample_calls.specs.Taking.{SampleLeft}
use Rattle.sample_calls.specs.Taking as taking
use Rattle.fault_calls.specs.Repairing.{Result, RepairLeft}
use Rattle.fault_calls.specs.Repairing as repairing
use Rattle.cedunmi_c.specs.Result.{packed, hash_answer, call_result, repair_result, tree_in_c, block_in_c, sample_in_c, repair_in_c}

-- the hasher's answer has no value
pub small_hash : (a : Answered Unit WrongLength) → Small (hash_answer a)
small_hash (Ok tt) = small_plain refl
small_hash (Err e) = small_plain refl

pub packed-is : (n n' f f' s s' : ℕ) → n ≡ n' → f ≡ f' → s ≡ s' → packed n (f, s) ≡ packed n' (f', s')
packed-is n n' f f' s s' p q r =
    ap₂ (λ (x y : ℕ). x + y * 2 ^ 8 + s * 2 ^ 32) p q ∙ ap (λ (z : ℕ). n' + f' * 2 ^ 8 + z * 2 ^ 32) r

-- ---- a call that answers a and leaves these buffers, r being the number of a

module _ (r : ℕ) (a : Answer) (e : r ≡ call_result a) where
  pub tree-left : (t m root : List ℕ) (w : TreeLeft Answer) → writing.leaves a t m root ≡ w → writing.leaves r t m root ≡ tree_in_c w
  tree-left t m root w q = ap (λ (x : ℕ). writing.leaves x t m root) e ∙ ap tree_in_c q

  pub block-left : (b : List ℕ) (w : BlockLeft Answer) → reading.leaves a b ≡ w → reading.leaves r b ≡ block_in_c w
  block-left b w q = ap (λ (x : ℕ). reading.leaves x b) e ∙ ap block_in_c q

  pub sample-left : (s : List ℕ) (w : SampleLeft Answer) → taking.leaves a s ≡ w → taking.leaves r s ≡ sample_in_c w
  sample-left s w q = ap (λ (x : ℕ). taking.leaves x s) e ∙ ap sample_in_c q

pub repair-left : (kind : Kind) (r : ℕ) (a : Result) → r ≡ repair_result kind a → (t m o : List ℕ) (w : RepairLeft Result) → repairing.leaves a t m o ≡ w
    → repairing.leaves r t m o ≡ repair_in_c kind w
repair-left kind r a e t m o w q = ap (λ (x : ℕ). repairing.leaves x t m o) e ∙ ap (repair_in_c kind) q
