-- The check of a sample: 01, "Sample and fault proof". Definitions only.
use Rattle.std.specs.Prelude.{◌≡◌, Bool, List, ℕ, suc, ◌-◌, ◌*◌, ◌<◌}
use Rattle.model.specs.Shape.{Shape}
use Rattle.octets.specs.ByteLists.{same}
use Rattle.model.specs.Symbols.{symbol_in, committed}
use Rattle.model.specs.Coded.{Collide}
use Rattle.model.specs.Climb.{Climb, climb}
use Rattle.model.specs.Sampling.{sample_size, sample_layer, sample_number, data_no, parity_no}

-- the data symbol and the parity symbol of layer j in a sample
unfoldable pub sample_data : ℕ → List ℕ → ℕ → List ℕ
sample_data d s j = symbol_in s (2 * (d - 1 - j) - 1)

unfoldable pub sample_parity : ℕ → List ℕ → ℕ → List ℕ
sample_parity d s j = symbol_in s (2 * (d - 1 - j))

-- the hash that the sample, or for layer 0 the root, has for symbol m of layer j
unfoldable pub sample_has : Shape → List ℕ → ℕ → List ℕ → ℕ → ℕ → List ℕ
sample_has S root d s j m = committed S root (λ l i. sample_data d s l) j m

module _ (S : Shape) (H : ℕ → ℕ → List ℕ → List ℕ) (root : List ℕ) where
  unfoldable pub sample_fits : ℕ → ℕ → List ℕ → ℕ → Bool
  sample_fits d i s x = same (H (sample_layer d x) (sample_number S d i x) (symbol_in s x)) (sample_has S root d s (sample_layer d x) (sample_number S d i x))

  -- "Every hash in it is checked": accepted when it leads to the root, else the layer where it breaks, either symbol of a layer counting
  unfoldable pub sample_check : ℕ → ℕ → List ℕ → Climb
  sample_check d i s = climb (sample_fits d i s) (sample_layer d) 0 (sample_size d)

  -- Every hash leads to the root: "both symbols of a layer against the next data symbol up, the top ones against the root".
  pub record SampleLeads (d i : ℕ) (s : List ℕ) : Type 0 where
    pub base : H (d - 1) i (symbol_in s 0) ≡ sample_has S root d s (d - 1) i
    pub data_symbol : (j : ℕ) → suc j < d → H j (data_no S j i) (sample_data d s j) ≡ sample_has S root d s j (data_no S j i)
    pub parity_symbol : (j : ℕ) → suc j < d → H j (parity_no S j i) (sample_parity d s j) ≡ sample_has S root d s j (parity_no S j i)

-- the sample holds at each of its places the symbol of f
abbrev pub SampleTrue : Shape → (ℕ → ℕ → List ℕ) → ℕ → ℕ → List ℕ → Type 0
SampleTrue S f d i s = (x : ℕ) → x < sample_size d → symbol_in s x ≡ f (sample_layer d x) (sample_number S d i x)

-- a collision of sample and tree, at one layer and number
pub record SampleCollision (S : Shape) (H : ℕ → ℕ → List ℕ → List ℕ) (f : ℕ → ℕ → List ℕ) (d i : ℕ) (s : List ℕ) : Type 0 where
  pub index : ℕ
  pub inside : index < sample_size d
  pub collide : Collide H (sample_layer d index) (sample_number S d i index) (symbol_in s index) (f (sample_layer d index) (sample_number S d i index))
