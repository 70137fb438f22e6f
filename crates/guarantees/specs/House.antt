-- A table from C, and the house table: 01, "Parity table". Statements only.
use Rattle.std.specs.Prelude.{◌≡◌, ◌⊎◌, ◌↔◌, List, ℕ, ◌+◌, ◌-◌, ◌*◌, ◌/◌, ◌%◌, ◌≤◌, ◌<◌, length, get_or}
use Rattle.octets.specs.BigEndian.{bytes_of}
use Rattle.parity_table.specs.Parse.{table_of}
use Rattle.table_bytes.specs.Bytes.{words_of}
use Rattle.house_table.specs.House.{house_table, house_words}
use Rattle.guarantees.specs.Layouts.{data_symbols, word_no}
use Rattle.guarantees.specs.Tables.{TableRules, listed, TableRight, IsMember}
use Rattle.guarantees.specs.Trees.{members}
use Rattle.guarantees.specs.Refusals.{DepthRight}

-- "big-endian bytes, four to a word": the words of the bytes b
pub record WordsOf (b : List ℕ) : Type 0 where
  pub count : length (words_of b) ≡ length b / 4
  pub word : (w : ℕ) → w < length b / 4 → get_or (words_of b) w 0 ≡ word_no b w

-- "House table: equation e has data members e mod k and (e+1+⌊e/k⌋) mod k, symbol k+e−1 if e > 0, and k+e, written ascending."
abbrev pub HouseMember : ℕ → ℕ → ℕ → Type 0
HouseMember k e x = (x ≡ e % k) ⊎ ((x ≡ (e + 1 + e / k) % k) ⊎ (((0 < e) × (x ≡ k + e - 1)) ⊎ (x ≡ k + e)))

pub record HouseTable : Type 0 where
  pub words_of_lem : (b : List ℕ) → WordsOf b
  -- of the words of a well-formed table: its equations are by the rules, and theirs are its words
  pub equations_of_lem : (d : ℕ) (ws : List ℕ) → DepthRight d → TableRight d ws → TableRules d (table_of ws) × (ws ≡ listed (table_of ws))
  -- the house table is by the rules, so that members are ascending; and these are its members
  pub by_rules : (d : ℕ) → TableRules d (house_table d)
  pub members-are : (d j e x : ℕ) → j < d → e < 3 * data_symbols j → IsMember x (members (house_table d) j e) ↔ HouseMember (data_symbols j) e x
  -- what the calls write, as words and as bytes
  pub words_are : (d : ℕ) → house_words d ≡ listed (house_table d)
  pub bytes-are : (d : ℕ) → d ≤ 9 → words_of (bytes_of (house_words d)) ≡ listed (house_table d)
