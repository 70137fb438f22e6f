-- What the repairer asks of the buffers that it is lent. Definitions only.
use Rattle.std.specs.Prelude.{◌≡◌, List, ℕ, ◌+◌, ◌-◌, ◌*◌, ◌≤◌, length}
use Rattle.parity_table.specs.Shape.{k_of}
use Rattle.model.specs.Shape.{tree, places}
use Rattle.repair.specs.declared.SearchLists.{SearchLists}

-- buffers of the lengths of depth d
pub record Given (d : ℕ) (root t m out : List ℕ) : Type 0 where
  pub root_full : length root ≡ 512
  pub tree-full : length t ≡ 256 * places tree d
  pub marks-full : length m ≡ places tree d
  pub out-full : length out ≡ 12 + 256 * (8 * d - 1)

-- lists for the search in a layer of k data symbols: its equations' used ones, absent members and order, its symbols' last slots, and the slots
pub record Lists (k : ℕ) (used absent order last next : List ℕ) : Type 0 where
  pub used-room : 3 * k ≤ length used
  pub absent-room : 3 * k ≤ length absent
  pub order_room : 6 * k ≤ length order
  pub last-room : 4 * k ≤ length last
  pub next-room : 24 * k ≤ length next

-- .. with no entries but those of layer j
pub record Own (j : ℕ) (used absent order last next : List ℕ) : Type 0 where
  pub used-full : length used ≡ 3 * k_of j
  pub absent-full : length absent ≡ 3 * k_of j
  pub order_full : length order ≡ 6 * k_of j
  pub last-full : length last ≡ 4 * k_of j
  pub next-room : 24 * k_of j ≤ length next

-- the same of the lists of a search
abbrev pub RoomFor : ℕ → SearchLists → Type 0
RoomFor k l = Lists k l.used.now l.absent.now l.order.now l.last.now l.next.now

abbrev pub OwnLists : ℕ → SearchLists → Type 0
OwnLists j l = Own j l.used.now l.absent.now l.order.now l.last.now l.next.now

-- the lists of the search are the same ones, and so as long as they were
pub record SameLists (l l' : SearchLists) : Type 0 where
  pub used : l'.used.ghost_name ≡ l.used.ghost_name
  pub absent : l'.absent.ghost_name ≡ l.absent.ghost_name
  pub order : l'.order.ghost_name ≡ l.order.ghost_name
  pub last : l'.last.ghost_name ≡ l.last.ghost_name
  pub next : l'.next.ghost_name ≡ l.next.ghost_name
  pub used-length : length l'.used.now ≡ length l.used.now
  pub absent-length : length l'.absent.now ≡ length l.absent.now
  pub order_length : length l'.order.now ≡ length l.order.now
  pub last-length : length l'.last.now ≡ length l.last.now
  pub next-length : length l'.next.now ≡ length l.next.now
