-- `members` meets its contract. The loop keeps: the reader's answer from here is its answer from the first member.
use Rattle.std.proofs.Common.{◌≡◌, ℕ, ◌+◌, ◌-◌, ◌≤◌, length, drop}
use Rattle.parity_table.specs.Shape.{k_of}
use Rattle.parity_table.specs.Reader.{Member, run}
use Rattle.table_reader.proofs.TableReader.members.Given as goal

abbrev pub invariant-loop-w : goal.invariant-loop-w
invariant-loop-w l =
    let was = l.initial.self in
    let ws = was.words.now in record {
      same : l.self.words ≡ was.words;
      few : l.count ≤ 7;
      reads : (d j e : ℕ) → k_of j + e ≡ l.last → run d was.at (Member j e 0 0) (drop was.at ws) ≡ run d l.self.at (Member j e l.count l.low) (drop l.self.at ws);
    }

abbrev pub decreases-loop-w : goal.decreases-loop-w
decreases-loop-w l = length l.self.words.now - l.self.at
