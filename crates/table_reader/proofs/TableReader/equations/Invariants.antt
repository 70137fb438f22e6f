-- `equations` meets its contract. The loop keeps: the reader's answer from here is its answer from equation 0.
use Rattle.std.proofs.Common.{◌≡◌, ℕ, drop}
use Rattle.parity_table.specs.Shape.{k_of}
use Rattle.parity_table.specs.Reader.{opened, run}
use Rattle.table_reader.proofs.TableReader.equations.Given as goal

abbrev pub invariant-loop-e : goal.invariant-loop-e
invariant-loop-e l =
    let was = l.initial.self in
    let ws = was.words.now in record {
      same : l.self.words ≡ was.words;
      reads : (d j : ℕ) → k_of j ≡ l.k → run d was.at (opened d j 0) (drop was.at ws) ≡ run d l.self.at (opened d j l.e) (drop l.self.at ws);
    }
