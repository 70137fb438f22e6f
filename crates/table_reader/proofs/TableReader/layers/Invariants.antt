-- `layers` meets its contract. The loop keeps: the reader's answer from here is its answer from layer 0.
use Rattle.std.proofs.Common.{◌≡◌, drop}
use Rattle.parity_table.specs.Reader.{layered, run}
use Rattle.table_reader.proofs.TableReader.layers.Given as goal

abbrev pub invariant-loop-j : goal.invariant-loop-j
invariant-loop-j l =
    let was = l.initial.self in
    let ws = was.words.now in record {
      same : l.self.words ≡ was.words;
      reads : run l.depth was.at (layered l.depth 0) (drop was.at ws) ≡ run l.depth l.self.at (layered l.depth l.j) (drop l.self.at ws);
    }
