-- `layers` meets its contract. The loop keeps: the reader's answer from here is its answer from layer 0.
use Rattle.std.proofs.Common.{ℕ, sym, ap, ◌∙◌, arith, drop}
use native.Mathlib.Numerals.{add-one}
use Rattle.parity_table.specs.Reader.{Next, layered, run}
use Rattle.table_reader.proofs.Steps.{layered-more, layered-over, handed_on}
use Rattle.table_reader.proofs.TableReader.layers.Goals as goal

pub returns-in_err-layer-clause-read : goal.returns-in_err-layer-clause-read
returns-in_err-layer-clause-read c =
    let d = c.args.depth in
    let ws = c.args.self.now.words.now in
    let l = c.loop-j in
    let layer = rw l.invariant.same at c.layer.ensures.read in
    l.invariant.reads
    ∙ ap (λ (s : Next). run d l.self.at s (drop l.self.at ws)) (layered-more d l.j (omega arith))
    ∙ layer d
    ∙ handed_on d _ _ ws _ _ c.layer.result c.from_residual.result c.in_err-layer.was c.from_residual.ensures.1

pub loop-j-preserved : goal.loop-j-preserved
loop-j-preserved c =
    let d = c.args.depth in
    let ws = c.args.self.now.words.now in
    let l = c.loop-j in
    let layer = rw l.invariant.same at c.in_ok-layer.ensures.read in record {
      same = c.layer.ensures.same ∙ l.invariant.same;
      reads =
          l.invariant.reads
          ∙ ap (λ (s : Next). run d l.self.at s (drop l.self.at ws)) (layered-more d l.j (omega arith))
          ∙ layer d
          ∙ ap (λ (n : ℕ). run d c.layer.new.self.at (layered d n) (drop c.layer.new.self.at ws)) (sym (add-one l.j));
    }

pub returns-clause-read : goal.returns-clause-read
returns-clause-read c =
    let d = c.args.depth in
    let ws = c.args.self.now.words.now in
    let l = c.loop-j in
    l.invariant.reads
    ∙ ap (λ (s : Next). run d l.self.at s (drop l.self.at ws)) (layered-over d l.j (omega arith))
