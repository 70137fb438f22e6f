-- `equations` meets its contract. The loop keeps: the reader's answer from here is its answer from equation 0.
use Rattle.std.proofs.Common.{ℕ, sym, ap, ◌∙◌, arith, drop}
use native.Mathlib.Numerals.{add-one}
use Rattle.parity_table.specs.Reader.{Next, opened, run}
use Rattle.table_reader.proofs.Steps.{opened-more, opened-over, handed_on}
use Rattle.table_reader.proofs.TableReader.equations.Goals as goal

pub returns-in_err-equation-clause-read : goal.returns-in_err-equation-clause-read
returns-in_err-equation-clause-read c =
    let ws = c.args.self.now.words.now in
    let l = c.loop-e in
    let equation = rw l.invariant.same at c.equation.ensures.read in
    λ d j q.
    l.invariant.reads d j q
    ∙ ap (λ (s : Next). run d l.self.at s (drop l.self.at ws)) (opened-more d j l.e (omega (arith, q, c.loop-e-test)))
    ∙ equation d j q
    ∙ handed_on d _ _ ws _ _ c.equation.result c.from_residual.result c.in_err-equation.was c.from_residual.ensures.1

pub loop-e-preserved : goal.loop-e-preserved
loop-e-preserved c =
    let ws = c.args.self.now.words.now in
    let l = c.loop-e in
    let equation = rw l.invariant.same at c.in_ok-equation.ensures.read in record {
      same = c.equation.ensures.same ∙ l.invariant.same;
      reads = λ d j q.
          l.invariant.reads d j q
          ∙ ap (λ (s : Next). run d l.self.at s (drop l.self.at ws)) (opened-more d j l.e (omega (arith, q, c.loop-e-test)))
          ∙ equation d j q
          ∙ ap (λ (n : ℕ). run d c.equation.new.self.at (opened d j n) (drop c.equation.new.self.at ws)) (sym (add-one l.e));
    }

pub returns-clause-read : goal.returns-clause-read
returns-clause-read c =
    let ws = c.args.self.now.words.now in
    let l = c.loop-e in
    λ d j q.
    l.invariant.reads d j q
    ∙ ap (λ (s : Next). run d l.self.at s (drop l.self.at ws)) (opened-over d j l.e (omega (arith, q)))
