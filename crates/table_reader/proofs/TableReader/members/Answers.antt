-- `members` meets its contract. The loop keeps: the reader's answer from here is its answer from the first member.
use Rattle.std.proofs.Common.{ℕ, ◌+◌, sym, ap, ◌∙◌, arith, get_or, drop}
use Rattle.table_reader.proofs.Steps.{word-found, word-missing, member-more, member-wrong, member-short, member-last, member-next}
use Rattle.parity_table.specs.Reader.{Member, member_fits, run}
use Rattle.table_reader.proofs.TableReader.members.Goals as goal

pub returns-in_default-clause-read : goal.returns-in_default-clause-read
returns-in_default-clause-read c =
    let l = c.loop-w in
    let ws = c.args.self.now.words.now in
    let none = word-missing ws l.self.at cc in
    λ d j e q. l.invariant.reads d j e q ∙ member-short d l.self.at j e l.count l.low ws none

pub returns-then-not-member_fits-clause-read : goal.returns-then-not-member_fits-clause-read
returns-then-not-member_fits-clause-read c =
    let l = c.loop-w in
    let ws = c.args.self.now.words.now in
    let found = word-found ws l.self.at c.in-Some.w cc in
    let fits = ap (member_fits c.args.last l.count l.low) found.1 ∙ sym c.member_fits.ensures ∙ c.if-not-member_fits.true in
    λ d j e q.
    l.invariant.reads d j e q
    ∙ member-wrong d l.self.at j e l.count l.low ws found.0
    (ap (λ (z : ℕ). member_fits z l.count l.low (get_or ws l.self.at 0)) q ∙ fits)

pub overflow_add-self : goal.overflow_add-self
overflow_add-self c =
    let l = c.loop-w in
    omega (arith, word-found l.self.words.now l.self.at c.in-Some.w cc)

pub returns-then-x-last-clause-read : goal.returns-then-x-last-clause-read
returns-then-x-last-clause-read c =
    let l = c.loop-w in
    let ws = c.args.self.now.words.now in
    let found = word-found ws l.self.at c.in-Some.w cc in
    let fits = ap (member_fits c.args.last l.count l.low) found.1 ∙ sym c.member_fits.ensures ∙ c.if-not-member_fits.false in
    λ d j e q.
    l.invariant.reads d j e q
    ∙ member-last d l.self.at j e l.count l.low ws found.0
    (ap (λ (z : ℕ). member_fits z l.count l.low (get_or ws l.self.at 0)) q ∙ fits) (found.1 ∙ c.if-x-last.true ∙ sym q)

pub loop-w-smaller : goal.loop-w-smaller
loop-w-smaller c =
    let l = c.loop-w in
    omega (arith, word-found l.self.words.now l.self.at c.in-Some.w cc)

pub loop-w-preserved : goal.loop-w-preserved
loop-w-preserved c =
    let l = c.loop-w in
    let ws = c.args.self.now.words.now in
    let found = word-found ws l.self.at c.in-Some.w cc in
    let fits = ap (member_fits c.args.last l.count l.low) found.1 ∙ sym c.member_fits.ensures ∙ c.if-not-member_fits.false in
    let b = member-more c.args.last l.count l.low (get_or ws l.self.at 0) fits (λ z. c.if-x-last.false (sym found.1 ∙ z)) in record {
      same = l.invariant.same;
      few = omega (arith, b.1);
      reads = λ d j e q.
          l.invariant.reads d j e q
          ∙ member-next d l.self.at j e l.count l.low ws found.0
          (ap (λ (z : ℕ). member_fits z l.count l.low (get_or ws l.self.at 0)) q ∙ fits) (λ z. c.if-x-last.false (sym found.1 ∙ z ∙ q))
          ∙ ap (λ (x : ℕ). run d (l.self.at + 1) (Member j e (l.count + 1) (x + 1)) (drop (l.self.at + 1) ws)) found.1;
    }
