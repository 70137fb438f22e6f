-- `check_layer` meets its contract: the pass, then the search.
use Rattle.std.proofs.Common.{ℕ, List, refl, ap, sym, ◌∙◌, arith, drop}
use Rattle.coverage.specs.Counting.{tally}
use Rattle.coverage.proofs.Layers.{none_below, thin_some, thin_none, counted}
use Rattle.coverage.proofs.check_layer.Goals as goal

pub count_to_end-end-requires : goal.count_to_end-end-requires
count_to_end-end-requires c =
    let none = c.fill.ensures.after (λ y e. e) in
    (c.requires.0, omega (arith, c.fill.ensures.len), none_below _ _ c.args.at none, c.requires.2)

pub returns-in-Some : goal.returns-in-Some
returns-in-Some c =
    let a = c.args in
    let m = c.count_to_end-end in
    let all = m.ensures.1 ∙ ap (λ (s : List ℕ). tally s (drop a.at a.ws.now)) (c.fill.ensures.after (λ y e. e)) in
    let (inside, low) = thin_some m.new.seen c.in-Some.symbol (sym c.first_thin.ensures ∙ c.in-Some.is) in
    (refl, omega (arith, m.auto.seen, c.fill.ensures.len), (m.result, counted a.ws.now m.new.seen a.at _ m.result _ m.ensures.0 all low))

pub returns-in-None : goal.returns-in-None
returns-in-None c =
    let a = c.args in
    let m = c.count_to_end-end in
    let all = m.ensures.1 ∙ ap (λ (s : List ℕ). tally s (drop a.at a.ws.now)) (c.fill.ensures.after (λ y e. e)) in
    let low = thin_none m.new.seen (sym c.first_thin.ensures ∙ c.in-None.is) in
    counted a.ws.now m.new.seen a.at _ m.result _ m.ensures.0 all (sym (m.auto.seen ∙ c.fill.ensures.len) ∙ low)
