-- `hash` meets its contract, by the kind.
use mathlib.Core.Path.{sym, ap, ◌∙◌}
use mathlib.Core.List.{◌++◌}
use Rattle.octets.specs.BigEndian.{be}
use Rattle.sha256.specs.Hash.{sha256}
use Rattle.symbol_hash.specs.SymbolHash.{symbol_hash}
use Rattle.symbol_hash.proofs.hash.Goals as goal

pub returns-in-Plain : goal.returns-in-Plain
unfolding symbol_hash
returns-in-Plain c =
    let a = c.args in
    c.digest_of-digest.ensures ∙ sym (ap (λ k. symbol_hash k a.layer a.number a.symbol.now) c.in-Plain.is)

pub returns-in-Placed : goal.returns-in-Placed
unfolding symbol_hash
returns-in-Placed c =
    let a = c.args in
    c.digest_with_word.ensures ∙ ap (λ w. sha256 (be 4 w ++ a.symbol.now)) c.place_word.ensures
    ∙ sym (ap (λ k. symbol_hash k a.layer a.number a.symbol.now) c.in-Placed.is)
