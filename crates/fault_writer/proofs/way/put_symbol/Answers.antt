-- `put_symbol` meets its contract: the symbol's 256 bytes copied.
use mathlib.Core.List.{List}
use mathlib.Core.Path.{◌∙◌, ap, sym}
use Prim.Native.Nat.{ℕ}
use Rattle.coded_tree.proofs.ParityLaws.{sym_at_there}
use Rattle.fault_writer.specs.Room.{splice}
use Rattle.model.proofs.Hung.{sym_at-hung}
use Rattle.fault_writer.proofs.way.put_symbol.Goals as goal

pub returns : goal.returns
returns c =
    let s = c.args in
    let p = c.first_place in
    λ S h.
    c.copy_at.ensures ∙ ap (splice s.out.now s.at) (c.symbol_at.ensures.symbol ∙ sym (sym_at_there s.tree.now s.l p.result p.ensures s.m))
    ∙ ap (λ (f : ℕ → List ℕ). splice s.out.now s.at (f s.m)) (sym (sym_at-hung S s.l h s.tree.now))
