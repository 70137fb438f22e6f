-- `put_hashes` meets its contract. The loop keeps: what is left to do gives what all of it gives.
use mathlib.Core.Path.{◌≡◌, refl, ap, ◌∙◌}
use Prim.Native.Nat.{suc, ◌-◌, ◌*◌}
use native.Mathlib.Omega.{arith}
use native.Mathlib.Numerals.{add-one}
use borrow.Author.Rules.{rules}
use Rattle.coded_tree.proofs.HashLaws.{hashes-step, hashes-end}
use Rattle.model.specs.Shape.{places}
use Rattle.model.specs.Writer.{put_hashes}
use Rattle.model.proofs.Shapes.{tree_ok}
use Rattle.parity_table.specs.Shape.{n_of}
use Rattle.parity_table.proofs.Shape.{k_small}
use Rattle.symbol_hash.specs.SymbolHash.{symbol_hash}
use Rattle.model.specs.Shape.{tree as shape}
use Rattle.coded_tree.proofs.hashes.put_hashes.Goals as goal

pub overflow_mul-i-end : goal.overflow_mul-i-end
overflow_mul-i-end c =
    omega (arith, k_small c.args.j (omega arith), c.data_count-k.ensures)

pub loop-i-init : goal.loop-i-init
loop-i-init c = let e : 8 * c.data_count-k.result ≡ n_of (suc c.args.j) = omega (arith, tree_ok.batch c.args.j, c.data_count-k.ensures) in
    let z : 8 * c.data_count-k.result - 0 ≡ n_of (suc c.args.j) = omega arith in
    (omega arith, e, c.data_count-k.ensures, c.first_place-above.ensures, c.first_place-base.ensures ∙ ap (places shape) (add-one c.args.j), refl, ap (λ n. put_hashes shape (symbol_hash c.args.kind) c.args.j 0 n c.args.tree.now) z)

pub loop-i-preserved : goal.loop-i-preserved
loop-i-preserved c =
    (omega arith, c.loop-i.invariant.1, c.loop-i.invariant.2, c.loop-i.invariant.3, c.loop-i.invariant.4, search rules, hashes-step c.args.kind c.args.j c.loop-i.i _ c.loop-i.tree _ _ (omega arith) c.put_hash.ensures c.loop-i.invariant.6)

pub returns : goal.returns
returns c =
    hashes-end c.args.kind c.args.j c.loop-i.i _ c.loop-i.tree _
    (omega arith) c.loop-i.invariant.6
