-- `put_proof` meets its contract: head, given members and path, one after the other.
use mathlib.Core.List.{List}
use mathlib.Core.Path.{◌∙◌, ap, sym}
use Prim.Native.Nat.{ℕ}
use native.Mathlib.Omega.{arith}
use lib.ListN.{length}
use Rattle.parity_table.specs.Parse.{over}
use Rattle.model.proofs.Hung.{proof-hung}
use Rattle.fault_writer.proofs.ProofLaws.{given-length, proof-length, proof_put}
use Rattle.fault_writer.proofs.WayLaws.{layers_fewer}
use Rattle.fault_writer.proofs.proof.put_proof.Goals as goal

pub put_given-p-requires : goal.put_given-p-requires
put_given-p-requires c =
    let n = given-length c.args.tree.now c.args.members.now c.args.j c.args.e c.args.x c.requires.0 in
    (c.requires.0, omega (arith, n, c.requires.3, c.put.auto.out))

pub put_path-requires : goal.put_path-requires
put_path-requires c =
    let n = given-length c.args.tree.now c.args.members.now c.args.j c.args.e c.args.x c.requires.0 in
    (layers_fewer c.args.j c.requires.0.symbols 0 c.args.tree.now (omega arith) c.requires.0.layers, omega (arith, n, c.requires.3, c.put_given-p.ensures.0, c.put_given-p.auto.out, c.put.auto.out))

pub returns : goal.returns
returns c =
    let a = c.args in
    let n = proof-length a.tree.now a.members.now a.j a.e a.x c.requires.0 in
    let m = given-length a.tree.now a.members.now a.j a.e a.x c.requires.0 in
    λ S h.
    let q = sym (proof-hung S a.j h a.tree.now a.e a.x a.members.now) in (
      omega (arith, n, m, ap length q, c.put_given-p.ensures.0),
      proof_put a.tree.now a.members.now a.j a.e a.x c.requires.0 a.out.now _ _ _ _ c.requires.3 c.put.auto.out c.put.ensures c.put_given-p.ensures.1 c.put_given-p.ensures.0 c.put_path.ensures
          ∙ ap (λ (p : List ℕ). over p a.out.now) q,
    )
