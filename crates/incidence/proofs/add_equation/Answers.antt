-- `add_equation` meets its contract. The loop keeps: the slots up to member i's are threaded.
use mathlib.Core.Path.{◌≡◌, ap, subst}
use mathlib.Core.List.{List}
use Prim.Native.Nat.{◌+◌, ◌*◌, ◌-◌, ℕ}
use native.Mathlib.Omega.{arith}
use lib.ListN.{get_or, length, length-set}
use Rattle.equation.proofs.TurnLaws.{members_fit, members-are}
use Rattle.incidence.specs.Incidence.{ThreadedTo}
use Rattle.incidence.proofs.FillLaws.{add_member, add_rest, member_small}
use Rattle.incidence.proofs.add_equation.Goals as goal

pub overflow_add-at : goal.overflow_add-at
overflow_add-at c =
    let k = c.requires.0.listed.stands c.args.e (omega arith) in
    omega arith

pub offset_bounds-starts-from : goal.offset_bounds-starts-from
offset_bounds-starts-from c =
    let k = c.requires.0.listed.stands c.args.e (omega arith) in
    omega arith

pub bounds-starts-from : goal.bounds-starts-from
bounds-starts-from c =
    let k = c.requires.0.listed.stands c.args.e (omega arith) in
    k.listed

pub count_members-size-requires : goal.count_members-size-requires
count_members-size-requires c =
    let k = c.requires.0.listed.stands c.args.e (omega arith) in
    k.inside

pub slice_bounds-members-end : goal.slice_bounds-members-end
slice_bounds-members-end c =
    let a = c.args in
    omega (arith, c.count_members-size.ensures, members_fit a.words.now a.starts.now (a.from + a.e) (c.requires.0.listed.stands a.e (omega arith)))

pub loop-i-init : goal.loop-i-init
loop-i-init c =
    let a = c.args in
    let z : 8 * a.e ≡ 8 * a.e + 0 = omega arith in
    let m = members-are a.words.now a.starts.now (a.from + a.e) (c.requires.0.listed.stands a.e (omega arith)) c.count_members-size.result c.count_members-size.ensures in
    let n = ap length m in
    record {
      threaded = subst (λ (q : ℕ). ThreadedTo a.words.now a.starts.now a.from q a.last.now a.next.now) z c.requires.1;
      listed = m;
      few = omega (arith, n, c.requires.0.narrow a.e (omega arith));
      symbols = λ q h.
          omega (arith, ap (λ (l : List ℕ). get_or l q 0) m, member_small a.words.now a.starts.now a.from a.e (length a.last.now) (length a.next.now) c.requires.0 q (omega arith));
    }

pub loop-i-preserved : goal.loop-i-preserved
loop-i-preserved c =
    let l = c.loop-i in
    let a = c.args in
    let k = l.invariant in
    let n = ap length k.listed in
    let y = k.symbols l.i (omega arith) in
    record {
      threaded = add_member a.words.now a.starts.now a.from a.e l.i l.last l.next k.threaded _ (omega arith) (omega arith)
          (ap (λ (l : List ℕ). get_or l c.loop-i.i 0) k.listed) (omega arith) (omega arith);
      listed = k.listed;
      few = k.few;
      symbols = λ q h. simp length-set (k.symbols q h);
    }

pub returns : goal.returns
returns c =
    let l = c.loop-i in
    let a = c.args in
    let n = ap length l.invariant.listed in
    add_rest a.words.now a.starts.now a.from (8 - l.i) a.e l.i l.last l.next (omega arith) (omega arith) l.invariant.threaded
