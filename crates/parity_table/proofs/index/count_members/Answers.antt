-- `count_members` meets its contract: the words from there on to the list's end are all the words from there on.
use Rattle.std.proofs.Common.{◌≡◌, ◌-◌, ◌∙◌, ap, List, ℕ, length, drop, take, arith}
use lib.Seq.{take_all}
use lib.ListN.{length-drop}
use Rattle.parity_table.specs.Parse.{members_of}
use Rattle.parity_table.proofs.Starts.{members-prefix}
use Rattle.parity_table.proofs.index.count_members.Goals as goal

pub returns : goal.returns
returns c =
    let ws = c.args.ws.now in
    let n = c.args.at in
    let same : take (length ws - n) (drop n ws) ≡ drop n ws = take_all (length ws - n) (drop n ws) (omega (arith, length-drop n ws)) in
    c.count_front.ensures ∙ members-prefix (take (length ws - n) (drop n ws)) ∙ ap (λ (x : List ℕ). length (members_of x)) same
