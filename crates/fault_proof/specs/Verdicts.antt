-- The checker's answers as the model has them. Definitions only.
use Rattle.std.specs.Prelude.{Result, Ok, Err}
use Rattle.model.specs.Climb.{Ways, all_lead, break_at}
use Rattle.model.specs.Fault.{Verdict, accepted, wrong_head, wrong_length, broken, no_fault}
use Rattle.fault_proof.specs.declared.Break.{Break}
use Rattle.fault_proof.specs.declared.Refusal.{Refusal}
use Rattle.fault_proof.specs.declared.Refusal.TheVariants.{WrongHead, WrongLength, Broken, NoFault}

abbrev pub ways_of : Result Unit Break → Ways
ways_of (Ok _) = all_lead
ways_of (Err b) = break_at b.layer b.position

abbrev pub verdict_of : Result Unit Refusal → Verdict
verdict_of (Ok _) = accepted
verdict_of (Err WrongHead) = wrong_head
verdict_of (Err WrongLength) = wrong_length
verdict_of (Err (Broken l p)) = broken l p
verdict_of (Err NoFault) = no_fault
