-- `take` meets its contract. The loop keeps: the first x symbols are the sample's.
use Rattle.sampling.proofs.SamplerLaws.{Taken}
use Rattle.sampling.proofs.sampler.take.Given as goal

abbrev pub invariant-loop-x : goal.invariant-loop-x
invariant-loop-x l = Taken l.depth l.i l.tree l.sample l.x
