use Rattle.eos_reading.proofs.SealSteps.{Read}
use Rattle.eos_reading.proofs.seals.read_seals.Given as goal

abbrev pub invariant-loop-head : goal.invariant-loop-head
invariant-loop-head l = Read l.bytes l.heads l.fn.seals.items l.seals.items l.head-index l.at
