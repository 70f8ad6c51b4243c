use Rattle.std.proofs.Common.{◌≡◌, drop}
use Rattle.eos_kept.specs.Faults.{first_of}
use Rattle.eos_kept.proofs.logs.first_in.Given as goal

-- the first of what is left to look at is that of all
abbrev pub invariant-loop-fault : goal.invariant-loop-fault
invariant-loop-fault l = first_of (drop l.fault-index l.faults) ≡ first_of l.faults
