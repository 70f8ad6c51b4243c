use Rattle.std.proofs.Common.{◌≡◌, [], take, drop, fold}
use Rattle.eos_table.specs.steps.LogCandidates.{taken}
use Rattle.eos_table.specs.steps.Doubled.{AreHomes, AreIds, doubled_after}
use Rattle.eos_table.proofs.doubled.push_doubled.Given as goal

-- what is left to hold against those before
abbrev pub invariant-loop-mark : goal.invariant-loop-mark
invariant-loop-mark l = record {
  faults : fold taken l.faults (doubled_after (take l.mark-index l.marks) (drop l.mark-index l.marks)) ≡ fold taken l.fn.faults (doubled_after [] l.marks);
  homes : AreHomes l.homes (take l.mark-index l.marks);
  ids : AreIds l.producers (take l.mark-index l.marks);
}
