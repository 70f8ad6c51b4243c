use Rattle.std.proofs.Common.{take}
use Rattle.eos_table.specs.steps.Wanted.{wishes, Have}
use Rattle.eos_table.proofs.wanted.wanted_of.Given as goal

abbrev pub invariant-loop-decision : goal.invariant-loop-decision
invariant-loop-decision l = Have l.parts (wishes (take l.decision-index l.decisions)) l.lists.items
